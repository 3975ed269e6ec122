-- The k-th stretch of 512 samples of a recording. Definitions only.
use Rattle.std.specs.Prelude.{◌≡◌, List, ℕ, ◌-◌, ◌*◌, min, ℤ, length, take, drop}
use Rattle.rules.specs.Rules.{longest_block}
use Rattle.cutting.specs.declared.Stretch.{Stretch}

-- of a recording of n samples, the k-th stretch of 512, by its place and its length: the last may be shorter, and past the end it is empty
pub record Cut (n k : ℕ) (p : Stretch) : Type 0 where
  pub from : p.from ≡ min (longest_block * k) n
  pub count : p.count ≡ min longest_block (n - longest_block * k)
  pub part : (recording : List ℤ) → length recording ≡ n → take p.count (drop p.from recording) ≡ take longest_block (drop (longest_block * k) recording)
