-- What the type of what was heard says of its arrays: their lengths, and that each sample fits 16 bits.
-- Assumes nothing.
use mathlib.Core.Path.{◌≡◌}
use mathlib.Core.List.{List, [], ◌∷◌}
use Prim.Native.Nat.{ℕ, zero, suc}
use borrow.Author.Rules.{length_unmapped}
use lib.Dec.{lit<}
use lib.IntN.{ℤ}
use lib.ListN.{length}
use mir.Syntax.{w16}
use mir.Val.{Val, SFits}
use denote.Array.{each}
use denote.Laws.{Is}
use denote.Shadow.{shadow}
use denote.Signed.{SInt}
use Rattle.ages.specs.Ages.{Samples}
use Rattle.rules.specs.Facts.{value_at}
use Rattle.record.specs.declared.Heard.{Heard}
use Rattle.record.specs.declared.Last.{Last}
use Rattle.record.specs.Parts.{Stores}
use Rattle.record.specs.contracts.Heard.{the_row}
use Rattle.record.specs.contracts.Last as last

each_fits : (xs : List ℤ) (us : List Val) (i : ℕ) → shadow (each ℤ (SInt w16).own_val xs us) → SFits w16 (value_at xs i)
each_fits [] us i p = record { sfits = lit< tt }
each_fits (x ∷ xs) [] i p = absurd p
each_fits (x ∷ xs) (u ∷ us) zero p = record { sfits = p.0.1 }
each_fits (x ∷ xs) (u ∷ us) (suc i) p = each_fits xs us i p.1

pub field-samples : (xs : List ℤ) (us : List Val) → shadow (each ℤ (SInt w16).own_val xs us) → Samples xs
field-samples xs us p = record { each = λ i. each_fits xs us i p }

pub stores : (h : Heard) (vs : List Val) → Is the_row h vs → Stores h
stores h vs p =
    record {
      store = search length_unmapped;
      eighths = search length_unmapped;
      energies = search length_unmapped;
      correlations = search length_unmapped;
      store_fits = search field-samples;
      eighths_fit = search field-samples;
    }

-- and what the type of the last block says of its output
pub out-long : (l : Last) (vs : List Val) → Is last.the_row l vs → length l.out ≡ 512
out-long l vs p = search length_unmapped
