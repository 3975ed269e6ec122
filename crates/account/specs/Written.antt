-- What the outputs hold after a block and after a night, added to what was written before (`onward`).
-- A block writes what is then kept of lead and chosen voices, each in 512 places of its own; a night writes block behind block.
use Rattle.std.specs.Prelude.{length}
use mathlib.Core.List.{List}
use Rattle.std.proofs.Math.IntN.{ℤ}
use Rattle.rules.specs.Rules.{gives, samples_out}
use Rattle.tuner.specs.declared.Tuner.{Tuner}
use Rattle.tuner.specs.Tuners.{take_of, force_of, kept_out}

-- lead and chosen voices keep what they gave
abbrev pub lead_out : Tuner → List ℤ → List ℤ
lead_out t xs = kept_out (length xs) (samples_out (gives (force_of t) (take_of t) xs))
