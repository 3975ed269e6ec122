-- From what `voices::sing` promises to the rules: beside the tones that the lead told of a block, a voice gives what the rules say.
-- It reads in the store in which the block stands behind the kept samples, so that each sample's sound is the take's own.
use Rattle.std.specs.Prelude.{◌≡◌, ℤ, get_or}
use mathlib.Core.List.{List}
use Prim.Native.Nat.{ℕ, ◌<◌}
use Rattle.std.proofs.Math.ListN.{length, take}
use Rattle.rules.specs.declared.InForce.{InForce}
use Rattle.rules.specs.declared.Tone.{Tone}
use Rattle.rules.specs.Rules.{Take, stepped, after}
use Rattle.rules.specs.Facts.{value_at}
use Rattle.steps.specs.Running.{Tones}

-- the tone that the rules give for sample i of xs
abbrev pub tone_of : InForce → Take → List ℤ → ℕ → Tone
tone_of f t xs i = (stepped f (after f t (take i xs)) (value_at xs i)).given.tone

-- tones told of each sample
pub record ToldEach (f : InForce) (t : Take) (xs : List ℤ) (ts : Tones) : Type 0 where
  pub period : (i : ℕ) → i < length xs → get_or ts.periods i 0 ≡ (tone_of f t xs i).period
  pub note : (i : ℕ) → i < length xs → get_or ts.notes i 0 ≡ (tone_of f t xs i).note
  pub rate : (i : ℕ) → i < length xs → get_or ts.rates i 0 ≡ (tone_of f t xs i).rate
