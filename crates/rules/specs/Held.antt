-- A held note reaches its goal: tracking steps toward one raw rate are smoothings of the tone's rate, with what is kept beside it,
-- each with the decay that is in force at it.
use Rattle.std.specs.Prelude.{List, [], ◌∷◌, ℕ}
use Rattle.rules.specs.declared.Tone.{Tone}
use Rattle.rules.specs.declared.Smoothed.{Smoothed}
use Rattle.rules.specs.Tuning.{TrackingStep}

-- ---- Tracking steps toward one raw rate

-- what is smoothed of a tone
abbrev pub smoothed_of : Tone → Smoothed
smoothed_of t = record { rate = t.rate; kept = t.kept }

-- the decays of tracking steps
unfoldable pub decays_of : List TrackingStep → List ℕ
decays_of [] = []
decays_of (k ∷ ks) = k.force.settings.decay ∷ decays_of ks
