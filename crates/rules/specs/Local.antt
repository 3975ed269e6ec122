-- One sample's step looks at the newest 1,764 samples and the newest 224 eighth-rate samples, and no further: takes that agree there step alike.
-- Tracking looks at lags up to 880, so at twice as many samples; finding at eighth-rate lags up to 110; the reading at ages up to 1,005.
use Rattle.std.specs.Prelude.{◌≡◌, ℤ}
use Prim.Native.Nat.{ℕ, ◌<◌}
use Rattle.rules.specs.declared.InForce.{InForce}
use Rattle.rules.specs.Rules.{Sound, Take, stepped}

-- how far a step looks: so many of the newest samples, and of the newest at eighth rate
abbrev pub reach : ℕ
reach = 1764

abbrev pub reach_eighths : ℕ
reach_eighths = 224

-- the newest n samples of two sounds are the same
abbrev pub SameNewest : ℕ → Sound → Sound → Type 0
SameNewest n x y = (k : ℕ) → k < n → x k ≡ y k

-- two takes are the same but for older samples
pub record Agree (t u : Take) : Type 0 where
  pub count : t.count ≡ u.count
  pub pitch : t.pitch ≡ u.pitch
  pub position : t.position ≡ u.position
  pub sound : SameNewest reach t.sound u.sound
  pub eighths : SameNewest reach_eighths t.eighths u.eighths

-- takes step alike: what they leave agrees, and what they give is the same
abbrev pub StepAlike : InForce → ℤ → Take → Take → Type 0
StepAlike f new t u = Agree (stepped f t new).next (stepped f u new).next × ((stepped f t new).given ≡ (stepped f u new).given)
