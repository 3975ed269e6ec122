-- What the meter shows of a pitch, and that its figures are exact. Definitions only.
use Rattle.std.specs.Prelude.{◌≡◌, false, cond, ℕ, eqb, Float}
use Rattle.std.specs.Float.{binary32}
use Rattle.std.specs.Float.Ieee.{round}
use Rattle.std.specs.Float.Ieee.Exact.{HasValue}
use Rattle.rules.specs.Rules.{wanted_period}
use Rattle.pitch.specs.declared.Pitch.{Pitch as KeptPitch}
use Rattle.meters.specs.declared.Figures.{Figures}
use Rattle.meters.specs.declared.Meter.{Meter}

-- ---- definitions: figures

-- the f32 nearest to n / d
unfoldable pub ratio : ℕ → ℕ → Float
ratio n d = round binary32 false n d

-- r is that f32, and n / d itself: nothing was rounded
pub record Exactly (n d : ℕ) (r : Float) : Type 0 where
  pub is : r ≡ ratio n d
  pub exact : HasValue r false n d

-- ---- definitions: what is shown

-- period and wanted period in samples, and the rate, at hertz samples a second
abbrev pub figures_of : ℕ → KeptPitch → Figures
figures_of hertz v =
    record { period = ratio v.tone.period 256; wanted = ratio (wanted_period hertz v.tone.note) 256; rate = ratio v.tone.rate 65536 }

-- searching; or, while there is no period, locking with the found lag; or pitched
unfoldable pub shown_of : ℕ → KeptPitch → Meter
shown_of hertz v =
    cond (eqb v.tracking 1)
    (cond (eqb v.tone.period 0) (Meter.Locking (ratio v.tracker.last 1)) (Meter.Pitched (figures_of hertz v)))
    Meter.Searching

-- each figure shown of the pitch v equals its whole number, divided by 256 or 65536; the lag is whole
pub data Exact (hertz : ℕ) (v : KeptPitch) : Meter → Type 0 where
  searching : Exact hertz v Meter.Searching
  locking : {lag : Float} → HasValue lag false v.tracker.last 1 → Exact hertz v (Meter.Locking lag)
  pitched : {f : Figures} → HasValue f.period false v.tone.period 256 → HasValue f.wanted false (wanted_period hertz v.tone.note) 256 →
      HasValue f.rate false v.tone.rate 65536 → Exact hertz v (Meter.Pitched f)
