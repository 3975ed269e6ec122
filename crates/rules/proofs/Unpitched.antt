-- Without a period there is no wanted note, the rate is one and nothing is kept: a sample that takes the period away leaves no tone, and one that finds a period leaves more than 0.
-- So a position that was level with the input stays level, and the sample of four samples ago is read.
use Rattle.std.specs.Prelude.{◌≡◌, refl, ℕ, suc, ◌+◌, ◌-◌, ℤ, pos, ◌-ℤ◌}
use Rattle.std.proofs.Common.{ap, ◌∙◌, arith}
use Rattle.std.proofs.Math.Option.{Option, none, some}
use Rattle.whole.specs.Tests.{cond_case}
use Rattle.rules.specs.declared.InForce.{InForce}
use Rattle.rules.specs.declared.Tone.{Tone}
use Rattle.rules.specs.Rules.{Sound, heard, fresh_rate, Mode, searching, tracking, Pitch, no_tone, no_period, found, searched, tuned, best, period, moved, is_lost, tracked, eighth_due, step_due, listened_in, listened, input_at, Growth, growth, reading, Take, fresh_take, stepped}
use Rattle.rules.specs.Facts.{SixteenBits, LagsIn, ModeIn}
use Rattle.rules.proofs.Periods.{period_range}
use Rattle.rules.proofs.Position.{growth-keeps, reading-behind}
use Rattle.rules.proofs.Through.{at_the_sample}
use Rattle.rules.proofs.Sane.{found-lags, moved-lags}
use Rattle.rules.specs.Unpitched.{Clear, Level}

without_period_clear : (m : Mode) → ModeIn m → Clear (no_period m)
unfolding no_tone
without_period_clear m h = record { lags = h; tone = λ e. (refl, refl, refl) }

-- so at a take's begin
pub fresh-clear : Clear fresh_take.pitch
unfolding fresh_take
fresh-clear = without_period_clear searching tt

module _ (f : InForce) where
  searched-clear : (x y : Sound) {p : Pitch} → Clear p → (o : Option ℕ) → found f.settings x y ≡ o → Clear (searched p o)
  unfolding searched
  searched-clear x y h none e = h
  searched-clear x y h (some lag) e = without_period_clear (tracking (lag - 3) lag) (found-lags f.settings x y lag e)

  tracked-clear : (x : Sound) (t : Tone) {low last : ℕ} → LagsIn low last → Clear (tracked f x t low last)
  unfolding tracked tuned
  tracked-clear x t {low} {last} h =
      let at = best x low in
      cond_case (is_lost f.settings x (low + at) last) (no_period searching) (record { mode = tracking (moved low at) (low + at); tone = tuned f t (period x low at) }) Clear
      (λ e. without_period_clear searching tt)
      (λ e. record { lags = moved-lags x h; tone = λ z. absurd (omega (arith, (period_range x low h.from (omega (arith, h.upto))).0)) })

  listened_in_clear : (m : Mode) (n : ℕ) (x y : Sound) {p : Pitch} → ModeIn m → Clear p → Clear (listened_in m f n x y p)
  unfolding listened_in
  listened_in_clear searching n x y {p} l h =
      cond_case (eighth_due n) (searched p (found f.settings x y)) p Clear (λ e. searched-clear x y h (found f.settings x y) refl) (λ e. h)
  listened_in_clear (tracking low last) n x y {p} l h =
      cond_case (step_due n) (tracked f x p.tone low last) p Clear (λ e. tracked-clear x p.tone l) (λ e. h)

  pub stepped-clear : (t : Take) → Clear t.pitch → (x : ℤ) → Clear (stepped f t x).next.pitch
  unfolding stepped listened
  stepped-clear t h x = listened_in_clear t.pitch.mode _ _ _ h.lags h

pub fresh-level : Level fresh_take
unfolding fresh_take input_at
fresh-level = refl

-- at rate one it stays level
level-grows : (n rate p : ℕ) {at : ℤ} → rate ≡ fresh_rate → at ≡ input_at n -ℤ pos 0 → (growth (suc n) rate p at).position ≡ input_at (suc n) -ℤ pos 0
level-grows n rate p r is =
    let none : 0 + 65536 - rate ≡ 0 = omega arith in
    ap (λ (g : Growth). g.position) (growth-keeps n 0 rate p is (omega arith) (omega arith)) ∙ ap (λ (b : ℕ). input_at (suc n) -ℤ pos b) none

-- and there the sample of four samples ago is read
level-reads : (x : Sound) (n : ℕ) {at : ℤ} → SixteenBits (x 4) → at ≡ input_at n -ℤ pos 0 → reading x n at ≡ x 4
level-reads x n h is = reading-behind x n 0 is ∙ at_the_sample (x 5) (x 4) (x 3) (x 2) h

module _ (f : InForce) (t : Take) (h : Clear t.pitch) (level : Level t) (new : ℤ) (none : (stepped f t new).given.tone.period ≡ 0) where
  rate_is_one : (stepped f t new).given.tone.rate ≡ fresh_rate
  unfolding stepped
  rate_is_one = ((stepped-clear f t h new).tone none).1

  -- a sample without a period leaves the position level
  pub stepped-level : Level (stepped f t new).next
  unfolding stepped
  stepped-level = level-grows t.count _ _ rate_is_one level

  -- and gives the sample of four samples ago: three before the one that came before it
  pub stepped_late : SixteenBits (t.sound 3) → (stepped f t new).given.out ≡ t.sound 3
  unfolding stepped heard
  stepped_late b = level-reads (heard new t.sound) (suc t.count) b stepped-level
