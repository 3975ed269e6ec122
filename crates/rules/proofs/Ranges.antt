-- Which number settings are answered, setting by setting, and the range of each where that number is 0; and the same of a start.
use Rattle.std.specs.Prelude.{◌≡◌, Bool, true, false, ◌||◌, ℕ, leb, eqb}
use Rattle.std.proofs.Math.Path.{refl}
use Rattle.std.proofs.Common.{leb-true, le-leb, eqb-true, eq-eqb, ne_eqb}
use Rattle.std.proofs.lemmas.Bool.{eqb-false}
use Rattle.whole.specs.Tests.{by, and_left, and_right, yes_and_no}
use Rattle.rules.specs.declared.Settings.{Settings}
use Rattle.rules.specs.Rules.{scale_mode, keyboard_mode, within, refuse, settings_number, defaults, cd_rate, film_rate, is_rate, start_number}
use Rattle.rules.specs.Facts.{InRange, SampleRate, cd, film}
use Rattle.rules.specs.Ranges.{Ranges, Within}

module _ (from to x : ℕ) where
  pub is_within : Within from to x → within from to x ≡ true
  is_within h = rw (le-leb from x h.0, le-leb x to h.1)

  pub within-is : within from to x ≡ true → Within from to x
  within-is e = (leb-true from x (and_left (leb from x) (leb x to) e), leb-true x to (and_right (leb from x) (leb x to) e))

  pub not_within : (Within from to x → ⊥) → within from to x ≡ false
  not_within n = by (within from to x) (λ e. absurd (n (within-is e))) (λ e. e)

-- a test that refuses with a number: where the answer is 0 it was passed, and so were those after it
module _ (number : ℕ) (above : eqb number 0 ≡ false) where
  unrefused : (passed : Bool) {later : ℕ} → refuse number passed later ≡ 0 → (passed ≡ true) × (later ≡ 0)
  unrefused true e = (refl, e)
  unrefused false e = absurd (eqb-false number 0 above e)

-- a test that refuses with a number other than 9 is not answered 9 where those after it are not
module _ (number : ℕ) (other : eqb number 9 ≡ false) where
  not_nine : (passed : Bool) {later : ℕ} → (later ≡ 9 → ⊥) → refuse number passed later ≡ 9 → ⊥
  not_nine true n = n
  not_nine false n = eqb-false number 9 other

module _ (s : Settings) where
  pub ranges : InRange s → Ranges s
  unfolding settings_number
  ranges e =
      let scale = unrefused 8 refl _ e in
      let eps = unrefused 11 refl _ scale.1 in
      let decay = unrefused 12 refl _ eps.1 in
      let floor = unrefused 13 refl _ decay.1 in
      let channel = unrefused 14 refl _ floor.1 in
      let mode = unrefused 15 refl _ channel.1 in
      record {
        scale = within-is 1 4095 s.scale scale.0;
        eps = within-is 0 409 s.eps eps.0;
        decay = within-is 0 255 s.decay decay.0;
        floor = within-is 1 1000000 s.floor floor.0;
        channel = within-is 0 15 s.channel channel.0;
        mode = within-is scale_mode keyboard_mode s.mode mode.0;
      }

  -- settings are never answered 9, the number of a bad record
  pub settings_not_nine : settings_number s ≡ 9 → ⊥
  unfolding settings_number
  settings_not_nine =
      not_nine 8 refl (within 1 4095 s.scale)
      (not_nine 11 refl (within 0 409 s.eps)
      (not_nine 12 refl (within 0 255 s.decay)
      (not_nine 13 refl (within 1 1000000 s.floor)
      (not_nine 14 refl (within 0 15 s.channel)
      (not_nine 15 refl (within scale_mode keyboard_mode s.mode) (eqb-false 0 9 refl))))))

-- the defaults are in range
pub defaults_in_range : InRange defaults
unfolding settings_number defaults
defaults_in_range = refl

-- ---- a start

module _ {hertz : ℕ} where
  -- a sample rate, and its test
  rate-known : (a b : Bool) → eqb hertz cd_rate ≡ a → eqb hertz film_rate ≡ b → a || b ≡ true → SampleRate hertz
  rate-known true b e f h = cd (eqb-true hertz cd_rate e)
  rate-known false true e f h = film (eqb-true hertz film_rate f)
  rate-known false false e f h = absurd (yes_and_no h refl)

  pub not_cd : (hertz ≡ cd_rate → ⊥) → SampleRate hertz → hertz ≡ film_rate
  not_cd n (cd e) = absurd (n e)
  not_cd n (film e) = e

  pub known : SampleRate hertz → is_rate hertz ≡ true
  known (cd e) = rw (eq-eqb hertz cd_rate e)
  known (film e) = rw e

  pub unknown : (SampleRate hertz → ⊥) → is_rate hertz ≡ false
  unknown n = rw (ne_eqb hertz cd_rate (λ e. n (cd e)), ne_eqb hertz film_rate (λ e. n (film e)))

  -- a start that is not refused: the sample rate is one of the two, and the settings are in range
  pub unrefused-start : (s : Settings) → start_number hertz s ≡ 0 → SampleRate hertz × InRange s
  unfolding start_number
  unrefused-start s e =
      let rate = unrefused 16 refl (is_rate hertz) e in
      (rate-known _ _ refl refl rate.0, rate.1)

-- a start with the defaults at 44,100 is not refused
pub default_start : start_number cd_rate defaults ≡ 0
unfolding start_number
default_start = defaults_in_range
