-- One sample in keyboard mode, with the key held that the sample's note is by scale, gives what it gives by scale: a tracking step takes the wanted note as it then stands, and nothing else asks for it.
use Rattle.std.specs.Prelude.{◌≡◌, Bool, leb, ℤ}
use Rattle.std.proofs.Math.Path.{refl, ap}
use Rattle.std.proofs.Common.{sym, ◌∙◌, arith, ne_eqb}
use Rattle.std.proofs.Math.Bool.{cond}
use Rattle.std.proofs.Math.Option.{Option, none, some}
use Prim.Native.Nat.{ℕ, suc, ◌+◌, ◌-◌, ◌*◌, ◌<◌}
use Rattle.whole.specs.Tests.{by}
use Rattle.rules.specs.declared.Settings.{Settings}
use Rattle.rules.specs.declared.InForce.{InForce}
use Rattle.rules.specs.declared.Tone.{Tone}
use Rattle.rules.specs.Rules.{Sound, heard, passes, is_low, least_from, low_above, choice, found_by, found, is_lost, best, period, moved, wanted_note, goal_of, goal, smooth_rate, smooth_kept, tuned, tracked, Mode, searching, tracking, Pitch, searched, eighth_due, step_due, listened_in, listened, growth, reading, eighths_after, Take, Step, stepped}
use Rattle.rules.specs.Facts.{LagsIn, ModeIn}
use Rattle.rules.proofs.Periods.{period_range}
use Rattle.rules.specs.Sane.{Sane}
use Rattle.lists.specs.Lists.{sung_note}
use Rattle.scores.specs.Scores.{by_keys}

-- ---- what the mode does not change

module _ (s : Settings) (x y : Sound) where
  lows : is_low (by_keys s) y ≡ is_low s y
  unfolding is_low passes
  lows = refl

  above_same : (n : ℕ) → low_above (by_keys s) y n ≡ low_above s y n
  unfolding low_above
  above_same n = ap (λ (test : ℕ → Bool). least_from test (suc n) (109 - n)) lows

  found_by_same : (o : Option ℕ) → found_by (by_keys s) x y o ≡ found_by s x y o
  unfolding found_by
  found_by_same none = refl
  found_by_same (some L1) = ap (λ (o : Option ℕ). cond (leb 55 L1) (some (8 * L1)) (choice x L1 o)) (above_same L1)

  found-same : found (by_keys s) x y ≡ found s x y
  unfolding found
  found-same = ap (found_by (by_keys s) x y) (above_same 2) ∙ found_by_same (low_above s y 2)

  lost_same : (lag last : ℕ) → is_lost (by_keys s) x lag last ≡ is_lost s x lag last
  unfolding is_lost passes
  lost_same lag last = refl

-- ---- with the key that is the note

pub sung-is : (t : Tone) → 0 < t.period → sung_note t ≡ t.note
unfolding sung_note
sung-is t l = rw (ne_eqb t.period 0 (λ e. omega arith))

module _ (s : Settings) (hertz key none-held : ℕ) where
  -- what is in force by scale, and by keys
  abbrev pub by_scale : InForce
  by_scale = record { settings = s; key = none-held; hertz = hertz }

  abbrev pub by_key : InForce
  by_key = record { settings = by_keys s; key = key; hertz = hertz }

  -- a tone toward a note
  abbrev toward : Tone → ℕ → ℕ → Tone
  toward t p n =
      let g = goal_of hertz p n in
      record { period = p; note = g.note; rate = smooth_rate s.decay t.rate t.kept g.raw; kept = smooth_kept s.decay t.rate t.kept g.raw }

  by_key_is : (t : Tone) (p : ℕ) → tuned by_key t p ≡ toward t p key
  unfolding tuned goal wanted_note
  by_key_is t p = refl

  by_scale_is : (t : Tone) (p : ℕ) → tuned by_scale t p ≡ toward t p (wanted_note by_scale p)
  unfolding tuned goal
  by_scale_is t p = refl

  note-is : (t : Tone) (p : ℕ) → (tuned by_scale t p).note ≡ wanted_note by_scale p
  unfolding tuned goal goal_of
  note-is t p = refl

  positive : (t : Tone) (p : ℕ) → 0 < p → 0 < (tuned by_scale t p).period
  unfolding tuned
  positive t p l = l

  tuned-same : (t : Tone) (p : ℕ) → 0 < p → key ≡ sung_note (tuned by_scale t p) → tuned by_key t p ≡ tuned by_scale t p
  tuned-same t p l e =
      by_key_is t p
      ∙ ap (toward t p) (e ∙ sung-is (tuned by_scale t p) (positive t p l) ∙ note-is t p)
      ∙ sym (by_scale_is t p)

  tracked-same : (x : Sound) (t : Tone) (low last : ℕ) → LagsIn low last → key ≡ sung_note (tracked by_scale x t low last).tone → tracked by_key x t low last ≡ tracked by_scale x t low last
  unfolding tracked
  tracked-same x t low last h e =
      let at = best x low in
      let p = period x low at in
      by (is_lost s x (low + at) last)
      (λ y. rw (lost_same s x x (low + at) last, y))
      (λ y.
      rw (lost_same s x x (low + at) last, y)
      (ap (λ (v : Tone). record { mode = tracking (moved low at) (low + at); tone = v })
      (tuned-same t p (omega (arith, (period_range x low h.from (omega (arith, h.upto))).0)) (rw y at e))))

  listened-same : (m : Mode) (n : ℕ) (x y : Sound) (p : Pitch) → ModeIn m → key ≡ sung_note (listened_in m by_scale n x y p).tone → listened_in m by_key n x y p ≡ listened_in m by_scale n x y p
  unfolding listened_in
  listened-same searching n x y p h e = ap (λ (o : Option ℕ). cond (eighth_due n) (searched p o) p) (found-same s x y)
  listened-same (tracking low last) n x y p h e =
      by (step_due n)
      (λ z. rw z (tracked-same x p.tone low last h (rw z at e)))
      (λ z. rw z)

  -- what a sample leaves and gives, once it was searched or tracked
  abbrev step_from : Take → ℤ → Pitch → Step
  step_from t new pitch =
      let n = suc t.count in
      let x = heard new t.sound in
      let y = eighths_after n x t.eighths in
      let g = growth n pitch.tone.rate pitch.tone.period t.position in
      record {
        next = record { count = n; sound = x; eighths = y; pitch = pitch; position = g.position };
        given = record { out = reading x n g.position; tone = pitch.tone; repeats = g.repeats; drops = g.drops };
      }

  pub stepped_same : (t : Take) (new : ℤ) → Sane t → key ≡ sung_note (stepped by_scale t new).given.tone → stepped by_key t new ≡ stepped by_scale t new
  unfolding stepped listened
  stepped_same t new h e =
      let n = suc t.count in
      let x = heard new t.sound in
      let y = eighths_after n x t.eighths in
      ap (step_from t new) (listened-same t.pitch.mode n x y t.pitch h.pitch.lags e)
