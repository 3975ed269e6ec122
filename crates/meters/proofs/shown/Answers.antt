-- `meters::shown` meets its contract: by the mode and the period, and each figure by the law of its own function.
use mathlib.Core.Path.{◌≡◌, ap, ◌∙◌}
use Prim.Native.Nat.{ℕ}
use native.Mathlib.Omega.{arith}
use borrow.Author.Tests.{eq-eqb, ne_eqb}
use Rattle.rules.specs.Rules.{wanted_period}
use Rattle.rules.proofs.Notes.{wanted_period_upto}
use Rattle.pitch.specs.declared.Pitch.{Pitch as KeptPitch}
use Rattle.meters.specs.declared.Meter.{Meter}
use Rattle.meters.specs.Meters.{ratio, Exactly, figures_of, shown_of, searching, locking, pitched}
use Rattle.meters.proofs.shown.Goals as goal

-- what is shown, by the mode and the period
module _ (hertz : ℕ) (v : KeptPitch) where
  when-searching : (v.tracking ≡ 1 → ⊥) → Meter.Searching ≡ shown_of hertz v
  unfolding shown_of
  when-searching e = rw (ne_eqb _ _ e)

  when-locking : v.tracking ≡ 1 → v.tone.period ≡ 0 → Meter.Locking (ratio v.tracker.last 1) ≡ shown_of hertz v
  unfolding shown_of
  when-locking e p = rw (eq-eqb _ _ e, eq-eqb _ _ p)

  when-pitched : v.tracking ≡ 1 → (v.tone.period ≡ 0 → ⊥) → Meter.Pitched (figures_of hertz v) ≡ shown_of hertz v
  unfolding shown_of
  when-pitched e p = rw (eq-eqb _ _ e, ne_eqb _ _ p)

pub returns-then-v-ne1 : goal.returns-then-v-ne1
returns-then-v-ne1 c = (when-searching _ _ c.if-v-ne1.true, searching)

pub returns-then-v-eq0 : goal.returns-then-v-eq0
returns-then-v-eq0 c =
    let f = c.lag_figure.ensures in
    let on = c.if-v-ne1.false in
    (ap Meter.Locking f.is ∙ when-locking _ _ on c.if-v-eq0.true, locking f.exact)

pub figure-requires-else-v-eq0 : goal.figure-requires-else-v-eq0
figure-requires-else-v-eq0 c = rw c.wanted_period.ensures (omega (arith, wanted_period_upto c.requires.0 c.args.v.tone.note))

pub returns-else-v-eq0 : goal.returns-else-v-eq0
returns-else-v-eq0 c =
    let a = c.args in
    let v = a.v in
    let p = c.figure.ensures in
    let w : Exactly (wanted_period a.hertz v.tone.note) 256 c.figure-else-v-eq0.result = rw c.wanted_period.ensures at c.figure-else-v-eq0.ensures in
    let r = c.fine_figure.ensures in
    ((cc (p.is, w.is, r.is)) ∙ when-pitched a.hertz v c.if-v-ne1.false c.if-v-eq0.false, pitched p.exact w.exact r.exact)
