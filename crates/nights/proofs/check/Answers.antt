-- 9, then 3, then 4.
use Rattle.std.proofs.Common.{inl, inr, ℕ, length, ap, ◌∙◌, sym, subst, arith}
use Rattle.singers.specs.Singers.{least_room}
use Rattle.tuner.specs.Following.{four, LeastRoom}
use Rattle.tuner.proofs.Outputs.{least-room}
use Rattle.nights.specs.Going.{by_nine, by_three, by_four, begins}
use Rattle.nights.proofs.check.Goals.{After-least_room-room}
use Rattle.nights.proofs.check.Goals as goal

-- where the room is known
least-here : (c : After-least_room-room) → let a = c.args in LeastRoom a.t.now (four a.out.now a.first.now a.second.now a.third.now) c.least_room-room.result
least-here c =
    let a = c.args in
    let t = a.t.now in
    let good = c.is_good.ensures.yes c.if-not-is_good.false in
    subst (λ (r : ℕ). LeastRoom t (four a.out.now a.first.now a.second.now a.third.now) r) (sym (c.least_room-room.ensures ∙ ap (λ (n : ℕ). least_room n (length a.out.now) (length a.first.now) (length a.second.now) (length a.third.now)) c.from.ensures)) (least-room t a.out.now a.first.now a.second.now a.third.now good.voices.few)

pub returns-then-not-is_good : goal.returns-then-not-is_good
returns-then-not-is_good c = by_nine (c.is_good.ensures.no c.if-not-is_good.true)

pub returns-then-size-eq0 : goal.returns-then-size-eq0
returns-then-size-eq0 c = by_three (c.is_good.ensures.yes c.if-not-is_good.false) (elim c.then-size-eq0.either [ inl h ↦ inl h | inr (n, h) ↦ inr h ])

pub returns-then-room-samples : goal.returns-then-room-samples
returns-then-room-samples c =
    let least = least-here (goal.at.returns-then-room-samples c).After-least_room-room in
    by_four (c.is_good.ensures.yes c.if-not-is_good.false) (omega arith) (omega arith) (λ r. let q = least.least (length c.args.samples.now) r in omega (arith, q, c.if-room-samples.true))

pub returns : goal.returns
returns c =
    let least = least-here (goal.at.returns c).After-least_room-room in
    begins (c.is_good.ensures.yes c.if-not-is_good.false) (omega arith) (omega arith) (least.fits (length c.args.samples.now) (omega (arith, c.if-room-samples.false)))
