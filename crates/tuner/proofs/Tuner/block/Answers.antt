-- `tuner::Tuner::block` meets its contract: a record that is not good is answered 9 and left; else the block is judged, and taken, given again or refused by its number.
use borrow.Author.Rules.{rules}
use mathlib.Core.Path.{◌≡◌, refl, sym, ap, subst, ◌∙◌}
use mathlib.Core.List.{List}
use Prim.Native.Nat.{ℕ}
use native.Mathlib.Omega.{arith}
use lib.IntN.{ℤ}
use lib.ListN.{length}
use Rattle.answers.specs.Numbering.{judged_number}
use Rattle.singers.specs.Singers.{least_room}
use Rattle.tuner.specs.Tuners.{Verdict, record_out_of_range}
use Rattle.tuner.specs.Following.{four, LeastRoom}
use Rattle.tuner.proofs.Outputs.{least-room}
use Rattle.tuner.proofs.Verdicts.{verdict-fits, verdict-zero, took_by, left-fits}
use Rattle.tuner.proofs.Tuner.block.Goals.{Start, After-judge-verdict}
use Rattle.tuner.proofs.Tuner.block.Goals as goal

heard-long : (c : Start) → length c.args.self.now.heard ≡ 1764
heard-long c = search rules

-- where the block was judged
module _ (c : After-judge-verdict) where
  abbrev outputs : List (List ℤ)
  outputs = let a = c.args in four a.out.now a.first.now a.second.now a.third.now

  verdict-here : Verdict c.args.self.now c.args.number c.args.samples.now outputs (judged_number c.judge-verdict.result)
  verdict-here =
      let a = c.args in
      let t = a.self.now in
      let good = c.is_good.ensures.yes c.if-not-is_good.false in
      let room = c.least_room-room.ensures ∙ ap (λ (n : ℕ). least_room n (length a.out.now) (length a.first.now) (length a.second.now) (length a.third.now)) c.from.ensures in
      c.judge-verdict.ensures t.energies t.correlations t.eighths t.outs outputs (subst (λ (r : ℕ). LeastRoom t outputs r) (sym room) (least-room t a.out.now a.first.now a.second.now a.third.now good.voices.few)) good

pub returns-then-not-is_good : goal.returns-then-not-is_good
returns-then-not-is_good c =
    took_by {t' = c.args.self.now} (record_out_of_range (c.is_good.ensures.no c.if-not-is_good.true)) refl refl (λ h. absurd (omega (arith, h))) c.answer.ensures.answer c.answer.ensures.outs refl

pub take_by-requires-clause-fits : goal.take_by-requires-clause-fits
take_by-requires-clause-fits c =
    let v = verdict-here (goal.at.take_by-requires-clause-fits c).After-judge-verdict in
    λ z. let f = verdict-fits v (omega (arith, z)) in (f.nonempty, f.most, verdict-zero v z)

pub answer-requires-2 : goal.answer-requires-2
answer-requires-2 c =
    let v = verdict-here (goal.at.answer-requires-2 c).After-judge-verdict in
    λ h. let f = left-fits _ v (heard-long (goal.at.answer-requires-2 c).Start) h c.take_by.ensures.tuner in (f.few, omega (arith, f.long, f.most), f.room)

pub returns : goal.returns
returns c =
    let v = verdict-here (goal.at.returns c).After-judge-verdict in
    let d = c.take_by.ensures in
    took_by v d.tuner refl (λ h. (left-fits _ v (heard-long (goal.at.returns c).Start) h d.tuner).long) c.answer-2.ensures.answer c.answer-2.ensures.outs d.rows
