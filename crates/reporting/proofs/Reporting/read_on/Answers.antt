-- A byte more of the piece has come.
use Rattle.std.proofs.Common.{get_or, List, ℕ, ap, ◌∙◌, sym, subst, arith}
use Rattle.reporting.specs.Keeping.{LineReported, so_far_kept}
use Rattle.reporting.specs.Steps.{held_in}
use Rattle.reporting.specs.Going.{State, Stepped, stepped_line, stepped-byte, going_more}
use Rattle.reporting.proofs.Reporting.read_on.Goals.{then-b-eq10, else-b-eq10}
use Rattle.reporting.proofs.Reporting.read_on.Goals as goal

pub report_line-requires : goal.report_line-requires
report_line-requires c =
    let p = c.requires in
    (so_far_kept (c.loop-b.invariant.so_far p.0.0 p.0.1), omega (arith, c.loop-b.invariant.out, p.1))

pub loop-b-preserved : goal.loop-b-preserved
loop-b-preserved c =
    let l = c.loop-b in
    let b = get_or c.args.input.now l.b-index 0 in
    let before : State = record { held = held_in l.line; out = l.out; report = l.self } in
    going_more (omega arith) l.invariant
    (elim c.if-b-eq10.branch [
      | then-b-eq10 w ↦
          subst (λ (s : State). Stepped b before s) (sym (λ k. record { held = (ap held_in w.line-is ∙ w.clear.ensures) k; out = w.out-is k; report = w.self-is k }))
          (stepped_line w.if-b-eq10.true w.report_line.auto.out (λ takes k. subst (λ (h : List ℕ). LineReported l.self.tuner h takes w.report_line.new.self w.report_line.new.out) w.as_slice.ensures (w.report_line.ensures takes k)))
      | else-b-eq10 w ↦
          subst (λ (s : State). Stepped b before s) (sym (λ k. record { held = held_in (w.line-is k); out = w.out-is k; report = w.self-is k }))
          (stepped-byte w.if-b-eq10.false w.push.ensures)
    ])
