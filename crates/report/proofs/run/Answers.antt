-- Nothing was read before the first read, and a piece more comes after what was read before.
use Rattle.std.proofs.Common.{List, ℕ, [], sym, subst}
use Rattle.reporting.specs.Keeping.{SoFar}
use Rattle.report.specs.Working.{working_more}
use Rattle.report.proofs.run.Goals as goal

pub loop-init : goal.loop-init
loop-init g c =
    let out = c.args.out.now in
    record { input = []; so_far = subst (λ (held : List ℕ). SoFar [] c.begin-r.result held out) (sym c.new-line.ensures) (c.begin-r.ensures out); out-room = c.requires }

pub loop-preserved : goal.loop-preserved
loop-preserved g c =
    let w = c.loop.invariant in
    working_more _ w (c.read_on.ensures w.input w.so_far) c.read_on.auto.out
