-- `steps::hear` meets its contract, by whether an eighth-rate sample is due: then the next place is still inside.
use native.Mathlib.Omega.{arith}
use Rattle.steps.specs.Eighths.{heard-none, heard-one}
use Rattle.steps.proofs.hear.Goals as goal

pub eighth-requires : goal.eighth-requires
eighth-requires c =
    let p = c.requires in
    (p.0, p.1, p.2, p.3 c.if-n-eq0.true, p.4)

pub overflow_add-result : goal.overflow_add-result
overflow_add-result c = omega (arith, c.requires.3 c.if-n-eq0.true)

pub returns-then-n-eq0 : goal.returns-then-n-eq0
returns-then-n-eq0 c =
    let p = c.requires in
    heard-one c.if-n-eq0.true (omega (arith, p.3 c.if-n-eq0.true, p.4.long)) c.eighth.ensures.0 c.eighth.ensures.1

pub returns-else-n-eq0 : goal.returns-else-n-eq0
returns-else-n-eq0 c = heard-none c.if-n-eq0.false c.requires.4
