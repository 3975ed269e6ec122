-- The default tuner, and one take without samples.
use Rattle.reporting.specs.Keeping.{reporting, none_is}
use Rattle.reporting.specs.Going.{so_far_none}
use Rattle.reporting.proofs.Reporting.begin.Goals as goal

pub returns : goal.returns
returns c out = so_far_none out (λ i. reporting (c.default.ensures i) 1 (none_is c.default-2.result c.default-2.ensures i) (none_is c.default-3.result c.default-3.ensures i) 0)
