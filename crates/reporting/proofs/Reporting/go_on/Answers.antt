-- The figures of samples and of more samples add up.
use Rattle.std.proofs.Common.{refl}
use Rattle.reporting.specs.Keeping.{keeps_on, keeps_on_many}
use Rattle.reporting.proofs.Reporting.go_on.Goals as goal

pub returns-then-self-le-MOST_TAKES : goal.returns-then-self-le-MOST_TAKES
returns-then-self-le-MOST_TAKES c t = record { tuner = refl; keeps = λ out takes gs o k. keeps_on gs o c.add-self.ensures c.if-self-le-MOST_TAKES.true k }

pub returns-else-self-le-MOST_TAKES : goal.returns-else-self-le-MOST_TAKES
returns-else-self-le-MOST_TAKES c t = record { tuner = refl; keeps = λ out takes gs o k. keeps_on_many gs c.if-self-le-MOST_TAKES.false k }
