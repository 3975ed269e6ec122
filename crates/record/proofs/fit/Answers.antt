-- `record::fit` meets its contract: the types of its two arrays say so.
use Rattle.record.proofs.Fields.{field-samples}
use Rattle.record.proofs.fit.Goals as goal

pub returns-clause-store : goal.returns-clause-store
returns-clause-store c = search field-samples

pub returns-clause-eighths : goal.returns-clause-eighths
returns-clause-eighths c = search field-samples
