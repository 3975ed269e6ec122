-- The newest take is one of the older, its line after theirs and its figures added to theirs.
use Rattle.std.proofs.Common.{refl, arith}
use Rattle.reporting.specs.Keeping.{keeps-room, keeps-begun, keeps_too_many, none_is}
use Rattle.reporting.proofs.Reporting.begin_take.Goals as goal

pub returns-then-self-ge-MOST_TAKES : goal.returns-then-self-ge-MOST_TAKES
returns-then-self-ge-MOST_TAKES c = (refl, λ t takes k. keeps_too_many c.if-self-ge-MOST_TAKES.true k)

pub put_line-self-requires : goal.put_line-self-requires
put_line-self-requires c = omega (arith, (keeps-room c.requires.0.1.keeps (omega (arith, c.if-self-ge-MOST_TAKES.false))).length, c.requires.1)

pub add-self-requires : goal.add-self-requires
add-self-requires c = let r = keeps-room c.requires.0.1.keeps (omega (arith, c.if-self-ge-MOST_TAKES.false)) in (r.before, r.now)

pub returns : goal.returns
returns c = (refl, λ t takes k. keeps-begun c.requires.1 c.requires.2 (omega (arith, c.if-self-ge-MOST_TAKES.false)) (none_is c.default-self.result c.default-self.ensures) c.put_line-self.ensures.put c.add-self.ensures k)
