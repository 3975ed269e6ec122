-- `finding::choice` meets its contract: the two D are those that the rule compares.
use borrow.Author.Tests.{lt-ltb, le-ltb}
use Rattle.rules.specs.Rules.{choice}
use Rattle.finding.proofs.choice.Goals as goal

pub returns-then-b-a : goal.returns-then-b-a
unfolding choice
returns-then-b-a c = rw (← c.full-b.ensures, ← c.full-a.ensures, lt-ltb _ _ c.if-b-a.true)

pub returns-else-b-a : goal.returns-else-b-a
unfolding choice
returns-else-b-a c = rw (← c.full-b.ensures, ← c.full-a.ensures, le-ltb _ _ c.if-b-a.false)
