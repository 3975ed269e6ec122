-- `finding::found_by` meets its contract: the rule goes by the least low L1, and where it is below 55 by L2, the least above it.
use mathlib.Core.Path.{sym, ap, ◌∙◌}
use Rattle.finding.specs.Finding.{lag_of}
use Rattle.finding.specs.Scan.{found_none, found-long, found_no_second, found-choice}
use Rattle.finding.proofs.found_by.Goals as goal

pub returns-in_err-l1 : goal.returns-in_err-l1
returns-in_err-l1 c g y r = ap lag_of c.from_residual.ensures ∙ sym (found_none _ r c.in_err-l1.was)

pub returns-then-l1-ge55 : goal.returns-then-l1-ge55
returns-then-l1-ge55 c g y r = sym (found-long _ r c.in_ok-l1.was c.if-l1-ge55.true)

pub returns-in_err-l2 : goal.returns-in_err-l2
returns-in_err-l2 c g y r = ap lag_of c.from_residual-in_err-l2.ensures ∙ sym (found_no_second _ r c.in_ok-l1.was c.if-l1-ge55.false c.in_err-l2.was)

pub returns : goal.returns
returns c g y r = c.choice.ensures ∙ sym (found-choice _ r c.in_ok-l1.was c.if-l1-ge55.false c.in_ok-l2.was)
