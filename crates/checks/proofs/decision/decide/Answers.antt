-- `checks::decision::decide` meets its contract: test 7, then the others. Assumes nothing.
use Rattle.format.specs.Outcome.{first_failing}
use Rattle.checks.specs.Decision.{decision_by, rule_decision, decision_of}
use Rattle.checks.proofs.decision.decide.Goals as goal

pub returns-then-not-process : goal.returns-then-not-process
unfolding decision_of decision_by first_failing
returns-then-not-process c = rw c.if-not-process.true

pub returns : goal.returns
unfolding decision_of decision_by first_failing rule_decision
returns c = rw c.if-not-process.false c.rule_decision.ensures
