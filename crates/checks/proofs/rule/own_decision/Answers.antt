-- `checks::rule::own_decision` meets its contract, by who set the breakpoint. Assumes nothing.
use borrow.Author.Tests.{eq-eqb, ne_eqb}
use Rattle.checks.specs.Decision.{own_decision}
use Rattle.checks.proofs.rule.own_decision.Goals as goal

pub returns-then-process-k : goal.returns-then-process-k
unfolding own_decision
returns-then-process-k c = rw (eq-eqb _ _ c.if-process-k.true)

pub returns-else-process-k : goal.returns-else-process-k
unfolding own_decision
returns-else-process-k c = rw (ne_eqb _ _ c.if-process-k.false)
