-- `checks::rule::rule_decision` meets its contract: at each `return` the tests before it have passed. Assumes nothing.
use Rattle.format.specs.Outcome.{first_failing}
use Rattle.checks.specs.Decision.{decision_by, entry_decision, rule_decision}
use Rattle.checks.proofs.rule.rule_decision.Goals as goal

pub returns-then-not-right : goal.returns-then-not-right
unfolding rule_decision decision_by first_failing
returns-then-not-right c = rw (← c.right.ensures, c.if-not-right.true)

pub returns-then-not-unwatched : goal.returns-then-not-unwatched
unfolding rule_decision decision_by first_failing
returns-then-not-unwatched c = rw (← c.right.ensures, c.if-not-right.false, ← c.unwatched.ensures, c.if-not-unwatched.true)

pub returns-then-not-runs : goal.returns-then-not-runs
unfolding rule_decision decision_by first_failing
returns-then-not-runs c =
    rw (← c.right.ensures, c.if-not-right.false, ← c.unwatched.ensures, c.if-not-unwatched.false, ← c.runs.ensures, c.if-not-runs.true)

pub returns-then-not-range : goal.returns-then-not-range
unfolding rule_decision decision_by first_failing
returns-then-not-range c =
    rw (← c.right.ensures, c.if-not-right.false, ← c.unwatched.ensures, c.if-not-unwatched.false, ← c.runs.ensures, c.if-not-runs.false, ← c.range.ensures, c.if-not-range.true)

pub returns : goal.returns
unfolding rule_decision decision_by first_failing entry_decision
returns c =
    rw (← c.right.ensures, c.if-not-right.false, ← c.unwatched.ensures, c.if-not-unwatched.false, ← c.runs.ensures, c.if-not-runs.false, ← c.range.ensures, c.if-not-range.false) c.entry_decision.ensures
