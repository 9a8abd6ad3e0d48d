-- `checks::rule::readable` meets its contract, by the two tests. Assumes nothing.
use borrow.Author.Tests.{le-leb, lt-leb}
use Rattle.checks.proofs.rule.readable.Goals as goal

pub returns-then-end-size : goal.returns-then-end-size
returns-then-end-size c = rw (le-leb _ _ c.if-end-size.true)

pub returns-else-end-size : goal.returns-else-end-size
returns-else-end-size c = rw (lt-leb _ _ c.if-end-size.false)
