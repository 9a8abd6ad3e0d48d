-- `service::report::check_report` meets its contract: at each `return` the tests before it have passed. Assumes nothing.
use borrow.Author.Tests.{lt-ltb, le-ltb}
use Rattle.format.specs.Outcome.{first_failing}
use Rattle.service.specs.At.{report_away}
use Rattle.service.proofs.report.check_report.Goals as goal

pub returns-then-bad_report : goal.returns-then-bad_report
unfolding report_away first_failing
returns-then-bad_report c = rw (← c.bad_report.ensures, c.if-bad_report.true)

pub returns-then-pid-ge8 : goal.returns-then-pid-ge8
unfolding report_away first_failing
returns-then-pid-ge8 c = rw (← c.bad_report.ensures, c.if-bad_report.false, le-ltb _ _ c.if-pid-ge8.true)

pub returns : goal.returns
unfolding report_away first_failing
returns c = rw (← c.bad_report.ensures, c.if-bad_report.false, lt-ltb _ _ c.if-pid-ge8.false)
