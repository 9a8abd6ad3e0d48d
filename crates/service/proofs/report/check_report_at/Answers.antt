-- `service::report::check_report_at` meets its contract: at each `return` the tests before it have passed. Assumes nothing.
use Rattle.format.specs.Outcome.{first_failing}
use Rattle.service.specs.At.{report_number_at}
use Rattle.service.proofs.report.check_report_at.Goals as goal

pub returns-then-not-process : goal.returns-then-not-process
unfolding report_number_at first_failing
returns-then-not-process c = rw c.if-not-process.true

pub returns-then-not-accepts : goal.returns-then-not-accepts
unfolding report_number_at first_failing
returns-then-not-accepts c = rw (← c.accepts.ensures, c.if-not-process.false, c.if-not-accepts.true)

pub returns : goal.returns
unfolding report_number_at first_failing
returns c = rw (← c.accepts.ensures, c.if-not-process.false, c.if-not-accepts.false)
