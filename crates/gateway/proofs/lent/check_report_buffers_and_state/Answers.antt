-- `gateway::lent::check_report_buffers_and_state` meets its contract, by the length of the line buffer. Assumes nothing.
use borrow.Author.Tests.{lt-ltb, le-ltb}
use lib.ListN.{length}
use Rattle.fields.specs.Written.{line_bytes}
use Rattle.gateway.specs.Called.{lent_on}
use Rattle.gateway.proofs.lent.check_report_buffers_and_state.Goals as goal

pub returns-then-line-lt-LINE_BYTES : goal.returns-then-line-lt-LINE_BYTES
unfolding lent_on
returns-then-line-lt-LINE_BYTES c = rw (lt-ltb (length c.args.line.now) line_bytes c.if-line-lt-LINE_BYTES.true)

pub returns : goal.returns
returns c = rw (le-ltb (length c.args.line.now) line_bytes c.if-line-lt-LINE_BYTES.false) c.check_buffers_and_state.ensures
