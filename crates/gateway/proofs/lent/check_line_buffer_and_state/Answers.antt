-- `gateway::lent::check_line_buffer_and_state` meets its contract, by the length of the line buffer. Assumes nothing.
use borrow.Author.Tests.{lt-ltb, le-ltb}
use lib.ListN.{length}
use Rattle.fields.specs.Written.{line_bytes}
use Rattle.gateway.specs.Called.{lent_on}
use Rattle.gateway.proofs.lent.check_line_buffer_and_state.Goals as goal

pub returns-then-out-lt-LINE_BYTES : goal.returns-then-out-lt-LINE_BYTES
unfolding lent_on
returns-then-out-lt-LINE_BYTES c = rw (lt-ltb (length c.args.out.now) line_bytes c.if-out-lt-LINE_BYTES.true)

pub returns : goal.returns
returns c = rw (le-ltb (length c.args.out.now) line_bytes c.if-out-lt-LINE_BYTES.false) c.check_state.ensures
