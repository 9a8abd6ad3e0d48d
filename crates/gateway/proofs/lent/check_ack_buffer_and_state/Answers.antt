-- `gateway::lent::check_ack_buffer_and_state` meets its contract, by the length of the buffer. Assumes nothing.
use borrow.Author.Tests.{lt-ltb, le-ltb}
use lib.ListN.{length}
use Rattle.packets.specs.Ack.{ack_words}
use Rattle.gateway.specs.Called.{lent_on}
use Rattle.gateway.proofs.lent.check_ack_buffer_and_state.Goals as goal

pub returns-then-out-lt-ACK_WORDS : goal.returns-then-out-lt-ACK_WORDS
unfolding lent_on
returns-then-out-lt-ACK_WORDS c = rw (lt-ltb (length c.args.out.now) ack_words c.if-out-lt-ACK_WORDS.true)

pub returns : goal.returns
returns c = rw (le-ltb (length c.args.out.now) ack_words c.if-out-lt-ACK_WORDS.false) c.check_state.ensures
