-- `gateway::lent::check_buffers_and_state` meets its contract, by the length of the memory. Assumes nothing.
use borrow.Author.Tests.{eq-eqb, ne_eqb}
use Rattle.gateway.specs.Called.{lent_on}
use Rattle.gateway.proofs.lent.check_buffers_and_state.Goals as goal

pub returns-then-memory-ne-CAPACITY : goal.returns-then-memory-ne-CAPACITY
unfolding lent_on
returns-then-memory-ne-CAPACITY c = rw (ne_eqb _ _ c.if-memory-ne-CAPACITY.true)

pub returns : goal.returns
returns c = rw (eq-eqb _ _ c.if-memory-ne-CAPACITY.false) c.check_state.ensures
