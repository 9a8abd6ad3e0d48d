-- `state_bytes::state_form::fresh_process` meets its contract, by the two cases. Assumes nothing.
use Rattle.state.specs.Fresh.{fresh_process}
use Rattle.state_bytes.proofs.state_form.fresh_process.Goals as goal

pub returns-then-there : goal.returns-then-there
unfolding fresh_process
returns-then-there c = rw c.if-there.true c.fresh.ensures

pub returns-else-there : goal.returns-else-there
unfolding fresh_process
returns-else-there c = rw c.if-there.false c.cleared.ensures
