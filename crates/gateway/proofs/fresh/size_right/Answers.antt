-- `gateway::fresh::size_right` meets its contract, by the two cases. Assumes nothing.
use Rattle.gateway.proofs.fresh.size_right.Goals as goal

pub returns-then-there : goal.returns-then-there
returns-then-there c = rw c.if-there.true c.valid_size.ensures

pub returns-else-there : goal.returns-else-there
returns-else-there c = rw c.if-there.false
