-- `gateway::fresh::sizes_right` meets its contract: each size is tested, and then their sum. Assumes nothing.
use Rattle.std.proofs.Common.{rules}
use Rattle.state.specs.Fresh.{sizes_right}
use Rattle.gateway.proofs.fresh.sizes_right.Goals as goal

pub returns-then-each_right : goal.returns-then-each_right
unfolding sizes_right
returns-then-each_right c = search rules

pub returns-else-each_right : goal.returns-else-each_right
unfolding sizes_right
returns-else-each_right c = search rules
