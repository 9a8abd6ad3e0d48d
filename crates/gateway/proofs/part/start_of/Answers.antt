-- `gateway::part::start_of` meets its contract, by whether the process is there. Assumes nothing.
use Rattle.gateway.proofs.part.start_of.Goals as goal

pub returns-then-there : goal.returns-then-there
returns-then-there c = rw c.if-there.true c.read_start.ensures
