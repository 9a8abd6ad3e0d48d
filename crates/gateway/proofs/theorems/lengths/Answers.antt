-- The theorem of `gateway::theorems::lengths`. Assumes nothing.
use Rattle.gateway.proofs.LengthLaws.{lengths}
use Rattle.gateway.proofs.theorems.lengths.Goals as goal

pub returns : goal.returns
returns c = lengths
