-- The theorem of `gateway::theorems::demands`. Assumes nothing.
use Rattle.gateway.proofs.DemandLaws.{demands}
use Rattle.gateway.proofs.theorems.demands.Goals as goal

pub returns : goal.returns
returns c = demands
