-- The theorem of `state::theorems::processes_are_apart`. Assumes nothing.
use Rattle.state.proofs.ApartLaws.{processes-apart}
use Rattle.state.proofs.theorems.processes_are_apart.Goals as goal

pub returns : goal.returns
returns c = processes-apart
