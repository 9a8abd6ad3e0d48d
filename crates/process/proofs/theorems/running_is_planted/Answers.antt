-- The theorem of `process::theorems::running_is_planted`. Assumes nothing.
use Rattle.process.proofs.TheoremLaws.{running-is-planted}
use Rattle.process.proofs.theorems.running_is_planted.Goals as goal

pub returns : goal.returns
returns c = running-is-planted
