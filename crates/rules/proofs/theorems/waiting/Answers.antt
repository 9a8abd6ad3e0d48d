-- The theorem of `rules::theorems::waiting`. Assumes nothing.
use Rattle.rules.proofs.WaitingLaws.{waiting}
use Rattle.rules.proofs.theorems.waiting.Goals as goal

pub returns : goal.returns
returns c = waiting
