-- The theorem of `rules::theorems::loops`. Assumes nothing.
use Rattle.rules.proofs.LoopLaws.{loops}
use Rattle.rules.proofs.theorems.loops.Goals as goal

pub returns : goal.returns
returns c = loops
