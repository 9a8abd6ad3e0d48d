-- The theorem of `lines::theorems::reads_pairs`. Assumes nothing.
use Rattle.lines.proofs.PairLaws.{reads-pairs}
use Rattle.lines.proofs.theorems.reads_pairs.Goals as goal

pub returns : goal.returns
returns c = reads-pairs
