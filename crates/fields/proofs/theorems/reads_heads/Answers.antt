-- The theorem of `fields::theorems::reads_heads`. Assumes nothing.
use Rattle.fields.proofs.LineLaws.{reads-heads}
use Rattle.fields.proofs.theorems.reads_heads.Goals as goal

pub returns : goal.returns
returns c = reads-heads
