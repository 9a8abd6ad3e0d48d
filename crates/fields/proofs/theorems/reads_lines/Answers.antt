-- The theorem of `fields::theorems::reads_lines`. Assumes nothing.
use Rattle.fields.proofs.LineLaws.{reads_lines}
use Rattle.fields.proofs.theorems.reads_lines.Goals as goal

pub returns : goal.returns
returns c = reads_lines
