-- The theorem of `fields::theorems::short_lines`. Assumes nothing.
use Rattle.fields.proofs.WriteLaws.{short-lines}
use Rattle.fields.proofs.theorems.short_lines.Goals as goal

pub returns : goal.returns
returns c = short-lines
