-- The theorem of `decimal::theorems::reads_numbers`. Assumes nothing.
use Rattle.decimal.proofs.ReadLaws.{reads-numbers}
use Rattle.decimal.proofs.theorems.reads_numbers.Goals as goal

pub returns : goal.returns
returns c = reads-numbers
