-- The theorem of `format::theorems::readings_fit`. Assumes nothing.
use Rattle.format.proofs.OutcomeLaws.{readings-fit}
use Rattle.format.proofs.theorems.readings_fit.Goals as goal

pub returns : goal.returns
returns c = readings-fit
