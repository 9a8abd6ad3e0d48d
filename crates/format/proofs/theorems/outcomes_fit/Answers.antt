-- The theorem of `format::theorems::outcomes_fit`. Assumes nothing.
use Rattle.format.proofs.OutcomeLaws.{outcomes-fit}
use Rattle.format.proofs.theorems.outcomes_fit.Goals as goal

pub returns : goal.returns
returns c = outcomes-fit
