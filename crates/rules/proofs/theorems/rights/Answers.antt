-- The theorem of `rules::theorems::rights`. Assumes nothing.
use Rattle.rules.proofs.RightsLaws.{rights}
use Rattle.rules.proofs.theorems.rights.Goals as goal

pub returns : goal.returns
returns c = rights
