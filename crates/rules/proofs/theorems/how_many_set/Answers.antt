-- The theorem of `rules::theorems::how_many_set`. Assumes nothing.
use Rattle.rules.proofs.StatusLaws.{how-many-set}
use Rattle.rules.proofs.theorems.how_many_set.Goals as goal

pub returns : goal.returns
returns c = how-many-set
