-- The theorem of `rules::theorems::isolation`. Assumes nothing.
use Rattle.rules.proofs.OutsiderLaws.{isolation}
use Rattle.rules.proofs.theorems.isolation.Goals as goal

pub returns : goal.returns
returns c = isolation
