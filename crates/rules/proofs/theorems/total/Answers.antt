-- The theorem of `rules::theorems::total`. Assumes nothing.
use Rattle.rules.proofs.TotalLaws.{total}
use Rattle.rules.proofs.theorems.total.Goals as goal

pub returns : goal.returns
returns c = total
