-- The theorem of `rules::theorems::why_right`. Assumes nothing.
use Rattle.rules.proofs.WhyLaws.{why-right}
use Rattle.rules.proofs.theorems.why_right.Goals as goal

pub returns : goal.returns
returns c = why-right
