-- The theorem of `rules::theorems::watching`. Assumes nothing.
use Rattle.rules.proofs.BreakLifeLaws.{watching}
use Rattle.rules.proofs.theorems.watching.Goals as goal

pub returns : goal.returns
returns c = watching
