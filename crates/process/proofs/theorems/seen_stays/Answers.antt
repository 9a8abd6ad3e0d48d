-- The theorem of `process::theorems::seen_stays`. Assumes nothing.
use Rattle.process.proofs.TheoremLaws.{seen-stays}
use Rattle.process.proofs.theorems.seen_stays.Goals as goal

pub returns : goal.returns
returns c = seen-stays
