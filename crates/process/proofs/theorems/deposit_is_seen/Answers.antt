-- The theorem of `process::theorems::deposit_is_seen`. Assumes nothing.
use Rattle.process.proofs.TheoremLaws.{deposit-is-seen}
use Rattle.process.proofs.theorems.deposit_is_seen.Goals as goal

pub returns : goal.returns
returns c = deposit-is-seen
