-- The theorem of `process::theorems::store_is_unseen`. Assumes nothing.
use Rattle.process.proofs.TheoremLaws.{store-is-unseen}
use Rattle.process.proofs.theorems.store_is_unseen.Goals as goal

pub returns : goal.returns
returns c = store-is-unseen
