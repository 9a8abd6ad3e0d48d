-- The theorem of `rules::theorems::ledger`. Assumes nothing.
use Rattle.rules.proofs.LedgerLaws.{ledger}
use Rattle.rules.proofs.theorems.ledger.Goals as goal

pub returns : goal.returns
returns c = ledger
