-- The theorem of `cases::created_again`. Assumes nothing.
use Rattle.cases.proofs.AgainLaws.{created-again}
use Rattle.cases.proofs.created_again.Goals as goal

pub returns : goal.returns
returns c = created-again
