-- The theorem of `cases::premises_met`. Assumes nothing.
use Rattle.cases.proofs.PairLaws.{premises-met}
use Rattle.cases.proofs.premises_met.Goals as goal

pub returns : goal.returns
returns c = premises-met
