-- The theorem of `cases::cases_hold`. Assumes nothing.
use Rattle.cases.proofs.CaseLaws.{cases-hold}
use Rattle.cases.proofs.cases_hold.Goals as goal

pub returns : goal.returns
returns c = cases-hold
