-- `why::decided::why_for_process` meets its contract: the number, then its reason. Assumes nothing.
use Rattle.why.specs.ForProcess.{why_for_process}
use Rattle.why.proofs.decided.why_for_process.Goals as goal

pub returns : goal.returns
unfolding why_for_process
returns c = rw (← c.number_for_process.ensures) c.reason_for.ensures
