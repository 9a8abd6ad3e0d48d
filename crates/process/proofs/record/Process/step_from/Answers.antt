-- `process::record::Process::step_from` meets its contract: that of the request, from the address. Assumes nothing.
use Rattle.process.proofs.TestedLaws.{tested-vector}
use Rattle.process.proofs.record.Process.step_from.Goals as goal

pub single_step-requires : goal.single_step-requires
single_step-requires c = rw c.going_to.ensures (tested-vector _ c.args.self c.args.bytes.now c.requires)
