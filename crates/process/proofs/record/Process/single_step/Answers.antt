-- `process::record::Process::single_step` meets its contract, by whether the process is at a breakpoint. Assumes nothing.
use Rattle.process.proofs.TestedLaws.{tested-inside}
use Rattle.process.proofs.record.Process.single_step.Goals as goal

pub lift_at-requires : goal.lift_at-requires
lift_at-requires c = tested-inside c.args.self c.args.bytes.now c.requires
