-- `process::record::Process::bring_to_stop` meets its contract, by whether the process moves. Assumes nothing.
use Rattle.process.proofs.TestedLaws.{tested-inside}
use Rattle.process.proofs.record.Process.bring_to_stop.Goals as goal

pub replant-requires : goal.replant-requires
replant-requires c = tested-inside c.args.self c.args.bytes.now c.requires
