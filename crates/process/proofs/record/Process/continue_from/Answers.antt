-- `process::record::Process::continue_from` meets its contract: that of the request, from the address. Assumes nothing.
use Rattle.process.proofs.TestedLaws.{tested-vector}
use Rattle.process.proofs.record.Process.continue_from.Goals as goal

pub go_on-requires : goal.go_on-requires
go_on-requires c = rw c.going_to.ensures (tested-vector _ c.args.self c.args.bytes.now c.requires)
