-- `state_bytes::process_form::read_go` meets its contract: two bytes, and four. Assumes nothing.
use Rattle.state_bytes.specs.Widths.{id_at}
use Rattle.state_bytes.proofs.ChunkLaws.{tail-part}
use Rattle.state_bytes.proofs.process_form.read_go.Goals as goal

pub returns : goal.returns
returns c = rw (c.u32_le-id.ensures, tail-part id_at c.args.bytes.now)
