-- `state_bytes::process_form::read_process` meets its contract, field by field. Assumes nothing.
use native.Mathlib.Omega.{arith}
use lib.ListN.{length-drop}
use Rattle.state_bytes.specs.Process.{process_of}
use Rattle.state_bytes.specs.Widths.{entries_at}
use Rattle.state_bytes.proofs.ChunkLaws.{tail-part}
use Rattle.state_bytes.proofs.process_form.read_process.Goals as goal

pub read_entries-breaks-requires : goal.read_entries-breaks-requires
read_entries-breaks-requires c = rw (tail-part entries_at c.args.bytes.now) (simp length-drop (omega (arith, c.requires)))

pub returns : goal.returns
unfolding process_of
returns c =
    let m = c.args.bytes.now in
    rw (c.run_of-run.ensures, c.read_vector-vector.ensures, c.read_entries-breaks.ensures, c.read_size-size.ensures, c.read_session-session.ensures, tail-part entries_at m)
