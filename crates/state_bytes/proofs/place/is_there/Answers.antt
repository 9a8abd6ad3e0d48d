-- `state_bytes::place::is_there` meets its contract: one byte. Assumes nothing.
use Prim.Native.Nat.{◌+◌}
use native.Mathlib.Omega.{arith}
use Rattle.state_bytes.specs.Widths.{there_at}
use Rattle.state_bytes.proofs.StateLaws.{is-there-at}
use Rattle.state_bytes.proofs.place.is_there.Goals as goal

pub returns : goal.returns
returns c =
    is-there-at c.args.state.now c.args.p (c.record_at-at.result + there_at) c.requires.p_lt_process_count (omega (arith, c.record_at-at.ensures))
