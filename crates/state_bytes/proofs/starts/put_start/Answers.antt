-- `state_bytes::starts::put_start` meets its contract: two stores. Assumes nothing.
use native.Mathlib.Omega.{arith}
use lib.ListN.{length-set}
use Rattle.state_bytes.proofs.StartLaws.{put-start-at}
use Rattle.state_bytes.proofs.starts.put_start.Goals as goal

pub bounds-state-at-2 : goal.bounds-state-at-2
bounds-state-at-2 c = simp length-set (omega arith)

pub returns : goal.returns
returns c =
    rw (c.low_byte.ensures, c.high_byte.ensures)
    (put-start-at c.args.state.now c.args.p c.start_at-at.result c.requires.p_lt_process_count c.start_at-at.ensures c.args.start c.requires.state_len)
