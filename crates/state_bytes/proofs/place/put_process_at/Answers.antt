-- `state_bytes::place::put_process_at` meets its contract: piece p is replaced. Assumes nothing.
use Rattle.state_bytes.proofs.StateLaws.{put-at}
use Rattle.state_bytes.proofs.place.put_process_at.Goals as goal

pub returns : goal.returns
returns c =
    put-at c.args.state.now c.put_process.new.bytes c.args.p c.record_at-at.result c.args.q c.record_at-at.ensures c.put_process.ensures.p_len c.put_process.ensures.bytes_after
