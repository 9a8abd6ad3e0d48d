-- `state_bytes::place::read_process_at` meets its contract: piece p. Assumes nothing.
use Rattle.state_bytes.proofs.StateLaws.{read_at}
use Rattle.state_bytes.proofs.place.read_process_at.Goals as goal

pub returns : goal.returns
returns c =
    read_at c.args.state.now c.args.p c.record_at-at.result _ c.requires.p_lt_process_count c.record_at-at.ensures c.read_process.ensures
