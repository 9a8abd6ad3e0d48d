-- `state_bytes::place::read_extent_at` meets its contract: that of piece p. Assumes nothing.
use Rattle.state_bytes.proofs.StateLaws.{extent-at}
use Rattle.state_bytes.proofs.place.read_extent_at.Goals as goal

pub returns : goal.returns
returns c =
    extent-at c.args.state.now c.args.p c.record_at-at.result _ c.requires.p_lt_process_count c.record_at-at.ensures c.read_extent.ensures
