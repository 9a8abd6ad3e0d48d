-- `state_bytes::place::record_at` meets its contract: byte p of the two tables is the low and the high byte of the start. Assumes nothing.
use Rattle.state_bytes.proofs.StateLaws.{record-place}
use Rattle.state_bytes.proofs.place.record_at.Goals as goal

pub returns : goal.returns
returns c = record-place c.args.p c.word_of.result c.requires c.word_of.ensures
