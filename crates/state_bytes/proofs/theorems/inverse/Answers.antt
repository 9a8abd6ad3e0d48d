-- The theorem of `state_bytes::theorems::inverse`. Assumes nothing.
use Rattle.state_bytes.proofs.StateLaws.{inverse}
use Rattle.state_bytes.proofs.theorems.inverse.Goals as goal

pub returns : goal.returns
returns c = inverse
