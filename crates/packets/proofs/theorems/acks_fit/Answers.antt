-- The theorem of `packets::theorems::acks_fit`. Assumes nothing.
use Rattle.packets.proofs.AckLaws.{acks-fit}
use Rattle.packets.proofs.theorems.acks_fit.Goals as goal

pub returns : goal.returns
returns c = acks-fit
