-- The theorem of `packets::theorems::blocks_fit`. Assumes nothing.
use Rattle.packets.proofs.BlockLaws.{blocks-fit}
use Rattle.packets.proofs.theorems.blocks_fit.Goals as goal

pub returns : goal.returns
returns c = blocks-fit
