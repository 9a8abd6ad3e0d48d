-- `packets::block::base_of` meets its contract. Assumes nothing.
use Rattle.packets.specs.Block.{base_of}
use Rattle.packets.proofs.block.base_of.Goals as goal

pub returns : goal.returns
unfolding base_of
returns c = rw c.remainder.ensures.value
