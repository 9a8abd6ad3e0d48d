-- `packets::types::too_few` meets its contract. Assumes nothing.
use Rattle.packets.specs.Types.{too_few}
use Rattle.packets.proofs.types.too_few.Goals as goal

pub returns : goal.returns
unfolding too_few
returns c = rw c.fewest_words.ensures
