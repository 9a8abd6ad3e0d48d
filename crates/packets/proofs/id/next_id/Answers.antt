-- `packets::id::next_id` meets its contract. Assumes nothing.
use Rattle.std.proofs.Common.{arith}
use Rattle.packets.specs.Id.{next_id}
use Rattle.packets.proofs.id.next_id.Goals as goal

pub returns : goal.returns
unfolding next_id
returns c = omega arith
