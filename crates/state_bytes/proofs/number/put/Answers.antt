-- `state_bytes::number::put` meets its contract: the bytes are copied over the start. Assumes nothing.
use Rattle.std.proofs.Common.{◌≡◌, length, rules}
use Rattle.lists.specs.Buffer.{overlay}
use Rattle.state_bytes.proofs.number.put.Goals as goal

pub returns : goal.returns
unfolding overlay
returns g c = let size : length c.args.front ≡ g.row.N = search rules in rw (c.copy_from_slice.ensures.after, size)
