-- `packets::block::remainder` meets its contract: the last of the six lengths is 32. Assumes nothing.
use Rattle.std.proofs.Common.{◌≡◌, rules}
use Rattle.packets.proofs.LengthLaws.{last-length}
use Rattle.packets.proofs.block.remainder.Goals as goal

pub returns-in_default-clause-value : goal.returns-in_default-clause-value
returns-in_default-clause-value c = let e : c.args.length ≡ 32 = search (rules, last-length) in rw e
