-- The theorem of `packets::theorems::ids_follow`. Assumes nothing.
use Rattle.packets.proofs.IdLaws.{ids-follow}
use Rattle.packets.proofs.theorems.ids_follow.Goals as goal

pub returns : goal.returns
returns c = ids-follow
