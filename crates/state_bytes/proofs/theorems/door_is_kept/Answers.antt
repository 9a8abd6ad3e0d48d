-- The theorem of `state_bytes::theorems::door_is_kept`. Assumes nothing.
use Rattle.state_bytes.proofs.DoorLaws.{door-kept}
use Rattle.state_bytes.proofs.theorems.door_is_kept.Goals as goal

pub returns : goal.returns
returns c = door-kept
