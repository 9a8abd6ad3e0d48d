-- `state_bytes::door::read_door` meets its contract: one byte. Assumes nothing.
use mathlib.Core.Path.{refl}
use Rattle.state_bytes.specs.State.{door_of}
use Rattle.state_bytes.proofs.door.read_door.Goals as goal

pub returns : goal.returns
unfolding door_of
returns c = refl
