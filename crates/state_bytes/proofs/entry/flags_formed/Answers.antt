-- `state_bytes::entry::flags_formed` meets its contract. Assumes nothing.
use mathlib.Core.Path.{refl}
use Rattle.state_bytes.specs.Entry.{flags_formed}
use Rattle.state_bytes.proofs.entry.flags_formed.Goals as goal

pub returns : goal.returns
unfolding flags_formed
returns c = refl
