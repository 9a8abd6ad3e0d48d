-- `state_bytes::entry::entry_of_number` meets its contract, field by field. Assumes nothing.
use mathlib.Core.Path.{refl}
use Rattle.state_bytes.specs.Entry.{entry_of_number}
use Rattle.state_bytes.proofs.entry.entry_of_number.Goals as goal

pub returns : goal.returns
unfolding entry_of_number
returns c = refl
