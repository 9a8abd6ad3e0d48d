-- The theorem of `state::theorems::fresh_is_sound`. Assumes nothing.
use Rattle.state.proofs.FreshLaws.{fresh-is-sound}
use Rattle.state.proofs.theorems.fresh_is_sound.Goals as goal

pub returns : goal.returns
returns c = fresh-is-sound
