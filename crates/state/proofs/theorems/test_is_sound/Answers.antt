-- The theorem of `state::theorems::test_is_sound`. Assumes nothing.
use Rattle.state.proofs.SoundLaws.{test-is-sound}
use Rattle.state.proofs.theorems.test_is_sound.Goals as goal

pub returns : goal.returns
returns c = test-is-sound
