-- The theorem of `process::theorems::test_is_sound`. Assumes nothing.
use Rattle.process.proofs.SoundTestLaws.{test-is-sound}
use Rattle.process.proofs.theorems.test_is_sound.Goals as goal

pub returns : goal.returns
returns c = test-is-sound
