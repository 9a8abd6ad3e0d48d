-- The theorem of `process::theorems::sound_stays`. Assumes nothing.
use Rattle.process.proofs.TheoremLaws.{sound-stays}
use Rattle.process.proofs.theorems.sound_stays.Goals as goal

pub returns : goal.returns
returns c = sound-stays
