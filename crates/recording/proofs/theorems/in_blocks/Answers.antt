-- `recording::theorems::in_blocks` meets its contract. Assumes nothing.
use Rattle.recording.proofs.TranscriptLaws.{in_blocks}
use Rattle.recording.proofs.theorems.in_blocks.Goals as goal

pub returns : goal.returns
returns c = in_blocks
