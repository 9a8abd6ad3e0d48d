-- `recording::theorems::follows_lines` meets its contract. Assumes nothing.
use Rattle.recording.proofs.TranscriptLaws.{follows-lines}
use Rattle.recording.proofs.theorems.follows_lines.Goals as goal

pub returns : goal.returns
returns c = follows-lines
