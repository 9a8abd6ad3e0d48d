-- `recording::theorems::tells_why` meets its contract. Assumes nothing.
use Rattle.recording.proofs.LineLaws.{tells-why}
use Rattle.recording.proofs.theorems.tells_why.Goals as goal

pub returns : goal.returns
returns c = tells-why
