-- The theorem of `process::theorems::end_watch_removes`. Assumes nothing.
use Rattle.process.proofs.EndWatchLaws.{end-watch-removes}
use Rattle.process.proofs.theorems.end_watch_removes.Goals as goal

pub returns : goal.returns
returns c = end-watch-removes
