-- The theorem of `process::theorems::end_debug_restores`. Assumes nothing.
use Rattle.process.proofs.TheoremLaws.{end-debug-restores}
use Rattle.process.proofs.theorems.end_debug_restores.Goals as goal

pub returns : goal.returns
returns c = end-debug-restores
