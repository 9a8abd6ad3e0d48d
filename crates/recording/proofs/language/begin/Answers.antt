-- `recording::language::begin` meets its contract. Assumes nothing.
use mathlib.Core.Path.{ap}
use Rattle.gateway.specs.Called.{StartResult}
use Rattle.recording.specs.Line.{first_state}
use Rattle.recording.proofs.language.begin.Goals as goal

pub returns : goal.returns
unfolding first_state
returns c = rw c.there.ensures at (ap (λ (x : StartResult). x.state) c.fresh_start.ensures)
