-- `gateway::kept::keep` meets its contract, by the outcome. Assumes nothing.
use mathlib.Core.Path.{refl}
use Rattle.rules.specs.Isolation.{is_granted}
use Rattle.gateway.proofs.kept.keep.Goals as goal

pub returns-in-Ok : goal.returns-in-Ok
unfolding is_granted
returns-in-Ok c = rw c.in-Ok.is c.put_process_at.ensures

pub returns-in_default : goal.returns-in_default
unfolding is_granted
returns-in_default c = rw c.in_default.is refl
