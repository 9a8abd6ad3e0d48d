-- `format::refusal::carried_length` meets its contract, by the three cases. Assumes nothing.
use Rattle.format.specs.Refusal.{carried_length}
use Rattle.format.proofs.refusal.carried_length.Goals as goal

pub returns-in-Nothing : goal.returns-in-Nothing
unfolding carried_length
returns-in-Nothing c = rw c.in-Nothing.is

pub returns-in-Counted : goal.returns-in-Counted
unfolding carried_length
returns-in-Counted c = rw c.in-Counted.is

pub returns-in-Vector : goal.returns-in-Vector
unfolding carried_length
returns-in-Vector c = rw c.in-Vector.is
