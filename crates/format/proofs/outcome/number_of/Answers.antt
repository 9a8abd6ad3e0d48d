-- `format::outcome::number_of` meets its contract, by the cases. Assumes nothing.
use mathlib.Core.Path.{sym, ap}
use Rattle.format.specs.Outcome.{number_of}
use Rattle.format.proofs.outcome.number_of.Goals as goal

pub returns-in-Ok : goal.returns-in-Ok
unfolding number_of
returns-in-Ok c = sym (ap number_of c.in-Ok.is)

pub returns-in-Err : goal.returns-in-Err
unfolding number_of
returns-in-Err c = sym (ap number_of c.in-Err.is)
