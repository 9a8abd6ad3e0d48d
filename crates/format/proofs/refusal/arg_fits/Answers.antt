-- `format::refusal::arg_fits` meets its contract, by the three cases. Assumes nothing.
use Rattle.format.proofs.refusal.arg_fits.Goals as goal

pub returns-in-Unused : goal.returns-in-Unused
returns-in-Unused c = rw c.in-Unused.is

pub returns-in-Any : goal.returns-in-Any
returns-in-Any c = rw c.in-Any.is

pub returns-in-Size : goal.returns-in-Size
returns-in-Size c = rw c.in-Size.is c.size_fits.ensures
