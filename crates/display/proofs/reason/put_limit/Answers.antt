-- `display::reason::put_limit` meets its contract, by the limit. Assumes nothing.
use native.Mathlib.Omega.{arith}
use Rattle.display.specs.Reason.{limit_name}
use Rattle.display.proofs.reason.put_limit.Goals as goal

pub returns-in-End : goal.returns-in-End
unfolding limit_name
returns-in-End c = rw c.in-End.is record { put = c.put.ensures; upper_bound = omega (arith, c.put.ensures.0) }

pub returns-in-Count : goal.returns-in-Count
unfolding limit_name
returns-in-Count c = rw c.in-Count.is record { put = c.put-in-Count.ensures; upper_bound = omega (arith, c.put-in-Count.ensures.0) }

pub returns-in-Last : goal.returns-in-Last
unfolding limit_name
returns-in-Last c = rw c.in-Last.is record { put = c.put-in-Last.ensures; upper_bound = omega (arith, c.put-in-Last.ensures.0) }
