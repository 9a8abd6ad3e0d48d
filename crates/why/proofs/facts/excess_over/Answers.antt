-- `why::facts::excess_over` meets its contract, by the limit. Assumes nothing.
use Rattle.rules.specs.Why.{excess_over}
use Rattle.why.proofs.facts.excess_over.Goals as goal

pub returns-in-End : goal.returns-in-End
unfolding excess_over
returns-in-End c = rw (c.in-End.is, ← c.asked_end.ensures, ← c.limit_end.ensures) c.over.ensures

pub returns-in-Count : goal.returns-in-Count
unfolding excess_over
returns-in-Count c = rw c.in-Count.is c.over-in-Count.ensures

pub returns-in-Last : goal.returns-in-Last
unfolding excess_over
returns-in-Last c = rw (c.in-Last.is, ← c.over-in-Last.ensures) c.over-in-Last-2.ensures
