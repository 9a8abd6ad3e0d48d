-- `why::facts::past` meets its contract: the limit, then the excess over it. Assumes nothing.
use Rattle.why.proofs.facts.past.Goals as goal

pub returns : goal.returns
returns c = rw (← c.limit_passed-limit.ensures, ← c.excess_over.ensures)
