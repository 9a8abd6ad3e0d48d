-- `why::facts::limit_end` meets its contract, by the op code. Assumes nothing.
use borrow.Author.Tests.{eq-eqb, ne_eqb}
use Rattle.rules.specs.Why.{end_for}
use Rattle.why.proofs.facts.limit_end.Goals as goal

pub returns-then-h-eq-DEPOSIT_VECTOR : goal.returns-then-h-eq-DEPOSIT_VECTOR
unfolding end_for
returns-then-h-eq-DEPOSIT_VECTOR c = rw (eq-eqb _ _ c.if-h-eq-DEPOSIT_VECTOR.true)

pub returns-else-h-eq-DEPOSIT_VECTOR : goal.returns-else-h-eq-DEPOSIT_VECTOR
unfolding end_for
returns-else-h-eq-DEPOSIT_VECTOR c = rw (ne_eqb _ _ c.if-h-eq-DEPOSIT_VECTOR.false)
