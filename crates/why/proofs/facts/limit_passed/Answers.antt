-- `why::facts::limit_passed` meets its contract, by the op code and the end. Assumes nothing.
use borrow.Author.Tests.{eq-eqb, ne_eqb, le-leb, lt-leb}
use Rattle.rules.specs.Why.{limit_passed}
use Rattle.why.proofs.facts.limit_passed.Goals as goal

pub returns-then-h-eq-BREAK : goal.returns-then-h-eq-BREAK
unfolding limit_passed
returns-then-h-eq-BREAK c = rw (eq-eqb _ _ c.if-h-eq-BREAK.true)

pub returns-then-asked_end-limit_end : goal.returns-then-asked_end-limit_end
unfolding limit_passed
returns-then-asked_end-limit_end c = rw (ne_eqb _ _ c.if-h-eq-BREAK.false, ← c.asked_end.ensures, ← c.limit_end.ensures, le-leb _ _ c.if-asked_end-limit_end.true)

pub returns : goal.returns
unfolding limit_passed
returns c = rw (ne_eqb _ _ c.if-h-eq-BREAK.false, ← c.asked_end.ensures, ← c.limit_end.ensures, lt-leb _ _ c.if-asked_end-limit_end.false)
