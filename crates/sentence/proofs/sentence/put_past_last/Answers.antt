-- `sentence::sentence::put_past_last` meets its contract, by whether the address is only odd. Assumes nothing.
use borrow.Author.Tests.{eq-eqb, ne_eqb}
use Rattle.sentence.specs.Sentence.{past_last_text}
use Rattle.sentence.proofs.sentence.put_past_last.Goals as goal
use Rattle.sentence.proofs.sentence.put_past_last.Goals.{then-n-eq0, else-n-eq0}

pub returns-clause-put : goal.returns-clause-put
unfolding past_last_text
returns-clause-put c = elim c.if-n-eq0.branch [
  | then-n-eq0 w ↦ rw (eq-eqb c.args.n 0 w.if-n-eq0.true) (rw w.pattern-is at c.put_filled.ensures.put)
  | else-n-eq0 w ↦ rw (ne_eqb c.args.n 0 w.if-n-eq0.false) (rw w.pattern-is at c.put_filled.ensures.put)
]
