-- `sentence::sentence::put_full` meets its contract, by the number of entries. Assumes nothing.
use borrow.Author.Tests.{eq-eqb, ne_eqb}
use Rattle.sentence.specs.Sentence.{full_text}
use Rattle.sentence.proofs.sentence.put_full.Goals as goal
use Rattle.sentence.proofs.sentence.put_full.Goals.{then-entries-eq8, else-entries-eq8}

pub returns-clause-put : goal.returns-clause-put
unfolding full_text
returns-clause-put c = elim c.if-entries-eq8.branch [
  | then-entries-eq8 w ↦ rw (eq-eqb c.args.entries 8 w.if-entries-eq8.true) (rw w.pattern-is at c.put_filled.ensures.put)
  | else-entries-eq8 w ↦ rw (ne_eqb c.args.entries 8 w.if-entries-eq8.false) (rw w.pattern-is at c.put_filled.ensures.put)
]
