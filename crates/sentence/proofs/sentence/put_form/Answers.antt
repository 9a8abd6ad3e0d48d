-- `sentence::sentence::put_form` meets its contract, by the op code. Assumes nothing.
use borrow.Author.Tests.{eq-eqb, ne_eqb}
use Rattle.ops.specs.Codes.{CREATE}
use Rattle.sentence.specs.Sentence.{form_text}
use Rattle.sentence.proofs.sentence.put_form.Goals as goal
use Rattle.sentence.proofs.sentence.put_form.Goals.{then-h-eq-CREATE, else-h-eq-CREATE}

pub returns-clause-put : goal.returns-clause-put
unfolding form_text
returns-clause-put c = elim c.if-h-eq-CREATE.branch [
  | then-h-eq-CREATE w ↦ rw (eq-eqb c.args.h.cmd CREATE w.if-h-eq-CREATE.true) (rw w.pattern-is at c.put_filled.ensures.put)
  | else-h-eq-CREATE w ↦ rw (ne_eqb c.args.h.cmd CREATE w.if-h-eq-CREATE.false) (rw w.pattern-is at c.put_filled.ensures.put)
]
