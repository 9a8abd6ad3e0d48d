-- `sentence::sentence::put_want` meets its contract, by the op code. Assumes nothing.
use borrow.Author.Tests.{eq-eqb, ne_eqb}
use Rattle.ops.specs.Codes.{PROCEED}
use Rattle.sentence.specs.Sentence.{want_text}
use Rattle.sentence.proofs.sentence.put_want.Goals as goal
use Rattle.sentence.proofs.sentence.put_want.Goals.{then-h-eq-PROCEED, else-h-eq-PROCEED}

pub returns-clause-put : goal.returns-clause-put
unfolding want_text
returns-clause-put c = elim c.if-h-eq-PROCEED.branch [
  | then-h-eq-PROCEED w ↦ rw (eq-eqb c.args.h.cmd PROCEED w.if-h-eq-PROCEED.true) (rw w.pattern-is at c.put_filled.ensures.put)
  | else-h-eq-PROCEED w ↦ rw (ne_eqb c.args.h.cmd PROCEED w.if-h-eq-PROCEED.false) (rw w.pattern-is at c.put_filled.ensures.put)
]
