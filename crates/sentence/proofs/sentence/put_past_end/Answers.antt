-- `sentence::sentence::put_past_end` meets its contract, by the op code. Assumes nothing.
use borrow.Author.Tests.{eq-eqb, ne_eqb}
use Rattle.ops.specs.Codes.{DEPOSIT-VECTOR}
use Rattle.sentence.specs.Sentence.{past_end_text}
use Rattle.sentence.proofs.sentence.put_past_end.Goals as goal
use Rattle.sentence.proofs.sentence.put_past_end.Goals.{then-h-eq-DEPOSIT_VECTOR, else-h-eq-DEPOSIT_VECTOR}

pub returns-clause-put : goal.returns-clause-put
unfolding past_end_text
returns-clause-put c = elim c.if-h-eq-DEPOSIT_VECTOR.branch [
  | then-h-eq-DEPOSIT_VECTOR w ↦ rw (eq-eqb c.args.h.cmd DEPOSIT-VECTOR w.if-h-eq-DEPOSIT_VECTOR.true) (rw w.pattern-is at c.put_filled.ensures.put)
  | else-h-eq-DEPOSIT_VECTOR w ↦ rw (ne_eqb c.args.h.cmd DEPOSIT-VECTOR w.if-h-eq-DEPOSIT_VECTOR.false) (rw w.pattern-is at c.put_filled.ensures.put)
]
