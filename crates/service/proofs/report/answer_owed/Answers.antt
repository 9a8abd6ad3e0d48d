-- `service::report::answer_owed` meets its contract: nothing is owed and nothing written, or the line of the letter that is owed. Assumes
-- nothing.
use mathlib.Core.Path.{refl}
use Rattle.lists.specs.Buffer.{overlay}
use Rattle.fields.specs.Answer.{answer_fields}
use Rattle.rules.specs.TextRule.{owed_line}
use Rattle.service.proofs.report.answer_owed.Goals as goal

pub returns-then-not-owes : goal.returns-then-not-owes
unfolding owed_line overlay
returns-then-not-owes c = rw (← c.owes.ensures, c.if-not-owes.true) (refl, refl)

pub returns : goal.returns
unfolding owed_line answer_fields
returns c =
    rw (← c.owes.ensures, c.if-not-owes.false, ← c.status.ensures, ← c.letter-letter.ensures)
    (c.write_answer.ensures.value, c.write_answer.ensures.out_after)
