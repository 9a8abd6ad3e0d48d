-- `text_door::answer::respond` meets its contract: the line of an answer that did not fail. Assumes nothing.
use Rattle.fields.specs.Answer.{answer_fields}
use Rattle.text_door.proofs.answer.respond.Goals as goal

pub returns : goal.returns
unfolding answer_fields
returns c = rw (c.write_answer.ensures.value, c.write_answer.ensures.out_after)
