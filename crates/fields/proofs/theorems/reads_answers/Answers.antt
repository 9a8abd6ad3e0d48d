-- The theorem of `fields::theorems::reads_answers`. Assumes nothing.
use Rattle.fields.proofs.AnswerLaws.{reads-answers}
use Rattle.fields.proofs.theorems.reads_answers.Goals as goal

pub returns : goal.returns
returns c = reads-answers
