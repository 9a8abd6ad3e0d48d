-- The theorem of `message::theorems::answers_are_granted`. Assumes nothing.
use Rattle.message.proofs.AnswerLaws.{answers-granted}
use Rattle.message.proofs.theorems.answers_are_granted.Goals as goal

pub returns : goal.returns
returns c = answers-granted
