-- The theorem of `rules::theorems::owed_answers`. Assumes nothing.
use Rattle.rules.proofs.OwedLaws.{owed-answers}
use Rattle.rules.proofs.theorems.owed_answers.Goals as goal

pub returns : goal.returns
returns c = owed-answers
