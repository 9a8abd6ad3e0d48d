-- `text_door::answer::fail` meets its contract: the line of an answer that failed. Assumes nothing.
use native.Mathlib.Omega.{arith}
use borrow.Author.Tests.{le-ltb}
use Rattle.fields.specs.Answer.{answer_fields}
use Rattle.format.proofs.OutcomeLaws.{outcome-other}
use Rattle.rules.specs.TextRule.{failure}
use Rattle.text_door.proofs.answer.fail.Goals as goal

pub returns : goal.returns
unfolding answer_fields failure
returns c =
    rw (le-ltb c.args.refusal.0 100 c.requires.le_number, ← outcome-other c.args.refusal.0 0 (λ e. omega (arith, e, c.requires.le_number)), c.write_answer.ensures.out_after)
