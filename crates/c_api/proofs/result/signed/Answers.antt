-- `c_api::result::signed` meets its contract, by the outcome. Assumes nothing.
use mathlib.Core.Path.{◌≡◌, ◌∙◌, subst}
use Rattle.format.specs.Outcome.{number_of, length_of, is_granted}
use Rattle.c_api.specs.Called.{Short, signed}
use Rattle.c_api.proofs.SignLaws.{signed-small, small-fits}
use mir.Syntax.{w64}
use mir.Val.{to_z, of_z}
use borrow.Author.Rules.{rules}
use Rattle.c_api.proofs.result.signed.Goals as goal

pub overflow_cast-result : goal.overflow_cast-result
unfolding length_of
overflow_cast-result c = small-fits _ (subst Short c.in-Ok.is c.requires)

pub returns-in-Ok : goal.returns-in-Ok
unfolding signed number_of length_of is_granted
returns-in-Ok c = rw c.in-Ok.is (signed-small _ (subst Short c.in-Ok.is c.requires))

pub returns-in-Err : goal.returns-in-Err
unfolding signed number_of length_of is_granted
returns-in-Err c =
    let same : to_z w64 (of_z w64 c.minus.result) ≡ c.minus.result = search rules in
    rw c.in-Err.is (same ∙ c.minus.ensures)
