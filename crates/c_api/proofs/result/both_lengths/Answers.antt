-- `c_api::result::both_lengths` meets its contract, by the outcome. Assumes nothing.
use mathlib.Core.Path.{refl, subst}
use native.Mathlib.Omega.{arith}
use Rattle.format.specs.Outcome.{Outcome}
use Rattle.format.specs.Outcome.{length_of}
use Rattle.c_api.specs.Called.{Short, both_lengths}
use Rattle.c_api.proofs.result.both_lengths.Goals as goal

pub overflow_mul-result : goal.overflow_mul-result
unfolding both_lengths length_of
overflow_mul-result c = omega (arith, subst (λ (o : Outcome). Short (both_lengths o c.args.told.line)) c.in-Ok.is c.requires)

pub overflow_add-result : goal.overflow_add-result
unfolding both_lengths length_of
overflow_add-result c = omega (arith, subst (λ (o : Outcome). Short (both_lengths o c.args.told.line)) c.in-Ok.is c.requires)

pub returns-in-Ok : goal.returns-in-Ok
unfolding both_lengths
returns-in-Ok c = rw c.in-Ok.is refl

pub returns-in-Err : goal.returns-in-Err
unfolding both_lengths
returns-in-Err c = rw c.in-Err.is refl
