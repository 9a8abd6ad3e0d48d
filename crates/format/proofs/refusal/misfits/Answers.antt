use native.Mathlib.Omega.{arith}
use Rattle.std.proofs.Common.{rules}
use Rattle.format.specs.Refusal.{misfits}
use Rattle.format.proofs.TestLaws.{carried_length-≤}
use Rattle.format.proofs.refusal.misfits.Goals as goal

pub overflow_add-result : goal.overflow_add-result
overflow_add-result c = omega (arith, c.carried_length.ensures, carried_length-≤ c.args.f.carried c.args.h.arg2)

pub returns-then-not-fields_right : goal.returns-then-not-fields_right
unfolding misfits
returns-then-not-fields_right c = search rules

pub returns-else-not-fields_right : goal.returns-else-not-fields_right
unfolding misfits
returns-else-not-fields_right c = search rules
