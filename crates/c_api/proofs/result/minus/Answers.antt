-- `c_api::result::minus` meets its contract. Assumes nothing.
use native.Mathlib.Omega.{arith}
use Rattle.c_api.proofs.SignLaws.{minus-small, minus-read}
use Rattle.c_api.proofs.result.minus.Goals as goal

pub overflow_sub-result : goal.overflow_sub-result
overflow_sub-result c = minus-small c.args.n (omega arith)

pub returns : goal.returns
returns c = minus-read c.args.n (omega arith)
