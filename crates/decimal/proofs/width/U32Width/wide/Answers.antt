-- `decimal::width::U32Width::wide` meets its contract: the numeral has at most ten digits. Assumes nothing.
use native.Mathlib.Omega.{arith}
use Rattle.decimal.proofs.NumeralLaws.{ten-digits}
use Rattle.decimal.proofs.width.U32Width.wide.Goals as goal

pub returns-clause-upper_bound : goal.returns-clause-upper_bound
returns-clause-upper_bound c = ten-digits c.from.result (omega arith)
