-- `decimal::width::U8Width::wide` meets its contract: the numeral has at most three digits. Assumes nothing.
use native.Mathlib.Omega.{arith}
use Rattle.decimal.proofs.NumeralLaws.{three-digits}
use Rattle.decimal.proofs.width.U8Width.wide.Goals as goal

pub returns-clause-upper_bound : goal.returns-clause-upper_bound
returns-clause-upper_bound c = three-digits c.from.result (omega arith)
