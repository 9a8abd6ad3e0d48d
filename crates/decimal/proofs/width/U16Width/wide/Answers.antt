-- `decimal::width::U16Width::wide` meets its contract: the numeral has at most five digits. Assumes nothing.
use native.Mathlib.Omega.{arith}
use Rattle.decimal.proofs.NumeralLaws.{five-digits}
use Rattle.decimal.proofs.width.U16Width.wide.Goals as goal

pub returns-clause-upper_bound : goal.returns-clause-upper_bound
returns-clause-upper_bound c = five-digits c.from.result (omega arith)
