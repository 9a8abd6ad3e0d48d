-- `decimal::width::U64Width::wide` meets its contract: the numeral has at most twenty digits. Assumes nothing.
use native.Mathlib.Omega.{arith}
use Rattle.decimal.proofs.NumeralLaws.{twenty-digits}
use Rattle.decimal.proofs.width.U64Width.wide.Goals as goal

pub returns-clause-upper_bound : goal.returns-clause-upper_bound
returns-clause-upper_bound c = twenty-digits c.args.self (omega arith)
