-- `decimal::number::digit` meets its contract, by the tests of the character. Assumes nothing.
use mathlib.Core.Path.{sym}
use native.Mathlib.Omega.{arith}
use Rattle.decimal.proofs.NumeralLaws.{digit_of-below, digit_of-above, digit_of-among}
use Rattle.decimal.proofs.number.digit.Goals as goal

pub returns-in-48-to-57 : goal.returns-in-48-to-57
returns-in-48-to-57 c = (digit_of-among c.args.c (omega arith) (omega arith), omega arith)

pub returns-in_default : goal.returns-in_default
returns-in_default c = sym (digit_of-below c.args.c (omega arith))

pub returns-in_default-2 : goal.returns-in_default-2
returns-in_default-2 c = sym (digit_of-above c.args.c (omega arith) (omega arith))
