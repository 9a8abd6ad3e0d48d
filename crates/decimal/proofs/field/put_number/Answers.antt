-- `decimal::field::put_number` meets its contract: the numeral of the same number. Assumes nothing.
use mathlib.Core.Path.{ap}
use native.Mathlib.Omega.{arith}
use Rattle.lines.proofs.PutLaws.{put_as}
use Rattle.decimal.specs.Numeral.{numeral}
use Rattle.decimal.proofs.NumeralLaws.{numeral-fits, numeral-ends}
use Rattle.decimal.proofs.field.put_number.Goals as goal

pub put_numeral-requires : goal.put_numeral-requires
put_numeral-requires g c = numeral-fits _ _ _ _ _ (omega arith) c.wide.ensures.upper_bound (omega arith)

pub returns : goal.returns
returns g c =
    record {
      put = put_as c.args.at c.put_numeral.result _ _ c.args.out.now c.put_numeral.new.out (ap numeral (omega (arith, c.wide.ensures.value))) c.put_numeral.ensures;
      upper_bound = numeral-ends _ _ _ _ _ _ _ (omega arith) c.wide.ensures.upper_bound c.put_numeral.ensures;
    }
