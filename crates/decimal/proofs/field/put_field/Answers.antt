-- `decimal::field::put_field` meets its contract: the same number after its mark. Assumes nothing.
use mathlib.Core.Path.{ap}
use mathlib.Core.List.{[], ◌∷◌}
use Prim.Native.Nat.{◌+◌}
use native.Mathlib.Omega.{arith}
use Rattle.lines.proofs.PutLaws.{put_one, put_then, put_as}
use Rattle.decimal.specs.Numeral.{field}
use Rattle.decimal.proofs.NumeralLaws.{numeral-fits, numeral-ends}
use Rattle.decimal.proofs.field.put_field.Goals as goal

pub put_numeral-requires : goal.put_numeral-requires
put_numeral-requires g c = numeral-fits _ _ _ _ _ (omega arith) c.wide.ensures.upper_bound (omega arith)

pub returns : goal.returns
unfolding field
returns g c =
    let mark = put_one c.args.at c.args.mark c.args.out.now c.put_mark.new.out c.put_mark.ensures in record {
      put = put_as c.args.at c.put_numeral.result _ _ c.args.out.now c.put_numeral.new.out (ap (field c.args.mark) (omega (arith, c.wide.ensures.value)))
          (put_then c.args.at (c.args.at + 1) c.put_numeral.result (c.args.mark ∷ []) _ c.args.out.now c.put_mark.new.out c.put_numeral.new.out mark c.put_numeral.ensures);
      upper_bound = numeral-ends _ _ _ _ _ _ _ (omega arith) c.wide.ensures.upper_bound c.put_numeral.ensures;
    }
