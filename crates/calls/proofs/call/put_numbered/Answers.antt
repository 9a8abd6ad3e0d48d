-- `calls::call::put_numbered` meets its contract: the number, and the text after it. Assumes nothing.
use mathlib.Core.List.{◌++◌}
use native.Mathlib.Omega.{arith}
use lib.ListN.{length-append}
use Rattle.lines.proofs.PutLaws.{put_then}
use Rattle.decimal.specs.Numeral.{numeral}
use Rattle.decimal.proofs.NumeralLaws.{five-digits}
use Rattle.calls.proofs.MeaningLaws.{prints-put}
use Rattle.calls.proofs.call.put_numbered.Goals as goal

pub returns : goal.returns
returns c =
    let n = c.args.number in
    let rest = c.args.rest.now in
    let short = five-digits n (omega arith) in
    prints-put (numeral n ++ rest) _ _ _ (omega (arith, short, length-append (numeral n) rest, c.requires))
    (put_then 0 c.put_number-at.result _ (numeral n) rest c.args.out.now _ _ c.put_number-at.ensures.put c.put.ensures)
