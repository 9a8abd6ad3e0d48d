-- `decimal::field::put_numeral` meets its contract: the fewest digits are the numeral. Assumes nothing.
use mathlib.Core.Path.{◌≡◌, ap, ◌∙◌}
use native.Mathlib.Omega.{arith}
use lib.ListN.{length, take}
use Rattle.lines.proofs.PutLaws.{put_as}
use Rattle.decimal.specs.Numeral.{numeral}
use Rattle.decimal.proofs.NumeralLaws.{fewest-numeral}
use Rattle.decimal.proofs.field.put_numeral.Goals as goal

pub put-requires : goal.put-requires
put-requires c =
    let text : take c.decimal-k.result c.decimal-k.new.out ≡ numeral c.args.n = c.decimal-k.ensures.digits ∙ fewest-numeral c.decimal-k.result c.args.n c.decimal-k.ensures.len in
    omega (arith, c.requires, ap length text)

pub returns : goal.returns
returns c =
    let text : take c.decimal-k.result c.decimal-k.new.out ≡ numeral c.args.n = c.decimal-k.ensures.digits ∙ fewest-numeral c.decimal-k.result c.args.n c.decimal-k.ensures.len in
    put_as c.args.at c.put.result _ _ c.args.out.now c.put.new.out text c.put.ensures
