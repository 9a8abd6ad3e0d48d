-- `fields::write::put_after_blank` meets its contract: a blank, and the number. Assumes nothing.
use mathlib.Core.Path.{◌∙◌}
use Prim.Native.Nat.{◌+◌}
use native.Mathlib.Omega.{arith}
use lib.ListN.{set, length-set}
use Rattle.fields.specs.Hex.{hex_numeral}
use Rattle.fields.specs.Written.{blank_numeral}
use Rattle.fields.proofs.WriteLaws.{put-after-one, put-length}
use Rattle.fields.proofs.write.put_after_blank.Goals as goal

pub put_number-requires : goal.put_number-requires
put_number-requires c = simp length-set (omega arith)

pub shape_of-out : goal.shape_of-out
shape_of-out c =
    put-length (c.args.at + 1) c.put_number.result (hex_numeral c.args.n) (set c.args.out.now c.args.at 32) c.put_number.new.out c.put_number.ensures.put ∙ simp length-set

pub returns : goal.returns
unfolding blank_numeral
returns c =
    record {
      put = put-after-one c.args.at 32 c.put_number.result (hex_numeral c.args.n) c.args.out.now c.put_number.new.out c.put_number.ensures.put;
      upper_bound = omega (arith, c.put_number.ensures.upper_bound);
    }
