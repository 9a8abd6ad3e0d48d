-- `fields::write::put_number` meets its contract: two characters, and the digits. Assumes nothing.
use mathlib.Core.Path.{◌∙◌}
use Prim.Native.Nat.{◌+◌}
use native.Mathlib.Omega.{arith}
use lib.ListN.{set, length-set}
use Rattle.fields.specs.Hex.{hex_digits, hex_numeral}
use Rattle.fields.proofs.WriteLaws.{put-after-two, put-length}
use Rattle.fields.proofs.write.put_number.Goals as goal

pub bounds-out-at-2 : goal.bounds-out-at-2
bounds-out-at-2 c = simp length-set (omega arith)

pub put_digits-requires : goal.put_digits-requires
put_digits-requires c = simp length-set (omega arith)

pub shape_of-out : goal.shape_of-out
shape_of-out c =
    put-length (c.args.at + 2) c.put_digits.result (hex_digits c.args.n) (set (set c.args.out.now c.args.at 48) (c.args.at + 1) 120) c.put_digits.new.out c.put_digits.ensures.put ∙ simp length-set

pub returns : goal.returns
unfolding hex_numeral
returns c =
    record {
      put = put-after-two c.args.at 48 120 c.put_digits.result (hex_digits c.args.n) c.args.out.now c.put_digits.new.out c.put_digits.ensures.put;
      upper_bound = omega (arith, c.put_digits.ensures.upper_bound);
    }
