-- `fields::write::write_fields` meets its contract: field after field. Assumes nothing.
use mathlib.Core.Path.{◌∙◌}
use Prim.Native.Nat.{◌+◌, ◌≤◌}
use native.Mathlib.Omega.{arith}
use lib.ListN.{set, length-set}
use Rattle.fields.specs.Hex.{hex_numeral}
use Rattle.fields.specs.Written.{blank_numeral, written, line_bytes}
use Rattle.fields.proofs.WriteLaws.{put-length, put-again-length, put-line, put_whole}
use Rattle.fields.proofs.write.write_fields.Goals as goal

pub bounds-out-at-2 : goal.bounds-out-at-2
bounds-out-at-2 c =
    let long = put-length 0 c.put_number-at.result (hex_numeral c.args.f.pid) c.args.out.now c.put_number-at.new.out c.put_number-at.ensures.put in
    simp length-set (omega (arith, long, c.put_number-at.ensures.upper_bound, c.requires))

pub put_after_blank-next-requires : goal.put_after_blank-next-requires
put_after_blank-next-requires c =
    let long = put-length 0 c.put_number-at.result (hex_numeral c.args.f.pid) c.args.out.now c.put_number-at.new.out c.put_number-at.ensures.put in
    simp length-set (omega (arith, long, c.put_number-at.ensures.upper_bound, c.requires))

pub put_after_blank-end-requires : goal.put_after_blank-end-requires
put_after_blank-end-requires c =
    let two = put-again-length c.put_number-at.result c.put_after_blank-next.result c.args.f.letter (hex_numeral c.args.f.pid) (blank_numeral c.args.f.third) c.args.out.now c.put_number-at.new.out c.put_after_blank-next.new.out c.put_number-at.ensures.put c.put_after_blank-next.ensures.put in
    omega (arith, two, c.put_number-at.ensures.upper_bound, c.put_after_blank-next.ensures.upper_bound, c.requires)

pub bounds-out-end : goal.bounds-out-end
bounds-out-end c =
    let two = put-again-length c.put_number-at.result c.put_after_blank-next.result c.args.f.letter (hex_numeral c.args.f.pid) (blank_numeral c.args.f.third) c.args.out.now c.put_number-at.new.out c.put_after_blank-next.new.out c.put_number-at.ensures.put c.put_after_blank-next.ensures.put in
    let three = put-length c.put_after_blank-next.result c.put_after_blank-end.result (blank_numeral c.args.f.fourth) c.put_after_blank-next.new.out c.put_after_blank-end.new.out c.put_after_blank-end.ensures.put in
    omega (arith, three, two, c.put_number-at.ensures.upper_bound, c.put_after_blank-next.ensures.upper_bound, c.put_after_blank-end.ensures.upper_bound, c.requires)

pub shape_of-out : goal.shape_of-out
shape_of-out c =
    let two = put-again-length c.put_number-at.result c.put_after_blank-next.result c.args.f.letter (hex_numeral c.args.f.pid) (blank_numeral c.args.f.third) c.args.out.now c.put_number-at.new.out c.put_after_blank-next.new.out c.put_number-at.ensures.put c.put_after_blank-next.ensures.put in
    let three = put-length c.put_after_blank-next.result c.put_after_blank-end.result (blank_numeral c.args.f.fourth) c.put_after_blank-next.new.out c.put_after_blank-end.new.out c.put_after_blank-end.ensures.put in
    length-set c.put_after_blank-end.new.out c.put_after_blank-end.result _ ∙ three ∙ two

pub returns : goal.returns
returns c =
    let f = c.args.f in
    let out = c.args.out.now in
    let one = c.put_number-at.new.out in
    let two = c.put_after_blank-next.new.out in
    let three = c.put_after_blank-end.new.out in
    let end = c.put_after_blank-end.result in
    let line = put-line f c.put_number-at.result c.put_after_blank-next.result end out one two three c.put_number-at.ensures.put c.put_after_blank-next.ensures.put c.put_after_blank-end.ensures.put in
    let short : end + 1 ≤ line_bytes = omega (arith, c.put_number-at.ensures.upper_bound, c.put_after_blank-next.ensures.upper_bound, c.put_after_blank-end.ensures.upper_bound) in
    let laid = put_whole (end + 1) (written f) out (set three end 10) (omega (arith, line.0, short, c.requires)) line in
    record {
      value = laid.0;
      upper_bound = short;
      out_after = laid.1;
    }
