-- `display::answer::put_answer` meets its contract: the number, the bytes and a newline, one after the other. Assumes nothing.
use mathlib.Core.List.{[], ◌∷◌, ◌++◌}
use Prim.Native.Nat.{◌+◌, ◌≤◌}
use native.Mathlib.Omega.{arith}
use lib.ListN.{length}
use Rattle.lines.specs.Hex.{spaced_or_dash}
use Rattle.lines.proofs.PutLaws.{put_one, put_then, put_whole}
use Rattle.decimal.specs.Numeral.{numeral}
use Rattle.display.specs.Answer.{answer_line}
use Rattle.display.proofs.answer.put_answer.Goals as goal

pub returns : goal.returns
unfolding answer_line
returns c =
    let out = c.args.out.now in
    let at = c.put_number-at in
    let end = c.put_reply-end in
    let last = c.put_mark.new.out in
    let text = numeral c.args.number ++ spaced_or_dash c.args.bytes.now in
    let both = put_then 0 at.result end.result (numeral c.args.number) (spaced_or_dash c.args.bytes.now) out at.new.out end.new.out at.ensures.put end.ensures.put in
    let line = put_then 0 end.result (end.result + 1) text (10 ∷ []) out end.new.out last both (put_one end.result 10 end.new.out last c.put_mark.ensures) in
    let room : length (answer_line c.args.number c.args.bytes.now) ≤ length out = omega (arith, line.0) in
    let whole = put_whole (end.result + 1) (answer_line c.args.number c.args.bytes.now) out last room line in
    record {
      value = whole.0;
      upper_bound = omega arith;
      out_after = whole.1;
    }
