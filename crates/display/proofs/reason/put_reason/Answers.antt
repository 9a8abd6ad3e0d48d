-- `display::reason::put_reason` meets its contract: the text and a newline. Assumes nothing.
use mathlib.Core.List.{[], ◌∷◌}
use Prim.Native.Nat.{◌+◌, ◌≤◌}
use native.Mathlib.Omega.{arith}
use lib.ListN.{length}
use Rattle.lines.proofs.PutLaws.{put_one, put_then, put_whole}
use Rattle.display.specs.Reason.{reason_text, why_line}
use Rattle.display.proofs.reason.put_reason.Goals as goal

pub returns : goal.returns
unfolding why_line
returns c =
    let end = c.put_text-end.result in
    let out1 = c.put_text-end.new.out in
    let out2 = c.put_mark.new.out in
    let line = put_then 0 end (end + 1) (reason_text c.args.reason) (10 ∷ []) c.args.out.now out1 out2 c.put_text-end.ensures.put (put_one end 10 out1 out2 c.put_mark.ensures) in
    let room : length (why_line c.args.reason) ≤ length c.args.out.now = omega (arith, line.0, c.put_text-end.ensures.upper_bound, c.requires) in
    let whole = put_whole (end + 1) (why_line c.args.reason) c.args.out.now out2 room line in
    record {
      value = whole.0;
      upper_bound = omega (arith, c.put_text-end.ensures.upper_bound, c.requires);
      out_after = whole.1;
    }
