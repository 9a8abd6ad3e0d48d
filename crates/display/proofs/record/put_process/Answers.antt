-- `display::record::put_process` meets its contract: the record, where its bytes begin and a newline. Assumes nothing.
use mathlib.Core.Path.{ap}
use mathlib.Core.List.{[], ◌∷◌, ◌++◌}
use Prim.Native.Nat.{◌+◌, ◌≤◌}
use native.Mathlib.Omega.{arith}
use lib.ListN.{length}
use Rattle.lines.proofs.PutLaws.{put_one, put_as, put_then, put_whole}
use Rattle.display.specs.Line.{named, begin_name, begin_shown, record_text, process_line}
use Rattle.display.proofs.record.put_process.Goals as goal

pub returns : goal.returns
unfolding process_line
returns c =
    let end = c.put_named-end.result in
    let out1 = c.put_record-record.new.out in
    let out2 = c.put_named-end.new.out in
    let out3 = c.put_mark.new.out in
    let begin = named begin_name (begin_shown c.args.p.there c.args.start) in
    let shown = put_as c.put_record-record.result end (named begin_name c.begin_shown.result) begin out1 out2 (ap (named begin_name) c.begin_shown.ensures) c.put_named-end.ensures.put in
    let both = put_then 0 c.put_record-record.result end (record_text c.args.p) begin c.args.out.now out1 out2 c.put_record-record.ensures.put shown in
    let line = put_then 0 end (end + 1) (record_text c.args.p ++ begin) (10 ∷ []) c.args.out.now out2 out3 both (put_one end 10 out2 out3 c.put_mark.ensures) in
    let room : length (process_line c.args.p c.args.start) ≤ length c.args.out.now = omega (arith, line.0, c.put_record-record.ensures.upper_bound, c.put_named-end.ensures.upper_bound, c.requires) in
    let whole = put_whole (end + 1) (process_line c.args.p c.args.start) c.args.out.now out3 room line in
    record {
      value = whole.0;
      upper_bound = omega (arith, c.put_record-record.ensures.upper_bound, c.put_named-end.ensures.upper_bound, c.requires);
      out_after = whole.1;
    }
