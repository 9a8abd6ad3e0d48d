-- `display::record::put_record` meets its contract: head, words, entries, size, watcher, number of breakpoints, owed answer, Go. Assumes nothing.
use mathlib.Core.List.{◌++◌}
use native.Mathlib.Omega.{arith}
use Rattle.lists.specs.Joined.{joined}
use Rattle.lines.proofs.PutLaws.{put_then}
use Rattle.display.specs.Line.{word_text, entry_text, head_text, named, size_name, watcher_name, set_name, owed_text, go_text, record_text}
use Rattle.display.proofs.record.put_record.Goals as goal

pub returns : goal.returns
unfolding record_text
returns c =
    let p = c.args.p in
    let out = c.args.out.now in
    let head = c.put_head-head in
    let words = c.put_words-words in
    let entries = c.put_entries-entries in
    let size = c.put_named-size in
    let watcher = c.put_named-watcher in
    let number = c.put_named-set in
    let answer = c.put_owed-answer in
    let t1 = head_text p.there p.host p.run in
    let p2 = put_then 0 head.result words.result t1 (joined word_text p.vector) out head.new.out words.new.out head.ensures.put words.ensures.put in
    let t2 = t1 ++ joined word_text p.vector in
    let p3 = put_then 0 words.result entries.result t2 (joined entry_text p.breaks) out words.new.out entries.new.out p2 entries.ensures.put in
    let t3 = t2 ++ joined entry_text p.breaks in
    let p4 = put_then 0 entries.result size.result t3 (named size_name p.size) out entries.new.out size.new.out p3 size.ensures.put in
    let t4 = t3 ++ named size_name p.size in
    let p5 = put_then 0 size.result watcher.result t4 (named watcher_name p.session.watcher) out size.new.out watcher.new.out p4 watcher.ensures.put in
    let t5 = t4 ++ named watcher_name p.session.watcher in
    let p6 = put_then 0 watcher.result number.result t5 (named set_name p.number) out watcher.new.out number.new.out p5 number.ensures.put in
    let t6 = t5 ++ named set_name p.number in
    let p7 = put_then 0 number.result answer.result t6 (owed_text p.session.owed) out number.new.out answer.new.out p6 answer.ensures.put in
    let t7 = t6 ++ owed_text p.session.owed in record {
      put = put_then 0 answer.result c.put_go.result t7 (go_text p.session.go) out answer.new.out c.put_go.new.out p7 c.put_go.ensures.put;
      upper_bound = omega arith;
    }
