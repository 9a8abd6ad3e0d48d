-- `calls::packet::put_ack` meets its contract: the number, the type, the ID, the data words and the newline. Assumes nothing.
use mathlib.Core.List.{[], ◌∷◌, ◌++◌}
use Prim.Native.Nat.{◌+◌}
use native.Mathlib.Omega.{arith}
use Rattle.lists.specs.Joined.{joined}
use Rattle.lines.proofs.PutLaws.{put_one, put_then}
use Rattle.decimal.specs.Numeral.{numeral, field}
use Rattle.calls.specs.Packet.{word_text, ack_line}
use Rattle.calls.proofs.MeaningLaws.{prints-put}
use Rattle.calls.proofs.packet.put_ack.Goals as goal

pub returns : goal.returns
unfolding ack_line field
returns c =
    let words = c.args.words.now in
    let r1 = c.put_number-first.result in
    let r2 = c.put_field-second.result in
    let r3 = c.put_number-third.result in
    let r4 = c.put_words-end.result in
    let out = c.args.out.now in
    let out1 = c.put_number-first.new.out in
    let out2 = c.put_field-second.new.out in
    let out3 = c.put_mark.new.out in
    let out4 = c.put_number-third.new.out in
    let out5 = c.put_words-end.new.out in
    let out6 = c.put.new.out in
    let t1 = numeral c.args.number in
    let t2 = t1 ++ word_text 132 in
    let p2 = put_then 0 r1 r2 t1 (word_text 132) out out1 out2 c.put_number-first.ensures.put c.put_field-second.ensures.put in
    let id = put_then r2 (r2 + 1) r3 (32 ∷ []) (numeral c.args.id) out2 out3 out4 (put_one r2 32 out2 out3 c.put_mark.ensures) c.put_number-third.ensures.put in
    let t3 = t2 ++ word_text c.args.id in
    let p3 = put_then 0 r2 r3 t2 (word_text c.args.id) out out2 out4 p2 id in
    let t4 = t3 ++ joined word_text words in
    let p4 = put_then 0 r3 r4 t3 (joined word_text words) out out4 out5 p3 c.put_words-end.ensures.put in
    let p5 = put_then 0 r4 c.put.result t4 (10 ∷ []) out out5 out6 p4 c.put.ensures in
    prints-put (ack_line c.args.number c.args.id words) _ _ _
    (omega (arith, p5.0, c.put.ensures.0, c.put_words-end.ensures.upper_bound, c.put_number-third.ensures.upper_bound, c.put_field-second.ensures.upper_bound, c.put_number-first.ensures.upper_bound, c.requires)) p5
