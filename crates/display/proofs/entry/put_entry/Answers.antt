-- `display::entry::put_entry` meets its contract: six fields. Assumes nothing.
use mathlib.Core.Path.{◌≡◌, ap, ◌∙◌}
use mathlib.Core.List.{◌++◌}
use Prim.Native.Nat.{ℕ}
use native.Mathlib.Omega.{arith}
use Rattle.lists.specs.Word.{word}
use Rattle.lists.specs.Flag.{flag}
use Rattle.lines.proofs.PutLaws.{put_then, put_as}
use Rattle.decimal.specs.Numeral.{field}
use Rattle.display.specs.Line.{entry_text}
use Rattle.breakpoints.specs.Entry.{in_use}
use Rattle.display.proofs.entry.put_entry.Goals as goal

pub returns : goal.returns
unfolding entry_text
returns c =
    let out1 = c.put_field-used.new.out in
    let out2 = c.put_field-address.new.out in
    let out3 = c.put_field-count.new.out in
    let out4 = c.put_field-saved.new.out in
    let out5 = c.put_field-lifted.new.out in
    let out6 = c.put_field.new.out in
    let t1 = field 32 c.flag.result in
    let t2 = t1 ++ field 58 c.args.b.address in
    let t3 = t2 ++ field 58 c.args.b.count in
    let t4 = t3 ++ field 58 c.word_of.result in
    let t5 = t4 ++ field 58 c.flag-2.result in
    let t6 = field 58 c.args.b.setter in
    let p2 = put_then c.args.from c.put_field-used.result c.put_field-address.result t1 (field 58 c.args.b.address) c.args.out.now out1 out2 c.put_field-used.ensures.put c.put_field-address.ensures.put in
    let p3 = put_then c.args.from c.put_field-address.result c.put_field-count.result t2 (field 58 c.args.b.count) c.args.out.now out2 out3 p2 c.put_field-count.ensures.put in
    let p4 = put_then c.args.from c.put_field-count.result c.put_field-saved.result t3 (field 58 c.word_of.result) c.args.out.now out3 out4 p3 c.put_field-saved.ensures.put in
    let p5 = put_then c.args.from c.put_field-saved.result c.put_field-lifted.result t4 (field 58 c.flag-2.result) c.args.out.now out4 out5 p4 c.put_field-lifted.ensures.put in
    let p6 = put_then c.args.from c.put_field-lifted.result c.put_field.result t5 t6 c.args.out.now out5 out6 p5 c.put_field.ensures.put in
    let f2 = field 58 c.args.b.address in
    let f3 = field 58 c.args.b.count in
    let f5 = field 58 c.flag-2.result in
    let used = flag (in_use c.args.b) in
    let saved = word c.args.b.high c.args.b.low in
    let same : t5 ++ t6 ≡ entry_text c.args.b =
    ap (λ (n : ℕ). ((((field 32 n ++ f2) ++ f3) ++ field 58 c.word_of.result) ++ f5) ++ t6) c.flag.ensures
    ∙ ap (λ (n : ℕ). ((((field 32 used ++ f2) ++ f3) ++ field 58 n) ++ f5) ++ t6) c.word_of.ensures
    ∙ ap (λ (n : ℕ). ((((field 32 used ++ f2) ++ f3) ++ field 58 saved) ++ field 58 n) ++ t6) c.flag-2.ensures in record {
      put = put_as c.args.from c.put_field.result (t5 ++ t6) (entry_text c.args.b) c.args.out.now out6 same p6;
      upper_bound = omega (arith, c.put_field-used.ensures.upper_bound, c.put_field-address.ensures.upper_bound, c.put_field-count.ensures.upper_bound, c.put_field-saved.ensures.upper_bound, c.put_field-lifted.ensures.upper_bound, c.put_field.ensures.upper_bound);
    }
