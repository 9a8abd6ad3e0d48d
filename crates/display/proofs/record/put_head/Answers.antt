-- `display::record::put_head` meets its contract: three numbers. Assumes nothing.
use mathlib.Core.Path.{◌≡◌, ap, ◌∙◌}
use mathlib.Core.List.{◌++◌}
use Prim.Native.Nat.{ℕ}
use native.Mathlib.Omega.{arith}
use Rattle.lists.specs.Flag.{flag}
use Rattle.lines.proofs.PutLaws.{put_then, put_as}
use Rattle.decimal.specs.Numeral.{numeral, field}
use Rattle.display.specs.Line.{head_text}
use Rattle.display.proofs.record.put_head.Goals as goal

pub returns : goal.returns
unfolding head_text
returns c =
    let out1 = c.put_number-first.new.out in
    let out2 = c.put_field-second.new.out in
    let out3 = c.put_field.new.out in
    let t1 = numeral c.flag.result in
    let t2 = t1 ++ field 32 c.args.host in
    let t3 = field 32 c.number.result in
    let p2 = put_then 0 c.put_number-first.result c.put_field-second.result t1 (field 32 c.args.host) c.args.out.now out1 out2 c.put_number-first.ensures.put c.put_field-second.ensures.put in
    let p3 = put_then 0 c.put_field-second.result c.put_field.result t2 t3 c.args.out.now out2 out3 p2 c.put_field.ensures.put in
    let same : t2 ++ t3 ≡ head_text c.args.there c.args.host c.args.run =
    ap (λ (n : ℕ). (numeral n ++ field 32 c.args.host) ++ t3) c.flag.ensures
    ∙ ap (λ (n : ℕ). (numeral (flag c.args.there) ++ field 32 c.args.host) ++ field 32 n) c.number.ensures in record {
      put = put_as 0 c.put_field.result (t2 ++ t3) (head_text c.args.there c.args.host c.args.run) c.args.out.now out3 same p3;
      upper_bound = omega (arith, c.put_number-first.ensures.upper_bound, c.put_field-second.ensures.upper_bound, c.put_field.ensures.upper_bound);
    }
