-- `fields::number::Number::digits` meets its contract. The loop's invariant: what is left of the digits completes their value. Assumes nothing.
use mathlib.Core.Path.{◌≡◌, sym, ap, ◌∙◌}
use mathlib.Core.Bool.{Bool}
use mathlib.Core.List.{[]}
use Prim.Native.Nat.{ℕ, ◌+◌, ◌*◌, ◌<◌}
use native.Mathlib.Omega.{arith}
use lib.ListN.{length, drop, get_or}
use Rattle.fields.specs.Hex.{hex_value, digits_of, value_from, checked}
use Rattle.fields.proofs.ReadLaws.{some_checked, part-long, part-here, stops-here, stops_end, value-turn, length-turn, all_read, too_much}
use Rattle.fields.proofs.number.Number.digits.Goals as goal
use Rattle.fields.proofs.number.Number.digits.Goals.{else-loop-c-test, then-loop-c-test+in_default}

pub returns-then-value-gt-MOST_BEFORE : goal.returns-then-value-gt-MOST_BEFORE
returns-then-value-gt-MOST_BEFORE c =
    let text = c.args.text.now in
    let i = c.loop-c.next in
    let h : i < length text = omega (arith, c.loop-c.invariant.here, part-long text c.args.at) in
    let e : c.in-Some.v ≡ hex_value (get_or text i 0) = c.in-Some.ensures.0 ∙ ap hex_value (part-here text c.args.at c.loop-c.c-index i c.loop-c-test.true c.loop-c.invariant.here) in
    let some : hex_value (get_or text i 0) ≡ 16 → ⊥ = λ q. omega (arith, e, q, c.in-Some.ensures.1) in
    let same = sym (value-turn text i h c.loop-c.value some) ∙ c.loop-c.invariant.same in
    too_much c.args.at text _ _ same (omega (arith, c.if-value-gt-MOST_BEFORE.true))

pub loop-c-preserved : goal.loop-c-preserved
loop-c-preserved c =
    let text = c.args.text.now in
    let i = c.loop-c.next in
    let h : i < length text = omega (arith, c.loop-c.invariant.here, part-long text c.args.at) in
    let e : c.in-Some.v ≡ hex_value (get_or text i 0) = c.in-Some.ensures.0 ∙ ap hex_value (part-here text c.args.at c.loop-c.c-index i c.loop-c-test.true c.loop-c.invariant.here) in
    let some : hex_value (get_or text i 0) ≡ 16 → ⊥ = λ q. omega (arith, e, q, c.in-Some.ensures.1) in
    record {
      here = omega (arith, c.loop-c.invariant.here);
      fits = omega (arith, c.in-Some.ensures.1, c.from.ensures, c.if-value-gt-MOST_BEFORE.false);
      same = ap (λ (k : ℕ). value_from (16 * c.loop-c.value + k) (digits_of (drop (i + 1) text))) (c.from.ensures ∙ e) ∙ sym (value-turn text i h c.loop-c.value some) ∙ c.loop-c.invariant.same;
      passed = sym (length-turn text i h some) ∙ c.loop-c.invariant.passed;
    }

pub returns : goal.returns
returns c =
    let text = c.args.text.now in
    let i = c.loop-c.next in
    let long = part-long text c.args.at in
    let none : digits_of (drop i text) ≡ [] =
    elim c.loop-c-test.branch [
      | else-loop-c-test w ↦ stops_end text i (omega (arith, c.loop-c.invariant.here, long, w.loop-c-test.false))
      | then-loop-c-test+in_default w ↦
          stops-here text i (omega (arith, c.loop-c.invariant.here, long, w.loop-c-test.true))
          (sym (ap hex_value (part-here text c.args.at c.loop-c.c-index i w.loop-c-test.true c.loop-c.invariant.here)) ∙ w.in_default.ensures)
    ] in
    c.then_some.ensures
    ∙ some_checked c.is_plain.result c.loop-c.value i
    ∙ ap (λ (t : Bool). checked t c.loop-c.value i) c.is_plain.ensures
    ∙ all_read c.args.at text c.loop-c.value i c.loop-c.invariant.same c.loop-c.invariant.passed none c.loop-c.invariant.fits
