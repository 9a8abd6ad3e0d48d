-- `decimal::number::Number::digits` meets its contract. The loop's invariant: what is left of the digits completes their value. Assumes nothing.
use mathlib.Core.Path.{◌≡◌, sym, ap, ◌∙◌}
use Prim.Native.Nat.{ℕ, ◌+◌, ◌-◌, ◌*◌, ◌<◌}
use native.Mathlib.Omega.{arith}
use lib.ListN.{length, take, drop, get_or}
use Rattle.decimal.specs.Numeral.{digit_of, digits_of, value_from, plain}
use Rattle.decimal.specs.Read.{checked}
use Rattle.decimal.proofs.ReadLaws.{stops-here, stops_end, value-turn, length-turn, all_read, too_much}
use Rattle.decimal.proofs.number.Number.digits.Goals as goal

pub returns-in_default : goal.returns-in_default
returns-in_default c =
    let h : c.loop-i.i < length c.args.line.now = omega arith in
    let none = stops-here c.args.line.now c.loop-i.i h c.in_default.ensures in
    c.checked.ensures ∙ all_read c.args.most c.args.at c.args.line.now c.loop-i.value c.loop-i.i c.loop-i.invariant.1 c.loop-i.invariant.2 none c.loop-i.invariant.0

pub returns-then-most-value : goal.returns-then-most-value
returns-then-most-value c =
    let h : c.loop-i.i < length c.args.line.now = omega arith in
    let e = c.in-Some.ensures.0 in
    let rest = digits_of (drop (c.loop-i.i + 1) c.args.line.now) in
    let some : digit_of (get_or c.args.line.now c.loop-i.i 0) ≡ 10 → ⊥ = λ q. omega (arith, q, c.in-Some.ensures.0, c.in-Some.ensures.1) in
    let same : value_from (10 * c.loop-i.value + c.in-Some.v) rest ≡ value_from 0 (digits_of (drop c.args.at c.args.line.now)) =
    ap (λ (k : ℕ). value_from (10 * c.loop-i.value + k) rest) e ∙ sym (value-turn c.args.line.now c.loop-i.i h c.loop-i.value some) ∙ c.loop-i.invariant.1 in
    c.wrong.ensures ∙ too_much c.args.most c.args.at c.args.line.now _ rest same c.if-most-value.true

pub loop-i-preserved : goal.loop-i-preserved
loop-i-preserved c =
    let h : c.loop-i.i < length c.args.line.now = omega arith in
    let e = c.in-Some.ensures.0 in
    let rest = digits_of (drop (c.loop-i.i + 1) c.args.line.now) in
    let some : digit_of (get_or c.args.line.now c.loop-i.i 0) ≡ 10 → ⊥ = λ q. omega (arith, q, c.in-Some.ensures.0, c.in-Some.ensures.1) in (
      omega (arith, c.if-most-value.false),
      ap (λ (k : ℕ). value_from (10 * c.loop-i.value + k) rest) e ∙ sym (value-turn c.args.line.now c.loop-i.i h c.loop-i.value some) ∙ c.loop-i.invariant.1,
      sym (length-turn c.args.line.now c.loop-i.i h some) ∙ c.loop-i.invariant.2,
    )

pub returns : goal.returns
returns c =
    let line = c.args.line.now in
    let at = c.args.at in
    let end : length line ≡ c.loop-i.i = omega arith in
    c.checked-2.ensures
    ∙ ap (λ (n : ℕ). checked (plain (take (n - at) (drop at line))) c.loop-i.value n) end
    ∙ all_read c.args.most at line c.loop-i.value c.loop-i.i c.loop-i.invariant.1 c.loop-i.invariant.2 (stops_end line c.loop-i.i (omega arith)) c.loop-i.invariant.0
