-- `decimal::number::is_plain` meets its contract, by how many digits there are. Assumes nothing.
use mathlib.Core.Path.{◌≡◌, sym, ap, ◌∙◌}
use mathlib.Core.Bool.{not}
use Prim.Native.Nat.{ℕ, ◌-◌}
use native.Mathlib.Nat.{add-zero}
use native.Mathlib.Omega.{arith}
use borrow.Author.Tests.{eq-eqb, le-ltb}
use lib.ListN.{drop, get_or, length-drop}
use lib.Seq.{get_or-drop}
use lib.Dec.{eqb}
use Rattle.decimal.proofs.ReadLaws.{plain-none, plain-single, plain-several}
use Rattle.decimal.proofs.number.is_plain.Goals as goal

pub returns-then-end-at-eq1 : goal.returns-then-end-at-eq1
returns-then-end-at-eq1 c =
    eq-eqb _ 1 c.if-end-at-eq1.true
    ∙ sym (plain-single (drop c.args.at c.args.line.now) _ c.if-end-at-eq1.true (omega (arith, length-drop c.args.at c.args.line.now, c.requires)))

pub returns-else-end-at-eq1 : goal.returns-else-end-at-eq1
returns-else-end-at-eq1 c =
    let rest = drop c.args.at c.args.line.now in
    let one : get_or c.args.line.now c.args.at 0 ≡ get_or rest 0 0 = sym (get_or-drop c.args.at c.args.line.now 0 0 ∙ ap (λ (k : ℕ). get_or c.args.line.now k 0) (add-zero c.args.at)) in
    ap (λ (k : ℕ). not (eqb k 48)) one
    ∙ sym (plain-several rest (c.args.end - c.args.at) (omega arith) (omega (arith, length-drop c.args.at c.args.line.now, c.requires)))

pub returns-else-at-end : goal.returns-else-at-end
returns-else-at-end c =
    le-ltb c.args.at c.args.end c.if-at-end.false
    ∙ sym (plain-none (drop c.args.at c.args.line.now) (c.args.end - c.args.at) (omega arith))
