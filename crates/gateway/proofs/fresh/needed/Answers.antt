-- `gateway::fresh::needed` meets its contract. The loop's invariant: the sum is that of the processes passed, each at most 65,535. Assumes nothing.
use mathlib.Core.Path.{◌≡◌, refl, ap₂}
use mathlib.Core.Bool.{Bool, true, false, cond}
use Prim.Native.Nat.{ℕ, ◌+◌, ◌≤◌}
use native.Mathlib.Numerals.{add-one}
use native.Mathlib.Omega.{arith}
use lib.ListN.{get_or}
use Rattle.lists.specs.Sum.{total}
use Rattle.state.specs.Fresh.{needed}
use borrow.Author.Rules.{rules}
use Rattle.gateway.proofs.fresh.needed.Invariants.{bytes_of}
use Rattle.gateway.proofs.fresh.needed.Goals as goal

cond_short : (t : Bool) (n : ℕ) → n ≤ 65535 → cond t n 0 ≤ 65535
cond_short true n h = h
cond_short false n h = omega arith

pub loop-p-init : goal.loop-p-init
unfolding total
loop-p-init c = (omega arith, search rules, refl, omega arith)

pub overflow_add-sum : goal.overflow_add-sum
overflow_add-sum c =
    let short : c.size_needed-sum.result ≤ 65535 = rw c.size_needed-sum.ensures (cond_short (get_or c.args.there c.loop-p.p false) c.size_of.result (omega arith)) in
    omega arith

pub loop-p-preserved : goal.loop-p-preserved
unfolding total
loop-p-preserved c =
    let short : c.size_needed-sum.result ≤ 65535 = rw c.size_needed-sum.ensures (cond_short (get_or c.args.there c.loop-p.p false) c.size_of.result (omega arith)) in
    let is : c.size_needed-sum.result ≡ bytes_of c.args.there c.args.sizes c.loop-p.p = rw c.size_of.ensures at c.size_needed-sum.ensures in
    (omega arith, c.loop-p.invariant.1, rw (add-one c.loop-p.p) (ap₂ (λ (x y : ℕ). x + y) c.loop-p.invariant.2 is), omega arith)

pub returns : goal.returns
unfolding needed
returns c =
    let end : c.loop-p.p ≡ 8 = omega arith in
    rw end at c.loop-p.invariant.2
