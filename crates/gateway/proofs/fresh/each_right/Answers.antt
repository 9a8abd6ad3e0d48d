-- `gateway::fresh::each_right` meets its contract. The loop's invariant: every process passed is absent or has a right size. Assumes nothing.
use mathlib.Core.Path.{◌≡◌, refl, sym, ◌∙◌}
use native.Mathlib.Omega.{arith}
use borrow.Author.Rules.{rules}
use Rattle.lists.proofs.Every.{below_more, below_fails}
use Rattle.state.specs.Fresh.{each_right}
use Rattle.gateway.proofs.fresh.each_right.Invariants.{right}
use Rattle.gateway.proofs.fresh.each_right.Goals as goal

pub loop-p-init : goal.loop-p-init
loop-p-init c = (omega arith, search rules, refl)

pub returns-then-not-size_right : goal.returns-then-not-size_right
unfolding each_right
returns-then-not-size_right c =
    let is = rw c.size_of.ensures at c.size_right.ensures in
    sym (below_fails (right c.args.there c.args.sizes) 8 c.loop-p.p c.loop-p-test.true (sym is ∙ c.if-not-size_right.true))

pub loop-p-preserved : goal.loop-p-preserved
loop-p-preserved c =
    let is = rw c.size_of.ensures at c.size_right.ensures in
    (omega arith, c.loop-p.invariant.1, below_more (right c.args.there c.args.sizes) c.loop-p.p c.loop-p.invariant.2 (sym is ∙ c.if-not-size_right.false))

pub returns : goal.returns
unfolding each_right
returns c =
    let end : c.loop-p.p ≡ 8 = omega arith in
    sym (rw end at c.loop-p.invariant.2)
