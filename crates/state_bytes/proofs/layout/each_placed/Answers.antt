-- `state_bytes::layout::each_placed` meets its contract. The loop's invariant: the processes passed are. Assumes nothing.
use mathlib.Core.Path.{◌≡◌, refl, sym, ◌∙◌}
use native.Mathlib.Omega.{arith}
use Rattle.lists.proofs.Every.{below_more, below_fails}
use Rattle.state.specs.Layout.{placed}
use Rattle.state_bytes.specs.State.{state_of}
use Rattle.state_bytes.specs.Widths.{process_count}
use Rattle.state_bytes.proofs.layout.each_placed.Goals as goal

pub loop-p-init : goal.loop-p-init
loop-p-init c = refl

pub is_placed-requires : goal.is_placed-requires
is_placed-requires c = record { p_lt_process_count = omega arith }

pub returns-then-not-is_placed : goal.returns-then-not-is_placed
returns-then-not-is_placed c =
    let m = c.args.state.now in
    sym (below_fails (placed (state_of m)) process_count c.loop-p.p (omega arith) (sym c.is_placed.ensures ∙ c.if-not-is_placed.true))

pub loop-p-preserved : goal.loop-p-preserved
loop-p-preserved c =
    let m = c.args.state.now in
    below_more (placed (state_of m)) c.loop-p.p c.loop-p.invariant (sym c.is_placed.ensures ∙ c.if-not-is_placed.false)

pub returns : goal.returns
returns c =
    let end : c.loop-p.p ≡ process_count = omega arith in
    sym (rw end at c.loop-p.invariant)
