-- `state_bytes::layout::in_number_order` meets its contract. The loop's invariant: the processes passed lie in number order, and end at their
-- sum. Assumes nothing.
use mathlib.Core.Path.{◌≡◌, refl, sym, ap, ◌∙◌}
use mathlib.Core.Bool.{true, false}
use Prim.Native.Nat.{ℕ}
use native.Mathlib.Numerals.{add-one}
use native.Mathlib.Omega.{arith}
use borrow.Author.Rules.{rules}
use lib.ListN.{length}
use lib.Dec.{leb}
use Rattle.lists.specs.Every.{below}
use Rattle.lists.specs.Sum.{total}
use Rattle.lists.proofs.Every.{below_more, below_fails}
use Rattle.lists.proofs.Sum.{total-suc}
use Rattle.state.specs.Layout.{capacity, extent_at, used}
use Rattle.state_bytes.specs.Layout.{lies_at, in_number_order}
use Rattle.state_bytes.specs.State.{state_of}
use Rattle.state_bytes.specs.Widths.{process_count, process_width, state_width}
use Rattle.state_bytes.proofs.ChunkLaws.{length-piece}
use Rattle.state_bytes.proofs.StateLaws.{extent-at}
use Rattle.state_bytes.proofs.layout.in_number_order.Invariants.{follows}
use Rattle.state_bytes.proofs.layout.in_number_order.Goals as goal

pub loop-p-init : goal.loop-p-init
unfolding total
loop-p-init c = (omega arith, refl, omega arith, refl)

pub lies_at-requires : goal.lies_at-requires
lies_at-requires c = record { p_lt_process_count = omega arith; at_value = c.loop-p.invariant.0 }

pub returns-then-not-lies_at : goal.returns-then-not-lies_at
unfolding in_number_order
returns-then-not-lies_at c =
    let g = state_of c.args.state.now in
    let p = c.loop-p.p in
    let here : follows g p ≡ false = ap (λ (n : ℕ). lies_at g n p) (sym c.loop-p.invariant.1) ∙ sym c.lies_at.ensures ∙ c.if-not-lies_at.true in
    rw (below_fails (follows g) process_count p (omega arith) here)

pub slice_bounds-read_extent-end : goal.slice_bounds-read_extent-end
slice_bounds-read_extent-end c = let size : length c.args.state.now ≡ state_width = search rules in omega (arith, c.loop-p.invariant.0)

pub read_extent-requires : goal.read_extent-requires
read_extent-requires c =
    let m = c.args.state.now in
    let size : length m ≡ state_width = search rules in
    omega (arith, length-piece process_width c.loop-p.at m (omega (arith, c.loop-p.invariant.0)))

pub overflow_add-used : goal.overflow_add-used
overflow_add-used c = omega (arith, c.loop-p-test.true, c.loop-p.invariant.2)

pub loop-p-preserved : goal.loop-p-preserved
loop-p-preserved c =
    let m = c.args.state.now in
    let g = state_of m in
    let p = c.loop-p.p in
    let here : follows g p ≡ true = ap (λ (n : ℕ). lies_at g n p) (sym c.loop-p.invariant.1) ∙ sym c.lies_at.ensures ∙ c.if-not-lies_at.false in
    let one = extent-at m p c.loop-p.at c.read_extent.result (omega arith) c.loop-p.invariant.0 c.read_extent.ensures in
    (omega (arith, c.loop-p.invariant.0), rw (add-one p) (omega (arith, total-suc (extent_at g) p, one, c.loop-p.invariant.1)), omega (arith, c.loop-p.invariant.2), below_more (follows g) p c.loop-p.invariant.3 here)

pub returns : goal.returns
unfolding in_number_order used
returns c =
    let end : c.loop-p.p ≡ process_count = omega arith in
    let all : below (follows (state_of c.args.state.now)) process_count ≡ true = rw end at c.loop-p.invariant.3 in
    rw all (ap (λ (n : ℕ). leb n capacity) (rw end at c.loop-p.invariant.1))
