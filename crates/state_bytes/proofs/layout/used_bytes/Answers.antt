-- `state_bytes::layout::used_bytes` meets its contract. The loop's invariant: the sum over the processes passed. Assumes nothing.
use mathlib.Core.Path.{◌≡◌, refl}
use Prim.Native.Nat.{suc, ◌+◌, ◌/◌}
use native.Mathlib.Omega.{arith}
use Rattle.lists.specs.Sum.{total}
use Rattle.lists.proofs.Sum.{total-suc}
use Rattle.state.specs.Layout.{extent_at, used}
use Rattle.state_bytes.specs.State.{state_of}
use Rattle.state_bytes.specs.Widths.{process_count, process_width}
use Rattle.state_bytes.proofs.ChunkLaws.{length-piece}
use Rattle.state_bytes.proofs.StateLaws.{extent-at}
use Rattle.state_bytes.proofs.layout.used_bytes.Goals as goal

pub loop-at-init : goal.loop-at-init
unfolding total
loop-at-init c = (refl, omega arith, refl, omega arith)

pub slice_bounds-read_extent-end : goal.slice_bounds-read_extent-end
slice_bounds-read_extent-end c = omega (arith, c.loop-at.invariant.0, c.requires)

pub read_extent-requires : goal.read_extent-requires
read_extent-requires c = omega (arith, length-piece process_width c.loop-at.at c.args.state.now (omega (arith, c.loop-at.invariant.0, c.requires)))

pub overflow_add-used : goal.overflow_add-used
overflow_add-used c = omega (arith, c.loop-at.invariant.3)

pub loop-at-preserved : goal.loop-at-preserved
loop-at-preserved c =
    let m = c.args.state.now in
    let at = c.loop-at.at in
    let k = at / process_width in
    let more : (at + process_width) / process_width ≡ suc k = omega arith in
    let one = extent-at m k at c.read_extent.result (omega (arith, c.loop-at.invariant.0)) c.loop-at.invariant.0 c.read_extent.ensures in
    (omega (arith, more, c.loop-at.invariant.0), omega (arith, c.loop-at.invariant.0), rw more (omega (arith, total-suc (extent_at (state_of m)) k, one, c.loop-at.invariant.2)), omega (arith, more, c.loop-at.invariant.3))

pub returns : goal.returns
unfolding used
returns c =
    let end : c.loop-at.at / process_width ≡ process_count = omega (arith, c.loop-at.invariant.0, c.loop-at.invariant.1) in
    rw end at c.loop-at.invariant.2
