-- `state_bytes::layout::used_before` meets its contract. The loop's invariant: the sum over the processes passed. Assumes nothing.
use mathlib.Core.Path.{◌≡◌, refl}
use native.Mathlib.Numerals.{add-one}
use native.Mathlib.Omega.{arith}
use Rattle.lists.specs.Sum.{total}
use Rattle.lists.proofs.Sum.{total-suc}
use Rattle.state.specs.Layout.{used_before}
use Rattle.state_bytes.specs.Layout.{extent_before}
use Rattle.state_bytes.specs.State.{state_of}
use Rattle.state_bytes.specs.Widths.{process_count}
use Rattle.state_bytes.proofs.layout.used_before.Goals as goal

pub loop-q-init : goal.loop-q-init
unfolding total
loop-q-init c = (refl, omega arith)

pub extent_before-requires : goal.extent_before-requires
extent_before-requires c = record { q_lt_process_count = omega arith }

pub loop-q-preserved : goal.loop-q-preserved
loop-q-preserved c =
    let q = c.loop-q.q in
    (rw (add-one q) (omega (arith, total-suc (extent_before (state_of c.args.state.now) c.args.start) q, c.extent_before.ensures, c.loop-q.invariant.0)), omega arith)

pub returns : goal.returns
unfolding used_before
returns c =
    let end : c.loop-q.q ≡ process_count = omega arith in
    rw end at c.loop-q.invariant.0
