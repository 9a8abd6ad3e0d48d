-- `state_bytes::layout::used_bytes` meets its contract. The loop's invariant: the sum over the processes passed. Assumes nothing.
use mathlib.Core.Path.{◌≡◌}
use Prim.Native.Nat.{◌-◌, ◌*◌, ◌/◌, ◌≤◌}
use Rattle.lists.specs.Sum.{total}
use Rattle.state.specs.Layout.{extent_at}
use Rattle.state_bytes.specs.State.{state_of}
use Rattle.state_bytes.specs.Widths.{process_width, starts_at}
use Rattle.state_bytes.proofs.layout.used_bytes.Given as goal

abbrev pub invariant-loop-at : goal.invariant-loop-at
invariant-loop-at l = (l.at ≡ process_width * (l.at / process_width)) × (l.at ≤ starts_at) × (l.used ≡ total (extent_at (state_of l.state)) (l.at / process_width)) × (l.used ≤ 65535 * (l.at / process_width))

abbrev pub decreases-loop-at : goal.decreases-loop-at
decreases-loop-at l = starts_at - l.at
