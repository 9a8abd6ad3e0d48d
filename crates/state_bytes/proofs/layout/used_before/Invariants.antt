-- `state_bytes::layout::used_before` meets its contract. The loop's invariant: the sum over the processes passed. Assumes nothing.
use mathlib.Core.Path.{◌≡◌}
use Prim.Native.Nat.{◌*◌, ◌≤◌}
use Rattle.lists.specs.Sum.{total}
use Rattle.state_bytes.specs.Layout.{extent_before}
use Rattle.state_bytes.specs.State.{state_of}
use Rattle.state_bytes.proofs.layout.used_before.Given as goal

abbrev pub invariant-loop-q : goal.invariant-loop-q
invariant-loop-q l = (l.used ≡ total (extent_before (state_of l.state) l.start) l.q) × (l.used ≤ 65535 * l.q)
