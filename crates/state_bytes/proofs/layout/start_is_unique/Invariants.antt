-- `state_bytes::layout::start_is_unique` meets its contract. The loop's invariant: none of the processes passed begins there. Assumes nothing.
use mathlib.Core.Path.{◌≡◌}
use mathlib.Core.Bool.{true, not}
use Prim.Native.Nat.{ℕ}
use Rattle.lists.specs.Every.{below}
use Rattle.state_bytes.specs.Layout.{begins_at}
use Rattle.state_bytes.specs.State.{state_of}
use Rattle.state_bytes.proofs.layout.start_is_unique.Given as goal

abbrev pub invariant-loop-q : goal.invariant-loop-q
invariant-loop-q l = below (λ (k : ℕ). not (begins_at (state_of l.state) l.start k)) l.q ≡ true
