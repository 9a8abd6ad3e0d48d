-- `state_bytes::layout::in_number_order` meets its contract. The loop's invariant: the processes passed lie in number order, and end at their
-- sum. Assumes nothing.
use mathlib.Core.Path.{◌≡◌}
use mathlib.Core.Bool.{Bool, true}
use Prim.Native.Nat.{ℕ, ◌*◌, ◌≤◌}
use Rattle.lists.specs.Every.{below}
use Rattle.lists.specs.Sum.{total}
use Rattle.state.specs.Records.{Records}
use Rattle.state.specs.Layout.{extent_at}
use Rattle.state_bytes.specs.Layout.{lies_at}
use Rattle.state_bytes.specs.State.{state_of}
use Rattle.state_bytes.specs.Widths.{process_width}
use Rattle.state_bytes.proofs.layout.in_number_order.Given as goal

-- process p begins where those with lower numbers end
abbrev pub follows : Records → ℕ → Bool
follows g p = lies_at g (total (extent_at g) p) p

abbrev pub invariant-loop-p : goal.invariant-loop-p
invariant-loop-p l = (l.at ≡ process_width * l.p) × (l.used ≡ total (extent_at (state_of l.state)) l.p) × (l.used ≤ 65535 * l.p) × (below (follows (state_of l.state)) l.p ≡ true)
