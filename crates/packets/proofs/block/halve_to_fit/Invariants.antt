-- `packets::block::halve_to_fit` meets its contract. The loop's invariant: the lengths that are left lead to the block. Assumes nothing.
use mathlib.Core.Path.{◌≡◌}
use mathlib.Core.Bool.{true}
use Prim.Native.Nat.{ℕ, ◌^◌, ◌<◌}
use Rattle.packets.specs.Block.{none_or_sendable, halved_to_fit}
use Rattle.packets.proofs.block.halve_to_fit.Given as goal

abbrev pub invariant-loop-count : goal.invariant-loop-count
invariant-loop-count l = (k : ℕ) × (l.count.0 < 2 ^ k) × (none_or_sendable l.count.0 ≡ true) × (halved_to_fit k l.size l.at l.count ≡ halved_to_fit 6 l.size l.at l.initial.count)

abbrev pub decreases-loop-count : goal.decreases-loop-count
decreases-loop-count l = l.count.0
