-- `gateway::fresh::each_right` meets its contract. The loop's invariant: every process passed is absent or has a right size. Assumes nothing.
use mathlib.Core.Path.{◌≡◌}
use mathlib.Core.Bool.{Bool, true, false, not, ◌||◌}
use Prim.Native.Nat.{ℕ, ◌≤◌}
use mathlib.Core.List.{List}
use lib.ListN.{length, get_or}
use Rattle.lists.specs.Every.{below}
use Rattle.process.specs.Sizes.{valid_size}
use Rattle.gateway.proofs.fresh.each_right.Given as goal

-- process p is absent, or has a right size
abbrev pub right : List Bool → List ℕ → ℕ → Bool
right there sizes p = not (get_or there p false) || valid_size (get_or sizes p 0)

abbrev pub invariant-loop-p : goal.invariant-loop-p
invariant-loop-p l = (l.p ≤ 8) × (length l.there ≡ 8) × (below (right l.there l.sizes) l.p ≡ true)
