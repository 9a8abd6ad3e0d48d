-- `gateway::lengths::after_newline` meets its contract. The loop's invariant: the first newline is the first of what was not passed. Assumes nothing.
use mathlib.Core.Path.{◌≡◌}
use mathlib.Core.Bool.{Bool}
use Prim.Native.Nat.{ℕ, ◌+◌, ◌≤◌}
use lib.ListN.{length, drop}
use lib.Dec.{eqb}
use Rattle.lists.specs.First.{first}
use Rattle.gateway.proofs.lengths.after_newline.Given as goal

abbrev pub newline : ℕ → Bool
newline x = eqb x 10

abbrev pub invariant-loop-i : goal.invariant-loop-i
invariant-loop-i l = (l.i ≤ length l.buffer) × (first newline l.buffer ≡ first newline (drop l.i l.buffer) + l.i)
