-- `state_bytes::layout::each_placed` meets its contract. The loop's invariant: the processes passed are. Assumes nothing.
use mathlib.Core.Path.{◌≡◌}
use mathlib.Core.Bool.{true}
use Rattle.lists.specs.Every.{below}
use Rattle.state.specs.Layout.{placed}
use Rattle.state_bytes.specs.State.{state_of}
use Rattle.state_bytes.proofs.layout.each_placed.Given as goal

abbrev pub invariant-loop-p : goal.invariant-loop-p
invariant-loop-p l = below (placed (state_of l.state)) l.p ≡ true
