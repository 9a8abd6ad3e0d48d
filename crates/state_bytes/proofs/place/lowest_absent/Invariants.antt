-- `state_bytes::place::lowest_absent` meets its contract. The loop's invariant: the first process that is not there is the first among those not passed. Assumes nothing.
use mathlib.Core.Path.{◌≡◌}
use mathlib.Core.Bool.{Bool, not}
use Prim.Native.Nat.{◌+◌, ◌*◌}
use lib.ListN.{drop}
use Rattle.lists.specs.First.{first}
use Rattle.process.specs.declared.record.Process.{Process}
use Rattle.state_bytes.specs.State.{state_of}
use Rattle.state_bytes.specs.Widths.{there_at, process_width}
use Rattle.state_bytes.proofs.place.lowest_absent.Given as goal

-- the process is not there
abbrev pub away : Process → Bool
away q = not q.there

abbrev pub invariant-loop-p : goal.invariant-loop-p
invariant-loop-p l = (l.there ≡ process_width * l.p + there_at) × (first away (state_of l.state).processes ≡ first away (drop l.p (state_of l.state).processes) + l.p)
