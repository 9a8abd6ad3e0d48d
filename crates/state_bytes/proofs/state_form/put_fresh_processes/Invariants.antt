-- `state_bytes::state_form::put_fresh_processes` meets its contract. The loop's invariant: the processes passed are laid over the bytes. Assumes nothing.
use mathlib.Core.Path.{◌≡◌}
use Prim.Native.Nat.{◌*◌}
use lib.ListN.{length, take}
use Rattle.lists.specs.Buffer.{overlay}
use Rattle.lists.specs.Joined.{joined}
use Rattle.state.specs.Fresh.{fresh_processes}
use Rattle.state_bytes.specs.Process.{process_bytes}
use Rattle.state_bytes.specs.Widths.{process_count, process_width}
use Rattle.state_bytes.proofs.state_form.put_fresh_processes.Given as goal

abbrev pub invariant-loop-p : goal.invariant-loop-p
invariant-loop-p l = (length l.there ≡ process_count) × (length l.state ≡ length l.initial.state) × (l.at ≡ process_width * l.p) × (length (joined process_bytes (take l.p (fresh_processes l.there l.sizes))) ≡ l.at) × (l.state ≡ overlay (joined process_bytes (take l.p (fresh_processes l.there l.sizes))) l.initial.state)
