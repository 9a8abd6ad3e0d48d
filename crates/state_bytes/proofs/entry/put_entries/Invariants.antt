-- `state_bytes::entry::put_entries` meets its contract. The loop's invariant: the entries passed are laid over the bytes. Assumes nothing.
use mathlib.Core.Path.{◌≡◌}
use Prim.Native.Nat.{◌*◌}
use lib.ListN.{length, take}
use Rattle.lists.specs.Buffer.{overlay}
use Rattle.state_bytes.specs.Entry.{entry_bytes}
use Rattle.state_bytes.specs.Widths.{entry_width}
use Rattle.lists.specs.Joined.{joined}
use Rattle.state_bytes.proofs.entry.put_entries.Given as goal

abbrev pub invariant-loop-k : goal.invariant-loop-k
invariant-loop-k l = (length (joined entry_bytes (take l.k l.entries)) ≡ entry_width * l.k) × (l.bytes ≡ overlay (joined entry_bytes (take l.k l.entries)) l.initial.bytes)
