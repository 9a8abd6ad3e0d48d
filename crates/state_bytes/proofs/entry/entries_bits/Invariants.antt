-- `state_bytes::entry::entries_bits` meets its contract. The loop's invariant: the bits so far, with those of the entries to come, are all. Assumes nothing.
use mathlib.Core.Path.{◌≡◌}
use Prim.Native.Nat.{◌-◌, ◌*◌}
use lib.ListN.{drop}
use Rattle.state_bytes.specs.Entry.{bits_with, entries_bits}
use Rattle.state_bytes.specs.Widths.{entry_count, entry_width}
use Rattle.state_bytes.proofs.entry.entries_bits.Given as goal

abbrev pub invariant-loop-k : goal.invariant-loop-k
invariant-loop-k l = bits_with l.bits (entry_count - l.k) (drop (entry_width * l.k) l.entries) ≡ entries_bits l.entries
