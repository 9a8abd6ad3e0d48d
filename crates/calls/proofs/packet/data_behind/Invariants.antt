-- `calls::packet::data_behind` meets its contract. The loop's invariant: the words passed, and those that are left, are all. Assumes nothing.
use mathlib.Core.Path.{◌≡◌}
use mathlib.Core.List.{◌++◌}
use Prim.Native.Nat.{◌-◌}
use lib.ListN.{length, take}
use Rattle.calls.specs.Packet.{last_in, data_in}
use Rattle.calls.proofs.packet.data_behind.Given as goal

abbrev pub invariant-loop-len : goal.invariant-loop-len
invariant-loop-len l = (length l.words ≡ 64) × (last_in (64 - l.len) l.line l.last ≡ last_in 64 l.line l.initial.last) × (take l.len l.words ++ data_in (64 - l.len) l.line l.last ≡ data_in 64 l.line l.initial.last)
