-- `state_bytes::entry::entries_bits` meets its contract. The loop's invariant: the bits so far, with those of the entries to come, are all. Assumes nothing.
use Rattle.std.proofs.Common.{◌≡◌, arith}
use Rattle.state_bytes.specs.Entry.{bits_with}
use Rattle.state_bytes.specs.Widths.{entry_count}
use Rattle.state_bytes.proofs.EntryLaws.{bits-step}
use Rattle.state_bytes.proofs.entry.entries_bits.Goals as goal

pub loop-k-preserved : goal.loop-k-preserved
loop-k-preserved c =
    bits-step c.args.entries.now c.loop-k.k c.loop-k.bits _ _ (omega arith) c.u64_le-bits.ensures c.loop-k.invariant

pub returns : goal.returns
unfolding bits_with
returns c = let end : c.loop-k.k ≡ entry_count = omega arith in rw end at c.loop-k.invariant
