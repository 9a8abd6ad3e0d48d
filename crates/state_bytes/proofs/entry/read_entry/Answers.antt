-- `state_bytes::entry::read_entry` meets its contract: the entry in the number of its piece. Assumes nothing.
use mathlib.Core.Path.{ap, ◌∙◌}
use Prim.Native.Nat.{◌+◌, ◌-◌, ◌*◌}
use native.Mathlib.Omega.{arith}
use lib.ListN.{take, drop}
use Rattle.state_bytes.specs.Entry.{entry_of, entry_of_number}
use Rattle.state_bytes.specs.Widths.{entry_width}
use Rattle.state_bytes.proofs.ChunkLaws.{bytes_take, bytes_drop, piece}
use Rattle.state_bytes.proofs.EntryLaws.{entry-of-u64}
use Rattle.state_bytes.proofs.entry.read_entry.Goals as goal

pub returns : goal.returns
returns c =
    let m = c.args.entries.now in
    let at = entry_width * c.args.k in
    let long = at + entry_width - at in
    c.entry_of_number.ensures
    ∙ ap entry_of_number c.u64_le.ensures
    ∙ entry-of-u64 (take long (drop at m)) (bytes_take long (drop at m) (bytes_drop at m (λ i. omega (arith, c.shared_slice_known-1.given i))))
    ∙ ap entry_of (piece entry_width at m)
