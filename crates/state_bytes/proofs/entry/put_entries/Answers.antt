-- `state_bytes::entry::put_entries` meets its contract. The loop's invariant: the entries passed are laid over the bytes. Assumes nothing.
use Rattle.std.proofs.Common.{◌≡◌, refl, ap, ◌∙◌, List, ◌+◌, ◌*◌, ◌<◌, length, take, arith, rules}
use lib.Seq.{take_all}
use Rattle.lists.specs.Buffer.{overlay}
use Rattle.lists.specs.Joined.{joined}
use Rattle.breakpoints.specs.Entry.{free}
use Rattle.state_bytes.specs.Entry.{entry_bytes}
use Rattle.state_bytes.specs.Widths.{entry_count, entry_width}
use Rattle.state_bytes.proofs.ChunkLaws.{joined_step, length-joined-more}
use Rattle.state_bytes.proofs.EntryLaws.{length-entry_bytes}
use Rattle.state_bytes.proofs.entry.put_entries.Goals as goal

pub loop-k-init : goal.loop-k-init
unfolding joined overlay
loop-k-init c = (refl, refl)

pub loop-k-preserved : goal.loop-k-preserved
loop-k-preserved c =
    let all = c.args.entries.now in
    let k = c.loop-k.k in
    let h : k < length all = search rules in
    let laid = joined_step entry_bytes all k (entry_width * k) free c.args.bytes.now c.loop-k.bytes c.put_entry.new.bytes h c.loop-k.invariant.0 c.loop-k.invariant.1 c.put_entry.ensures in
    let long : length (joined entry_bytes (take (k + 1) all)) ≡ entry_width * (k + 1) = length-joined-more entry_width entry_bytes all k (entry_width * k) free h c.loop-k.invariant.0 (length-entry_bytes _) ∙ omega arith in
    (long, laid)

pub returns : goal.returns
returns c =
    let all = c.args.entries.now in
    let size : length all ≡ entry_count = search rules in
    c.loop-k.invariant.1 ∙ ap (λ (xs : List _). overlay (joined entry_bytes xs) c.args.bytes.now) (take_all c.loop-k.k all (omega arith))
