-- `state_bytes::entry::read_entries` meets its contract, entry by entry. Assumes nothing.
use Rattle.std.proofs.Common.{◌≡◌, ℕ, ◌*◌, length, get_or, take, drop, sym, ◌∙◌, rules}
use Rattle.breakpoints.specs.declared.entry.Breakpoint.{Breakpoint}
use Rattle.breakpoints.specs.Entry.{free}
use Rattle.state_bytes.specs.Entry.{entry_of}
use Rattle.state_bytes.specs.Widths.{entry_count, entry_width}
use Rattle.state_bytes.proofs.ChunkLaws.{listed, listed-by, chunks-listed}
use Rattle.state_bytes.proofs.entry.read_entries.Goals as goal

pub returns : goal.returns
returns c =
    let m = c.args.entries.now in
    let read = c.from_fn.result in
    let size : length read ≡ entry_count = c.from_fn.ensures.items.long in
    let each = c.from_fn.ensures.items.each in
    let entry_at : ℕ → Breakpoint = λ k. entry_of (take entry_width (drop (entry_width * k) m)) in
    let first : get_or read 0 free ≡ entry_at 0 = search rules in
    let second : get_or read 1 free ≡ entry_at 1 = search rules in
    let third : get_or read 2 free ≡ entry_at 2 = search rules in
    let fourth : get_or read 3 free ≡ entry_at 3 = search rules in
    let fifth : get_or read 4 free ≡ entry_at 4 = search rules in
    let sixth : get_or read 5 free ≡ entry_at 5 = search rules in
    let seventh : get_or read 6 free ≡ entry_at 6 = search rules in
    let eighth : get_or read 7 free ≡ entry_at 7 = search rules in
    let whole : read ≡ listed (λ (k : ℕ). get_or read k free) entry_count = rw size at (listed-by free read) in
    whole ∙ rw (first, second, third, fourth, fifth, sixth, seventh, eighth) (sym (chunks-listed entry_width entry_of entry_count m))
