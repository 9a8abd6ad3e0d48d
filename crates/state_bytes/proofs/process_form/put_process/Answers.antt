-- `state_bytes::process_form::put_process` meets its contract: its parts one after the other. Assumes nothing.
use mathlib.Core.Path.{◌≡◌, refl, sym, ap, ◌∙◌}
use mathlib.Core.List.{List, ◌++◌}
use Prim.Native.Nat.{ℕ}
use native.Mathlib.Omega.{arith}
use borrow.Author.Rules.{rules}
use lib.ListN.{length, length-append}
use Rattle.lists.specs.Buffer.{overlay}
use Rattle.lists.specs.Word.{low_first}
use Rattle.state_bytes.specs.Entry.{entry_bytes}
use Rattle.state_bytes.specs.Process.{head_bytes}
use Rattle.state_bytes.specs.Widths.{vector_at, vector_width, entries_at}
use Rattle.lists.specs.Joined.{joined}
use Rattle.lists.proofs.Buffer.{laid-part}
use Rattle.lists.proofs.Word.{length-low_first}
use Rattle.state_bytes.proofs.ProcessLaws.{length-process_bytes, process-parts}
use Rattle.state_bytes.proofs.process_form.put_process.Goals as goal

pub returns : goal.returns
returns c =
    let nine : length c.args.p.vector ≡ 9 = search rules in
    let words : length (low_first c.args.p.vector) ≡ vector_width = length-low_first c.args.p.vector ∙ omega (arith, nine) in
    let eight : length c.args.p.breaks ≡ 8 = search rules in
    let front = head_bytes c.args.p ++ low_first c.args.p.vector in
    let size : entries_at ≡ length front = sym (length-append (head_bytes c.args.p) (low_first c.args.p.vector) ∙ omega (arith, words)) in
    let one = laid-part (head_bytes c.args.p) (low_first c.args.p.vector) c.args.bytes.now c.put_head.new.bytes c.put.new.bytes vector_at refl c.put_head.ensures (rw c.vector_bytes.ensures at c.put.ensures) in
    let two = laid-part front (joined entry_bytes c.args.p.breaks) c.args.bytes.now _ c.put_entries.new.bytes entries_at size one c.put_entries.ensures in
    record {
      p_len = length-process_bytes c.args.p words eight;
      bytes_after = two ∙ ap (λ (l : List ℕ). overlay l c.args.bytes.now) (process-parts c.args.p);
    }
