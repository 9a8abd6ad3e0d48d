-- `message::answer::write_notice` meets its contract: the header and the vector after it are laid over the start of the buffer. Assumes nothing.
use mathlib.Core.Path.{◌≡◌, sym, ap, ap₂, ◌∙◌}
use mathlib.Core.List.{List}
use Prim.Native.Nat.{ℕ, ◌+◌, ◌*◌}
use lib.ListN.{length}
use Rattle.lists.specs.Word.{low_first}
use Rattle.lists.proofs.Word.{length-low_first}
use Rattle.std.proofs.Common.{Ok}
use Rattle.format.specs.Answer.{notice_of}
use Rattle.message.specs.Exchange.{wrote, sends}
use Rattle.format.specs.Layout.{header, written}
use Rattle.lists.proofs.Buffer.{paste-overlay}
use Rattle.message.proofs.answer.write_notice.Goals as goal

pub returns : goal.returns
unfolding sends written
returns c =
    let size : length (low_first c.args.vector) ≡ 18 = length-low_first c.args.vector ∙ ap (λ (k : ℕ). 2 * k) c.well_formed.1.1.1.1.0.1.0.1 in
    rw (c.put_string.ensures, c.put.ensures, c.notice-h.ensures, c.vector_bytes-bytes.ensures)
    (ap₂ (λ (k : ℕ) (b : List ℕ). wrote (Ok (10 + k)) b) (sym size) (paste-overlay (header (notice_of c.args.host c.args.kind c.args.pid c.args.reason)) (low_first c.args.vector) c.args.buffer.now))
