-- `state_bytes::entry::put_entry` meets its contract: the bytes of its number are laid. Assumes nothing.
use Rattle.std.proofs.Common.{ap, ◌∙◌, List, ℕ}
use Rattle.lists.specs.Buffer.{overlay}
use Rattle.state_bytes.proofs.NumberLaws.{eight-low-first}
use Rattle.state_bytes.proofs.entry.put_entry.Goals as goal

pub returns : goal.returns
returns c =
    c.put.ensures
    ∙ ap (λ (b : List ℕ). overlay b c.args.bytes.now) (c.to_le_bytes.ensures ∙ eight-low-first c.entry_number.result ∙ c.entry_number.ensures)
