-- `state_bytes::entry::entry_number` meets its contract: its number's bytes are the fields. Assumes nothing.
use Rattle.std.proofs.Common.{◌<◌, rules}
use Rattle.lists.specs.Flag.{flag}
use Rattle.state_bytes.specs.Entry.{entry_bytes}
use Rattle.state_bytes.proofs.NumberLaws.{packed-bytes, flag-byte}
use Rattle.state_bytes.proofs.entry.entry_number.Goals as goal

pub returns : goal.returns
unfolding entry_bytes
returns c =
    let b = c.args.entry in
    let byte-w : b.setter < 256 = search rules in
    let word-a : b.address < 65536 = search rules in
    let word-n : b.count < 65536 = search rules in
    let byte-l : b.low < 256 = search rules in
    let byte-h : b.high < 256 = search rules in
    rw (c.from.ensures, c.flag.ensures, c.from-2.ensures, c.from-3.ensures, c.from-4.ensures, c.from-5.ensures, c.from-6.ensures)
    (packed-bytes (flag b.lifted) b.setter b.address b.count b.low b.high (flag-byte b.lifted) byte-w word-a word-n byte-l byte-h)
