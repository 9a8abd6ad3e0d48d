-- `format::header::put_string` meets its contract: the lent part comes back with the string in its place. Assumes nothing.
use Rattle.lists.proofs.Buffer.{paste-lent}
use Rattle.format.proofs.header.put_string.Goals as goal

pub returns : goal.returns
returns c = rw c.copy_from_slice.ensures.after (paste-lent 10 c.args.string.now c.args.buffer.now)
