-- `lines::text::put` meets its contract: one copy. Assumes nothing.
use mathlib.Core.Path.{refl}
use Rattle.lines.proofs.PutLaws.{kept-copied}
use Rattle.lines.proofs.text.put.Goals as goal

pub returns : goal.returns
returns c = (refl, rw c.copy_from_slice.ensures.after (kept-copied c.args.at c.args.text.now c.args.out.now c.requires))
