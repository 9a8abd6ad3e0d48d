-- `c_api::calls::words_of` meets its contract: the copy is the 18 bytes. Assumes nothing.
use mathlib.Core.Path.{ap, ◌∙◌}
use Rattle.lists.specs.Word.{vector_of}
use Rattle.c_api.proofs.calls.words_of.Goals as goal

pub returns : goal.returns
returns c = c.vector_of.ensures ∙ ap vector_of c.copy_from_slice.ensures.after
