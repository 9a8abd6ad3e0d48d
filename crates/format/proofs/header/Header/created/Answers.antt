-- `format::header::Header::created` meets its contract, by computing. Assumes nothing.
use mathlib.Core.Path.{refl}
use Rattle.format.specs.Answer.{created_of}
use Rattle.format.proofs.header.Header.created.Goals as goal

pub returns : goal.returns
unfolding created_of
returns c = refl
