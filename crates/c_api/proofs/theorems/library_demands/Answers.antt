-- The theorem of `c_api::theorems::library_demands`. Assumes nothing.
use Rattle.c_api.proofs.LibraryLaws.{library-demands}
use Rattle.c_api.proofs.theorems.library_demands.Goals as goal

pub returns : goal.returns
returns c = library-demands
