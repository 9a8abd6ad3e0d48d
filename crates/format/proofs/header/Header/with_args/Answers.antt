-- `format::header::Header::with_args` meets its contract, by computing. Assumes nothing.
use mathlib.Core.Path.{refl}
use Rattle.format.specs.Answer.{with_args}
use Rattle.format.proofs.header.Header.with_args.Goals as goal

pub returns : goal.returns
unfolding with_args
returns c = refl
