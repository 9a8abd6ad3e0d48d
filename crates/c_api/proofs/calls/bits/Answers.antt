-- `c_api::calls::bits` meets its contract, bit by bit. Assumes nothing.
use mathlib.Core.Path.{refl}
use Rattle.c_api.specs.Called.{bits_of}
use Rattle.c_api.proofs.calls.bits.Goals as goal

pub returns : goal.returns
unfolding bits_of
returns c = refl
