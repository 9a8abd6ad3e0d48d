-- `c_api::calls::eight` meets its contract, element by element. Assumes nothing.
use Rattle.c_api.proofs.StartLaws.{eight-elements}
use Rattle.c_api.proofs.calls.eight.Goals as goal

pub returns : goal.returns
returns c = eight-elements c.args.sizes.now c.requires
