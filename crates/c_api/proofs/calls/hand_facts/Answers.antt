-- `c_api::calls::hand_facts` meets its contract: two numbers, each put in its place. Assumes nothing.
use Rattle.c_api.proofs.QueryLaws.{two-put}
use Rattle.c_api.proofs.calls.hand_facts.Goals as goal

pub returns : goal.returns
returns c = two-put c.args.facts.now c.args.two c.requires c.well_formed.0.1.0.1
