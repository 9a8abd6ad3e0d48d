-- `c_api::desk::hand_over` meets its contract: five words, each put in its place. Assumes nothing.
use native.Mathlib.Omega.{arith}
use lib.ListN.{length-set}
use Rattle.c_api.proofs.DeskLaws.{five-put}
use Rattle.c_api.proofs.desk.hand_over.Goals as goal

pub bounds-fields-4 : goal.bounds-fields-4
bounds-fields-4 c = simp length-set (omega arith)

pub returns : goal.returns
returns c = five-put c.args.fields.now _ _ _ _ _ c.requires
