-- `state_bytes::state_form::put_fresh_start` meets its contract: the records, then the starts, then the door. Assumes nothing.
use native.Mathlib.Omega.{arith}
use borrow.Author.Rules.{rules}
use lib.ListN.{length-set}
use Rattle.state_bytes.proofs.StateLaws.{fresh-bytes}
use Rattle.state_bytes.proofs.state_form.put_fresh_start.Goals as goal

pub shape_of-state : goal.shape_of-state
shape_of-state c = simp length-set (omega arith)

pub returns : goal.returns
returns c =
    fresh-bytes c.args.there c.args.sizes c.args.state.now c.put_fresh_processes.new.state c.put_fresh_starts.new.state c.args.door
    (search rules) (search rules) c.put_fresh_processes.ensures.sizes_len c.put_fresh_processes.ensures.state_after c.put_fresh_starts.ensures
