-- `state_bytes::layout::lies_at` meets its contract, by the two cases. Assumes nothing.
use Rattle.std.proofs.Common.{arith, ◌+◌}
use Rattle.std.proofs.lemmas.Bool.Decides.{nat_tests}
use Rattle.state_bytes.specs.Widths.{there_at}
use Rattle.state_bytes.proofs.StateLaws.{absent-at, present-at}
use Rattle.state_bytes.proofs.layout.lies_at.Goals as goal

pub returns-then-state-at-eq0 : goal.returns-then-state-at-eq0
returns-then-state-at-eq0 c =
    let absent = absent-at c.args.state.now c.args.p (c.args.at + there_at) c.requires.p_lt_process_count (omega (arith, c.requires.at_value)) c.if-state-at-eq0.true in
    grind (arith, nat_tests)

pub returns-else-state-at-eq0 : goal.returns-else-state-at-eq0
returns-else-state-at-eq0 c =
    let there = present-at c.args.state.now c.args.p (c.args.at + there_at) c.requires.p_lt_process_count (omega (arith, c.requires.at_value)) c.if-state-at-eq0.false in
    grind (arith, nat_tests)
