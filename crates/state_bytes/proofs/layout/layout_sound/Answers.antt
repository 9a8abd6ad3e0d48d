-- `state_bytes::layout::layout_sound` meets its contract: in number order the processes are laid out; else the sum tells, and each process.
-- Assumes nothing.
use Rattle.std.proofs.Common.{arith, sym, ◌∙◌}
use Rattle.std.proofs.lemmas.Bool.Decides.{nat_tests}
use Rattle.state.specs.Layout.{laid_out}
use Rattle.state_bytes.specs.State.{state_of}
use Rattle.state_bytes.proofs.OrderLaws.{order-laid}
use Rattle.state_bytes.proofs.layout.layout_sound.Goals as goal

pub returns-then-in_number_order : goal.returns-then-in_number_order
returns-then-in_number_order c =
    c.if-in_number_order.true ∙ sym (order-laid (state_of c.args.state.now) c.requires.state_value (sym c.in_number_order.ensures ∙ c.if-in_number_order.true))

pub returns-then-used_bytes-le-CAPACITY : goal.returns-then-used_bytes-le-CAPACITY
unfolding laid_out
returns-then-used_bytes-le-CAPACITY c = grind (arith, nat_tests)

pub returns-else-used_bytes-le-CAPACITY : goal.returns-else-used_bytes-le-CAPACITY
unfolding laid_out
returns-else-used_bytes-le-CAPACITY c = grind (arith, nat_tests)
