-- `state_bytes::layout::is_placed` meets its contract, by its cases. Assumes nothing.
use Rattle.std.proofs.Common.{arith, ℕ, ap, ◌∙◌}
use Rattle.std.proofs.lemmas.Bool.Decides.{nat_tests}
use Rattle.state.specs.Layout.{used_before, placed}
use Rattle.state_bytes.specs.State.{state_of}
use Rattle.state_bytes.proofs.layout.is_placed.Goals as goal

pub returns-then-not-is_there : goal.returns-then-not-is_there
unfolding placed
returns-then-not-is_there c = grind (arith, nat_tests)

pub returns-then-used_before-start : goal.returns-then-used_before-start
unfolding placed
returns-then-used_before-start c =
    let before = c.used_before.ensures ∙ ap (λ (n : ℕ). used_before n (state_of c.args.state.now)) c.read_start-start.ensures in
    grind (arith, nat_tests)

pub returns-else-used_before-start : goal.returns-else-used_before-start
unfolding placed
returns-else-used_before-start c =
    let before = c.used_before.ensures ∙ ap (λ (n : ℕ). used_before n (state_of c.args.state.now)) c.read_start-start.ensures in
    grind (arith, nat_tests)
