-- `gateway::lengths::reply_length` meets its contract, by the cases. Assumes nothing.
use mathlib.Core.Path.{sym, ap, ◌∙◌}
use mathlib.Core.Bool.{Bool, cond}
use borrow.Author.Tests.{lt-ltb, le-ltb}
use native.Mathlib.Omega.{arith}
use Rattle.format.specs.Outcome.{number_of, length_of}
use Rattle.gateway.specs.Lengths.{reply_length}
use Rattle.gateway.proofs.lengths.reply_length.Goals as goal

pub returns-in-Ok : goal.returns-in-Ok
unfolding reply_length number_of length_of
returns-in-Ok c = sym (ap reply_length c.in-Ok.is)

pub returns-then-refusal-lt7 : goal.returns-then-refusal-lt7
unfolding reply_length number_of length_of
returns-then-refusal-lt7 c =
    let low = lt-ltb c.in-Err.refusal.0 7 (omega arith) in
    sym (ap reply_length c.in-Err.is ∙ ap (λ (t : Bool). cond t 0 10) low)

pub returns-else-refusal-lt7 : goal.returns-else-refusal-lt7
unfolding reply_length number_of length_of
returns-else-refusal-lt7 c =
    let high = le-ltb c.in-Err.refusal.0 7 (omega arith) in
    sym (ap reply_length c.in-Err.is ∙ ap (λ (t : Bool). cond t 0 10) high)
