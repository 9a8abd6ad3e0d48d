-- `gateway::lengths::line_length` meets its contract, by the cases. Assumes nothing.
use mathlib.Core.Path.{sym, ap, ◌∙◌}
use mathlib.Core.Bool.{Bool, cond}
use borrow.Author.Tests.{lt-ltb, le-ltb}
use native.Mathlib.Omega.{arith}
use Rattle.format.specs.Outcome.{Outcome}
use Rattle.format.specs.Outcome.{number_of, length_of}
use Rattle.gateway.specs.Lengths.{after_newline, line_length}
use Rattle.gateway.proofs.lengths.line_length.Goals as goal

pub returns-in-Ok : goal.returns-in-Ok
unfolding line_length number_of length_of
returns-in-Ok c = sym (ap (λ (o : Outcome). line_length o c.args.buffer.now) c.in-Ok.is)

pub returns-then-refusal-lt100 : goal.returns-then-refusal-lt100
unfolding line_length number_of length_of
returns-then-refusal-lt100 c =
    let b = c.args.buffer.now in
    let low = lt-ltb c.in-Err.refusal.0 100 (omega arith) in
    sym (ap (λ (o : Outcome). line_length o b) c.in-Err.is ∙ ap (λ (t : Bool). cond t 0 (after_newline b)) low)

pub returns-else-refusal-lt100 : goal.returns-else-refusal-lt100
unfolding line_length number_of length_of
returns-else-refusal-lt100 c =
    let b = c.args.buffer.now in
    let high = le-ltb c.in-Err.refusal.0 100 (omega arith) in
    c.after_newline.ensures ∙ sym (ap (λ (o : Outcome). line_length o b) c.in-Err.is ∙ ap (λ (t : Bool). cond t 0 (after_newline b)) high)
