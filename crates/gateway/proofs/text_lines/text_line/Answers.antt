-- `gateway::text_lines::text_line` meets its contract, stage by stage. Assumes nothing.
use mathlib.Core.Path.{◌≡◌, sym, ap, ◌∙◌}
use mathlib.Core.Bool.{true, false}
use Prim.Native.Nat.{◌≤◌, ◌<◌}
use native.Mathlib.Omega.{arith}
use borrow.Author.Tests.{not-true, not-false}
use Rattle.lists.specs.Buffer.{Bytes}
use Rattle.fields.specs.declared.read.Line.{Line}
use Rattle.fields.specs.Read.{line_of}
use Rattle.rules.specs.Tests.{lent, no_line_room}
use Rattle.rules.specs.Step.{text_line, step}
use Rattle.rules.specs.Turn.{single}
use Rattle.state_bytes.specs.State.{state_of}
use Rattle.gateway.specs.Called.{Did}
use Rattle.gateway.proofs.TextLaws.{line-unread, line-broken, line-beyond, line_known}
use Rattle.std.proofs.Common.{rules, Err}
use Rattle.format.proofs.OutcomeLaws.{unless-ok}
use Rattle.gateway.proofs.LentLaws.{lent-passes, finished-refused, line-fits, line-unfit, call-fit}
use Rattle.gateway.proofs.FinishLaws.{finished-unmoved}
use Rattle.gateway.proofs.text_lines.text_line.Goals as goal

pub returns-in_err-check_line_buffer_and_state : goal.returns-in_err-check_line_buffer_and_state
unfolding Did
returns-in_err-check_line_buffer_and_state c =
    let failed = sym c.check_line_buffer_and_state.ensures ∙ c.in_err-check_line_buffer_and_state.was in
    let given = c.from_residual.ensures in
    let same : c.from_residual.result ≡ Err c.in_err-check_line_buffer_and_state.field-0.0 = search rules in
    rw same
    (line-unfit c.args.state.now c.args.memory.now c.args.text.now c.args.out.now _ failed)

pub returns-then-not-line : goal.returns-then-not-line
unfolding Did step
returns-then-not-line c =
    let zero = unless-ok _ _ _ (sym c.check_line_buffer_and_state.ensures ∙ c.in_ok-check_line_buffer_and_state.was) in
    let st = lent (state_of c.args.state.now) c.args.memory.now in
    let fit = line-fits c.args.state.now c.args.memory.now c.args.out.now zero in
    let passes = lent-passes c.args.state.now (no_line_room c.args.memory.now c.args.out.now) c.args.memory.now zero in
    let unread : (line_of c.args.text.now).headed ≡ false = ap (λ (x : Line). x.headed) (sym c.read_line-line.ensures) ∙ not-true _ c.if-not-line.true in
    rw (call-fit c.args.state.now c.args.memory.now fit.formed (text_line c.args.text.now c.args.out.now), line-unread st c.args.text.now c.args.out.now passes unread)
    (sym (finished-refused c.args.state.now c.args.memory.now (single c.args.out.now) 6))

pub fail-requires : goal.fail-requires
fail-requires c =
    record {
      le_number = omega arith;
      line_bytes_in_bounds = (line-fits c.args.state.now c.args.memory.now c.args.out.now (unless-ok _ _ _ (sym c.check_line_buffer_and_state.ensures ∙ c.in_ok-check_line_buffer_and_state.was))).room;
    }

pub returns-then-not-line-2 : goal.returns-then-not-line-2
unfolding Did step
returns-then-not-line-2 c =
    let zero = unless-ok _ _ _ (sym c.check_line_buffer_and_state.ensures ∙ c.in_ok-check_line_buffer_and_state.was) in
    let st = lent (state_of c.args.state.now) c.args.memory.now in
    let fit = line-fits c.args.state.now c.args.memory.now c.args.out.now zero in
    let passes = lent-passes c.args.state.now (no_line_room c.args.memory.now c.args.out.now) c.args.memory.now zero in
    let bytes : Bytes c.args.state.now = λ i. omega (arith, c.slice_known-1.given i) in
    let headed : (line_of c.args.text.now).headed ≡ true = ap (λ (x : Line). x.headed) (sym c.read_line-line.ensures) ∙ not-false _ c.if-not-line.false in
    let broken : (line_of c.args.text.now).whole ≡ false = ap (λ (x : Line). x.whole) (sym c.read_line-line.ensures) ∙ not-true _ c.if-not-line-2.true in
    rw (call-fit c.args.state.now c.args.memory.now fit.formed (text_line c.args.text.now c.args.out.now))
    (finished-unmoved c.args.state.now c.args.memory.now bytes fit.formed _ _ (rw c.read_line-line.ensures at c.fail.ensures) _ (line-broken st c.args.text.now c.args.out.now passes headed broken))

pub fail-requires-then-line-ge8 : goal.fail-requires-then-line-ge8
fail-requires-then-line-ge8 c =
    record {
      le_number = omega arith;
      line_bytes_in_bounds = (line-fits c.args.state.now c.args.memory.now c.args.out.now (unless-ok _ _ _ (sym c.check_line_buffer_and_state.ensures ∙ c.in_ok-check_line_buffer_and_state.was))).room;
    }

pub returns-then-line-ge8 : goal.returns-then-line-ge8
unfolding Did step
returns-then-line-ge8 c =
    let zero = unless-ok _ _ _ (sym c.check_line_buffer_and_state.ensures ∙ c.in_ok-check_line_buffer_and_state.was) in
    let st = lent (state_of c.args.state.now) c.args.memory.now in
    let fit = line-fits c.args.state.now c.args.memory.now c.args.out.now zero in
    let passes = lent-passes c.args.state.now (no_line_room c.args.memory.now c.args.out.now) c.args.memory.now zero in
    let bytes : Bytes c.args.state.now = λ i. omega (arith, c.slice_known-1.given i) in
    let headed : (line_of c.args.text.now).headed ≡ true = ap (λ (x : Line). x.headed) (sym c.read_line-line.ensures) ∙ not-false _ c.if-not-line.false in
    let whole : (line_of c.args.text.now).whole ≡ true = ap (λ (x : Line). x.whole) (sym c.read_line-line.ensures) ∙ not-false _ c.if-not-line-2.false in
    let beyond : 8 ≤ (line_of c.args.text.now).pid = omega (arith, ap (λ (x : Line). x.pid) c.read_line-line.ensures, c.if-line-ge8.true) in
    rw (call-fit c.args.state.now c.args.memory.now fit.formed (text_line c.args.text.now c.args.out.now))
    (finished-unmoved c.args.state.now c.args.memory.now bytes fit.formed _ _ (rw c.read_line-line.ensures at c.fail-then-line-ge8.ensures) _ (line-beyond st c.args.text.now c.args.out.now passes headed whole beyond))

pub line_known-requires : goal.line_known-requires
line_known-requires c = record { pid_bound = omega arith; out_value = unless-ok _ _ _ (sym c.check_line_buffer_and_state.ensures ∙ c.in_ok-check_line_buffer_and_state.was) }

pub returns : goal.returns
unfolding Did step
returns c =
    let zero = unless-ok _ _ _ (sym c.check_line_buffer_and_state.ensures ∙ c.in_ok-check_line_buffer_and_state.was) in
    let st = lent (state_of c.args.state.now) c.args.memory.now in
    let fit = line-fits c.args.state.now c.args.memory.now c.args.out.now zero in
    let passes = lent-passes c.args.state.now (no_line_room c.args.memory.now c.args.out.now) c.args.memory.now zero in
    let headed : (line_of c.args.text.now).headed ≡ true = ap (λ (x : Line). x.headed) (sym c.read_line-line.ensures) ∙ not-false _ c.if-not-line.false in
    let whole : (line_of c.args.text.now).whole ≡ true = ap (λ (x : Line). x.whole) (sym c.read_line-line.ensures) ∙ not-false _ c.if-not-line-2.false in
    let low : (line_of c.args.text.now).pid < 8 = omega (arith, ap (λ (x : Line). x.pid) c.read_line-line.ensures, c.if-line-ge8.false) in
    rw (call-fit c.args.state.now c.args.memory.now fit.formed (text_line c.args.text.now c.args.out.now), line_known st c.args.text.now c.args.out.now passes headed whole low)
    (rw c.read_line-line.ensures at c.line_known.ensures)
