-- `calls::number::read_report` meets its contract. Assumes nothing.
use mathlib.Core.Path.{◌≡◌, sym, ap, ◌∙◌}
use Rattle.decimal.specs.declared.number.Number.{Number}
use Rattle.decimal.specs.Read.{behind}
use Rattle.calls.specs.Words.{words_of, process_in, kind_in, reason_in, report_in}
use Rattle.calls.proofs.number.read_report.Goals as goal

pub returns-then-not-ends : goal.returns-then-not-ends
unfolding report_in
returns-then-not-ends c =
    let line = c.args.line.now in
    let K = c.then-kind.ensures.value ∙ ap (behind 255 line) (c.then-process.ensures.value ∙ ap (behind 255 line) c.start.ensures) in
    let R : c.then-reason.result ≡ reason_in line = c.then-reason.ensures.value ∙ ap (behind 65535 line) K in
    rw (← R, ← c.words_behind.ensures.last_value) (sym c.ends.ensures ∙ c.if-not-ends.true)

pub returns : goal.returns
unfolding report_in
returns c =
    let line = c.args.line.now in
    let P : c.then-process.result ≡ process_in line = c.then-process.ensures.value ∙ ap (behind 255 line) c.start.ensures in
    let K : c.then-kind.result ≡ kind_in line = c.then-kind.ensures.value ∙ ap (behind 255 line) P in
    let R : c.then-reason.result ≡ reason_in line = c.then-reason.ensures.value ∙ ap (behind 65535 line) K in record {
      right = rw (← R, ← c.words_behind.ensures.last_value) (sym c.ends.ensures ∙ c.if-not-ends.false);
      process = ap (λ (n : Number). n.value) P;
      kind = ap (λ (n : Number). n.value) K;
      reason = ap (λ (n : Number). n.value) R;
      words = c.words_behind.ensures.words_value ∙ ap (words_of 9 line) R;
    }
