-- `calls::show::answer_process` meets its contract, by whether the number is right. Assumes nothing.
use mathlib.Core.Path.{◌≡◌, refl, sym, ap, ◌∙◌}
use Rattle.decimal.specs.Read.{behind}
use Rattle.process.specs.declared.record.Process.{Process}
use Rattle.display.specs.Line.{process_line}
use Rattle.calls.specs.Meaning.{shown_p, process_effect}
use Rattle.calls.proofs.MeaningLaws.{does-right, does-wrong, prints-as}
use Rattle.calls.proofs.show.answer_process.Goals as goal

pub returns-then-not-ends : goal.returns-then-not-ends
unfolding process_effect
returns-then-not-ends c =
    let is : c.then-process.result ≡ shown_p c.args.line.now = c.then-process.ensures.value ∙ ap (behind 7 c.args.line.now) c.start.ensures in
    let wrong = sym c.ends.ensures ∙ c.if-not-ends.true in
    rw (← is) (does-wrong _ _ _ _ _ _ _ _ _ wrong c.answer_unknown.ensures)

pub returns : goal.returns
unfolding process_effect
returns c =
    let is : c.then-process.result ≡ shown_p c.args.line.now = c.then-process.ensures.value ∙ ap (behind 7 c.args.line.now) c.start.ensures in
    let right = sym c.ends.ensures ∙ c.if-not-ends.false in
    let same = ap (λ (q : Process). process_line q c.read_start-start.result) c.read_process_at-p.ensures ∙ ap (process_line _) c.read_start-start.ensures in
    rw (← is)
    (does-right _ _ _ _ _ _ _ _ _ right (record { state = refl; memory = refl; text = prints-as _ _ _ _ _ same (record { size = c.put_process.ensures.value; fits = c.put_process.ensures.upper_bound; laid = c.put_process.ensures.out_after }) }))
