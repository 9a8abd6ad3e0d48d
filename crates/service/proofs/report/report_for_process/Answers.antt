-- `service::report::report_for_process` meets its contract: refused, or what it does, the notice and the line. Assumes nothing.
use mathlib.Core.Path.{◌≡◌, refl, sym, subst, ap, ap₂, ◌∙◌}
use Prim.Native.Nat.{ℕ}
use Rattle.format.proofs.OutcomeLaws.{unless-ok, unless-err}
use Rattle.lists.specs.Buffer.{overlay}
use Rattle.process.specs.Local.{local}
use Rattle.rules.specs.TextRule.{owed_line}
use Rattle.rules.specs.Step.{beside, notified}
use Rattle.service.specs.At.{leaving, report_by, report_at}
use Rattle.service.proofs.AtLaws.{report-refused}
use Rattle.service.proofs.report.report_for_process.Goals as goal

pub returns-in-Err : goal.returns-in-Err
unfolding report_at overlay
returns-in-Err c =
    let failed = unless-err _ _ _ (sym c.check_report_at.ensures ∙ c.in-Err.is) in
    rw (failed.0, report-refused _ (subst (λ (n : ℕ). n ≡ 0 → ⊥) failed.0 failed.1) c.args.pid c.args.kind c.args.reason c.args.words c.args.notice.now c.args.line.now (local c.args.process c.args.bytes.now)) refl

pub returns : goal.returns
unfolding report_at report_by notified
returns c =
    let text = owed_line c.args.pid c.args.kind c.report-done.result.answered in
    rw (unless-ok _ _ _ (sym c.check_report_at.ensures ∙ c.in_default.is), ← c.report-done.ensures.told_value, ← c.report-done.ensures.answered_value, c.report-done.ensures.process_value, c.report-done.ensures.bytes_after)
    (rw (c.answer_owed-length.ensures.0, c.answer_owed-length.ensures.1)
    (ap₂ leaving (ap (beside text c.args.line.now) c.notify-outcome.ensures) refl))
