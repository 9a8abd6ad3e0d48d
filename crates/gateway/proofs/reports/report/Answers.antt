-- `gateway::reports::report` meets its contract, stage by stage. Assumes nothing.
use mathlib.Core.Path.{◌≡◌, sym, subst, ◌∙◌}
use Prim.Native.Nat.{ℕ}
use Rattle.format.proofs.OutcomeLaws.{unless-ok, unless-err}
use Rattle.rules.specs.Tests.{lent, no_report_room}
use Rattle.rules.specs.Step.{report, step}
use Rattle.state_bytes.specs.State.{state_of}
use Rattle.gateway.specs.Called.{Did}
use Rattle.gateway.proofs.ReportLaws.{both, report-away}
use Rattle.gateway.proofs.LentLaws.{lent-passes, finished-refused, report-fits, report-unfit, call-fit}
use Rattle.gateway.proofs.reports.report.Goals as goal

pub returns-in-Err : goal.returns-in-Err
unfolding Did
returns-in-Err c =
    rw (c.refused.ensures.0, c.refused.ensures.1)
    (report-unfit c.args.state.now c.args.memory.now c.args.pid c.args.kind c.args.reason c.args.words c.args.notice.now c.args.line.now _ (sym c.check_report_buffers_and_state.ensures ∙ c.in-Err.is))

pub returns-in-Err-check_report : goal.returns-in-Err-check_report
unfolding Did step
returns-in-Err-check_report c =
    let zero = unless-ok _ _ _ (sym c.check_report_buffers_and_state.ensures ∙ c.in_default.is) in
    let failed = unless-err _ _ _ (sym c.check_report.ensures ∙ c.in-Err-check_report.is) in
    let st = lent (state_of c.args.state.now) c.args.memory.now in
    let formed = (report-fits c.args.state.now c.args.memory.now c.args.notice.now c.args.line.now zero).formed in
    let passes = lent-passes c.args.state.now (no_report_room c.args.memory.now c.args.notice.now c.args.line.now) c.args.memory.now zero in
    rw (c.refused-in-Err-check_report.ensures.0, c.refused-in-Err-check_report.ensures.1, call-fit c.args.state.now c.args.memory.now formed (report c.args.pid c.args.kind c.args.reason c.args.words c.args.notice.now c.args.line.now), report-away st c.args.pid c.args.kind c.args.reason c.args.words c.args.notice.now c.args.line.now passes _ (sym failed.0) (subst (λ (n : ℕ). n ≡ 0 → ⊥) failed.0 failed.1))
    (sym (finished-refused c.args.state.now c.args.memory.now (both c.args.notice.now c.args.line.now) _))

pub report_known-requires : goal.report_known-requires
report_known-requires c =
    record {
      line_value = unless-ok _ _ _ (sym c.check_report_buffers_and_state.ensures ∙ c.in_default.is);
      reason_value = unless-ok _ _ _ (sym c.check_report.ensures ∙ c.in_default-check_report.is);
    }

pub returns : goal.returns
unfolding Did step
returns c =
    let zero = unless-ok _ _ _ (sym c.check_report_buffers_and_state.ensures ∙ c.in_default.is) in
    let formed = (report-fits c.args.state.now c.args.memory.now c.args.notice.now c.args.line.now zero).formed in
    rw (call-fit c.args.state.now c.args.memory.now formed (report c.args.pid c.args.kind c.args.reason c.args.words c.args.notice.now c.args.line.now)) c.report_known.ensures
