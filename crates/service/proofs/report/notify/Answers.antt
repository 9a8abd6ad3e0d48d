-- `service::report::notify` meets its contract: nobody is told, or the notice is sent. Assumes nothing.
use mathlib.Core.Path.{refl, ap}
use borrow.Author.Tests.{eq-eqb, ne_eqb}
use Rattle.message.specs.Exchange.{Written, sends}
use Rattle.rules.specs.Step.{notice_to}
use Rattle.service.specs.At.{answer}
use Rattle.service.proofs.report.notify.Goals as goal

pub returns-then-host-eq0 : goal.returns-then-host-eq0
unfolding notice_to
returns-then-host-eq0 c = rw (eq-eqb _ _ c.if-host-eq0.true) refl

pub returns : goal.returns
unfolding notice_to sends
returns c =
    rw (ne_eqb _ _ c.if-host-eq0.false)
    (ap (λ (w : Written). answer w.outcome w.buffer) c.write_notice.ensures)
