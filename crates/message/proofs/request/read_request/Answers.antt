-- `message::request::read_request` meets its contract: the tests 3 to 6 of the form that is found for the CMD. Assumes nothing.
use mathlib.Core.Path.{sym, ◌∙◌}
use Rattle.std.proofs.Common.{rules}
use Rattle.format.specs.declared.header.Header.{Header}
use Rattle.ops.specs.declared.table.Form.{Form}
use Rattle.ops.specs.Table.{op, asks}
use Rattle.message.specs.Exchange.{read_number}
use Rattle.message.specs.Incoming.{received}
use Rattle.format.proofs.OutcomeLaws.{unless-ok, unless-else}
use Rattle.message.proofs.IncomingLaws.{incoming-short, incoming-read, incoming-known}
use Rattle.message.proofs.request.read_request.Goals as goal

pub returns-then-message-lt-HEADER_BYTES : goal.returns-then-message-lt-HEADER_BYTES
returns-then-message-lt-HEADER_BYTES c = incoming-short c.args.message.now c.if-message-lt-HEADER_BYTES.true

pub returns-in_err-check_layout : goal.returns-in_err-check_layout
unfolding received read_number
returns-in_err-check_layout c =
    let e = rw (c.fixed_right.ensures, c.request_form-found.ensures, c.of-h.ensures) at c.check_layout.ensures in
    let refused = unless-else {B = Header × Form} _ _ (c.of-h.result, asks (op c.of-h.result.cmd)) _ (sym e ∙ c.in_err-check_layout.was) in
    let returned = c.from_residual.ensures in
    let same = c.of-h.ensures in
    search rules

pub returns-in-Some : goal.returns-in-Some
unfolding read_number
returns-in-Some c =
    let e = rw (c.fixed_right.ensures, c.request_form-found.ensures, c.of-h.ensures) at c.check_layout.ensures in
    let zero = unless-ok _ _ _ (sym e ∙ c.in_ok-check_layout.was) in
    rw c.of-h.ensures (incoming-read c.args.message.now zero _ (rw c.of-h.ensures at (sym c.in-Some.is ∙ c.request_form-found.ensures)))

pub returns-in-None : goal.returns-in-None
unfolding read_number
returns-in-None c =
    let e = rw (c.fixed_right.ensures, c.request_form-found.ensures, c.of-h.ensures) at c.check_layout.ensures in
    let zero = unless-ok _ _ _ (sym e ∙ c.in_ok-check_layout.was) in
    absurd (incoming-known c.args.message.now zero (rw c.of-h.ensures at (sym c.in-None.is ∙ c.request_form-found.ensures)))
