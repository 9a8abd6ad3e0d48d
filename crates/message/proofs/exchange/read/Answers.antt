-- `message::exchange::read` meets its contract: where the tests pass the fields, else their refusal. Assumes nothing.
use mathlib.Core.Path.{sym, ◌∙◌}
use Rattle.std.proofs.Common.{rules}
use Rattle.message.specs.Exchange.{read_number}
use Rattle.format.proofs.OutcomeLaws.{unless-ok, unless-else}
use Rattle.message.proofs.exchange.read.Goals as goal

pub returns-in_err-check_layout : goal.returns-in_err-check_layout
unfolding read_number
returns-in_err-check_layout c =
    let refused = unless-else _ _ c.args.h _ (sym c.check_layout.ensures ∙ c.in_err-check_layout.was) in
    let returned = c.from_residual.ensures in
    let same = c.requires.h_value in
    search rules

pub returns : goal.returns
unfolding read_number
returns c =
    let zero = unless-ok _ _ _ (sym c.check_layout.ensures ∙ c.in_ok-check_layout.was) in
    rw (← c.requires.h_value, ← c.fixed_right.ensures, zero)
