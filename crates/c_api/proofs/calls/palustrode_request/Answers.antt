-- `c_api::calls::palustrode_request` meets its contract: that of the gateway's request. Assumes nothing.
use mathlib.Core.Path.{◌≡◌, ◌∙◌}
use native.Mathlib.Omega.{arith}
use mir.Syntax.{w64}
use mir.Val.{to_z, of_z}
use Rattle.rules.specs.Step.{request}
use Rattle.c_api.proofs.ReturnLaws.{call-short, call_returns}
use Rattle.gateway.specs.Called.{Did}
use borrow.Author.Rules.{rules}
use Rattle.c_api.proofs.calls.palustrode_request.Goals as goal

pub signed-requires : goal.signed-requires
unfolding Did
signed-requires c =
    call-short _ _ _ _ _ _ (request c.args.message.now c.args.reply.now) c.request-outcome.ensures (omega (arith, c.request-outcome.auto.reply))

pub returns : goal.returns
unfolding Did
returns c =
    let same : to_z w64 (of_z w64 c.signed.result) ≡ c.signed.result = search rules in
    call_returns _ _ _ _ _ _ (request c.args.message.now c.args.reply.now) c.request-outcome.ensures _ (same ∙ c.signed.ensures)
