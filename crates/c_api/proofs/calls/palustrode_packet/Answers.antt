-- `c_api::calls::palustrode_packet` meets its contract: that of the gateway's packet, of the numbers that have room. Assumes nothing.
use mathlib.Core.Path.{◌≡◌, ◌∙◌}
use native.Mathlib.Omega.{arith}
use mir.Syntax.{w64}
use mir.Val.{to_z, of_z}
use Rattle.gateway.specs.Called.{Did}
use Rattle.c_api.specs.Called.{packet_on}
use Rattle.c_api.proofs.ReturnLaws.{call-short, call_returns}
use borrow.Author.Rules.{rules}
use Rattle.c_api.proofs.calls.palustrode_packet.Goals as goal

pub signed-requires : goal.signed-requires
unfolding Did
signed-requires c =
    call-short _ _ _ _ _ _ _ c.packet-outcome.ensures.1 (omega (arith, c.packet-outcome.auto.out))

pub returns : goal.returns
unfolding Did packet_on
returns c =
    let same : to_z w64 (of_z w64 c.signed.result) ≡ c.signed.result = search rules in
    rw (← c.type_of.ensures) (call_returns _ _ _ _ _ _ _ c.packet-outcome.ensures.1 _ (same ∙ c.signed.ensures))
