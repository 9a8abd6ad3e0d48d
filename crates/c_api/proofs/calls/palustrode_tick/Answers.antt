-- `c_api::calls::palustrode_tick` meets its contract: that of the gateway's tick. Assumes nothing.
use mathlib.Core.Path.{◌≡◌, ◌∙◌}
use mathlib.Core.List.{[]}
use native.Mathlib.Omega.{arith}
use mir.Syntax.{w64}
use mir.Val.{to_z, of_z}
use Rattle.rules.specs.Step.{tick}
use Rattle.state_bytes.specs.State.{door_of}
use Rattle.gateway.specs.Called.{Did}
use Rattle.c_api.proofs.ReturnLaws.{call-short, call_returns}
use borrow.Author.Rules.{rules}
use Rattle.c_api.proofs.calls.palustrode_tick.Goals as goal

pub signed-requires : goal.signed-requires
unfolding Did
signed-requires c =
    call-short _ _ _ _ _ _ (tick (door_of c.args.state.now)) (c.tick-outcome.ensures []).1 (omega arith)

pub returns : goal.returns
unfolding Did
returns c memory =
    let same : to_z w64 (of_z w64 c.signed.result) ≡ c.signed.result = search rules in
    call_returns _ _ _ _ _ _ (tick (door_of c.args.state.now)) (c.tick-outcome.ensures memory).1 _ (same ∙ c.signed.ensures)
