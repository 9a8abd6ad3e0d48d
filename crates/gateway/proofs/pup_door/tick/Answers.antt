-- `gateway::pup_door::tick` meets its contract, by whether the state is sound and the door is at a process. Assumes nothing.
use mathlib.Core.Path.{◌≡◌, refl, sym, ◌∙◌}
use mathlib.Core.Bool.{false}
use Prim.Native.Nat.{◌≤◌, ◌<◌}
use native.Mathlib.Omega.{arith}
use Rattle.lists.specs.Buffer.{Bytes}
use Rattle.state_bytes.specs.State.{door_of}
use Rattle.gateway.specs.Called.{Did}
use Rattle.gateway.proofs.ReadyLaws.{formed-long, sound-formed}
use Rattle.std.proofs.Common.{rules, Err}
use Rattle.format.proofs.OutcomeLaws.{unless-ok}
use Rattle.gateway.proofs.LentLaws.{passed, tick-unfit}
use Rattle.gateway.proofs.TickedLaws.{tick-idle, tick-acts}
use Rattle.gateway.proofs.pup_door.tick.Goals as goal

pub returns-in_err-check_state_alone : goal.returns-in_err-check_state_alone
unfolding Did
returns-in_err-check_state_alone c memory =
    let failed = sym c.check_state_alone.ensures ∙ c.in_err-check_state_alone.was in
    let given = c.from_residual.ensures in
    let same : c.from_residual.result ≡ Err c.in_err-check_state_alone.field-0.0 = search rules in
    rw same
    ((refl, tick-unfit c.args.state.now memory (door_of c.args.state.now) _ failed))

pub read_door-door-requires : goal.read_door-door-requires
read_door-door-requires c =
    let zero = unless-ok _ _ _ (sym c.check_state_alone.ensures ∙ c.in_ok-check_state_alone.was) in
    omega (arith, formed-long c.args.state.now (sound-formed c.args.state.now (passed c.args.state.now false zero).1))

pub tick_at-requires : goal.tick_at-requires
tick_at-requires c =
    let zero = unless-ok _ _ _ (sym c.check_state_alone.ensures ∙ c.in_ok-check_state_alone.was) in
    (omega arith, (passed c.args.state.now false zero).1)

pub returns-then-door-lt8 : goal.returns-then-door-lt8
unfolding Did
returns-then-door-lt8 c memory =
    let zero = unless-ok _ _ _ (sym c.check_state_alone.ensures ∙ c.in_ok-check_state_alone.was) in
    let bytes : Bytes c.args.state.now = λ i. omega (arith, c.slice_known-1.given i) in
    let read = c.read_door-door.ensures in
    let low : door_of c.args.state.now < 8 = omega (arith, read, c.if-door-lt8.true) in
    (refl, rw (c.tick_at.ensures, read) (tick-acts c.args.state.now bytes zero memory low))

pub returns-else-door-lt8 : goal.returns-else-door-lt8
unfolding Did
returns-else-door-lt8 c memory =
    let zero = unless-ok _ _ _ (sym c.check_state_alone.ensures ∙ c.in_ok-check_state_alone.was) in
    let bytes : Bytes c.args.state.now = λ i. omega (arith, c.slice_known-1.given i) in
    let high : 8 ≤ door_of c.args.state.now = omega (arith, c.read_door-door.ensures, c.if-door-lt8.false) in
    (refl, tick-idle c.args.state.now bytes zero memory high)
