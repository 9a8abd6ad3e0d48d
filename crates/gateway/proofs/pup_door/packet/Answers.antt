-- `gateway::pup_door::packet` meets its contract, stage by stage. Assumes nothing.
use mathlib.Core.Path.{◌≡◌, refl, sym, ◌∙◌}
use mathlib.Core.Bool.{true, false}
use Prim.Native.Nat.{◌≤◌, ◌<◌}
use native.Mathlib.Omega.{arith}
use Rattle.packets.specs.Types.{known_type, too_few}
use Rattle.rules.specs.Tests.{lent, no_ack_room}
use Rattle.rules.specs.Step.{packet, step}
use Rattle.rules.specs.Turn.{single}
use Rattle.state_bytes.specs.State.{state_of, door_of}
use Rattle.gateway.specs.Called.{Did}
use Rattle.gateway.proofs.PacketLaws.{packet-few, packet-unknown, packet-beyond, packet-known}
use Rattle.std.proofs.Common.{rules, Err}
use Rattle.format.proofs.OutcomeLaws.{unless-ok}
use Rattle.gateway.proofs.LentLaws.{lent-passes, finished-refused, ack-fits, packet-unfit, call-fit}
use Rattle.gateway.proofs.pup_door.packet.Goals as goal

pub returns-in_err-check_ack_buffer_and_state : goal.returns-in_err-check_ack_buffer_and_state
unfolding Did
returns-in_err-check_ack_buffer_and_state c =
    let failed = sym c.check_ack_buffer_and_state.ensures ∙ c.in_err-check_ack_buffer_and_state.was in
    let given = c.from_residual.ensures in
    let same : c.from_residual.result ≡ Err c.in_err-check_ack_buffer_and_state.field-0.0 = search rules in
    rw same
    ((refl, packet-unfit c.args.state.now c.args.memory.now (door_of c.args.state.now) c.args.kind c.args.id c.args.words.now c.args.out.now _ failed))

pub returns-then-too_few : goal.returns-then-too_few
unfolding Did step
returns-then-too_few c =
    let zero = unless-ok _ _ _ (sym c.check_ack_buffer_and_state.ensures ∙ c.in_ok-check_ack_buffer_and_state.was) in
    let st = lent (state_of c.args.state.now) c.args.memory.now in
    let fit = ack-fits c.args.state.now c.args.memory.now c.args.out.now zero in
    let passes = lent-passes c.args.state.now (no_ack_room c.args.memory.now c.args.out.now) c.args.memory.now zero in
    let few : too_few c.args.kind c.args.words.now ≡ true = sym c.too_few.ensures ∙ c.if-too_few.true in (
      refl,
      rw (call-fit c.args.state.now c.args.memory.now fit.formed (packet (door_of c.args.state.now) c.args.kind c.args.id c.args.words.now c.args.out.now), packet-few st (door_of c.args.state.now) c.args.kind c.args.id c.args.words.now c.args.out.now passes few)
          (sym (finished-refused c.args.state.now c.args.memory.now (single c.args.out.now) 3)),
    )

pub returns-then-not-is_known : goal.returns-then-not-is_known
unfolding Did step
returns-then-not-is_known c =
    let zero = unless-ok _ _ _ (sym c.check_ack_buffer_and_state.ensures ∙ c.in_ok-check_ack_buffer_and_state.was) in
    let st = lent (state_of c.args.state.now) c.args.memory.now in
    let fit = ack-fits c.args.state.now c.args.memory.now c.args.out.now zero in
    let passes = lent-passes c.args.state.now (no_ack_room c.args.memory.now c.args.out.now) c.args.memory.now zero in
    let enough : too_few c.args.kind c.args.words.now ≡ false = sym c.too_few.ensures ∙ c.if-too_few.false in
    let unknown : known_type c.args.kind ≡ false = sym c.is_known.ensures ∙ c.if-not-is_known.true in (
      refl,
      rw (call-fit c.args.state.now c.args.memory.now fit.formed (packet (door_of c.args.state.now) c.args.kind c.args.id c.args.words.now c.args.out.now), packet-unknown st (door_of c.args.state.now) c.args.kind c.args.id c.args.words.now c.args.out.now passes enough unknown)
          (sym (finished-refused c.args.state.now c.args.memory.now (single c.args.out.now) 5)),
    )

pub read_door-door-requires : goal.read_door-door-requires
read_door-door-requires c =
    let zero = unless-ok _ _ _ (sym c.check_ack_buffer_and_state.ensures ∙ c.in_ok-check_ack_buffer_and_state.was) in
    omega (arith, (ack-fits c.args.state.now c.args.memory.now c.args.out.now zero).long)

pub returns-then-door-ge8 : goal.returns-then-door-ge8
unfolding Did step
returns-then-door-ge8 c =
    let zero = unless-ok _ _ _ (sym c.check_ack_buffer_and_state.ensures ∙ c.in_ok-check_ack_buffer_and_state.was) in
    let st = lent (state_of c.args.state.now) c.args.memory.now in
    let fit = ack-fits c.args.state.now c.args.memory.now c.args.out.now zero in
    let passes = lent-passes c.args.state.now (no_ack_room c.args.memory.now c.args.out.now) c.args.memory.now zero in
    let enough : too_few c.args.kind c.args.words.now ≡ false = sym c.too_few.ensures ∙ c.if-too_few.false in
    let known : known_type c.args.kind ≡ true = sym c.is_known.ensures ∙ c.if-not-is_known.false in
    let beyond : 8 ≤ door_of c.args.state.now = omega (arith, c.read_door-door.ensures, c.if-door-ge8.true) in (
      refl,
      rw (call-fit c.args.state.now c.args.memory.now fit.formed (packet (door_of c.args.state.now) c.args.kind c.args.id c.args.words.now c.args.out.now), packet-beyond st (door_of c.args.state.now) c.args.kind c.args.id c.args.words.now c.args.out.now passes enough known beyond)
          (sym (finished-refused c.args.state.now c.args.memory.now (single c.args.out.now) 7)),
    )

pub packet_known-requires : goal.packet_known-requires
packet_known-requires c =
    let enough = sym c.too_few.ensures ∙ c.if-too_few.false in
    record {
      pid_bound = (omega arith, enough);
      out_value = unless-ok _ _ _ (sym c.check_ack_buffer_and_state.ensures ∙ c.in_ok-check_ack_buffer_and_state.was);
    }

pub returns : goal.returns
unfolding Did step
returns c =
    let zero = unless-ok _ _ _ (sym c.check_ack_buffer_and_state.ensures ∙ c.in_ok-check_ack_buffer_and_state.was) in
    let st = lent (state_of c.args.state.now) c.args.memory.now in
    let fit = ack-fits c.args.state.now c.args.memory.now c.args.out.now zero in
    let passes = lent-passes c.args.state.now (no_ack_room c.args.memory.now c.args.out.now) c.args.memory.now zero in
    let enough : too_few c.args.kind c.args.words.now ≡ false = sym c.too_few.ensures ∙ c.if-too_few.false in
    let known : known_type c.args.kind ≡ true = sym c.is_known.ensures ∙ c.if-not-is_known.false in
    let read = c.read_door-door.ensures in
    let low : door_of c.args.state.now < 8 = omega (arith, read, c.if-door-ge8.false) in (
      refl,
      rw (call-fit c.args.state.now c.args.memory.now fit.formed (packet (door_of c.args.state.now) c.args.kind c.args.id c.args.words.now c.args.out.now), packet-known st (door_of c.args.state.now) c.args.kind c.args.id c.args.words.now c.args.out.now passes enough known low)
          (rw read at c.packet_known.ensures),
    )
