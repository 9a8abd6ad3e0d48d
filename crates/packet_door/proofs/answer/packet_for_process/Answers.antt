-- `packet_door::answer::packet_for_process` meets its contract: refused with the number of its tests, or granted. Assumes nothing.
use mathlib.Core.Path.{◌≡◌, sym, subst, ◌∙◌}
use Prim.Native.Nat.{ℕ, ◌≤◌}
use lib.ListN.{length}
use Rattle.format.proofs.OutcomeLaws.{outcome-other, unless-ok, unless-err}
use Rattle.process.specs.Local.{local, Present}
use Rattle.packet_door.specs.At.{fewest_of, packet_at}
use Rattle.packet_door.proofs.RowLaws.{enough}
use Rattle.packet_door.proofs.PacketLaws.{number-of, passed-there, passed, packet-granted, packet-refused}
use Rattle.packet_door.proofs.answer.packet_for_process.Goals as goal

pub check_packet-requires : goal.check_packet-requires
check_packet-requires c = rw c.request_of-request.ensures (enough c.args.kind c.args.words.now c.requires.words_value)

pub returns-in-Err : goal.returns-in-Err
unfolding packet_at
returns-in-Err c =
    let failed = unless-err _ _ _ (sym c.check_packet.ensures ∙ c.in-Err.is) in
    let number = subst (λ (n : ℕ). n ≡ 0 → ⊥) failed.0 failed.1 in
    rw (
      c.refuse.ensures.0,
      c.refuse.ensures.1,
      number-of c.args.kind c.args.words.now c.args.process,
      ← c.request_of-request.ensures,
      failed.0,
      packet-refused _ number c.args.kind c.args.id c.args.words.now c.args.out.now (local c.args.process c.args.bytes.now),
      ← outcome-other _ 0 number,
    )

pub grant-requires : goal.grant-requires
grant-requires c =
    let z = unless-ok _ _ _ (sym c.check_packet.ensures ∙ c.in-Ok.is) in
    let here : Present c.args.process c.args.bytes.now = record { tested = c.requires.tested; there = passed-there c.request_of-request.result c.args.words.now c.args.process z } in
    let some : fewest_of c.request_of-request.result ≤ length c.args.words.now = rw c.request_of-request.ensures (enough c.args.kind c.args.words.now c.requires.words_value) in
    record {
      present = here;
      passed = passed c.request_of-request.result c.args.words.now c.args.process z some;
      ack_words_in_bounds = c.requires.ack_words_in_bounds;
    }

pub returns-in-Ok : goal.returns-in-Ok
unfolding packet_at
returns-in-Ok c =
    let z = unless-ok _ _ _ (sym c.check_packet.ensures ∙ c.in-Ok.is) in
    rw (
      number-of c.args.kind c.args.words.now c.args.process,
      ← c.request_of-request.ensures,
      z,
      packet-granted c.args.kind c.args.id c.args.words.now c.args.out.now (local c.args.process c.args.bytes.now),
      ← c.request_of-request.ensures,
    ) c.grant.ensures
