-- `calls::packet::make_packet` meets its contract: the line is the answer of the call. Assumes nothing.
use mathlib.Core.Path.{◌≡◌}
use borrow.Author.Rules.{rules}
use lib.ListN.{length}
use Rattle.rules.specs.Step.{packet}
use Rattle.state_bytes.specs.State.{door_of}
use Rattle.gateway.specs.Called.{call_on, Did}
use Rattle.calls.specs.Meaning.{packet_made}
use Rattle.calls.proofs.PacketLaws.{does-packet}
use Rattle.calls.proofs.packet.make_packet.Goals as goal

pub returns : goal.returns
unfolding packet_made Did
returns c =
    rw (← c.zero_ack-ack.ensures)
    (does-packet c.packet-outcome.result c.packet-outcome.new.state c.packet-outcome.new.memory c.packet-outcome.new.out
    (call_on c.args.state.now c.args.memory.now (packet (door_of c.args.state.now) c.args.kind c.args.id c.args.words.now c.zero_ack-ack.result)) c.packet-outcome.ensures.1
    c.args.kind c.args.id c.number_of-number.result c.ack_length.result c.min-n.result c.put_packet.result c.args.out.now _
    c.number_of-number.ensures c.ack_length.ensures (let e : length c.packet-outcome.new.out ≡ 35 = search rules in rw e c.min-n.ensures) (rw c.is_acknowledged.ensures at c.put_packet.ensures))
