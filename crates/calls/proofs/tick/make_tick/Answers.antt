-- `calls::tick::make_tick` meets its contract: the line is the number of the call. Assumes nothing.
use Rattle.rules.specs.Step.{tick}
use Rattle.state_bytes.specs.State.{door_of}
use Rattle.gateway.specs.Called.{call_on, Did}
use Rattle.calls.specs.Packet.{silent_line}
use Rattle.calls.specs.Meaning.{tick_made}
use Rattle.calls.proofs.PacketLaws.{does-tick}
use Rattle.calls.proofs.tick.make_tick.Goals as goal

pub returns : goal.returns
unfolding tick_made silent_line Did
returns c =
    does-tick c.tick.result c.tick.new.state c.args.memory.now (call_on c.args.state.now c.args.memory.now (tick (door_of c.args.state.now))) (c.tick.ensures c.args.memory.now).1 c.number_of-number.result _ _ _ c.number_of-number.ensures c.put_numbered.ensures
