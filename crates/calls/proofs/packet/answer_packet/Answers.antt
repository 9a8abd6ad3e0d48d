-- `calls::packet::answer_packet` meets its contract, by whether the numbers are right. Assumes nothing.
use Rattle.calls.specs.Meaning.{packet_effect}
use Rattle.calls.proofs.MeaningLaws.{does-right, does-wrong}
use Rattle.calls.proofs.packet.answer_packet.Goals as goal

pub returns-in_default : goal.returns-in_default
unfolding packet_effect
returns-in_default c = does-wrong _ _ _ _ _ _ _ _ _ c.in_default.ensures c.answer_unknown.ensures

pub returns : goal.returns
unfolding packet_effect
returns c =
    let read = c.in-Some.ensures in
    does-right _ _ _ _ _ _ _ _ _ read.right (rw (read.kind, read.id, read.words) at c.make_packet.ensures)
