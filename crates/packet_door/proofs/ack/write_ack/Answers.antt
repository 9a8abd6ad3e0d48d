-- `packet_door::ack::write_ack` meets its contract, with a block or without. Assumes nothing.
use Rattle.std.proofs.Common.{Option, Some, None}
use mathlib.Core.Path.{sym, ap, ◌∙◌}
use native.Mathlib.Omega.{arith}
use lib.ListN.{length-take, length-drop}
use Rattle.packets.specs.declared.units.WordAddress.{WordAddress}
use Rattle.packets.specs.Units.{byte_count}
use Rattle.packets.proofs.AckLaws.{short-ack}
use Rattle.packets.proofs.BlockLaws.{sent-for}
use Rattle.process.specs.Local.{local}
use Rattle.packet_door.proofs.RowLaws.{inside-within}
use Rattle.packet_door.proofs.AckLaws.{started, ack-alone, ack-with}
use Rattle.packet_door.proofs.ack.write_ack.Goals as goal

pub word_at-requires : goal.word_at-requires
word_at-requires c =
    omega (arith, ap (λ (w : WordAddress). w.0) c.address_of-at.ensures, inside-within c.args.words.now c.args.process.size c.requires.in_bounds.1, c.requires.bytes_len)

pub start_ack-count-requires : goal.start_ack-count-requires
start_ack-count-requires c = record { block_bound = rw c.block_to_send-block.ensures (short-ack _ _ _); ack_words_in_bounds = c.requires.ack_words_in_bounds }

pub write_seen-requires : goal.write_seen-requires
write_seen-requires c =
    let sent = sent-for (byte_count c.args.process.size) c.address_of-at.result c.args.words.now _ _ (sym c.block_to_send-block.ensures ∙ c.in-Some.is) in
    record {
      count_in_bounds = omega (arith, sent.within, c.requires.bytes_len);
      count_bound = (sent.not-over-32, simp (length-take, length-drop) (omega (arith, sent.not-over-32, c.requires.ack_words_in_bounds)));
    }

pub returns-in-None : goal.returns-in-None
returns-in-None c =
    let l = local c.args.process c.args.bytes.now in
    let begun =
    started c.args.kind c.args.words.now l _ _ _ c.args.out.now _ _ _ c.address_of-at.ensures c.word_at.ensures c.second_word-second.ensures
    c.block_to_send-block.ensures c.start_ack-count.ensures.result_value c.start_ack-count.ensures.out_after in
    let both = ack-alone c.args.kind c.args.words.now l _ _ _ c.args.out.now begun c.in-None.is in record { value = both.0; out_after = both.1 }

pub returns-in-Some : goal.returns-in-Some
returns-in-Some c =
    let l = local c.args.process c.args.bytes.now in
    let begun =
    started c.args.kind c.args.words.now l _ _ _ c.args.out.now _ _ _ c.address_of-at.ensures c.word_at.ensures c.second_word-second.ensures
    c.block_to_send-block.ensures c.start_ack-count.ensures.result_value c.start_ack-count.ensures.out_after in
    let both = ack-with c.args.kind c.args.words.now l _ _ _ c.args.out.now begun _ _ _ c.in-Some.is c.write_seen.ensures in record { value = both.0; out_after = both.1 }
