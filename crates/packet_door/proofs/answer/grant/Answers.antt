-- `packet_door::answer::grant` meets its contract: what the packet does comes first, and then the answer. Assumes nothing.
use mathlib.Core.Path.{◌≡◌, ap, ap₂, ◌∙◌}
use Rattle.process.specs.Local.{Local, local}
use Rattle.service.specs.At.{leaving}
use Rattle.packet_door.specs.At.{row_of, replied}
use Rattle.service.proofs.EffectLaws.{whole}
use Rattle.packet_door.proofs.PacketLaws.{whole-after, passed-after}
use Rattle.packet_door.proofs.answer.grant.Goals as goal

pub reply_to-outcome-requires : goal.reply_to-outcome-requires
reply_to-outcome-requires c =
    let l = local c.args.process c.args.bytes.now in
    let size = whole c.args.process c.args.bytes.now c.requires.present in
    let h = c.requires.passed in
    record {
      bytes_len = whole-after c.args.request c.args.id c.args.words.now l h size c.perform-next.result _ c.perform-next.ensures.value c.perform-next.ensures.bytes_after;
      passed = passed-after c.args.request c.args.id c.args.words.now l h size c.perform-next.result _ c.perform-next.ensures.value c.perform-next.ensures.bytes_after;
      ack_words_in_bounds = c.requires.ack_words_in_bounds;
    }

pub returns : goal.returns
returns c =
    let after : local _ _ ≡ (row_of c.args.request).effect c.args.id c.args.words.now (local c.args.process c.args.bytes.now) = ap₂ local c.perform-next.ensures.value c.perform-next.ensures.bytes_after in
    ap₂ leaving (c.reply_to-outcome.ensures ∙ ap (λ (m : Local). replied ((row_of c.args.request).ack c.args.words.now m) c.args.out.now) after) after
