-- `calls::packet::read_packet` meets its contract. Assumes nothing.
use mathlib.Core.Path.{◌≡◌, sym, ap, ◌∙◌}
use Rattle.decimal.specs.declared.number.Number.{Number}
use Rattle.decimal.specs.Read.{behind}
use Rattle.calls.specs.Packet.{most_words, most_id, data_in, type_in, id_in, packet_in}
use Rattle.calls.proofs.packet.read_packet.Goals as goal

pub returns-then-not-ends : goal.returns-then-not-ends
unfolding packet_in
returns-then-not-ends c =
    let line = c.args.line.now in
    let I : c.then-id.result ≡ id_in line = c.then-id.ensures.value ∙ ap (behind most_id line) (c.then-kind.ensures.value ∙ ap (behind 255 line) c.start.ensures) in
    rw (← I, ← c.data_behind-data.ensures.last_value) (sym c.ends.ensures ∙ c.if-not-ends.true)

pub returns : goal.returns
unfolding packet_in
returns c =
    let line = c.args.line.now in
    let T : c.then-kind.result ≡ type_in line = c.then-kind.ensures.value ∙ ap (behind 255 line) c.start.ensures in
    let I : c.then-id.result ≡ id_in line = c.then-id.ensures.value ∙ ap (behind most_id line) T in record {
      right = rw (← I, ← c.data_behind-data.ensures.last_value) (sym c.ends.ensures ∙ c.if-not-ends.false);
      kind = ap (λ (n : Number). n.value) T;
      id = ap (λ (n : Number). n.value) I;
      words = c.data_behind-data.ensures.words_value ∙ ap (data_in most_words line) I;
      fits = c.data_behind-data.ensures.fits;
    }
