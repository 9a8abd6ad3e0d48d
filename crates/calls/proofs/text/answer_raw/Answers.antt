-- `calls::text::answer_raw` meets its contract, by whether the line may end after its pairs. Assumes nothing.
use mathlib.Core.Path.{sym, ◌∙◌}
use native.Mathlib.Omega.{arith}
use Rattle.calls.specs.declared.text.Shown.TheVariants.{Recorded}
use Rattle.calls.specs.Meaning.{text_made, raw_effect}
use Rattle.calls.proofs.MeaningLaws.{does-as, does-right, does-wrong, pairs_made}
use Rattle.calls.proofs.TextLaws.{text-front}
use Rattle.calls.proofs.text.answer_raw.Goals as goal

pub returns-then-not-is_full : goal.returns-then-not-is_full
unfolding raw_effect
returns-then-not-is_full c = does-wrong _ _ _ _ _ _ _ _ _ (sym c.is_full.ensures ∙ c.if-not-is_full.true) c.answer_unknown.ensures

pub returns : goal.returns
unfolding raw_effect
returns c =
    let n = c.new.ensures in
    let same = pairs_made 36 (λ x. text_made Recorded x c.args.state.now c.args.memory.now) (λ n x h. text-front Recorded n x c.args.state.now c.args.memory.now h) c.new.result c.part-scan.result _ c.args.pairs.now _ _ c.new.ensures.phase_value c.new.ensures.len_value c.part-scan.ensures.len_value c.part-scan.ensures.buffer_after c.at_most-n.ensures.0 (omega arith) in
    does-right _ _ _ _ _ _ _ _ _ (sym c.is_full.ensures ∙ c.if-not-is_full.false) (does-as _ _ _ _ _ _ _ same c.make_text.ensures)
