-- `calls::call::answer_request` meets its contract, by whether the line may end after its pairs. Assumes nothing.
use mathlib.Core.Path.{sym, ◌∙◌}
use native.Mathlib.Omega.{arith}
use Rattle.calls.specs.Meaning.{request_made, request_effect}
use Rattle.calls.proofs.MeaningLaws.{does-as, does-right, does-wrong, made-front, pairs_made}
use Rattle.calls.proofs.call.answer_request.Goals as goal

pub returns-then-not-is_full : goal.returns-then-not-is_full
unfolding request_effect
returns-then-not-is_full c = does-wrong _ _ _ _ _ _ _ _ _ (sym c.is_full.ensures ∙ c.if-not-is_full.true) c.answer_unknown.ensures

pub returns : goal.returns
unfolding request_effect
returns c =
    let n = c.new.ensures in
    let same = pairs_made 267 (λ x. request_made x c.args.state.now c.args.memory.now) (λ n x h. made-front n x c.args.state.now c.args.memory.now h) c.new.result c.part-scan.result _ c.args.pairs.now _ _ c.new.ensures.phase_value c.new.ensures.len_value c.part-scan.ensures.len_value c.part-scan.ensures.buffer_after c.at_most-n.ensures.0 (omega arith) in
    does-right _ _ _ _ _ _ _ _ _ (sym c.is_full.ensures ∙ c.if-not-is_full.false) (does-as _ _ _ _ _ _ _ same c.make_request.ensures)
