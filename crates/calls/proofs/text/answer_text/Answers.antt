-- `calls::text::answer_text` meets its contract: the text with a newline is the line. Assumes nothing.
use mathlib.Core.List.{List}
use Prim.Native.Nat.{ℕ}
use Rattle.calls.specs.Meaning.{text_made, text_effect}
use Rattle.calls.proofs.MeaningLaws.{does-as, printed}
use mathlib.Core.Path.{ap, ◌∙◌}
use native.Mathlib.Omega.{arith}
use Rattle.calls.proofs.TextLaws.{ended-front}
use Rattle.calls.proofs.text.answer_text.Goals as goal

pub returns : goal.returns
unfolding text_effect
returns c =
    let line = printed _ _ _ _ _ c.put_ended.ensures c.at_most-n.ensures.0 in
    does-as _ _ _ _ _ _ _ (ap (λ (l : List ℕ). text_made c.args.shown l c.args.state.now c.args.memory.now) line ∙ ended-front c.args.shown 35 c.args.text.now c.args.state.now c.args.memory.now (omega arith)) c.make_text.ensures
