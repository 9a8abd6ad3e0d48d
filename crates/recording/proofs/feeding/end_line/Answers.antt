-- `recording::feeding::end_line` meets its contract. Assumes nothing.
use mathlib.Core.Path.{ap, ◌∙◌}
use Prim.Native.Nat.{ℕ}
use lib.ListN.{take}
use Rattle.calls.proofs.MeaningLaws.{take-at-most}
use Rattle.recording.proofs.feeding.end_line.Goals as goal

pub returns : goal.returns
returns c =
    rw (ap (λ (j : ℕ). take j c.args.line.now) c.at_most-n.ensures.0 ∙ take-at-most c.args.partial.len c.args.line.now) at c.answer_line.ensures
