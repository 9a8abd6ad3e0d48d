-- `recording::feeding::pairs_begin` meets its contract. Assumes nothing.
use mathlib.Core.Path.{ap, ◌∙◌}
use Prim.Native.Nat.{ℕ}
use lib.ListN.{take}
use Rattle.recording.specs.Line.{pairs_from}
use Rattle.calls.proofs.MeaningLaws.{take-at-most}
use Rattle.recording.proofs.feeding.pairs_begin.Goals as goal

pub returns : goal.returns
returns c =
    c.pairs_from.ensures ∙ ap (pairs_from c.args.language) (ap (λ (j : ℕ). take j c.args.line.now) c.at_most-n.ensures.0 ∙ take-at-most c.args.partial.len c.args.line.now)
