-- `calls::show::answer_unknown` meets its contract. Assumes nothing.
use mathlib.Core.Path.{refl}
use mathlib.Core.List.{[], ◌∷◌}
use native.Mathlib.Omega.{arith}
use Rattle.calls.specs.Meaning.{unknown_effect}
use Rattle.calls.proofs.MeaningLaws.{prints-put}
use Rattle.calls.proofs.show.answer_unknown.Goals as goal

pub returns : goal.returns
unfolding unknown_effect
returns c = record { state = refl; memory = refl; text = prints-put (63 ∷ 10 ∷ []) _ _ _ (omega (arith, c.requires)) c.put.ensures }
