-- `calls::text::put_ended` meets its contract: the first bytes, and the newline after them. Assumes nothing.
use mathlib.Core.Path.{◌≡◌, ap, ◌∙◌}
use mathlib.Core.List.{[], ◌∷◌, ◌++◌}
use Prim.Native.Nat.{ℕ}
use native.Mathlib.Omega.{arith}
use lib.ListN.{take, length-append, length-take}
use Rattle.lines.proofs.PutLaws.{put_then, put_as}
use Rattle.calls.proofs.MeaningLaws.{take-at-most, prints-put}
use Rattle.calls.proofs.text.put_ended.Goals as goal

pub returns : goal.returns
returns c =
    let text = c.args.text.now in
    let front : take c.at_most-n.result text ≡ take 35 text = ap (λ (n : ℕ). take n text) c.at_most-n.ensures.0 ∙ take-at-most 35 text in
    prints-put (take 35 text ++ (10 ∷ [])) _ c.args.line.now _ (omega (arith, length-append (take 35 text) (10 ∷ []), length-take 35 text, c.requires))
    (put_then 0 c.put-at.result _ (take 35 text) (10 ∷ []) c.args.line.now _ _ (put_as 0 _ _ _ c.args.line.now _ front c.put-at.ensures) c.put.ensures)
