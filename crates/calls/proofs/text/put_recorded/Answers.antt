-- `calls::text::put_recorded` meets its contract, by whether a line is answered. Assumes nothing.
use mathlib.Core.Path.{sym, ◌∙◌}
use borrow.Author.Tests.{eqb-true, eqb-false}
use mathlib.Core.List.{[], ◌∷◌, ◌++◌}
use Rattle.lines.proofs.PutLaws.{put_then, put_as}
use Rattle.decimal.specs.Numeral.{numeral}
use Rattle.calls.proofs.ShownLaws.{recorded-none, recorded-some}
use Rattle.calls.proofs.text.put_recorded.Goals as goal

pub returns-then-is_empty : goal.returns-then-is_empty
returns-then-is_empty c =
    put_as 0 _ _ _ c.args.out.now _ (sym (recorded-none c.args.number c.args.line.now (eqb-true _ 0 (sym c.is_empty.ensures ∙ c.if-is_empty.true))))
    (put_then 0 c.put_number-at.result _ (numeral c.args.number) (32 ∷ 45 ∷ 10 ∷ []) c.args.out.now _ _ c.put_number-at.ensures.put c.put.ensures)

pub returns : goal.returns
returns c =
    put_as 0 _ _ _ c.args.out.now _ (sym (recorded-some c.args.number c.args.line.now (eqb-false _ 0 (sym c.is_empty.ensures ∙ c.if-is_empty.false))))
    (put_then 0 c.put_number-at.result _ (numeral c.args.number) ((32 ∷ []) ++ c.args.line.now) c.args.out.now _ _ c.put_number-at.ensures.put
    (put_then c.put_number-at.result c.put-next.result _ (32 ∷ []) c.args.line.now _ _ _ c.put-next.ensures c.put-2.ensures))
