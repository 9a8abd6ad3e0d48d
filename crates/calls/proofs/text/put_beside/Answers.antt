-- `calls::text::put_beside` meets its contract, by whether a line is answered. Assumes nothing.
use mathlib.Core.Path.{sym, ◌∙◌}
use borrow.Author.Tests.{eqb-true, eqb-false}
use Rattle.lines.proofs.PutLaws.{put_then, put_as}
use Rattle.calls.proofs.ShownLaws.{beside_none, beside-some}
use Rattle.calls.proofs.text.put_beside.Goals as goal

pub returns-then-is_empty : goal.returns-then-is_empty
returns-then-is_empty c =
    put_as c.args.at _ _ _ c.args.out.now _ (sym (beside_none c.args.shown c.args.line.now (eqb-true _ 0 (sym c.is_empty.ensures ∙ c.if-is_empty.true)))) c.put.ensures

pub returns : goal.returns
returns c =
    put_as c.args.at _ _ _ c.args.out.now _ (sym (beside-some c.args.shown c.args.line.now (eqb-false _ 0 (sym c.is_empty.ensures ∙ c.if-is_empty.false))))
    (put_then c.args.at c.put_between-next.result _ _ c.args.line.now c.args.out.now _ _ c.put_between-next.ensures.put c.put-2.ensures)
