-- `lines::print::put_bytes` meets its contract, by whether there are bytes. Assumes nothing.
use mathlib.Core.Path.{refl, sym, ◌∙◌}
use mathlib.Core.List.{[], ◌∷◌}
use native.Mathlib.Omega.{arith}
use borrow.Author.Tests.{eqb-true, eqb-false}
use Rattle.lists.proofs.Buffer.{sets-overlay}
use Rattle.lines.proofs.PrintLaws.{length-spaced, none-dash, some-spaced}
use Rattle.lines.proofs.print.put_bytes.Goals as goal

pub returns-then-is_empty : goal.returns-then-is_empty
returns-then-is_empty c =
    rw (none-dash c.args.bytes.now (eqb-true _ _ (sym c.is_empty.ensures ∙ c.if-is_empty.true)))
    record { value = refl; out_after = sets-overlay (32 ∷ 45 ∷ []) c.args.out.now (omega (arith, c.requires)) }

pub returns : goal.returns
returns c =
    rw (some-spaced c.args.bytes.now (eqb-false _ _ (sym c.is_empty.ensures ∙ c.if-is_empty.false)))
    record { value = sym (length-spaced c.args.bytes.now); out_after = c.put_spaced.ensures }
