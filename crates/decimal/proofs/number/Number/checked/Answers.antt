-- `decimal::number::Number::checked` meets its contract, by whether the digits are a numeral. Assumes nothing.
use mathlib.Core.Path.{sym, ap, ◌∙◌}
use mathlib.Core.Bool.{Bool}
use Rattle.decimal.specs.Read.{checked}
use Rattle.decimal.proofs.number.Number.checked.Goals as goal

pub returns-then-not-is_plain : goal.returns-then-not-is_plain
returns-then-not-is_plain c =
    c.wrong.ensures ∙ ap (λ (t : Bool). checked t c.args.value c.args.end) (sym c.if-not-is_plain.true ∙ c.is_plain.ensures)

pub returns : goal.returns
returns c =
    ap (λ (t : Bool). checked t c.args.value c.args.end) (sym c.if-not-is_plain.false ∙ c.is_plain.ensures)
