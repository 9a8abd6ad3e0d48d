-- How the text line that answers a call is shown. It has its newline, which ends the printed line too.
use Rattle.std.specs.Prelude.{List, [], ◌∷◌, ◌++◌, ℕ}
use Rattle.lines.specs.Hex.{spaced_or_dash}
use Rattle.decimal.specs.Numeral.{numeral}
use Rattle.calls.specs.declared.text.Shown.{Shown}
use Rattle.calls.specs.declared.text.Shown.TheVariants.{Recorded, Alone}

-- 'the answered line .., or `-`'
unfoldable pub line_or_dash : List ℕ → List ℕ
line_or_dash [] = 45 ∷ 10 ∷ []
line_or_dash (c ∷ cs) = c ∷ cs

-- what answers a text line: in a recording 'NUMBER and the answered line without its newline, or `-`', else that line alone
unfoldable pub text_shown : Shown → ℕ → List ℕ → List ℕ
text_shown Recorded number line = numeral number ++ (32 ∷ line_or_dash line)
text_shown Alone number line = line

-- what stands before a line that a report answers: ` | `, or a newline
unfoldable pub mark_of : Shown → List ℕ
mark_of Recorded = 32 ∷ 124 ∷ 32 ∷ []
mark_of Alone = 10 ∷ []

-- what follows a notice: the end of the line or, 'where a text line is answered too', the mark and that line
unfoldable pub beside_notice : Shown → List ℕ → List ℕ
beside_notice shown [] = 10 ∷ []
beside_notice shown (c ∷ cs) = mark_of shown ++ (c ∷ cs)

-- what answers a report: 'NUMBER and the notice, or `-`', and the line beside it
unfoldable pub report_shown : Shown → ℕ → List ℕ → List ℕ → List ℕ
report_shown shown number notice line = (numeral number ++ spaced_or_dash notice) ++ beside_notice shown line
