-- The line that answers a call.
use Rattle.std.specs.Prelude.{List, [], ◌∷◌, ◌++◌, ℕ}
use Rattle.lines.specs.Hex.{spaced_or_dash}
use Rattle.decimal.specs.Numeral.{numeral}

-- 'prints the number and the reply, or `-` where nothing is written': a line with its newline
unfoldable pub answer_line : ℕ → List ℕ → List ℕ
answer_line number bytes = (numeral number ++ spaced_or_dash bytes) ++ (10 ∷ [])
