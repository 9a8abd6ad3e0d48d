-- A number of bytes.
use Rattle.std.specs.Prelude.{cond, List, ◌++◌, ℕ, eqb}
use Rattle.decimal.specs.Numeral.{numeral}
use Rattle.sentence.specs.Text.{text}

-- '1 byte', '16 bytes'
unfoldable pub count_text : ℕ → List ℕ
count_text n = numeral n ++ cond (eqb n 1) (text " byte") (text " bytes")
