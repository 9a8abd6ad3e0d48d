-- A line of four fields as text: `0x%x %c 0x%x 0x%x` and a newline.
use Rattle.std.specs.Prelude.{◌≡◌, true, List, [], ◌∷◌, ◌++◌, ℕ, ◌+◌, ◌<◌, length}
use Rattle.std.proofs.lemmas.List.Edits.{sets}
use Rattle.fields.specs.declared.write.Fields.{Fields}
use Rattle.fields.specs.Letters.{known}
use Rattle.fields.specs.Hex.{hex_numeral}

-- no line is longer: three numbers of ten bytes, a letter, three blanks and a newline
abbrev pub line_bytes : ℕ
line_bytes = 35

-- text was put into a buffer from an index on: the index after it, and the buffer then
abbrev pub Put : ℕ → List ℕ → List ℕ → ℕ → List ℕ → Type 0
Put at text buffer next last = (next ≡ at + length text) × (last ≡ sets buffer at text)

-- a number after a blank
unfoldable pub blank_numeral : ℕ → List ℕ
blank_numeral n = 32 ∷ hex_numeral n

-- the line
unfoldable pub written : Fields → List ℕ
written f = hex_numeral f.pid ++ (32 ∷ f.letter ∷ (blank_numeral f.third ++ (blank_numeral f.fourth ++ (10 ∷ []))))

-- what a line can say: one of the eight requests, and numbers of 32 bits
pub record Sayable (f : Fields) : Type 0 where
  pub letter-known : known f.letter ≡ true
  pub pid-fits : f.pid < 4294967296
  pub third-fits : f.third < 4294967296
  pub fourth-fits : f.fourth < 4294967296
