-- The statements that the contracts of theorems.rt carry.
use Rattle.std.specs.Prelude.{◌≡◌, true, false, Some, List, ◌∷◌, ◌++◌, ℕ, ◌+◌, ◌≤◌, ◌<◌, length, drop}
use Rattle.fields.specs.declared.write.Fields.{Fields}
use Rattle.fields.specs.declared.answer.TextAnswer.{TextAnswer}
use Rattle.fields.specs.Letters.{known}
use Rattle.fields.specs.Hex.{hex_numeral}
use Rattle.fields.specs.Written.{written, line_bytes, Sayable}
use Rattle.fields.specs.Read.{line_of, fields_of, whole_line, separates}
use Rattle.fields.specs.Answer.{answer_of, answer_fields, SayableAnswer}

-- 'Reading a printed line gives its meaning, and no other line does'
pub record ReadsLines : Type 0 where
  -- a written line is read as the four fields that it was written from
  pub written-is-read : (f : Fields) → Sayable f → line_of (written f) ≡ whole_line f
  -- and only a written line is read as a whole one
  pub read-is-written : (text : List ℕ) → (line_of text).whole ≡ true → (text ≡ written (fields_of (line_of text))) × Sayable (fields_of (line_of text))
  -- two lines with one meaning are the same line
  pub one_line : (text other : List ℕ) → (line_of text).whole ≡ true → line_of other ≡ line_of text → other ≡ text
  -- two meanings have two lines
  pub one-meaning : (f g : Fields) → Sayable f → Sayable g → written f ≡ written g → f ≡ g

-- the same of answers
pub record ReadsAnswers : Type 0 where
  -- the line of an answer is read as it
  pub answer-is-read : (a : TextAnswer) → SayableAnswer a → answer_of (written (answer_fields a)) ≡ Some a
  -- and only the line of an answer is read as one
  pub read-is-answer : (text : List ℕ) (a : TextAnswer) → answer_of text ≡ Some a → (text ≡ written (answer_fields a)) × SayableAnswer a

-- what is read where the rest of a line is not
pub record ReadsHeads : Type 0 where
  -- a number, a blank and one of the eight letters, which ends there, are read as process and request, whatever follows
  pub head-is-read : (pid letter : ℕ) (rest : List ℕ) → pid < 4294967296 → known letter ≡ true → separates rest ≡ true
      → ((line_of (hex_numeral pid ++ (32 ∷ letter ∷ rest))).headed ≡ true)
      × ((line_of (hex_numeral pid ++ (32 ∷ letter ∷ rest))).pid ≡ pid)
      × ((line_of (hex_numeral pid ++ (32 ∷ letter ∷ rest))).letter ≡ letter)
  -- and only these are
  pub read-is-head : (text : List ℕ) → (line_of text).headed ≡ true
      → (text ≡ hex_numeral (line_of text).pid ++ (32 ∷ (line_of text).letter ∷ drop (length (hex_numeral (line_of text).pid) + 2) text))
      × ((line_of text).pid < 4294967296)
      × (known (line_of text).letter ≡ true)
      × (separates (drop (length (hex_numeral (line_of text).pid) + 2) text) ≡ true)
  -- of a whole line process and request are read
  pub whole-is-headed : (text : List ℕ) → (line_of text).whole ≡ true → (line_of text).headed ≡ true
  -- what cannot be read is 0
  pub unread-is-nought : (text : List ℕ) → (line_of text).headed ≡ false → ((line_of text).pid ≡ 0) × ((line_of text).letter ≡ 0)
  pub rest-is-nought : (text : List ℕ) → (line_of text).whole ≡ false → ((line_of text).third ≡ 0) × ((line_of text).fourth ≡ 0)

-- no line is longer than 35 bytes
pub record ShortLines : Type 0 where
  pub short-line : (f : Fields) → f.pid < 4294967296 → f.third < 4294967296 → f.fourth < 4294967296 → length (written f) ≤ line_bytes
