-- A line as an answer: the third field says whether it failed.
use Rattle.std.specs.Prelude.{◌≡◌, Bool, true, cond, Option, Some, None, ◌&&◌, ◌||◌, List, ℕ, ◌<◌, eqb}
use Rattle.fields.specs.declared.write.Fields.{Fields}
use Rattle.fields.specs.declared.read.Line.{Line}
use Rattle.fields.specs.declared.answer.TextAnswer.{TextAnswer}
use Rattle.fields.specs.Letters.{known}
use Rattle.fields.specs.Read.{line_of}

-- 'the flag 0xffffffff'
abbrev pub failed_flag : ℕ
failed_flag = 4294967295

-- an answer as the four fields of its line
unfoldable pub answer_fields : TextAnswer → Fields
answer_fields a = record { pid = a.pid; letter = a.letter; third = cond a.failed failed_flag 0; fourth = a.value }

-- 0, or the flag
unfoldable pub is_flag : ℕ → Bool
is_flag n = eqb n 0 || eqb n failed_flag

-- a line as an answer: a whole one, whose third field is 0 or the flag
unfoldable pub answer_from : Line → Option TextAnswer
answer_from l =
    cond (l.whole && is_flag l.third)
    (Some (record { pid = l.pid; letter = l.letter; failed = eqb l.third failed_flag; value = l.fourth })) None

-- a text as an answer
unfoldable pub answer_of : List ℕ → Option TextAnswer
answer_of text = answer_from (line_of text)

-- what an answer can say: one of the eight requests, and numbers of 32 bits
pub record SayableAnswer (a : TextAnswer) : Type 0 where
  pub letter-known : known a.letter ≡ true
  pub pid-fits : a.pid < 4294967296
  pub value-fits : a.value < 4294967296
