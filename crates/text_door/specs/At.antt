-- A text line at the process that it names: what is answered, and the process with its bytes after it.
use Rattle.std.specs.Prelude.{◌≡◌, true, not, cond, ◌||◌, List, ◌∷◌, ◌++◌, ℕ, zero, suc, length, eqb}
use Rattle.lists.specs.Buffer.{overlay}
use Rattle.format.specs.Outcome.{outcome, test, first_failing}
use Rattle.fields.specs.declared.read.Line.{Line}
use Rattle.fields.specs.Letters.{READ-CODE, READ-DATA, WRITE-CODE, WRITE-DATA, READ-REGISTER, WRITE-REGISTER, CONTINUE}
use Rattle.process.specs.declared.record.Process.{Process}
use Rattle.process.specs.Local.{Local}
use Rattle.process.specs.Request.{continued, stepped_from}
use Rattle.rules.specs.Rule.{public}
use Rattle.rules.specs.TextRule.{TextRule, read_word_rule, write_word_rule, read_register_rule, write_register_rule, go_rule, text_rule_of}
use Rattle.rules.specs.Tests.{text_outer_tests, text_inner_tests}
use Rattle.rules.specs.Step.{Answer, plain_answer, text_reply, text_refusal}
use Rattle.service.specs.At.{ProcessResult, leaving}
use Rattle.text_door.specs.declared.request.TextRequest.{TextRequest}
use Rattle.text_door.specs.declared.request.TextRequest.TheVariants.{ReadWord, WriteWord, ReadRegister, WriteRegister, Continue, Step}

-- ---- by what is asked for

-- what a letter asks for; a line with any other letter is refused before
unfoldable pub request_of : ℕ → TextRequest
request_of letter =
    cond (eqb letter READ-CODE || eqb letter READ-DATA) ReadWord
    (cond (eqb letter WRITE-CODE || eqb letter WRITE-DATA) WriteWord
    (cond (eqb letter READ-REGISTER) ReadRegister
    (cond (eqb letter WRITE-REGISTER) WriteRegister
    (cond (eqb letter CONTINUE) Continue Step))))

-- its row of the rules
unfoldable pub row_of : TextRequest → TextRule
row_of ReadWord = read_word_rule
row_of WriteWord = write_word_rule
row_of ReadRegister = read_register_rule
row_of WriteRegister = write_register_rule
row_of Continue = go_rule continued
row_of Step = go_rule stepped_from

-- a line passed the tests 122 and 114
pub record Passed (request : TextRequest) (x : Line) (p : Process) : Type 0 where
  pub state : (row_of request).state x p ≡ true
  pub range : (row_of request).range x p.size ≡ true

-- granted, and this text is laid over the start of the buffer
abbrev pub replied : List ℕ → List ℕ → Answer
replied text buffer = plain_answer (outcome 0 (length text)) (overlay text buffer)

-- a granted line to this process
abbrev pub granted_by : TextRequest → Line → List ℕ → Local → ProcessResult
granted_by request x buffer l = leaving (replied ((row_of request).reply x l) buffer) ((row_of request).effect x l)

-- ---- by the letter

-- the tests 103, 101, 116, 122 and 114 of a process whose number is under 8
unfoldable pub text_number_at : Line → Process → ℕ
text_number_at x p = first_failing (test 103 (not p.there) ∷ text_outer_tests x (public p) ++ text_inner_tests x p)

-- a text line to this process, by the number of its tests
unfoldable pub text_by : ℕ → Line → List ℕ → Local → ProcessResult
text_by zero x buffer l = leaving (text_reply x buffer l) ((text_rule_of x.letter).effect x l)
text_by (suc n) x buffer l = leaving (text_refusal (suc n) x buffer) l

-- the same by its tests
unfoldable pub text_at : Line → List ℕ → Local → ProcessResult
text_at x buffer l = text_by (text_number_at x l.process) x buffer l
