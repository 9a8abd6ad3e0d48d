-- What the text lines ask of a process and do to it: one row for each letter. Words in quotation marks are the change request's (K7)
-- and source document 002's.
use Rattle.std.specs.Prelude.{Bool, true, cond, ◌&&◌, ◌||◌, List, [], ◌∷◌, ℕ, ◌+◌, ◌-◌, ◌*◌, ◌/◌, ◌%◌, get_or, eqb, leb, ltb}
use Rattle.fields.specs.declared.read.Line.{Line}
use Rattle.fields.specs.Letters.{READ-CODE, READ-DATA, WRITE-CODE, WRITE-DATA, READ-REGISTER, WRITE-REGISTER, CONTINUE}
use Rattle.fields.specs.Written.{written}
use Rattle.fields.specs.Answer.{failed_flag}
use Rattle.breakpoints.specs.Entry.{valid_break_address}
use Rattle.run_state.specs.ReportKind.{TRAP, HALT}
use Rattle.run_state.specs.RunState.{stopped_or_at_break}
use Rattle.session.specs.declared.Owed.{Owed}
use Rattle.session.specs.Session.{text_host, owes, owed_letter}
use Rattle.process.specs.declared.record.Process.{Process}
use Rattle.process.specs.Local.{Local}
use Rattle.process.specs.Sizes.{vector_words}
use Rattle.process.specs.Request.{examined, deposited, vector_deposited, continued, stepped_from}
use Rattle.rules.specs.Rule.{Public, holds, insider}

-- each of the first three is true where a test passes
pub record TextRule : Type 0 where
  -- 101, 'no right', by the public part
  pub right : Public → Bool
  -- 122, 'wrong state or a register value over 65,535'
  pub state : Line → Process → Bool
  -- 114, 'outside or not aligned', by the size of the process
  pub range : Line → ℕ → Bool
  -- what it does to the process
  pub effect : Line → Local → Local
  -- the line that answers it at once, or nothing
  pub reply : Line → Local → List ℕ

-- 'All replies have the PID and REQUEST field identical to the corresponding request'; 'ERRFLG is 0 if the request could be completed'
abbrev pub response : Line → ℕ → List ℕ
response x value = written (record { pid = x.pid; letter = x.letter; third = 0; fourth = value })

-- ---- words of memory

-- four bytes, 'low byte first', as a number
unfoldable pub word_of : List ℕ → ℕ
word_of bs = get_or bs 0 0 + 256 * get_or bs 1 0 + 65536 * get_or bs 2 0 + 16777216 * get_or bs 3 0

-- and a number as four bytes
unfoldable pub word_bytes : ℕ → List ℕ
word_bytes v = v % 256 ∷ (v / 256) % 256 ∷ (v / 65536) % 256 ∷ (v / 16777216) % 256 ∷ []

-- 'Words are four seen bytes'
unfoldable pub word_at : ℕ → Local → ℕ
word_at a l = word_of (examined a 4 l)

-- 'at addresses divisible by 4', and inside
unfoldable pub word_range : Line → ℕ → Bool
word_range x size = eqb (x.third % 4) 0 && leb (x.third + 4) size

-- `i` and `d`: 'A watcher may only `i` and `d`'
abbrev pub read_word_rule : TextRule
read_word_rule = record {
  right = λ u. insider u text_host;
  state = λ x p. true;
  range = word_range;
  effect = λ x l. l;
  reply = λ x l. response x (word_at x.third l);
}

-- `I` and `D`: 'Reply returns previous contents'
abbrev pub write_word_rule : TextRule
write_word_rule = record {
  right = λ u. holds u text_host;
  state = λ x p. true;
  range = word_range;
  effect = λ x. deposited x.third (word_bytes x.fourth);
  reply = λ x l. response x (word_at x.third l);
}

-- ---- registers

-- 'registers are 0 to 8 in vector order'
unfoldable pub register_range : Line → ℕ → Bool
register_range x size = ltb x.third vector_words

-- what a register holds
unfoldable pub register_at : ℕ → Local → ℕ
register_at n l = get_or l.process.vector n 0

-- '16 bits', as the two bytes of it in the vector
unfoldable pub register_bytes : ℕ → List ℕ
register_bytes v = v % 256 ∷ v / 256 ∷ []

-- `r`
abbrev pub read_register_rule : TextRule
read_register_rule = record {
  right = λ u. holds u text_host;
  state = λ x p. true;
  range = register_range;
  effect = λ x l. l;
  reply = λ x l. response x (register_at x.third l);
}

-- `R`: 'Previous register contents is returned'; 122 for 'a register value over 65,535'
abbrev pub write_register_rule : TextRule
write_register_rule = record {
  right = λ u. holds u text_host;
  state = λ x p. leb x.fourth 65535;
  range = register_range;
  effect = λ x. vector_deposited (x.third + x.third) (register_bytes x.fourth);
  reply = λ x l. response x (register_at x.third l);
}

-- ---- going on

-- 'a new PC: odd or outside'; 'an address other than 1'
unfoldable pub pc_range : Line → ℕ → Bool
pc_range x size = eqb x.third 1 || valid_break_address size x.third

-- `c` and `s` ask what RESUME and SINGLE STEP ask, and are answered later
abbrev pub go_rule : (ℕ → Local → Local) → TextRule
go_rule effect = record {
  right = λ u. holds u text_host;
  state = λ x p. stopped_or_at_break p.run;
  range = pc_range;
  effect = λ x. effect x.third;
  reply = λ x l. [];
}

-- ---- all letters

-- the row of a letter; a line with any other letter is refused before
unfoldable pub text_rule_of : ℕ → TextRule
text_rule_of letter =
    cond (eqb letter READ-CODE || eqb letter READ-DATA) read_word_rule
    (cond (eqb letter WRITE-CODE || eqb letter WRITE-DATA) write_word_rule
    (cond (eqb letter READ-REGISTER) read_register_rule
    (cond (eqb letter WRITE-REGISTER) write_register_rule
    (cond (eqb letter CONTINUE) (go_rule continued) (go_rule stepped_from)))))

-- 116, 'an answer owed, whatever is asked'
abbrev pub answer_owed : Process → Bool
answer_owed p = owes p.session.owed

-- 'then as errno with the flag 0xffffffff, the number being 100 more'; a number under 100 is silent
unfoldable pub failure : Line → ℕ → List ℕ
failure x number = cond (ltb number 100) [] (written (record { pid = x.pid; letter = x.letter; third = failed_flag; fourth = number - 100 }))

-- ---- owed answers

-- '127 plus 256 times the signal: 5 for BPT and TTRAP, 4 for TRAP; for HALT with 0'
unfoldable pub status_of : ℕ → ℕ
status_of kind = cond (eqb kind HALT) 0 (127 + 256 * cond (eqb kind TRAP) 4 5)

-- the line of a report that answers this owed answer, or nothing
unfoldable pub owed_line : ℕ → ℕ → Owed → List ℕ
owed_line p kind owed = cond (owes owed) (written (record { pid = p; letter = owed_letter owed; third = 0; fourth = status_of kind })) []
