-- Cases about the text lines (K7), as host 253.
use Rattle.std.specs.Prelude.{List, [], ◌∷◌, ℕ}
use Rattle.cases.specs.Case.{Case, nothing, owing, sent, typed, answer, answer_line, noticed_beside}
use Rattle.cases.specs.Cases.{second, whole, word, reached}

-- DEBUG of process 2 by host 253
abbrev pub debug : List ℕ
debug = 0 ∷ 253 ∷ 255 ∷ 0 ∷ 1 ∷ 2 ∷ 0 ∷ 0 ∷ 0 ∷ 0 ∷ []

-- `0x2 D 0x100 0x44332211`
abbrev pub write_word : List ℕ
write_word = 48 ∷ 120 ∷ 50 ∷ 32 ∷ 68 ∷ 32 ∷ 48 ∷ 120 ∷ 49 ∷ 48 ∷ 48 ∷ 32 ∷ 48 ∷ 120 ∷ 52 ∷ 52 ∷ 51 ∷ 51 ∷ 50 ∷ 50 ∷ 49 ∷ 49 ∷ 10 ∷ []

-- the line that answers it: 'Reply returns previous contents', which are 18, 52, 0, 0, 'low byte first': `0x2 D 0x0 0x3412`
abbrev pub word_before : List ℕ
word_before = 48 ∷ 120 ∷ 50 ∷ 32 ∷ 68 ∷ 32 ∷ 48 ∷ 120 ∷ 48 ∷ 32 ∷ 48 ∷ 120 ∷ 51 ∷ 52 ∷ 49 ∷ 50 ∷ 10 ∷ []

-- `0x2 d 0x100 0x0`
abbrev pub read_word : List ℕ
read_word = 48 ∷ 120 ∷ 50 ∷ 32 ∷ 100 ∷ 32 ∷ 48 ∷ 120 ∷ 49 ∷ 48 ∷ 48 ∷ 32 ∷ 48 ∷ 120 ∷ 48 ∷ 10 ∷ []

-- and what is read then: `0x2 d 0x0 0x44332211`
abbrev pub word_then : List ℕ
word_then = 48 ∷ 120 ∷ 50 ∷ 32 ∷ 100 ∷ 32 ∷ 48 ∷ 120 ∷ 48 ∷ 32 ∷ 48 ∷ 120 ∷ 52 ∷ 52 ∷ 51 ∷ 51 ∷ 50 ∷ 50 ∷ 49 ∷ 49 ∷ 10 ∷ []

-- no word begins there: `0x2 d 0x102 0x0`
abbrev pub read_between : List ℕ
read_between = 48 ∷ 120 ∷ 50 ∷ 32 ∷ 100 ∷ 32 ∷ 48 ∷ 120 ∷ 49 ∷ 48 ∷ 50 ∷ 32 ∷ 48 ∷ 120 ∷ 48 ∷ 10 ∷ []

-- 'the flag 0xffffffff', and 14, 'outside or not aligned': `0x2 d 0xffffffff 0xe`
abbrev pub not_aligned : List ℕ
not_aligned = 48 ∷ 120 ∷ 50 ∷ 32 ∷ 100 ∷ 32 ∷ 48 ∷ 120 ∷ 102 ∷ 102 ∷ 102 ∷ 102 ∷ 102 ∷ 102 ∷ 102 ∷ 102 ∷ 32 ∷ 48 ∷ 120 ∷ 101 ∷ 10 ∷ []

-- `D` writes a word, `d` reads it back, and between words it reads nothing; process 2 is the first in memory
abbrev pub line_case : Case
line_case = record {
  there = second;
  sizes = whole;
  lent = word;
  places = 256 ∷ 257 ∷ 258 ∷ 259 ∷ [];
  looks = nothing;
  calls = sent debug ∷ typed write_word ∷ typed read_word ∷ typed read_between ∷ [];
  seen = answer 0 debug (18 ∷ 52 ∷ 0 ∷ 0 ∷ []) []
      ∷ answer_line 0 word_before (17 ∷ 34 ∷ 51 ∷ 68 ∷ []) []
      ∷ answer_line 0 word_then (17 ∷ 34 ∷ 51 ∷ 68 ∷ []) []
      ∷ answer_line 114 not_aligned (17 ∷ 34 ∷ 51 ∷ 68 ∷ []) []
      ∷ [];
}

-- it goes on where it is: `0x2 c 0x1 0x0`
abbrev pub go_on : List ℕ
go_on = 48 ∷ 120 ∷ 50 ∷ 32 ∷ 99 ∷ 32 ∷ 48 ∷ 120 ∷ 49 ∷ 32 ∷ 48 ∷ 120 ∷ 48 ∷ 10 ∷ []

-- 16, 'an answer owed, whatever is asked': `0x2 d 0xffffffff 0x10`
abbrev pub still_owed : List ℕ
still_owed = 48 ∷ 120 ∷ 50 ∷ 32 ∷ 100 ∷ 32 ∷ 48 ∷ 120 ∷ 102 ∷ 102 ∷ 102 ∷ 102 ∷ 102 ∷ 102 ∷ 102 ∷ 102 ∷ 32 ∷ 48 ∷ 120 ∷ 49 ∷ 48 ∷ 10 ∷ []

-- '127 plus 256 times the signal: 5 for BPT': `0x2 c 0x0 0x57f`
abbrev pub at_breakpoint : List ℕ
at_breakpoint = 48 ∷ 120 ∷ 50 ∷ 32 ∷ 99 ∷ 32 ∷ 48 ∷ 120 ∷ 48 ∷ 32 ∷ 48 ∷ 120 ∷ 53 ∷ 55 ∷ 102 ∷ 10 ∷ []

-- and then the word that is there: `0x2 d 0x0 0x3412`
abbrev pub word_read : List ℕ
word_read = 48 ∷ 120 ∷ 50 ∷ 32 ∷ 100 ∷ 32 ∷ 48 ∷ 120 ∷ 48 ∷ 32 ∷ 48 ∷ 120 ∷ 51 ∷ 52 ∷ 49 ∷ 50 ∷ 10 ∷ []

-- STOP by host 253
abbrev pub stop : List ℕ
stop = 0 ∷ 253 ∷ 255 ∷ 0 ∷ 3 ∷ 2 ∷ 0 ∷ 0 ∷ 0 ∷ 0 ∷ []

-- the notice of the BPT report
abbrev pub notice : List ℕ
notice = 0 ∷ 253 ∷ 255 ∷ 0 ∷ 66 ∷ 2 ∷ 0 ∷ 0 ∷ 0 ∷ 0 ∷ 1 ∷ 0 ∷ 2 ∷ 0 ∷ 3 ∷ 0 ∷ 4 ∷ 0 ∷ 5 ∷ 0 ∷ 6 ∷ 0 ∷ 7 ∷ 0 ∷ 0 ∷ 1 ∷ 1 ∷ 2 ∷ []

-- `c` is 'answered when a report next stops or ends the process, in a line buffer beside any notice'; until then nothing else is
abbrev pub owed_case : Case
owed_case = record {
  there = second;
  sizes = whole;
  lent = word;
  places = [];
  looks = owing;
  calls = sent debug ∷ sent stop ∷ typed go_on ∷ typed read_word ∷ reached ∷ typed read_word ∷ [];
  seen = answer 0 debug [] (0 ∷ 0 ∷ [])
      ∷ answer 0 stop [] (2 ∷ 0 ∷ [])
      ∷ answer_line 0 [] [] (0 ∷ 1 ∷ [])
      ∷ answer_line 116 still_owed [] (0 ∷ 1 ∷ [])
      ∷ noticed_beside at_breakpoint notice [] (3 ∷ 0 ∷ [])
      ∷ answer_line 0 word_read [] (3 ∷ 0 ∷ [])
      ∷ [];
}

-- all of these cases
abbrev pub line_cases : List Case
line_cases = line_case ∷ owed_case ∷ []
