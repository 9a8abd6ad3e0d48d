-- A case about a watcher (K5).
use Rattle.std.specs.Prelude.{List, [], ◌∷◌, ℕ}
use Rattle.run_state.specs.ReportKind.{TRAP}
use Rattle.rules.specs.Step.{Call, report}
use Rattle.cases.specs.Case.{Case, parties, buffer, line_buffer, sent, asked, answer, noticed}
use Rattle.cases.specs.Cases.{second, whole, word, words, debug_by_six, reached}

-- WATCH of process 2
abbrev pub watch : ℕ → Call
watch host = asked host 14 2 0 0 []

-- END WATCH
abbrev pub end_watch : ℕ → Call
end_watch host = asked host 15 2 0 0 []

-- a TRAP report of process 2 with PC 256
abbrev pub trapped : Call
trapped = report 2 TRAP 0 words buffer line_buffer

-- host 6 debugs process 2, host 7 watches it and sets a breakpoint at 256. 15 for 'another watcher', and 16, 'the breakpoint is the
-- other's', for UNBREAK by host 6. 'A BPT notice at a breakpoint goes to the one who set it, other notices to the debugging host': a TRAP
-- there goes to host 6, and a BPT to host 7. 'END WATCH removes the watcher's breakpoints': the word is put back
abbrev pub watch_case : Case
watch_case = record {
  there = second;
  sizes = whole;
  lent = word;
  places = 256 ∷ 257 ∷ [];
  looks = parties;
  calls = sent debug_by_six ∷ watch 7 ∷ asked 7 8 2 256 0 [] ∷ watch 8 ∷ asked 6 9 2 256 0 [] ∷ trapped ∷ asked 6 5 2 0 0 [] ∷ reached ∷ end_watch 7 ∷ [];
  seen = answer 0 debug_by_six (18 ∷ 52 ∷ []) (6 ∷ 0 ∷ 0 ∷ [])
      ∷ answer 0 (0 ∷ 7 ∷ 255 ∷ 0 ∷ 14 ∷ 2 ∷ 0 ∷ 0 ∷ 0 ∷ 0 ∷ []) (18 ∷ 52 ∷ []) (6 ∷ 7 ∷ 0 ∷ [])
      ∷ answer 0 (0 ∷ 7 ∷ 255 ∷ 0 ∷ 8 ∷ 2 ∷ 1 ∷ 0 ∷ 0 ∷ 0 ∷ []) (3 ∷ 0 ∷ []) (6 ∷ 7 ∷ 7 ∷ [])
      ∷ answer 15 (0 ∷ 8 ∷ 255 ∷ 0 ∷ 142 ∷ 2 ∷ 0 ∷ 0 ∷ 0 ∷ 0 ∷ []) (3 ∷ 0 ∷ []) (6 ∷ 7 ∷ 7 ∷ [])
      ∷ answer 16 (0 ∷ 6 ∷ 255 ∷ 0 ∷ 137 ∷ 2 ∷ 1 ∷ 0 ∷ 0 ∷ 0 ∷ []) (3 ∷ 0 ∷ []) (6 ∷ 7 ∷ 7 ∷ [])
      ∷ noticed (0 ∷ 6 ∷ 255 ∷ 0 ∷ 64 ∷ 2 ∷ 0 ∷ 0 ∷ 0 ∷ 0 ∷ 1 ∷ 0 ∷ 2 ∷ 0 ∷ 3 ∷ 0 ∷ 4 ∷ 0 ∷ 5 ∷ 0 ∷ 6 ∷ 0 ∷ 7 ∷ 0 ∷ 0 ∷ 1 ∷ 1 ∷ 2 ∷ []) (3 ∷ 0 ∷ []) (6 ∷ 7 ∷ 7 ∷ [])
      ∷ answer 0 (0 ∷ 6 ∷ 255 ∷ 0 ∷ 5 ∷ 2 ∷ 0 ∷ 0 ∷ 0 ∷ 0 ∷ []) (3 ∷ 0 ∷ []) (6 ∷ 7 ∷ 7 ∷ [])
      ∷ noticed (0 ∷ 7 ∷ 255 ∷ 0 ∷ 66 ∷ 2 ∷ 0 ∷ 0 ∷ 0 ∷ 0 ∷ 1 ∷ 0 ∷ 2 ∷ 0 ∷ 3 ∷ 0 ∷ 4 ∷ 0 ∷ 5 ∷ 0 ∷ 6 ∷ 0 ∷ 7 ∷ 0 ∷ 0 ∷ 1 ∷ 1 ∷ 2 ∷ []) (3 ∷ 0 ∷ []) (6 ∷ 7 ∷ 7 ∷ [])
      ∷ answer 0 (0 ∷ 7 ∷ 255 ∷ 0 ∷ 15 ∷ 2 ∷ 0 ∷ 0 ∷ 0 ∷ 0 ∷ []) (18 ∷ 52 ∷ []) (6 ∷ 0 ∷ 0 ∷ [])
      ∷ [];
}

-- all of these cases
abbrev pub watch_cases : List Case
watch_cases = watch_case ∷ []
