-- The sentence that tells people why a request is refused, or that it is granted.
use Rattle.std.specs.Prelude.{cond, List, ◌++◌, ℕ, eqb}
use Rattle.ops.specs.Codes.{DEPOSIT-VECTOR, PROCEED, CREATE, END-WATCH}
use Rattle.format.specs.declared.header.Header.{Header}
use Rattle.reasons.specs.declared.Limit.{Limit}
use Rattle.reasons.specs.declared.Limit.TheVariants.{End, Count, Last}
use Rattle.reasons.specs.declared.Reason.{Reason}
use Rattle.reasons.specs.declared.Reason.TheVariants.{Granted, Length, Debugger, RunState, Past, Full, Watcher, Setter, Other}
use Rattle.run_state.specs.declared.Run.TheVariants.{Ended}
use Rattle.run_state.specs.RunState.{run_number}
use Rattle.sentence.specs.Text.{text}
use Rattle.sentence.specs.RunName.{run_name}
use Rattle.sentence.specs.Pattern.{told}

-- no sentence is longer than this
abbrev pub sentence_room : ℕ
sentence_room = 160

-- 8: 'host 6 does not watch process 2', 'nobody debugs process 2', 'host 5 debugs process 2'
unfoldable pub debugger_text : Header → ℕ → List ℕ
debugger_text h host =
    cond (eqb h.cmd END-WATCH) (told h host "host @ does not watch process #")
    (cond (eqb host 0) (told h host "nobody debugs process #")
    (cond (eqb host h.host) (told h host "host $ debugs process # itself: WATCH is for another host")
    (told h host "host $ debugs process #")))

-- 'the process is running', 'the process has ended'
unfoldable pub state_text : ℕ → List ℕ
state_text run = cond (eqb run (run_number Ended)) (text "the process has ") (text "the process is ") ++ run_name run

-- ': RESUME wants it stopped or at a breakpoint'
unfoldable pub want_text : Header → List ℕ
want_text h = cond (eqb h.cmd PROCEED) (told h 0 ": ! wants it at a breakpoint") (told h 0 ": ! wants it stopped or at a breakpoint")

-- 9: 'the process is running: RESUME wants it stopped or at a breakpoint'
unfoldable pub run_state_text : Header → ℕ → List ℕ
run_state_text h run = state_text run ++ want_text h

-- 10: 'EXAMINE of 16 bytes at 4090 of process 2: 10 bytes past its end (4096)'
unfoldable pub past_end_text : Header → ℕ → List ℕ
past_end_text h n =
    cond (eqb h.cmd DEPOSIT-VECTOR) (told h n "! of % at ^ of process #: + past the end of the vector (=)")
    (told h n "! of % at ^ of process #: + past its end (=)")

-- 10: 'BREAK at 257 of process 2: the address is odd', 'BREAK at 4096 of process 2: 2 bytes past the last address for a breakpoint (4094)'
unfoldable pub past_last_text : Header → ℕ → List ℕ
past_last_text h n =
    cond (eqb n 0) (told h n "! at ^ of process #: the address is odd") (told h n "! at ^ of process #: + past the last address for a breakpoint (<)")

-- 10, by the limit: also 'EXAMINE of 300 bytes of process 2: 44 bytes over 256'
unfoldable pub past_text : Header → Limit → ℕ → List ℕ
past_text h End n = past_end_text h n
past_text h Count n = told h n "! of % of process #: + over 256"
past_text h Last n = past_last_text h n

-- 11: 'all 8 breakpoints of process 2 are set', 'host 6 may set no more than 4 breakpoints in process 2 while it is watched'
unfoldable pub full_text : Header → ℕ → List ℕ
full_text h n =
    cond (eqb n 8) (told h n "all 8 breakpoints of process # are set")
    (told h n "host @ may set no more than $ breakpoints in process # while it is watched")

-- 6: a wrong field or string, and for CREATE PROCESS a wrong size
unfoldable pub form_text : Header → List ℕ
form_text h =
    cond (eqb h.cmd CREATE) (told h 0 "a field that ! does not use is not 0, its size is odd or over 4096, or it has a string")
    (told h 0 "a field that ! does not use is not 0, or its string has a wrong length")

-- 2, 4, 5, 6, 7, 12 and 13, each by words of its own; 'refused with 14'
unfoldable pub other_text : Header → ℕ → List ℕ
other_text h n =
    cond (eqb n 2) (told h 0 "the state of the gateway is not sound")
    (cond (eqb n 4) (told h 0 "the message is not in the form of RFC 643: TYPE, LINK or STYPE is wrong, or HOST is 0")
    (cond (eqb n 5) (told h 0 "! is not known")
    (cond (eqb n 6) (form_text h)
    (cond (eqb n 7) (told h 0 "there is no process #")
    (cond (eqb n 12) (told h 0 "there is no breakpoint at ^ in process #")
    (cond (eqb n 13) (told h 0 "there is no room for a new process: all 8 are there, or too few bytes are free")
    (told h n "refused with $")))))))

-- the sentence of a request's header and a reason
unfoldable pub sentence : Header → Reason → List ℕ
sentence h Granted = told h 0 "granted"
sentence h (Length n) = told h n "the message has +, not 10 to 266"
sentence h (Debugger host) = debugger_text h host
sentence h (RunState run) = run_state_text h run
sentence h (Past limit n) = past_text h limit n
sentence h (Full n) = full_text h n
sentence h (Watcher host) = told h host "host $ watches process # already"
sentence h (Setter host) = told h host "host $ set the breakpoint at ^ of process #"
sentence h (Other n) = other_text h n
