-- The run state of a process: its number, the questions that are asked of it, and what a report makes of it.
use Rattle.std.specs.Prelude.{Bool, true, false, cond, ◌&&◌, ℕ, eqb, leb}
use Rattle.run_state.specs.declared.Run.{Run}
use Rattle.run_state.specs.declared.Run.TheVariants.{Running, Stepping, Stopped, AtBreak, Ended, Passing}
use Rattle.run_state.specs.ReportKind.{HALT, BPT, TTRAP}

-- ---- numbers

-- the number of a run state, in the order of 'running, stepping, stopped, at a breakpoint, ended', and then 'a sixth run state, passing'
abbrev pub run_number : Run → ℕ
run_number Running = 0
run_number Stepping = 1
run_number Stopped = 2
run_number AtBreak = 3
run_number Ended = 4
run_number Passing = 5

-- a run state has this number
abbrev pub is_run_number : ℕ → Bool
is_run_number n = leb n 5

-- a run state by its number; any other number is read as running
unfoldable pub run_of : ℕ → Run
run_of n =
    cond (eqb n 1) Stepping
    (cond (eqb n 2) Stopped
    (cond (eqb n 3) AtBreak
    (cond (eqb n 4) Ended
    (cond (eqb n 5) Passing Running))))

-- ---- questions

-- STOP: 'running or stepping becomes stopped', and of passing 'STOP makes it stopped'
abbrev pub moving : Run → Bool
moving Running = true
moving Stepping = true
moving Stopped = false
moving AtBreak = false
moving Ended = false
moving Passing = true

-- 'a sixth run state, passing'
abbrev pub passing : Run → Bool
passing Running = false
passing Stepping = false
passing Stopped = false
passing AtBreak = false
passing Ended = false
passing Passing = true

-- 'Sound now allows a lifted one only while stepping or passing.'
abbrev pub stepping_or_passing : Run → Bool
stepping_or_passing Running = false
stepping_or_passing Stepping = true
stepping_or_passing Stopped = false
stepping_or_passing AtBreak = false
stepping_or_passing Ended = false
stepping_or_passing Passing = true

-- 'stopped or at a breakpoint'; of passing: 'RESUME, SINGLE STEP and PROCEED BPT give 9'
abbrev pub stopped_or_at_break : Run → Bool
stopped_or_at_break Running = false
stopped_or_at_break Stepping = false
stopped_or_at_break Stopped = true
stopped_or_at_break AtBreak = true
stopped_or_at_break Ended = false
stopped_or_at_break Passing = false

-- 'only at a breakpoint'
abbrev pub at_break : Run → Bool
at_break Running = false
at_break Stepping = false
at_break Stopped = false
at_break AtBreak = true
at_break Ended = false
at_break Passing = false

-- ---- changes

-- 'Stopped, at a breakpoint or stepping becomes running; ended stays.'; of passing: 'END DEBUG running'
abbrev pub released : Run → Run
released Running = Running
released Stepping = Running
released Stopped = Running
released AtBreak = Running
released Ended = Ended
released Passing = Running

-- after 'a silent pass': passing 'is entered only where a breakpoint was lifted', and
-- 'A stepping process that passes silently stays stepping'
abbrev pub after_pass : Run → Run
after_pass Running = Passing
after_pass Stepping = Stepping
after_pass Stopped = Stopped
after_pass AtBreak = AtBreak
after_pass Ended = Ended
after_pass Passing = Passing

-- ---- reports

-- 'Accepted while running or stepping; TTRAP only while stepping.', and '9 no longer for a report while passing, TTRAP included'
unfoldable pub accepts : ℕ → Run → Bool
accepts kind run = cond (eqb kind TTRAP) (stepping_or_passing run) (moving run)

-- a passing process 'executes one instruction and reports TTRAP; the stub replants the word and the process runs, without notice'
unfoldable pub goes_on : ℕ → Run → Bool
goes_on kind run = eqb kind TTRAP && passing run

-- 'TRAP and TTRAP give stopped, HALT ended, BPT at a breakpoint'
unfoldable pub run_after : ℕ → Run
run_after kind = cond (eqb kind HALT) Ended (cond (eqb kind BPT) AtBreak Stopped)
