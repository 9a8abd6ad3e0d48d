-- 'Machine report': what a report does to the process that it is about, and whom it tells.
use Rattle.std.specs.Prelude.{Bool, cond, ◌&&◌, List, ℕ, ◌-◌, ltb, eqb}
use Rattle.run_state.specs.ReportKind.{BPT}
use Rattle.run_state.specs.declared.Run.TheVariants.{Running}
use Rattle.run_state.specs.RunState.{run_after, after_pass, goes_on}
use Rattle.session.specs.declared.Owed.{Owed}
use Rattle.session.specs.declared.Owed.TheVariants.{Nothing}
use Rattle.process.specs.declared.record.Process.{Process}
use Rattle.process.specs.declared.report.Verdict.{Verdict}
use Rattle.process.specs.declared.report.Verdict.TheVariants.{Stops, CountsDown, GoesOn}
use Rattle.breakpoints.specs.declared.entry_query.EntryQuery.TheVariants.{At}
use Rattle.breakpoints.specs.Entry.{with_count}
use Rattle.process.specs.Record.{entry, with_run, with_vector, with_entry, owing}
use Rattle.process.specs.Find.{find}
use Rattle.process.specs.Local.{Local}
use Rattle.process.specs.Planting.{lifted_in, replanted}
use Rattle.process.specs.Request.{pc, on_record, has_break}

-- 'The vector is stored and a lifted breakpoint planted again.'
unfoldable pub store_vector_and_replant : List ℕ → Local → Local
store_vector_and_replant words l = replanted (on_record (with_vector words) l)

-- 'BPT with a breakpoint at PC and remaining count above 0'
unfoldable pub passes : ℕ → Process → Bool
passes kind p = eqb kind BPT && (has_break (pc p) p && ltb 0 (entry p (find (At (pc p)) p)).count)

-- 'A BPT notice at a breakpoint goes to the one who set it, other notices to the debugging host'
unfoldable pub notice_host : ℕ → Process → ℕ
notice_host kind p = cond (eqb kind BPT && has_break (pc p) p) (entry p (find (At (pc p)) p)).setter p.host

-- what a report comes to, at a process whose vector is stored: it goes on, the breakpoint at PC counts down, or it stops and this host is told
unfoldable pub verdict_of : ℕ → Process → Verdict
verdict_of kind p =
    cond (goes_on kind p.run) GoesOn (cond (passes kind p) (CountsDown (find (At (pc p)) p)) (Stops (notice_host kind p)))

-- 'the count falls by one, that breakpoint is lifted', and a running process is passing: 'a silent pass'
unfoldable pub passed : ℕ → Local → Local
passed k l =
    on_record (with_run (after_pass l.process.run))
    (lifted_in k (on_record (with_entry k (with_count ((entry l.process k).count - 1) (entry l.process k))) l))

-- what each verdict does; of one that goes on: 'the stub replants the word and the process runs'; one that stops answers what is owed
abbrev pub carried_out : Verdict → ℕ → Local → Local
carried_out (Stops host) kind l = on_record (owing Nothing) (on_record (with_run (run_after kind)) l)
carried_out (CountsDown k) kind l = passed k l
carried_out GoesOn kind l = on_record (with_run Running) l

-- a report about a process that accepts it
unfoldable pub reported : ℕ → List ℕ → Local → Local
reported kind words l =
    carried_out (verdict_of kind (store_vector_and_replant words l).process) kind (store_vector_and_replant words l)

-- 'no notice goes out', or it goes to the host of the verdict, if any; 0 is nobody
abbrev pub told_by : Verdict → ℕ
told_by (Stops host) = host
told_by (CountsDown k) = 0
told_by GoesOn = 0

-- the host that a report about a process tells; 0 is nobody
unfoldable pub recipient_of : ℕ → List ℕ → Local → ℕ
recipient_of kind words l = told_by (verdict_of kind (store_vector_and_replant words l).process)

-- 'answered when a report next stops or ends the process', and by no other verdict
abbrev pub answered_by : Verdict → Owed → Owed
answered_by (Stops host) owed = owed
answered_by (CountsDown k) owed = Nothing
answered_by GoesOn owed = Nothing

-- the owed answer that a report about a process gives, if one is owed
unfoldable pub answer_of : ℕ → List ℕ → Local → Owed
answer_of kind words l = answered_by (verdict_of kind (store_vector_and_replant words l).process) l.process.session.owed
