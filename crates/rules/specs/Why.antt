-- 'Why was I refused?': the first failing test of a request, with its facts. Words in quotation marks are the change request's (K8).
use Rattle.std.specs.Prelude.{cond, List, ℕ, ◌+◌, ◌-◌, length, eqb, leb}
use Rattle.ops.specs.Codes.{BREAK, DEPOSIT-VECTOR}
use Rattle.format.specs.declared.header.Header.{Header}
use Rattle.format.specs.Outcome.{first_failing}
use Rattle.format.specs.Layout.{header_of}
use Rattle.format.specs.Sizes.{string_bytes}
use Rattle.run_state.specs.RunState.{run_number}
use Rattle.reasons.specs.declared.Limit.{Limit}
use Rattle.reasons.specs.declared.Limit.TheVariants.{End, Count, Last}
use Rattle.reasons.specs.declared.Reason.{Reason}
use Rattle.reasons.specs.declared.Reason.TheVariants.{Granted, Length, Debugger, RunState, Past, Full, Watcher, Setter, Other}
use Rattle.breakpoints.specs.declared.entry_query.EntryQuery.TheVariants.{At}
use Rattle.process.specs.declared.record.Process.{Process}
use Rattle.process.specs.Record.{entry}
use Rattle.process.specs.Find.{find}
use Rattle.process.specs.Request.{has_room}
use Rattle.process.specs.Sizes.{vector_bytes}
use Rattle.rules.specs.Tests.{State, record_of, tests_from2}

-- ---- facts

-- the end of what an op code reaches into: of the vector, or of the process
unfoldable pub end_for : Header → ℕ → ℕ
end_for h size = cond (eqb h.cmd DEPOSIT-VECTOR) vector_bytes size

-- 10: 'which limit (the first passed of the end, 256, BREAK's last address)'
unfoldable pub limit_passed : Header → ℕ → Limit
limit_passed h size = cond (eqb h.cmd BREAK) Last (cond (leb (h.arg1 + h.arg2) (end_for h size)) Count End)

-- 'by how much, 0 if only odd'
unfoldable pub excess_over : Limit → Header → ℕ → ℕ
excess_over End h size = h.arg1 + h.arg2 - end_for h size
excess_over Count h size = h.arg2 - string_bytes
excess_over Last h size = h.arg1 - (size - 2)

-- 11: 'whether 8 or 4 (8 first)'
unfoldable pub full_of : Process → ℕ
full_of p = cond (has_room p) 4 8

-- 16: 'who set it', of the breakpoint at the address ARG1
unfoldable pub who_set : Header → Process → ℕ
who_set h p = (entry p (find (At h.arg1) p)).setter

-- 10: the limit, and by how much
abbrev pub past_of : Header → ℕ → Reason
past_of h size = Past (limit_passed h size) (excess_over (limit_passed h size) h size)

-- the reason of a test's number, by the header, the length of the message and the process
unfoldable pub reason_for : ℕ → Header → ℕ → Process → Reason
reason_for n h count p =
    cond (eqb n 0) Granted
    (cond (eqb n 3) (Length count)
    (cond (eqb n 8) (Debugger p.host)
    (cond (eqb n 9) (RunState (run_number p.run))
    (cond (eqb n 10) (past_of h p.size)
    (cond (eqb n 11) (Full (full_of p))
    (cond (eqb n 15) (Watcher p.session.watcher)
    (cond (eqb n 16) (Setter (who_set h p)) (Other n))))))))

-- the reason of a test that looks at no process
unfoldable pub reason_without_process : ℕ → ℕ → Reason
reason_without_process n count = cond (eqb n 3) (Length count) (Other n)

-- ---- the test

-- 'the first failing test in the order as amended', of those of the request itself, 'test 1 taken as passed'; 0 where none fails
unfoldable pub why_number : State → List ℕ → ℕ
why_number s m = first_failing (tests_from2 s m)

-- 'says granted, or names the first failing test .. with its facts'
unfoldable pub why_of : State → List ℕ → Reason
why_of s m = reason_for (why_number s m) (header_of m) (length m) (record_of s (header_of m).pid)
