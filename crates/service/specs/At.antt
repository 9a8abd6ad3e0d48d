-- A call at the one process that it goes to: what is answered, and the process with its bytes after it.
use Rattle.std.specs.Prelude.{Bool, not, cond, ◌||◌, List, [], ◌∷◌, ℕ, zero, suc, eqb, ltb}
use Rattle.lists.specs.Buffer.{overlay}
use Rattle.format.specs.declared.header.Header.{Header}
use Rattle.format.specs.Outcome.{Outcome}
use Rattle.format.specs.Outcome.{outcome, test, first_failing}
use Rattle.format.specs.Layout.{written}
use Rattle.format.specs.Answer.{cant_of, created_of}
use Rattle.process.specs.declared.record.Process.{Process}
use Rattle.process.specs.Local.{Local, local}
use Rattle.process.specs.Request.{created}
use Rattle.run_state.specs.RunState.{accepts}
use Rattle.process.specs.Report.{reported}
use Rattle.rules.specs.Rule.{rule_of, creates, size_asked}
use Rattle.rules.specs.Tests.{bad_report}
use Rattle.rules.specs.Step.{Answer, plain_answer, reply_of, beside, notified}
use Rattle.checks.specs.Decision.{process_tests}
use Rattle.ops.specs.Codes.{EXAMINE, STATUS}
use Rattle.ops.specs.declared.table.Form.{Form}
use Rattle.service.specs.declared.target.Target.{Target}
use Rattle.service.specs.declared.target.Target.TheVariants.{Named, OutOfRange, New, Nowhere}

-- what is answered, and the process with its bytes after it
pub record ProcessResult : Type 0 where
  pub answer : Answer
  pub left : Local

-- the two together
abbrev pub leaving : Answer → Local → ProcessResult
leaving a l = record { answer = a; left = l }

-- an outcome, and the output buffer after it
abbrev pub answer : Outcome → List ℕ → Answer
answer o buffer = plain_answer o buffer

-- what a call at one process answered and left: its outcome, the record and the bytes of the process, the output buffer
abbrev pub served : Outcome → Process → List ℕ → List ℕ → ProcessResult
served o p bytes buffer = leaving (answer o buffer) (local p bytes)

-- ---- requests

-- the process after a request, its bytes laid over those that it had: one that is destroyed has none, and leaves them as they are until those
-- above it move down
abbrev pub laid_over : Local → Local → Local
laid_over after l = local after.process (overlay after.bytes l.bytes)

-- where a request goes, by the form of its op code: to the process that it names, to none where that is a 'number over 7', to a new one for
-- CREATE, or to none for NOP
unfoldable pub target_of : Form → Header → Target
target_of form h = cond form.pid (cond (ltb h.pid 8) (Named h.pid) OutOfRange) (cond (creates h.cmd) New Nowhere)

-- refused with this number, and the CAN'T is laid over the start of the reply buffer
unfoldable pub cant_by : ℕ → Header → List ℕ → Answer
cant_by number h buffer = answer (outcome number 0) (overlay (written (cant_of h) []) buffer)

-- a request to the process that it names, by the number of its tests
unfoldable pub named_by : ℕ → Header → List ℕ → List ℕ → Local → ProcessResult
named_by zero h string buffer l = leaving (reply_of ((rule_of h.cmd).header h l) ((rule_of h.cmd).shown h l) buffer) (laid_over ((rule_of h.cmd).effect h string l) l)
named_by (suc n) h string buffer l = leaving (cant_by (suc n) h buffer) l

-- the same by its tests 7 to 12, 15 and 16
unfoldable pub named_at : Header → List ℕ → List ℕ → Local → ProcessResult
named_at h string buffer l = named_by (first_failing (process_tests h l.process)) h string buffer l

-- a granted request of this op code may change its process; EXAMINE and STATUS do not
unfoldable pub changes : ℕ → Bool
changes cmd = not (eqb cmd STATUS || eqb cmd EXAMINE)

-- CREATE, of process p, with the size that is asked for
unfoldable pub created_at : ℕ → Header → List ℕ → ProcessResult
created_at p h buffer = leaving (reply_of (created_of h p) [] buffer) (created h.host (size_asked h))

-- ---- reports

-- the tests 14 and 7 that look at no process: 'report of kind over 3, ..', 'number over 7'
unfoldable pub report_away : ℕ → ℕ → ℕ → ℕ
report_away p kind reason = first_failing (test 14 (bad_report kind reason) ∷ test 7 (not (ltb p 8)) ∷ [])

-- what a report at one process answered and left: its outcome, the length of its line, the record and the bytes of the process, its two buffers
abbrev pub report_served : Outcome → ℕ → Process → List ℕ → List ℕ → List ℕ → ProcessResult
report_served o n p bytes buffer line = leaving (record { outcome = o; buffer = buffer; line_length = n; line = line }) (local p bytes)

-- a report about process p, by the number of its tests; 'a refused one writes nothing at all'
unfoldable pub report_by : ℕ → ℕ → ℕ → ℕ → List ℕ → List ℕ → List ℕ → Local → ProcessResult
report_by zero p kind reason words buffer line l = leaving (notified p kind reason words buffer line l) (reported kind words l)
report_by (suc n) p kind reason words buffer line l = leaving (beside [] line (answer (outcome (suc n) 0) buffer)) l

-- the tests 7 and 9 of a process whose number is under 8
unfoldable pub report_number_at : ℕ → Process → ℕ
report_number_at kind p = first_failing (test 7 (not p.there) ∷ test 9 (not (accepts kind p.run)) ∷ [])

-- a report about process p, by its tests 7 and 9
unfoldable pub report_at : ℕ → ℕ → ℕ → List ℕ → List ℕ → List ℕ → Local → ProcessResult
report_at p kind reason words buffer line l = report_by (report_number_at kind l.process) p kind reason words buffer line l
