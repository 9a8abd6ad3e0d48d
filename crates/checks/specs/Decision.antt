-- What a request to a process is to do, by the tests 7 to 12, 15 and 16, and what they found on the way.
use Rattle.std.specs.Prelude.{Result, Ok, Err, not, cond, ◌&&◌, List, [], ◌∷◌, ℕ, eqb}
use Rattle.ops.specs.Codes.{BREAK, UNBREAK}
use Rattle.format.specs.declared.header.Header.{Header}
use Rattle.format.specs.declared.outcome.Refusal.{Refusal}
use Rattle.format.specs.Outcome.{refusal_by, unless, Test, test, first_failing}
use Rattle.process.specs.declared.record.Process.{Process}
use Rattle.breakpoints.specs.declared.entry_query.EntryQuery.TheVariants.{Free, At}
use Rattle.process.specs.Record.{entry}
use Rattle.process.specs.Find.{find}
use Rattle.process.specs.Request.{has_break, has_room, may_have_more, entry_for}
use Rattle.rules.specs.Rule.{rule_of}
use Rattle.rules.specs.Tests.{rule_tests}

-- what a request to a process is to do: to change it, for BREAK and UNBREAK in this entry; or it is refused
abbrev pub Decision : Type 0
Decision = Result ℕ Refusal

-- the case that a number and an entry stand for: allowed where no test fails, else refused with the number
unfoldable pub decision_by : ℕ → ℕ → Decision
decision_by n entry = unless n entry

-- the entry of the process that a BREAK or UNBREAK at this address goes to; others go to none, and have 0
unfoldable pub entry_of : ℕ → ℕ → Process → ℕ
entry_of cmd a p = cond (eqb cmd BREAK) (entry_for a p) (cond (eqb cmd UNBREAK) (find (At a) p) 0)

-- by the test 16, of the breakpoint in this entry
unfoldable pub own_decision : ℕ → ℕ → Process → Decision
own_decision k host p = cond (eqb (entry p k).setter host) (Ok k) (Err (refusal_by 16))

-- by the test 11, of one that this host is to set anew
unfoldable pub new_decision : ℕ → Process → Decision
new_decision host p = cond (has_room p && may_have_more host p) (Ok (find Free p)) (Err (refusal_by 11))

-- of a BREAK by this host at this address, by the tests 11 and 16
unfoldable pub break_decision : ℕ → ℕ → Process → Decision
break_decision host a p = cond (has_break a p) (own_decision (find (At a) p) host p) (new_decision host p)

-- of an UNBREAK, by the tests 12 and 16
unfoldable pub unbreak_decision : ℕ → ℕ → Process → Decision
unbreak_decision host a p = cond (has_break a p) (own_decision (find (At a) p) host p) (Err (refusal_by 12))

-- by the tests 11, 12 and 16
unfoldable pub entry_decision : Header → Process → Decision
entry_decision h p =
    decision_by
    (first_failing
    (test 11 (not ((rule_of h.cmd).room h p))
    ∷ test 12 (not ((rule_of h.cmd).found h p))
    ∷ test 16 (not ((rule_of h.cmd).his h p))
    ∷ []))
    (entry_of h.cmd h.arg1 p)

-- by the tests 8 to 12, 15 and 16
unfoldable pub rule_decision : Header → Process → Decision
rule_decision h p = decision_by (first_failing (rule_tests (rule_of h.cmd) h p)) (entry_of h.cmd h.arg1 p)

-- the tests 7 to 12, 15 and 16 of a process whose number is under 8
abbrev pub process_tests : Header → Process → List Test
process_tests h p = test 7 (not p.there) ∷ rule_tests (rule_of h.cmd) h p

-- by the tests 7 to 12, 15 and 16
unfoldable pub decision_of : Header → Process → Decision
decision_of h p = decision_by (first_failing (process_tests h p)) (entry_of h.cmd h.arg1 p)
