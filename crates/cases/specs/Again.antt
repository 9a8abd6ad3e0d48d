-- Two laptops, hosts 5 and 6, and a seller's, host 9, who debugs the processes 2 and 4. The seller destroys process 2, whereupon the processes
-- 3 and 4 move down, and it is created again for host 5, last in memory. Two gateways and two lists that meet every premise of isolation for
-- the two laptops: until that CREATE the reports, stores and deposits of process 2 differ, and those of process 4 to the end.
use Rattle.std.specs.Prelude.{◌≡◌, Bool, true, false, List, [], ◌∷◌, ◌++◌, ℕ, ◌+◌, set, replicate}
use Rattle.ops.specs.Codes.{DEBUG, DEPOSIT, RESUME, EXAMINE, CREATE, DESTROY, NOTICE, CANT}
use Rattle.format.specs.Layout.{written}
use Rattle.run_state.specs.declared.Run.TheVariants.{Running, Stopped}
use Rattle.run_state.specs.ReportKind.{TRAP, HALT}
use Rattle.process.specs.Record.{fresh}
use Rattle.state.specs.Records.{Records, with_process}
use Rattle.state.specs.Fresh.{fresh_start}
use Rattle.rules.specs.Tests.{State}
use Rattle.rules.specs.Access.{alone, grants, refuses}
use Rattle.rules.specs.Step.{Answer, Call, report, store}
use Rattle.rules.specs.Turn.{single}
use Rattle.rules.specs.Run.{run}
use Rattle.rules.specs.Total.{one_of}
use Rattle.rules.specs.Isolation.{Hosts, Processes, heard}
use Rattle.rules.specs.Outsider.{only}
use Rattle.rules.specs.Together.{without_theirs, calls_of, TwoRuns}
use Rattle.cases.specs.Case.{buffer, line_buffer, asked}
use Rattle.cases.specs.Cases.{zeros}

-- the two laptops
abbrev pub laptops : Hosts
laptops = one_of (5 ∷ 6 ∷ [])

-- the processes that they do not debug
abbrev pub sellers : Processes
sellers = one_of (2 ∷ 4 ∷ [])

-- processes 0 to 4
abbrev pub five_there : List Bool
five_there = true ∷ true ∷ true ∷ true ∷ true ∷ false ∷ false ∷ false ∷ []

-- with 2,048 bytes each; host 6 debugs process 3
abbrev pub at_start : Records
at_start = with_process 3 (fresh true 6 Stopped 2048) (fresh_start five_there (replicate 8 2048))

-- the second byte of process 3, which begins at 6,144, is 4
abbrev pub lent : List ℕ
lent = set zeros 6145 4

-- the one gateway: the seller's processes run, and their memory is zero
abbrev pub one : State
one = record { records = with_process 4 (fresh true 9 Running 2048) (with_process 2 (fresh true 9 Running 2048) at_start); memory = lent }

-- the other: they are stopped, and the first byte of each is 7
abbrev pub other : State
other = record {
  records = with_process 4 (fresh true 9 Stopped 2048) (with_process 2 (fresh true 9 Stopped 2048) at_start);
  memory = set (set lent 4096 7) 8192 7;
}

-- ---- the calls

-- EXAMINE of the first two bytes of a process
abbrev pub examine : ℕ → ℕ → Call
examine host p = asked host EXAMINE p 0 2 []

-- DEPOSIT of two bytes from address 0, with any string
abbrev pub deposit : ℕ → ℕ → List ℕ → Call
deposit host p string = asked host DEPOSIT p 0 2 string

-- a report of a kind about a process
abbrev pub report_of : ℕ → ℕ → Call
report_of p kind = report p kind 0 (1 ∷ 2 ∷ 3 ∷ 4 ∷ 5 ∷ 6 ∷ 7 ∷ 8 ∷ 9 ∷ []) buffer line_buffer

-- process 2 is created again for host 5: it looks into it, deposits, lets it run until it traps; the machine stores; both look into it
abbrev pub again : List Call
again =
    asked 5 CREATE 0 0 0 []
    ∷ examine 5 2
    ∷ deposit 5 2 (1 ∷ 2 ∷ [])
    ∷ asked 5 RESUME 2 0 0 []
    ∷ report_of 2 TRAP
    ∷ store 2 1 3
    ∷ examine 5 2
    ∷ examine 6 2
    ∷ []

-- DESTROY by the seller
abbrev pub destroy : Call
destroy = asked 9 DESTROY 2 0 0 []

-- DEBUG of a process by a laptop
abbrev pub debug : ℕ → ℕ → Call
debug host p = asked host DEBUG p 0 0 []

-- what happens in the seller's processes of the one gateway before the DESTROY
abbrev pub one_first : List Call
one_first = deposit 9 2 (1 ∷ 2 ∷ []) ∷ report_of 2 HALT ∷ store 2 0 8 ∷ store 4 0 8 ∷ []

-- and at the end
abbrev pub one_last : List Call
one_last = report_of 4 HALT ∷ deposit 9 4 (1 ∷ 2 ∷ []) ∷ examine 9 4 ∷ []

-- what happens in those of the other before the DESTROY: no report, other stores, another deposit
abbrev pub other_first : List Call
other_first = deposit 9 2 (3 ∷ []) ∷ store 2 9 6 ∷ store 2 0 6 ∷ []

-- and at the end
abbrev pub other_last : List Call
other_last = deposit 9 4 (5 ∷ 6 ∷ []) ∷ store 4 3 3 ∷ examine 9 4 ∷ []

-- the list of the one gateway: host 6 asks for process 2 while the seller has it, and looks into process 3 when it has moved; host 5 asks for
-- process 2 when it is gone, and host 6 for process 4
abbrev pub one_calls : List Call
one_calls = (examine 9 2 ∷ examine 6 2 ∷ one_first) ++ (destroy ∷ examine 6 3 ∷ debug 5 2 ∷ store 2 1 8 ∷ again) ++ (debug 6 4 ∷ one_last)

-- the list of the other
abbrev pub other_calls : List Call
other_calls = (examine 9 2 ∷ examine 6 2 ∷ other_first) ++ (destroy ∷ examine 6 3 ∷ debug 5 2 ∷ again) ++ (debug 6 4 ∷ other_last)

-- the one list without what the laptops ask of a hidden process: of process 2 before it is created again, of process 4 anywhere
abbrev pub one_rest : List Call
one_rest = (examine 9 2 ∷ one_first) ++ (destroy ∷ examine 6 3 ∷ store 2 1 8 ∷ again) ++ one_last

-- ---- what the laptops receive

-- a reply with these fields
abbrev pub answered : ℕ → ℕ → ℕ → ℕ → List ℕ → Answer
answered host cmd pid arg2 string = grants (alone (written (record { host = host; cmd = cmd; pid = pid; arg1 = 0; arg2 = arg2 }) string)) (single buffer)

-- the notice of a TRAP, with this vector; no line is answered beside it
abbrev pub trapped : ℕ → ℕ → List ℕ → Answer
trapped host pid string =
    grants (alone (written (record { host = host; cmd = NOTICE; pid = pid; arg1 = 0; arg2 = 0 }) string)) (record { own = buffer; line = line_buffer })

-- a CAN'T with this number
abbrev pub cannot : ℕ → ℕ → ℕ → ℕ → ℕ → Answer
cannot number host cmd pid arg2 = refuses number (written (record { host = host; cmd = CANT + cmd; pid = pid; arg1 = 0; arg2 = arg2 }) []) (single buffer)

-- together, in their order: what was in process 3 before it moved, zeros after CREATE whatever was there, the notice, what was deposited and
-- stored
abbrev pub received : List Answer
received =
    cannot 8 6 EXAMINE 2 2
    ∷ answered 6 EXAMINE 3 2 (0 ∷ 4 ∷ [])
    ∷ cannot 7 5 DEBUG 2 0
    ∷ answered 5 CREATE 2 0 []
    ∷ answered 5 EXAMINE 2 2 (0 ∷ 0 ∷ [])
    ∷ answered 5 DEPOSIT 2 2 []
    ∷ answered 5 RESUME 2 0 []
    ∷ trapped 5 2 (1 ∷ 0 ∷ 2 ∷ 0 ∷ 3 ∷ 0 ∷ 4 ∷ 0 ∷ 5 ∷ 0 ∷ 6 ∷ 0 ∷ 7 ∷ 0 ∷ 8 ∷ 0 ∷ 9 ∷ 0 ∷ [])
    ∷ answered 5 EXAMINE 2 2 (1 ∷ 3 ∷ [])
    ∷ cannot 8 6 EXAMINE 2 2
    ∷ cannot 8 6 DEBUG 4 0
    ∷ []

-- the premises can be met with a process that is created again on the way, and what is not claimed can fail
pub record CreatedAgain : Type 0 where
  pub runs : TwoRuns laptops sellers one other one_calls other_calls
  -- what the laptops receive, in the one gateway and in the other
  pub one-heard : heard laptops (run one one_calls) ≡ received
  pub other-heard : heard laptops (run other other_calls) ≡ received
  -- what the seller receives is not the same
  pub unlike : heard (only 9) (run one one_calls) ≡ heard (only 9) (run other other_calls) → ⊥
  -- and which calls stay when all is left out that may be
  pub left : calls_of (without_theirs laptops sellers (replicate 30 true) (run one one_calls)) ≡ one_rest
