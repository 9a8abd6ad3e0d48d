-- Two gateways and two lists of calls that meet every premise of isolation, for host 5 and process 2. Host 6 debugs process 2, and what he
-- is answered does differ.
use Rattle.std.specs.Prelude.{◌≡◌, Bool, true, false, List, [], ◌∷◌, ℕ, set}
use Rattle.run_state.specs.declared.Run.TheVariants.{Running, Stopped}
use Rattle.process.specs.Record.{fresh}
use Rattle.state.specs.Records.{with_process}
use Rattle.state.specs.Fresh.{fresh_start}
use Rattle.rules.specs.Tests.{State}
use Rattle.rules.specs.Step.{Call, report, store}
use Rattle.rules.specs.Ready.{Ready}
use Rattle.rules.specs.Run.{run}
use Rattle.rules.specs.Isolation.{Alike, heard}
use Rattle.rules.specs.Outsider.{only, Differ, Outside}
use Rattle.cases.specs.Case.{buffer, line_buffer, asked}
use Rattle.cases.specs.Cases.{whole, zeros}

-- processes 2 and 3, which begin at 0 and at 4,096
abbrev pub two_there : List Bool
two_there = false ∷ false ∷ true ∷ true ∷ false ∷ false ∷ false ∷ false ∷ []

-- the one gateway: host 6 debugs process 2, which runs in the one and is stopped in the other; its first byte differs
abbrev pub one : State
one = record { records = with_process 2 (fresh true 6 Running 4096) (fresh_start two_there whole); memory = zeros }

-- the other gateway
abbrev pub other : State
other = record { records = with_process 2 (fresh true 6 Stopped 4096) (fresh_start two_there whole); memory = set zeros 0 7 }

-- host 5 asks for process 2, which he does not debug, and examines process 3
abbrev pub closing : List Call
closing = asked 5 6 2 0 1 [] ∷ asked 5 1 2 0 0 [] ∷ asked 5 6 3 0 2 [] ∷ []

-- a HALT report of process 2
abbrev pub halt : Call
halt = report 2 1 0 (1 ∷ 2 ∷ 3 ∷ 4 ∷ 5 ∷ 6 ∷ 7 ∷ 8 ∷ 9 ∷ []) buffer line_buffer

-- a DEPOSIT of two bytes into process 2 by host 6, with any string
abbrev pub deposit : List ℕ → Call
deposit string = asked 6 4 2 16 2 string

-- host 5 takes process 3; host 6 looks into process 2 and deposits there; a report, and stores into processes 2 and 3
abbrev pub one_calls : List Call
one_calls = asked 5 1 3 0 0 [] ∷ asked 6 6 2 0 1 [] ∷ deposit (1 ∷ 2 ∷ []) ∷ halt ∷ store 2 9 9 ∷ store 3 1 4 ∷ closing

-- other bytes and more of them, no report, two other stores
abbrev pub other_calls : List Call
other_calls = asked 5 1 3 0 0 [] ∷ asked 6 6 2 0 1 [] ∷ deposit (3 ∷ 4 ∷ 5 ∷ []) ∷ store 2 7 7 ∷ store 2 8 8 ∷ store 3 1 4 ∷ closing

-- the premises of isolation can be met, and what it does not claim can fail
pub record PremisesMet : Type 0 where
  pub one-ready : Ready one
  pub other-ready : Ready other
  pub differ : Differ 2 one other
  pub alike : Alike (only 5) (only 2) one_calls other_calls
  pub outside : Outside 5 2 one one_calls
  -- what host 6 is answered is not the same
  pub unlike : heard (only 6) (run one one_calls) ≡ heard (only 6) (run other other_calls) → ⊥
