-- A call stage by stage: what is lent, what the message or the line says, and what is asked of the state.
use Rattle.std.specs.Prelude.{Bool, cond, List, [], ◌∷◌, ℕ, eqb}
use Rattle.format.specs.declared.header.Header.{Header}
use Rattle.format.specs.Outcome.{test, first_failing}
use Rattle.fields.specs.declared.read.Line.{Line}
use Rattle.reasons.specs.declared.Reason.{Reason}
use Rattle.reasons.specs.declared.Reason.TheVariants.{Granted, Other}
use Rattle.rules.specs.Tests.{State, unsound, asked_tests}
use Rattle.rules.specs.Step.{StepResult, local_of, put, granted, refused}
use Rattle.text_door.specs.At.{text_at}
use Rattle.packet_door.specs.At.{packet_at}

-- the tests 1 and 2, which every call makes first; the first fails where what is lent has a wrong length, which a tick and a query do not ask
unfoldable pub lent_number : State → Bool → ℕ
lent_number s short = first_failing (test 1 short ∷ test 2 (unsound s) ∷ [])

-- a request whose layout passed: the tests 7 to 13, and what is then granted or refused
unfoldable pub asked : Header → List ℕ → List ℕ → State → StepResult
asked h string buffer s =
    cond (eqb (first_failing (asked_tests h s)) 0) (granted h string buffer s) (refused (first_failing (asked_tests h s)) h buffer s)

-- a text line that can be read, to a process with a number under 8: what is answered there, and the process that is left is put back
unfoldable pub line_step : Line → List ℕ → State → StepResult
line_step x buffer s = record {
  answer = (text_at x buffer (local_of s x.pid)).answer;
  after = put x.pid (text_at x buffer (local_of s x.pid)).left s;
}

-- a packet that passed the tests 1 to 5, to a process with a number under 8: what is answered there, and the process that is left is put back
unfoldable pub packet_step_at : ℕ → ℕ → ℕ → List ℕ → List ℕ → State → StepResult
packet_step_at door kind id words buffer s = record {
  answer = (packet_at kind id words buffer (local_of s door)).answer;
  after = put door (packet_at kind id words buffer (local_of s door)).left s;
}

-- a CREATE whose layout passed: refused with 13 where there is no place for a process, else granted
unfoldable pub create_reason : Bool → Reason
create_reason full = cond full (Other 13) Granted
