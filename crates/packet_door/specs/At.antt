-- A packet at the process of the door: what is answered, and the process with its bytes after it.
use Rattle.std.specs.Prelude.{◌≡◌, true, not, cond, List, [], ◌∷◌, ◌++◌, ℕ, zero, suc, ◌≤◌, length, eqb}
use Rattle.lists.specs.Buffer.{overlay}
use Rattle.format.specs.Outcome.{outcome, test, first_failing}
use Rattle.packets.specs.Types.{STORE, FETCH, GO}
use Rattle.process.specs.declared.record.Process.{Process}
use Rattle.process.specs.Local.{Local}
use Rattle.rules.specs.Rule.{public}
use Rattle.rules.specs.PacketRule.{PacketRule, store_row, fetch_row, go_row, go_reply_row, packet_row_of}
use Rattle.rules.specs.Tests.{packet_outer_tests, packet_inner_tests}
use Rattle.rules.specs.Step.{Answer, plain_answer, packet_reply}
use Rattle.service.specs.At.{ProcessResult, leaving}
use Rattle.packet_door.specs.declared.request.PacketRequest.{PacketRequest}
use Rattle.packet_door.specs.declared.request.PacketRequest.TheVariants.{Store, Fetch, Go, GoReply}

-- ---- by what is asked for

-- what a type asks for; a packet of any other type is refused before
unfoldable pub request_of : ℕ → PacketRequest
request_of kind = cond (eqb kind STORE) Store (cond (eqb kind FETCH) Fetch (cond (eqb kind GO) Go GoReply))

-- its row of the rules
unfoldable pub row_of : PacketRequest → PacketRule
row_of Store = store_row
row_of Fetch = fetch_row
row_of Go = go_row
row_of GoReply = go_reply_row

-- the fewest data words that it has: test 3 has passed before
unfoldable pub fewest_of : PacketRequest → ℕ
fewest_of Store = 2
fewest_of Fetch = 1
fewest_of Go = 0
fewest_of GoReply = 0

-- the tests 7 to 10 of the process of the door
unfoldable pub number_of : PacketRequest → List ℕ → Process → ℕ
number_of request words p =
    first_failing
    (test 7 (not p.there)
    ∷ test 8 (not ((row_of request).right (public p)))
    ∷ test 9 (not ((row_of request).runs p.run))
    ∷ test 10 (not ((row_of request).range words p.size))
    ∷ [])

-- a packet has enough data words, and passed test 10
pub record Passed (request : PacketRequest) (words : List ℕ) (p : Process) : Type 0 where
  pub enough : fewest_of request ≤ length words
  pub range : (row_of request).range words p.size ≡ true

-- granted, and these words are laid over the start of the buffer
abbrev pub replied : List ℕ → List ℕ → Answer
replied words buffer = plain_answer (outcome 0 (length words)) (overlay words buffer)

-- a granted packet to this process; it is acknowledged by the process after it
abbrev pub granted_by : PacketRequest → ℕ → List ℕ → List ℕ → Local → ProcessResult
granted_by request id words buffer l =
    leaving (replied ((row_of request).ack words ((row_of request).effect id words l)) buffer) ((row_of request).effect id words l)

-- ---- by the type

-- the same tests of a process whose number is under 8
unfoldable pub packet_number_at : ℕ → List ℕ → Process → ℕ
packet_number_at kind words p = first_failing (test 7 (not p.there) ∷ packet_outer_tests kind (public p) ++ packet_inner_tests kind words p)

-- a packet to this process, by the number of its tests; 'Refusals, all silent'
unfoldable pub packet_by : ℕ → ℕ → ℕ → List ℕ → List ℕ → Local → ProcessResult
packet_by zero kind id words buffer l = leaving (packet_reply kind id words buffer l) ((packet_row_of kind).effect id words l)
packet_by (suc n) kind id words buffer l = leaving (plain_answer (outcome (suc n) 0) buffer) l

-- the same by its tests
unfoldable pub packet_at : ℕ → ℕ → List ℕ → List ℕ → Local → ProcessResult
packet_at kind id words buffer l = packet_by (packet_number_at kind words l.process) kind id words buffer l
