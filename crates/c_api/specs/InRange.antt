-- Numbers that their fields have room for: the exported functions are then the gateway's calls and the desk's writer.
use Rattle.std.specs.Prelude.{◌≡◌, List, ℕ, ◌<◌, length}
use Rattle.lists.specs.Word.{vector_of}
use Rattle.ops.specs.Table.{request_form}
use Rattle.format.specs.declared.header.Header.{Header}
use Rattle.message.specs.Exchange.{writes}
use Rattle.rules.specs.Step.{report, packet}
use Rattle.state_bytes.specs.Widths.{process_count}
use Rattle.state_bytes.specs.State.{door_of}
use Rattle.gateway.specs.Called.{call_on, start_on}
use Rattle.c_api.specs.Called.{bits_of, start_with, report_on, packet_on}
use Rattle.c_api.specs.Desk.{write_on}

-- every field of a header has room for its number
pub record Fits (h : Header) : Type 0 where
  pub host : h.host < 256
  pub cmd : h.cmd < 256
  pub pid : h.pid < 256
  pub arg1 : h.arg1 < 65536
  pub arg2 : h.arg2 < 65536

-- a report is the rules' for any process and kind, where ARG1 has room for its reason; a fresh start of eight sizes the gateway's where no bit is above the eighth
-- and the door's process is a byte; a packet is the rules' where its type is a byte and its ID has 32 bits;
-- and a request is written as the desk's writer writes it
pub record InRange : Type 0 where
  pub reports : (state memory : List ℕ) (pid kind reason : ℕ) (words notice line : List ℕ) → length words ≡ 18 → reason < 65536
      → report_on state memory pid kind reason words notice line ≡ call_on state memory (report pid kind reason (vector_of words) notice line)
  pub starts : (there door : ℕ) (sizes state : List ℕ) → there < 256 → door < 256 → length sizes ≡ process_count
      → start_with there sizes door state ≡ start_on (bits_of there) sizes door state
  pub packets : (state memory : List ℕ) (kind id : ℕ) (words ack : List ℕ) → kind < 256 → id < 4294967296
      → packet_on state memory kind id words ack ≡ call_on state memory (packet (door_of state) kind id words ack)
  pub writes-same : (h : Header) (string buffer : List ℕ) → Fits h → write_on h string buffer ≡ writes request_form h string buffer
