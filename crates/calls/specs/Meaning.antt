-- What each line does to state and memory, and what it prints. The numbers of a line are read by their bounds.
use Rattle.std.specs.Prelude.{Bool, cond, ◌&&◌, List, [], ◌∷◌, ◌++◌, ℕ, ◌+◌, length, take, drop, replicate, eqb, leb}
use Rattle.format.specs.Outcome.{number_of, length_of}
use Rattle.state.specs.Records.{process_at, start_of}
use Rattle.state.specs.Layout.{capacity, extent_at, slot}
use Rattle.packets.specs.Ack.{ack_words}
use Rattle.rules.specs.Step.{request, report, text_line, packet, tick}
use Rattle.state_bytes.specs.State.{state_of, door_of}
use Rattle.reasons.specs.declared.Reason.{Reason}
use Rattle.reasons.specs.declared.Reason.TheVariants.{Length}
use Rattle.reasons.specs.Reason.{reason_number}
use Rattle.gateway.specs.Called.{Called, StartResult, call_on, machine_stored, why_on, start_on}
use Rattle.gateway.specs.Lengths.{reply_length, notice_length, line_length}
use Rattle.lines.specs.declared.scan.Phase.{Phase}
use Rattle.lines.specs.Hex.{pairs_line}
use Rattle.lines.specs.Scan.{full}
use Rattle.decimal.specs.Numeral.{numeral}
use Rattle.decimal.specs.declared.number.Number.{Number}
use Rattle.decimal.specs.Read.{begun, behind, ends_line}
use Rattle.display.specs.Answer.{answer_line}
use Rattle.display.specs.Line.{process_line}
use Rattle.display.specs.Reason.{why_line}
use Rattle.calls.specs.declared.listing.Listing.{Listing}
use Rattle.calls.specs.declared.text.Shown.{Shown}
use Rattle.calls.specs.declared.text.Shown.TheVariants.{Recorded}
use Rattle.calls.specs.Listing.{empty, listed, complete}
use Rattle.calls.specs.Words.{process_in, kind_in, reason_in, words_of, report_in}
use Rattle.calls.specs.Packet.{type_in, id_in, words_in, packet_in, acknowledged, silent_line, packet_shown}
use Rattle.calls.specs.Shown.{text_shown, report_shown}
use Rattle.calls.specs.Effect.{Effect, effect, message_size, line_size}
use Rattle.process.specs.Sizes.{memory_bytes}

-- any line that is no call prints a question mark and changes nothing
unfoldable pub unknown_effect : List ℕ → List ℕ → Effect
unknown_effect s m = effect s m (63 ∷ 10 ∷ [])

-- what a call does if its line is right
unfoldable pub if_right : Bool → Effect → List ℕ → List ℕ → Effect
if_right right e s m = cond right e (unknown_effect s m)

-- the buffer that is lent to each call for a reply or a notice: all zero
unfoldable pub zero_buffer : List ℕ
zero_buffer = replicate message_size 0

-- the buffer that is lent to each call for a text line: all zero
unfoldable pub zero_line : List ℕ
zero_line = replicate line_size 0

-- a request prints its number and its reply
unfoldable pub request_answered : Called → Effect
request_answered x = effect x.state x.memory (answer_line (number_of x.outcome) (take (reply_length x.outcome) x.buffer))

-- the call that requests by a message
unfoldable pub request_made : List ℕ → List ℕ → List ℕ → Effect
request_made message s m = request_answered (call_on s m (request message zero_buffer))

-- request HEX HEX ..: the pairs led to this phase, and the message is their bytes
unfoldable pub request_effect : Phase → List ℕ → List ℕ → List ℕ → Effect
request_effect phase message s m = if_right (full phase) (request_made message s m) s m

-- a report prints its number, its notice and the line that it answers
unfoldable pub report_answered : Shown → Called → Effect
report_answered shown x =
    effect x.state x.memory
    (report_shown shown (number_of x.outcome) (take (notice_length x.outcome) x.buffer) (take x.line_length x.line))

-- the call that reports an event of the machine
unfoldable pub report_made : Shown → ℕ → ℕ → ℕ → List ℕ → List ℕ → List ℕ → Effect
report_made shown p kind reason words s m = report_answered shown (call_on s m (report p kind reason words zero_buffer zero_line))

-- report P KIND REASON W0 .. W8
unfoldable pub report_effect : Shown → List ℕ → List ℕ → List ℕ → Effect
report_effect shown line s m =
    if_right (report_in line)
    (report_made shown (process_in line).value (kind_in line).value (reason_in line).value (words_of 9 line (reason_in line)) s m) s m

-- a text line prints what answers it
unfoldable pub text_answered : Shown → Called → Effect
text_answered shown x =
    effect x.state x.memory (text_shown shown (number_of x.outcome) (take (line_length x.outcome x.buffer) x.buffer))

-- the call that hands over a text line
unfoldable pub text_made : Shown → List ℕ → List ℕ → List ℕ → Effect
text_made shown text s m = text_answered shown (call_on s m (text_line text zero_line))

-- line TEXT: 'all behind `line `, with a newline added, is the line'
unfoldable pub text_effect : Shown → List ℕ → List ℕ → List ℕ → Effect
text_effect shown text s m = text_made shown (text ++ (10 ∷ [])) s m

-- raw HEX HEX ..: the pairs led to this phase, and 'these bytes are the line'
unfoldable pub raw_effect : Phase → List ℕ → List ℕ → List ℕ → Effect
raw_effect phase text s m = if_right (full phase) (text_made Recorded text s m) s m

-- a number as a line
unfoldable pub number_line : ℕ → List ℕ
number_line number = numeral number ++ (10 ∷ [])

-- what a fresh start comes to: if it is granted, memory is all zero and nothing is printed; else its number is printed and memory stays
unfoldable pub start_answered : StartResult → List ℕ → Effect
start_answered x m =
    cond (eqb (number_of x.outcome) 0) (effect x.state (replicate (length m) 0) []) (effect x.state m (number_line (number_of x.outcome)))

-- the fresh start with these processes and sizes, and this process of the Pup door
unfoldable pub start_made : List Bool → List ℕ → ℕ → List ℕ → List ℕ → Effect
start_made there sizes door s m = start_answered (start_on there sizes door s) m

-- the processes, sizes and process of the Pup door that a line lists after the word `start`
abbrev pub start_listing : List ℕ → Listing
start_listing line = listed empty (drop 5 line)

-- start P:SIZE P .. pup P: a fresh start of the processes that are listed
unfoldable pub start_effect : List ℕ → List ℕ → List ℕ → Effect
start_effect line s m =
    if_right (complete (start_listing line).place) (start_made (start_listing line).there (start_listing line).sizes (start_listing line).door s m) s m

-- the buffer that is lent to each call for an acknowledgement: 35 words, all zero
unfoldable pub zero_ack : List ℕ
zero_ack = replicate ack_words 0

-- a packet prints its number, and its acknowledgement or a dash
unfoldable pub packet_answered : ℕ → ℕ → Called → Effect
packet_answered kind id x =
    effect x.state x.memory
    (packet_shown (acknowledged kind (number_of x.outcome)) (number_of x.outcome) id (take (length_of x.outcome) x.buffer))

-- the call that hands over a packet: it goes to the process of the Pup door
unfoldable pub packet_made : ℕ → ℕ → List ℕ → List ℕ → List ℕ → Effect
packet_made kind id words s m = packet_answered kind id (call_on s m (packet (door_of s) kind id words zero_ack))

-- packet TYPE ID W ..
unfoldable pub packet_effect : List ℕ → List ℕ → List ℕ → Effect
packet_effect line s m = if_right (packet_in line) (packet_made (type_in line).value (id_in line).value (words_in line) s m) s m

-- a tick prints its number and a dash
unfoldable pub tick_answered : Called → Effect
tick_answered x = effect x.state x.memory (silent_line (number_of x.outcome))

-- the call that tells of a tenth of a second: it goes to the process of the Pup door
unfoldable pub tick_made : List ℕ → List ℕ → Effect
tick_made s m = tick_answered (call_on s m (tick (door_of s)))

-- tick: the word alone
unfoldable pub tick_effect : List ℕ → List ℕ → List ℕ → Effect
tick_effect line s m = if_right (eqb (length line) 4) (tick_made s m) s m

-- a reason for a message of so many bytes: where it is 3, the length, it tells their number
unfoldable pub recounted : ℕ → Reason → Reason
recounted count r = cond (eqb (reason_number r) 3) (Length count) r

-- the query about a message of so many bytes, by its first ones, which are more than the longest message has, or all
unfoldable pub why_made : ℕ → List ℕ → List ℕ → List ℕ → Effect
why_made count message s m = effect s m (why_line (recounted count (why_on s message)))

-- why HEX HEX ..: the pairs led to this phase, there are so many of them, and the message is their bytes; state and memory stay
unfoldable pub why_effect : Phase → ℕ → List ℕ → List ℕ → List ℕ → Effect
why_effect phase count message s m = if_right (full phase) (why_made count message s m) s m

-- the line ends after this number, and the bytes that it names end at this address, at most here
unfoldable pub ends_within : List ℕ → Number → ℕ → ℕ → Bool
ends_within line n end most = ends_line line n && leb end most

-- store P ADDRESS BYTE: the machine's store, 'only within a process's own bytes', of which an absent one has none
module _ (line : List ℕ) where
  -- the process
  abbrev pub store_p : Number
  store_p = behind 7 line (begun 5)

  -- the address
  abbrev pub store_address : Number
  store_address = behind 4095 line store_p

  -- the byte to store
  abbrev pub store_byte : Number
  store_byte = behind 255 line store_address

  -- it prints `ok`
  unfoldable pub store_effect : List ℕ → List ℕ → Effect
  store_effect s m =
      if_right (ends_within line store_byte (store_address.value + 1) (extent_at (state_of s) store_p.value))
      (effect s (machine_stored store_p.value store_address.value store_byte.value s m).memory (111 ∷ 107 ∷ 10 ∷ [])) s m

-- memory P ADDRESS COUNT: no byte after the last of the process's own
module _ (line : List ℕ) where
  -- the process
  abbrev pub memory_p : Number
  memory_p = behind 7 line (begun 6)

  -- the first address
  abbrev pub memory_address : Number
  memory_address = behind memory_bytes line memory_p

  -- how many bytes
  abbrev pub memory_count : Number
  memory_count = behind memory_bytes line memory_address

  -- it prints the bytes as they stand in memory
  unfoldable pub memory_effect : List ℕ → List ℕ → Effect
  memory_effect s m =
      if_right (ends_within line memory_count (memory_address.value + memory_count.value) (extent_at (state_of s) memory_p.value))
      (effect s m (pairs_line (slot (start_of (state_of s) memory_p.value + memory_address.value) memory_count.value m))) s m

-- no more bytes of the one memory are shown at once
abbrev pub longest_whole : ℕ
longest_whole = 256

-- whole ADDRESS COUNT: no byte after the last of the one memory
module _ (line : List ℕ) where
  -- the index of the first byte
  abbrev pub whole_address : Number
  whole_address = behind capacity line (begun 5)

  -- how many bytes
  abbrev pub whole_count : Number
  whole_count = behind longest_whole line whole_address

  -- it prints the bytes as they stand in memory, whosever they are
  unfoldable pub whole_memory_effect : List ℕ → List ℕ → Effect
  whole_memory_effect s m =
      if_right (ends_within line whole_count (whole_address.value + whole_count.value) capacity)
      (effect s m (pairs_line (slot whole_address.value whole_count.value m))) s m

-- process P: it prints the record of the process, and where its bytes begin
module _ (line : List ℕ) where
  -- the process
  abbrev pub shown_p : Number
  shown_p = behind 7 line (begun 7)

  -- both as the bytes of the state have them
  unfoldable pub process_effect : List ℕ → List ℕ → Effect
  process_effect s m =
      if_right (ends_line line shown_p)
      (effect s m (process_line (process_at (state_of s) shown_p.value) (start_of (state_of s) shown_p.value))) s m
