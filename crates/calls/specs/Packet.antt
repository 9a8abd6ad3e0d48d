-- The numbers of a packet, read one after another, and the lines that answer packets and ticks.
use Rattle.std.specs.Prelude.{◌≡◌, ◌≤◌, take, true, Bool, cond, ◌&&◌, ◌||◌, List, [], ◌∷◌, ◌++◌, ℕ, zero, suc, eqb}
use Rattle.lists.specs.Joined.{joined}
use Rattle.packets.specs.Types.{STORE, FETCH, GO, ACK}
use Rattle.decimal.specs.declared.number.Number.{Number}
use Rattle.decimal.specs.Numeral.{numeral, field}
use Rattle.calls.specs.declared.packet.Packet.{Packet}
use Rattle.decimal.specs.Read.{begun, behind, ends_line}

-- ---- reading

-- no packet of a recording has more data words
abbrev pub most_words : ℕ
most_words = 64

-- the greatest ID, of 32 bits
abbrev pub most_id : ℕ
most_id = 4294967295

-- the last of at most so many words after a number, where the line ends after one of them
unfoldable pub last_in : ℕ → List ℕ → Number → Number
last_in zero line n = n
last_in (suc k) line n = cond (ends_line line n) n (last_in k line (behind 65535 line n))

-- the values of these words
unfoldable pub data_in : ℕ → List ℕ → Number → List ℕ
data_in zero line n = []
data_in (suc k) line n = cond (ends_line line n) [] ((behind 65535 line n).value ∷ data_in k line (behind 65535 line n))

-- the type, the first number after the word `packet`
abbrev pub type_in : List ℕ → Number
type_in line = behind 255 line (begun 6)

-- the ID, after the type
abbrev pub id_in : List ℕ → Number
id_in line = behind most_id line (type_in line)

-- the data words, after the ID
abbrev pub words_in : List ℕ → List ℕ
words_in line = data_in most_words line (id_in line)

-- all numbers of a packet are right, and the line ends after them
unfoldable pub packet_in : List ℕ → Bool
packet_in line = ends_line line (last_in most_words line (id_in line))

-- the line is right, and these are its numbers
pub record IsPacket (line : List ℕ) (p : Packet) : Type 0 where
  pub right : packet_in line ≡ true
  pub kind : p.kind ≡ (type_in line).value
  pub id : p.id ≡ (id_in line).value
  pub words : take p.data.len p.data.words ≡ words_in line
  pub fits : p.data.len ≤ most_words

-- ---- answering

-- an acknowledgement goes out where a Store, a Fetch or a Go is granted
unfoldable pub acknowledged : ℕ → ℕ → Bool
acknowledged kind number = eqb number 0 && (eqb kind STORE || (eqb kind FETCH || eqb kind GO))

-- a number after a blank
abbrev pub word_text : ℕ → List ℕ
word_text w = field 32 w

-- 'NUMBER, and for an acknowledgement ` 132 ID W ..`': its type, the ID as it was sent, and its data words
unfoldable pub ack_line : ℕ → ℕ → List ℕ → List ℕ
ack_line number id words = (((numeral number ++ word_text ACK) ++ word_text id) ++ joined word_text words) ++ (10 ∷ [])

-- 'else ` -`'
unfoldable pub silent_line : ℕ → List ℕ
silent_line number = numeral number ++ (32 ∷ 45 ∷ 10 ∷ [])

-- the answer to a packet
unfoldable pub packet_shown : Bool → ℕ → ℕ → List ℕ → List ℕ
packet_shown acked number id words = cond acked (ack_line number id words) (silent_line number)
