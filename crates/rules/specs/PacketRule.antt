-- What the packets of the Pup door ask of its process and do to it: one row for each type. Words in quotation marks are the change request's (K1)
-- and source document 004's.
use Rattle.std.specs.Prelude.{Option, Some, None, Bool, true, cond, List, [], ℕ, get_or, eqb}
use Rattle.lists.specs.Word.{words_of}
use Rattle.packets.specs.declared.units.WordAddress.{WordAddress}
use Rattle.packets.specs.declared.units.WordCount.{WordCount}
use Rattle.packets.specs.Types.{STORE, FETCH, GO}
use Rattle.packets.specs.Units.{word_count, byte_count, first_byte, in_bytes}
use Rattle.packets.specs.Units.{holds as fits_in}
use Rattle.packets.specs.Data.{address_of, value_of}
use Rattle.packets.specs.Block.{Block, block_for}
use Rattle.packets.specs.Ack.{second_word, ack_of}
use Rattle.run_state.specs.declared.Run.{Run}
use Rattle.run_state.specs.RunState.{stopped_or_at_break}
use Rattle.session.specs.Session.{pup_host}
use Rattle.process.specs.Local.{Local}
use Rattle.process.specs.Request.{on_record, examined}
use Rattle.process.specs.Packet.{without_go, go_asked, go_replied, word_stored}
use Rattle.rules.specs.Rule.{Public, holds, insider}

-- each of the first three is true where a test passes
pub record PacketRule : Type 0 where
  -- 8, by the public part
  pub right : Public → Bool
  -- 9
  pub runs : Run → Bool
  -- 10, by the data words and the size of the process
  pub range : List ℕ → ℕ → Bool
  -- what it does to the process, by its ID and its data words
  pub effect : ℕ → List ℕ → Local → Local
  -- the data words of its acknowledgement, by its own and the process after it
  pub ack : List ℕ → Local → List ℕ

-- ---- words of memory

-- so many words from an address on: 'word address a is seen bytes 2a and 2a + 1, low first'
unfoldable pub words_seen : WordAddress → WordCount → Local → List ℕ
words_seen at n l = words_of n.0 (examined (first_byte at).0 (in_bytes n).0 l)

-- the one at an address
unfoldable pub word_seen : WordAddress → Local → ℕ
word_seen at l = get_or (words_seen at (word_count 1) l) 0 0

-- the words of a block
unfoldable pub block_seen : Block → Local → List ℕ
block_seen None l = []
block_seen (Some block) l = words_seen block.0 block.1 l

-- 10: the word lies inside; 'a at most 2,047', and 'the Pup door follow[s]' the size (K2)
unfoldable pub word_inside : List ℕ → ℕ → Bool
word_inside words size = fits_in (byte_count size) (address_of words) (word_count 1)

-- the block that is sent for these data words: 'a block reaching past the size is halved until it fits' (K2)
abbrev pub block_of : List ℕ → Local → Block
block_of words l = block_for (byte_count l.process.size) (address_of words) words

-- the acknowledgement of a Store or Fetch with these data words: the address, a second word and the block
unfoldable pub ack_for : ℕ → List ℕ → Local → List ℕ
ack_for kind words l =
    ack_of (address_of words) (second_word kind (word_seen (address_of words) l)) (block_of words l) (block_seen (block_of words l) l)

-- ---- the rows

-- 'The second data word is the value to store.' 'The block should reflect the result of the store.'
abbrev pub store_row : PacketRule
store_row = record {
  right = λ u. holds u pup_host;
  runs = λ r. true;
  range = word_inside;
  effect = λ id words. word_stored (first_byte (address_of words)).0 (value_of words);
  ack = ack_for STORE;
}

-- 'A watcher may EXAMINE, Fetch' (K5); 'any other granted packet abandons the Go'
abbrev pub fetch_row : PacketRule
fetch_row = record {
  right = λ u. insider u pup_host;
  runs = λ r. true;
  range = word_inside;
  effect = λ id words. on_record without_go;
  ack = ack_for FETCH;
}

-- 'A Go is granted only where RESUME would be.' 'Ack: no contents'
abbrev pub go_row : PacketRule
go_row = record {
  right = λ u. holds u pup_host;
  runs = stopped_or_at_break;
  range = λ words size. true;
  effect = λ id words. on_record (go_asked id);
  ack = λ words l. [];
}

-- 'a GoReply only to 8', 'else granted without output'; 'Not acknowledged'
abbrev pub go_reply_row : PacketRule
go_reply_row = record {
  right = λ u. holds u pup_host;
  runs = λ r. true;
  range = λ words size. true;
  effect = λ id words. on_record (go_replied id);
  ack = λ words l. [];
}

-- the row of a type; a packet of any other type is refused before
unfoldable pub packet_row_of : ℕ → PacketRule
packet_row_of kind = cond (eqb kind STORE) store_row (cond (eqb kind FETCH) fetch_row (cond (eqb kind GO) go_row go_reply_row))
