-- Laws of the words of an acknowledgement as they are written. Assumes nothing.
use Rattle.std.proofs.Common.{Option, Some, None}
use mathlib.Core.Path.{◌≡◌, refl, sym, ap, ap₂, ◌∙◌}
use mathlib.Core.List.{List, ◌++◌}
use Prim.Native.Nat.{ℕ, ◌+◌, ◌-◌, ◌*◌, ◌≤◌}
use native.Mathlib.Omega.{arith}
use lib.ListN.{length, take, drop, get_or, get_or-append}
use Rattle.lists.specs.Word.{word, words_of}
use Rattle.lists.specs.Buffer.{overlay}
use Rattle.lists.proofs.Elements.{length-elements, elements-alike}
use Rattle.lists.proofs.Buffer.{laid-part}
use Rattle.packets.specs.declared.units.WordAddress.{WordAddress}
use Rattle.packets.specs.declared.units.WordCount.{WordCount}
use Rattle.packets.specs.Units.{byte_count, first_byte, in_bytes}
use Rattle.packets.specs.Data.{address_of}
use Rattle.packets.specs.Block.{Block, block_for}
use Rattle.packets.specs.Ack.{second_word, block_words, ack_start, ack_of, ack_length}
use Rattle.packets.proofs.AckLaws.{length-ack}
use Rattle.process.specs.Local.{Local}
use Rattle.process.specs.Request.{examined}
use Rattle.rules.specs.PacketRule.{words_seen, word_seen, block_seen, block_of, ack_for}
use Rattle.service.proofs.ReplyLaws.{length-examined}

-- the words of bytes with others behind them
pub words-front : (n : ℕ) (bytes rest : List ℕ) → 2 * n ≤ length bytes → words_of n (bytes ++ rest) ≡ words_of n bytes
words-front n bytes rest h =
    elements-alike (λ (i : ℕ). word (get_or (bytes ++ rest) (2 * i + 1) 0) (get_or (bytes ++ rest) (2 * i) 0)) (λ (i : ℕ). word (get_or bytes (2 * i + 1) 0) (get_or bytes (2 * i) 0)) n
    (λ i l. ap₂ word (get_or-append bytes rest 0 (2 * i + 1) (omega arith)) (get_or-append bytes rest 0 (2 * i) (omega arith)))

-- ---- seen words

-- the word of two bytes that are examined
pub word-seen : (at : WordAddress) (l : Local) (first w : ℕ) (pair : List ℕ) → first ≡ (first_byte at).0 → pair ≡ examined first 2 l
    → w ≡ word (get_or pair 1 0) (get_or pair 0 0) → w ≡ word_seen at l
unfolding word_seen words_seen
word-seen at l first w pair begins p e = rw (p, begins) at e

-- the words of bytes that are examined, with others behind them
pub words-seen : (at : WordAddress) (count : WordCount) (l : Local) (first size : ℕ) (front rest : List ℕ) → first ≡ (first_byte at).0 → size ≡ (in_bytes count).0
    → front ≡ examined first size l → 2 * (at.0 + count.0) ≤ length l.bytes → words_of count.0 (front ++ rest) ≡ words_seen at count l
unfolding words_seen
words-seen at count l first size front rest begins long p h =
    let long-too : length front ≡ size = ap length p ∙ length-examined first size l (omega arith) in
    words-front count.0 front rest (omega arith) ∙ ap (words_of count.0) (rw (begins, long) at p)

-- ---- the acknowledgement

-- the words before a block's lie over the start of the buffer
pub record Started (kind : ℕ) (words : List ℕ) (l : Local) (block : Block) (n : ℕ) (whole buffer : List ℕ) : Type 0 where
  pub sent : block ≡ block_of words l
  pub counted : n ≡ ack_length block
  pub begun : whole ≡ overlay (ack_start (address_of words) (second_word kind (word_seen (address_of words) l)) block) buffer

-- as they are written, by what was read before
pub started : (kind : ℕ) (words : List ℕ) (l : Local) (block : Block) (n : ℕ) (whole buffer : List ℕ) (at : WordAddress) (second contents : ℕ) → at ≡ address_of words
    → contents ≡ word_seen at l → second ≡ second_word kind contents → block ≡ block_for (byte_count l.process.size) at words → n ≡ ack_length block
    → whole ≡ overlay (ack_start at second block) buffer → Started kind words l block n whole buffer
started kind words l block n whole buffer at second contents a c s b e w = record { sent = rw a at b; counted = e; begun = rw (s, c, a) at w }

module _ (kind : ℕ) (words : List ℕ) (l : Local) (block : Block) (n : ℕ) (whole buffer : List ℕ) (s : Started kind words l block n whole buffer) where
  -- without a block that is all
  pub ack-alone : block ≡ None → (n ≡ length (ack_for kind words l)) × (whole ≡ overlay (ack_for kind words l) buffer)
  unfolding ack_for block_seen ack_of ack_start ack_length
  ack-alone e =
      let none : block_of words l ≡ None = sym s.sent ∙ e in
      rw none (rw e at s.counted, rw e at s.begun)

  -- with one, its words are laid over the part behind
  pub ack-with : (base : WordAddress) (count : WordCount) (last : List ℕ) → block ≡ Some (base, count)
      → last ≡ overlay (words_seen base count l) (take (length whole - 3) (drop 3 whole))
      → (n ≡ length (ack_for kind words l)) × (take 3 whole ++ (last ++ drop (length whole - 3) (drop 3 whole)) ≡ overlay (ack_for kind words l) buffer)
  unfolding ack_for block_seen ack_of ack_start ack_length block_words words_seen
  ack-with base count last e laid =
      let at = address_of words in
      let second = second_word kind (word_seen at l) in
      let some : block_of words l ≡ Some (base, count) = sym s.sent ∙ e in
      let long : length (words_seen base count l) ≡ count.0 = length-elements _ count.0 in
      rw some (
        (rw e at s.counted) ∙ sym (length-ack at second (Some (base, count)) (words_seen base count l) long),
        laid-part (ack_start at second (Some (base, count))) (words_seen base count l) buffer whole last 3 refl (rw e at s.begun) laid,
      )
