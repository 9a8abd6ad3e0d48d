-- Laws of the bytes of an entry. Assumes nothing.
use mathlib.Core.Path.{◌≡◌, refl, sym, ◌∙◌}
use mathlib.Core.Bool.{Bool, true, false, ◌&&◌}
use mathlib.Core.List.{List}
use Prim.Native.Nat.{ℕ, zero, suc, ◌+◌, ◌-◌, ◌*◌, ◌<◌}
use native.Mathlib.Omega.{arith}
use lib.Bits.{bit_or}
use borrow.Author.Tests.{eqb-true}
use lib.Dec.{eqb}
use lib.ListN.{length, take, drop, get_or}
use lib.Seq.{get_or-drop, drop-drop}
use Rattle.lists.specs.Buffer.{Bytes}
use Rattle.lists.proofs.Word.{word-high-low, high_word, low_word}
use Rattle.breakpoints.specs.declared.entry.Breakpoint.{Breakpoint}
use Rattle.breakpoints.specs.Entry.{free}
use Rattle.state_bytes.specs.Chunk.{every_chunk}
use Rattle.state_bytes.specs.Entry.{entry_bytes, entry_of, entry_of_number, entry_formed, bits_with, entries_bits, flags_formed}
use Rattle.state_bytes.specs.Number.{u32_le, u64_le}
use Rattle.state_bytes.specs.Widths.{entry_count, entry_width}
use Rattle.state_bytes.proofs.ChunkLaws.{every-same, piece}
use Rattle.state_bytes.proofs.NumberLaws.{flag-back, flag-formed, flag-forth, by-elements, first_byte, setter-byte, lifted-bit, address_word, count_word, low_part, high_part, zero_or, flags-or}

pub length-entry_bytes : (b : Breakpoint) → length (entry_bytes b) ≡ entry_width
unfolding entry_bytes
length-entry_bytes b = refl

-- the last four of eight bytes
last-four : (m : List ℕ) → u32_le (drop 4 m) ≡ get_or m 4 0 + get_or m 5 0 * 256 + get_or m 6 0 * 65536 + get_or m 7 0 * 16777216
last-four m = rw (get_or-drop 4 m 0 0, get_or-drop 4 m 1 0, get_or-drop 4 m 2 0, get_or-drop 4 m 3 0)

-- the entry in the number of eight bytes is the entry of the bytes
pub entry-of-u64 : (m : List ℕ) → Bytes m → entry_of_number (u64_le m) ≡ entry_of m
unfolding entry_of_number entry_of
entry-of-u64 m z =
    rw (
      last-four m,
      lifted-bit _ _ _ _ _ _ _ _ (z 0) (z 1) (z 2) (z 3) (z 4) (z 5) (z 6) (z 7),
      address_word _ _ _ _ _ _ _ _ (z 0) (z 1) (z 2) (z 3) (z 4) (z 5) (z 6) (z 7),
      count_word _ _ _ _ _ _ _ _ (z 0) (z 1) (z 2) (z 3) (z 4) (z 5) (z 6) (z 7),
      low_part _ _ _ _ _ _ _ _ (z 0) (z 1) (z 2) (z 3) (z 4) (z 5) (z 6) (z 7),
      high_part _ _ _ _ _ _ _ _ (z 0) (z 1) (z 2) (z 3) (z 4) (z 5) (z 6) (z 7),
      setter-byte _ _ _ _ _ _ _ _ (z 0) (z 1) (z 2) (z 3) (z 4) (z 5) (z 6) (z 7),
    )

pub entry-back : (b : Breakpoint) → entry_of (entry_bytes b) ≡ b
unfolding entry_of entry_bytes
entry-back b = rw (flag-back b.lifted, word-high-low b.address, word-high-low b.count)

pub entry-formed : (b : Breakpoint) → entry_formed (entry_bytes b) ≡ true
unfolding entry_formed entry_bytes
entry-formed b = flag-formed b.lifted

pub entry-forth : (m : List ℕ) → length m ≡ entry_width → Bytes m → entry_formed m ≡ true → entry_bytes (entry_of m) ≡ m
unfolding entry_formed entry_bytes entry_of
entry-forth m size b e =
    rw (flag-forth (get_or m 0 0) e, low_word (get_or m 3 0) (get_or m 2 0) (b 2), high_word (get_or m 3 0) (get_or m 2 0) (b 2), low_word (get_or m 5 0) (get_or m 4 0) (b 4), high_word (get_or m 5 0) (get_or m 4 0) (b 4))
    (sym (by-elements entry_width m size))

-- ---- all entries at once

pub &&-true : (b : Bool) → b && true ≡ b
&&-true true = refl
&&-true false = refl

pub &&-false : (b : Bool) → b && false ≡ false
&&-false true = refl
&&-false false = refl

pub &&-assoc : (a b c : Bool) → (a && b) && c ≡ a && (b && c)
&&-assoc true b c = refl
&&-assoc false b c = refl

-- a test that two numbers pass where their bits together do
module _ (t : ℕ → Bool) (both : (a b : ℕ) → t (bit_or a b) ≡ t a && t b) where
  with-more : (bits n : ℕ) (m : List ℕ) → t (bits_with bits n m) ≡ t bits && every_chunk entry_width (λ (c : List ℕ). t (u64_le c)) n m
  unfolding bits_with every_chunk
  with-more bits zero m = sym (&&-true (t bits))
  with-more bits (suc n) m =
      with-more (bit_or bits (u64_le (take entry_width m))) n (drop entry_width m)
      ∙ rw (both bits (u64_le (take entry_width m))) (&&-assoc (t bits) (t (u64_le (take entry_width m))) (every_chunk entry_width (λ (c : List ℕ). t (u64_le c)) n (drop entry_width m)))

  -- is passed by all entries' bits where every entry passes it
  pub every-bits : t 0 ≡ true → (m : List ℕ) → t (entries_bits m) ≡ every_chunk entry_width (λ (c : List ℕ). t (u64_le c)) entry_count m
  every-bits zero-passes m = with-more 0 entry_count m ∙ rw zero-passes

-- a turn of the loop that gathers them
pub bits-step : (m : List ℕ) (k bits r total : ℕ) → k < entry_count
    → r ≡ u64_le (take (entry_width * k + entry_width - entry_width * k) (drop (entry_width * k) m))
    → bits_with bits (entry_count - k) (drop (entry_width * k) m) ≡ total
    → bits_with (bit_or bits r) (entry_count - (k + 1)) (drop (entry_width * (k + 1)) m) ≡ total
unfolding bits_with
bits-step m k bits r total h e so_far =
    let left : entry_count - k ≡ suc (entry_count - (k + 1)) = omega arith in
    let next : entry_width * (k + 1) ≡ entry_width * k + entry_width = omega arith in
    rw (e, piece entry_width (entry_width * k) m, next, ← drop-drop entry_width (entry_width * k) m) (rw left at so_far)

-- all eight bytes of an entry are 0
abbrev pub entry_zero : List ℕ → Bool
entry_zero c = eqb (u64_le c) 0

pub zero_bits : (m : List ℕ) → eqb (entries_bits m) 0 ≡ every_chunk entry_width entry_zero entry_count m
zero_bits = every-bits (λ (n : ℕ). eqb n 0) zero_or refl

flags-of-bytes : (c : List ℕ) → Bytes c → flags_formed (u64_le c) ≡ entry_formed c
unfolding flags_formed entry_formed
flags-of-bytes c z =
    rw (
      last-four c,
      first_byte _ _ _ _ _ _ _ _ (z 0) (z 1) (z 2) (z 3) (z 4) (z 5) (z 6) (z 7),
    )

no-flags : flags_formed 0 ≡ true
unfolding flags_formed
no-flags = refl

pub flags-bits : (m : List ℕ) → Bytes m → flags_formed (entries_bits m) ≡ every_chunk entry_width entry_formed entry_count m
flags-bits m b = every-bits flags_formed flags-or no-flags m ∙ every-same entry_width (λ (c : List ℕ). flags_formed (u64_le c)) entry_formed flags-of-bytes entry_count m b

module _ (m : List ℕ) (e : entry_zero m ≡ true) where
  none : u64_le m ≡ 0
  none = eqb-true (u64_le m) 0 e

  near : (get_or m 0 0 ≡ 0) × (get_or m 1 0 ≡ 0) × (get_or m 2 0 ≡ 0) × (get_or m 3 0 ≡ 0)
  near = (omega (arith, none), omega (arith, none), omega (arith, none), omega (arith, none))

  far : (get_or m 4 0 ≡ 0) × (get_or m 5 0 ≡ 0) × (get_or m 6 0 ≡ 0) × (get_or m 7 0 ≡ 0)
  far =
      (sym (get_or-drop 4 m 0 0) ∙ omega (arith, none), sym (get_or-drop 4 m 1 0) ∙ omega (arith, none), sym (get_or-drop 4 m 2 0) ∙ omega (arith, none), sym (get_or-drop 4 m 3 0) ∙ omega (arith, none))

  pub zero-free : entry_of m ≡ free
  unfolding entry_of
  zero-free = rw (near.0, near.1, near.2, near.3, far.0, far.1, far.2, far.3)

  pub zero-formed : entry_formed m ≡ true
  unfolding entry_formed
  zero-formed = rw near.0
