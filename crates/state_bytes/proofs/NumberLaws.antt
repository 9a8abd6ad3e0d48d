-- Laws of numbers and flags as bytes, and of bits. Assumes nothing.
use mathlib.Core.Path.{◌≡◌, refl, sym, ap, ◌∙◌}
use mathlib.Core.Bool.{Bool, true, false, cond, ◌&&◌}
use mathlib.Core.List.{List, [], ◌∷◌}
use Prim.Native.Nat.{ℕ, zero, suc, ◌+◌, ◌*◌, ◌/◌, ◌%◌, ◌<◌}
use native.Mathlib.Omega.{arith}
use borrow.Author.Tests.{eqb-true, eq-eqb, ne_eqb, leb-true, le-leb}
use lib.Bits.{bit_or, or_add_and, and_le_r, or_shr, or_mod}
use lib.Dec.{eqb, leb}
use lib.ListN.{length, drop, get_or}
use lib.Seq.{take_all, get_or-drop}
use Rattle.std.proofs.Common.{w32, w64}
use Rattle.std.specs.Int.{to_le_bytes}
use Rattle.lists.specs.Buffer.{Bytes}
use Rattle.lists.specs.Elements.{elements}
use Rattle.lists.specs.Flag.{flag}
use Rattle.lists.specs.Word.{low, high}
use Rattle.lists.proofs.Bool.{same_truth}
use Rattle.lists.proofs.Elements.{take-elements}
use Rattle.state_bytes.specs.Number.{u32_le, u32_le_bytes, u64_le_bytes, flag_of}
use Rattle.state_bytes.specs.Entry.{flags_formed}

-- ---- flags

pub flag-back : (t : Bool) → flag_of (cond t 1 0) ≡ t
flag-back true = refl
flag-back false = refl

pub flag-formed : (t : Bool) → leb (cond t 1 0) 1 ≡ true
flag-formed true = refl
flag-formed false = refl

pub flag-forth : (x : ℕ) → leb x 1 ≡ true → cond (flag_of x) 1 0 ≡ x
flag-forth zero e = refl
flag-forth (suc zero) e = refl
flag-forth (suc (suc x)) e = absurd (omega (arith, leb-true (suc (suc x)) 1 e))

-- a list of this length, by its elements
pub by-elements : (n : ℕ) (m : List ℕ) → length m ≡ n → m ≡ elements (λ (i : ℕ). get_or m i 0) n
by-elements n m e = sym (take_all n m (omega (arith, e))) ∙ take-elements n m (omega (arith, e))

-- ---- four bytes as a number

-- a number is made of its own four bytes
pub u32-back : (w : ℕ) → u32_le (u32_le_bytes w) ≡ w
u32-back w = omega arith

-- the bytes of the number that stands at an index
module _ (at : ℕ) (m : List ℕ) (b : Bytes m) where
  from-four : u32_le (drop at m) ≡ get_or m (at + 0) 0 + get_or m (at + 1) 0 * 256 + get_or m (at + 2) 0 * 65536 + get_or m (at + 3) 0 * 16777216
  from-four = rw (get_or-drop at m 0 0, get_or-drop at m 1 0, get_or-drop at m 2 0, get_or-drop at m 3 0)

  pub four-0 : u32_le (drop at m) % 256 ≡ get_or m (at + 0) 0
  four-0 = rw from-four (omega (arith, b (at + 0)))

  pub four-1 : u32_le (drop at m) / 256 % 256 ≡ get_or m (at + 1) 0
  four-1 = rw from-four (omega (arith, b (at + 0), b (at + 1)))

  pub four-2 : u32_le (drop at m) / 65536 % 256 ≡ get_or m (at + 2) 0
  four-2 = rw from-four (omega (arith, b (at + 0), b (at + 1), b (at + 2)))

  pub four-3 : u32_le (drop at m) / 16777216 ≡ get_or m (at + 3) 0
  four-3 = rw from-four (omega (arith, b (at + 0), b (at + 1), b (at + 2)))

-- ---- the bytes of a number, as the library has them

pub four-low-first : (w : ℕ) → w < 4294967296 → to_le_bytes w32 w ≡ u32_le_bytes w
four-low-first w h = let last : w / 16777216 % 256 ≡ w / 16777216 = omega arith in rw last

pub eight-low-first : (w : ℕ) → to_le_bytes w64 w ≡ u64_le_bytes w
unfolding u64_le_bytes
eight-low-first w = refl

-- ---- eight bytes as a number

module _ (a b c d e f g h : ℕ) (a_byte : a < 256) (b-byte : b < 256) (c-byte : c < 256) (d-byte : d < 256) (e-byte : e < 256) (f-byte : f < 256) (g-byte : g < 256) (h-byte : h < 256) where
  abbrev pub number : ℕ
  number = a + b * 256 + c * 65536 + d * 16777216 + (e + f * 256 + g * 65536 + h * 16777216) * 4294967296

  pub first_byte : number % 256 ≡ a
  first_byte = omega arith

  pub setter-byte : number / 256 % 256 ≡ b
  setter-byte = omega arith

  pub lifted-bit : number % 2 ≡ a % 2
  lifted-bit = omega arith

  pub address_word : number / 65536 % 65536 ≡ d * 256 + c
  address_word = omega arith

  pub count_word : number / 4294967296 % 65536 ≡ f * 256 + e
  count_word = omega arith

  pub low_part : number / 281474976710656 % 256 ≡ g
  low_part = omega arith

  pub high_part : number / 72057594037927936 % 256 ≡ h
  high_part = omega arith

-- the fields of an entry as a number, and its bytes
module _ (f w a n s h : ℕ) (f-byte : f < 256) (w-byte : w < 256) (a_word : a < 65536) (n-word : n < 65536) (s-byte : s < 256) (h-byte : h < 256) where
  abbrev pub packed : ℕ
  packed = f + w * 256 + a * 65536 + n * 4294967296 + s * 281474976710656 + h * 72057594037927936

  byte-0 : packed % 256 ≡ f
  byte-0 = omega arith

  byte-1 : packed / 256 % 256 ≡ w
  byte-1 = omega arith

  byte-2 : packed / 65536 % 256 ≡ a % 256
  byte-2 = omega arith

  byte-3 : packed / 16777216 % 256 ≡ a / 256
  byte-3 = omega arith

  byte-4 : packed / 4294967296 % 256 ≡ n % 256
  byte-4 = omega arith

  byte-5 : packed / 1099511627776 % 256 ≡ n / 256
  byte-5 = omega arith

  byte-6 : packed / 281474976710656 % 256 ≡ s
  byte-6 = omega arith

  byte-7 : packed / 72057594037927936 % 256 ≡ h
  byte-7 = omega arith

  pub packed-bytes : u64_le_bytes packed ≡ f ∷ w ∷ low a ∷ high a ∷ low n ∷ high n ∷ s ∷ h ∷ []
  unfolding u64_le_bytes
  packed-bytes = rw (byte-0, byte-1, byte-2, byte-3, byte-4, byte-5, byte-6, byte-7)

pub flag-byte : (t : Bool) → flag t < 256
flag-byte true = omega arith
flag-byte false = omega arith

-- ---- bits that are set in one of two numbers

-- no bit is
pub zero_or : (a b : ℕ) → eqb (bit_or a b) 0 ≡ eqb a 0 && eqb b 0
zero_or zero b = refl
zero_or (suc a) b = rw (ne_eqb (bit_or (suc a) b) 0 (λ e. omega (arith, e, or_add_and (suc a) b, and_le_r (suc a) b)), ne_eqb (suc a) 0 (λ e. omega (arith, e)))

-- no bit but the lowest is
at_most_one : (x : ℕ) → leb x 1 ≡ eqb (x / 2) 0
at_most_one x = same_truth (leb x 1) (eqb (x / 2) 0) (λ e. eq-eqb (x / 2) 0 (omega (arith, leb-true x 1 e))) (λ e. le-leb x 1 (omega (arith, eqb-true (x / 2) 0 e)))

one-or : (a b : ℕ) → leb (bit_or a b) 1 ≡ leb a 1 && leb b 1
one-or a b =
    at_most_one (bit_or a b) ∙ ap (λ (n : ℕ). eqb n 0) (or_shr a b 1) ∙ zero_or (a / 2) (b / 2)
    ∙ rw (at_most_one a, at_most_one b)

pub flags-or : (a b : ℕ) → flags_formed (bit_or a b) ≡ flags_formed a && flags_formed b
unfolding flags_formed
flags-or a b = ap (λ (n : ℕ). leb n 1) (or_mod a b 8) ∙ one-or (a % 256) (b % 256)
