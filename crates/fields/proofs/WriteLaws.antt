-- Laws of text that is put into a buffer, and of the length of a line. Assumes nothing.
use mathlib.Core.Path.{◌≡◌, refl, sym, ap, ◌∙◌}
use mathlib.Core.List.{List, [], ◌∷◌, ◌++◌}
use Prim.Native.Nat.{ℕ, suc, ◌+◌, ◌/◌, ◌%◌, ◌≤◌, ◌<◌}
use native.Mathlib.Nat.{add-zero}
use native.Mathlib.Numerals.{add-one}
use native.Mathlib.Omega.{arith}
use lib.ListN.{length, set, length-set, length-append}
use lib.Seq.{sets, length-sets, set_comm}
use Rattle.lists.specs.Buffer.{overlay}
use Rattle.lists.proofs.Buffer.{sets-overlay}
use Rattle.fields.specs.declared.write.Fields.{Fields}
use Rattle.fields.specs.Hex.{hex_digit, hex_digits, hex_numeral}
use Rattle.fields.specs.Written.{Put, blank_numeral, written, line_bytes}
use Rattle.fields.specs.Theorems.{ShortLines}
use Rattle.fields.proofs.HexLaws.{digits-small, digits-large, length-numeral}

-- ---- stores one after another

sets-append : (at : ℕ) (xs ys buffer : List ℕ) → sets (sets buffer at xs) (at + length xs) ys ≡ sets buffer at (xs ++ ys)
sets-append at [] ys buffer = ap (λ (n : ℕ). sets buffer n ys) (add-zero at)
sets-append at (x ∷ xs) ys buffer =
    let e : at + suc (length xs) ≡ suc at + length xs = omega arith in
    ap (λ (n : ℕ). sets (sets (set buffer at x) (suc at) xs) n ys) e ∙ sets-append (suc at) xs ys (set buffer at x)

-- a store after them may come first
sets-set : (at i a : ℕ) (xs buffer : List ℕ) → at + length xs ≤ i → sets (set buffer i a) at xs ≡ set (sets buffer at xs) i a
sets-set at i a [] buffer h = refl
sets-set at i a (x ∷ xs) buffer h =
    ap (λ (l : List ℕ). sets l (suc at) xs) (set_comm buffer i at a x (λ e. omega (arith, e, h)))
    ∙ sets-set (suc at) i a xs (set buffer at x) (omega (arith, h))

-- the last one comes first
pub sets_last : (at i a : ℕ) (xs buffer : List ℕ) → i ≡ at + length xs → sets (set buffer i a) at xs ≡ sets buffer at (xs ++ (a ∷ []))
sets_last at i a xs buffer e =
    sets-set at i a xs buffer (omega (arith, e)) ∙ ap (λ (n : ℕ). set (sets buffer at xs) n a) e ∙ sets-append at xs (a ∷ []) buffer

-- ---- the digits of a number, the last one first

pub digits-turn : (n i at : ℕ) (buffer : List ℕ) → 16 ≤ n → i ≡ at + length (hex_digits (n / 16))
    → sets (set buffer i (hex_digit (n % 16))) at (hex_digits (n / 16)) ≡ sets buffer at (hex_digits n)
digits-turn n i at buffer h e = sets_last at i (hex_digit (n % 16)) (hex_digits (n / 16)) buffer e ∙ ap (sets buffer at) (sym (digits-large n h))

pub digits-done : (n at : ℕ) (buffer : List ℕ) → n < 16 → set buffer at (hex_digit n) ≡ sets buffer at (hex_digits n)
digits-done n at buffer h = ap (sets buffer at) (sym (digits-small n h))

-- ---- text that was put

pub put_then : (at mid next : ℕ) (xs ys buffer whole last : List ℕ) → Put at xs buffer mid whole → Put mid ys whole next last → Put at (xs ++ ys) buffer next last
put_then at mid next xs ys buffer whole last p q = (
  q.0 ∙ omega (arith, p.0, length-append xs ys),
  q.1 ∙ ap (λ (k : ℕ). sets whole k ys) p.0 ∙ ap (λ (l : List ℕ). sets l (at + length xs) ys) p.1 ∙ sets-append at xs ys buffer,
)

-- one character, and text after it
pub put-after-one : (at c next : ℕ) (ys buffer last : List ℕ) → Put (at + 1) ys (set buffer at c) next last → Put at (c ∷ ys) buffer next last
put-after-one at c next ys buffer last p = (p.0 ∙ omega arith, p.1 ∙ ap (λ (k : ℕ). sets (set buffer at c) k ys) (add-one at))

-- two characters, and text after them
pub put-after-two : (at c d next : ℕ) (ys buffer last : List ℕ) → Put (at + 2) ys (set (set buffer at c) (at + 1) d) next last → Put at (c ∷ d ∷ ys) buffer next last
put-after-two at c d next ys buffer last p =
    let two : at + 2 ≡ at + 1 + 1 = omega arith in
    put-after-one at c next (d ∷ ys) buffer last
    (put-after-one (at + 1) d next ys (set buffer at c) last (p.0 ∙ omega arith, p.1 ∙ ap (λ (k : ℕ). sets (set (set buffer at c) (at + 1) d) k ys) two))

-- one character
pub put_one : (at c : ℕ) (buffer : List ℕ) → Put at (c ∷ []) buffer (at + 1) (set buffer at c)
put_one at c buffer = (refl, refl)

-- all of it, from the start on
pub put_whole : (next : ℕ) (xs buffer last : List ℕ) → length xs ≤ length buffer → Put 0 xs buffer next last → (next ≡ length xs) × (last ≡ overlay xs buffer)
put_whole next xs buffer last h p = (p.0 ∙ omega arith, p.1 ∙ sets-overlay xs buffer h)

-- the buffer is as long as it was
pub put-length : (at next : ℕ) (xs buffer last : List ℕ) → Put at xs buffer next last → length last ≡ length buffer
put-length at next xs buffer last p = ap (λ (l : List ℕ). length l) p.1 ∙ length-sets buffer at xs

pub put-again-length : (a b c : ℕ) (xs ys out one two : List ℕ) → Put 0 xs out a one → Put (a + 2) ys (set (set one a 32) (a + 1) c) b two → length two ≡ length out
put-again-length a b c xs ys out one two p q =
    put-length (a + 2) b ys (set (set one a 32) (a + 1) c) two q
    ∙ length-set (set one a 32) (a + 1) c
    ∙ length-set one a 32
    ∙ put-length 0 a xs out one p

-- the four fields and the newline
pub put-line : (f : Fields) (a b d : ℕ) (out one two three : List ℕ) → Put 0 (hex_numeral f.pid) out a one
    → Put (a + 2) (blank_numeral f.third) (set (set one a 32) (a + 1) f.letter) b two → Put b (blank_numeral f.fourth) two d three
    → Put 0 (written f) out (d + 1) (set three d 10)
unfolding written
put-line f a b d out one two three p q r =
    let last = set three d 10 in
    let end = put_then b d (d + 1) (blank_numeral f.fourth) (10 ∷ []) two three last r (put_one d 10 three) in
    let rest = put_then (a + 2) b (d + 1) (blank_numeral f.third) (blank_numeral f.fourth ++ (10 ∷ [])) (set (set one a 32) (a + 1) f.letter) two last q end in
    put_then 0 a (d + 1) (hex_numeral f.pid) (32 ∷ f.letter ∷ (blank_numeral f.third ++ (blank_numeral f.fourth ++ (10 ∷ [])))) out one last p
    (put-after-two a 32 f.letter (d + 1) (blank_numeral f.third ++ (blank_numeral f.fourth ++ (10 ∷ []))) one last rest)

-- ---- lengths

length-blank : (n : ℕ) → n < 4294967296 → length (blank_numeral n) ≤ 11
unfolding blank_numeral
length-blank n h = omega (arith, length-numeral n h)

pub short-line : (f : Fields) → f.pid < 4294967296 → f.third < 4294967296 → f.fourth < 4294967296 → length (written f) ≤ line_bytes
unfolding written
short-line f h i j =
    let last = blank_numeral f.fourth ++ (10 ∷ []) in
    let rest = blank_numeral f.third ++ last in
    omega (
      arith,
      length-append (hex_numeral f.pid) (32 ∷ f.letter ∷ rest),
      length-append (blank_numeral f.third) last,
      length-append (blank_numeral f.fourth) (10 ∷ []),
      length-numeral f.pid h,
      length-blank f.third i,
      length-blank f.fourth j,
    )

pub short-lines : ShortLines
short-lines = record { short-line = short-line }
