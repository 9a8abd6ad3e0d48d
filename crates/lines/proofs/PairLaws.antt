-- What is written as pairs is read as it was, and only the written form is read. Assumes nothing.
use mathlib.Core.Path.{◌≡◌, refl, sym, ap, ◌∙◌}
use mathlib.Core.Bool.{Bool, true, false, cond, true≢false}
use mathlib.Core.List.{List, [], ◌∷◌, ◌++◌, append_assoc, append-nil}
use Prim.Native.Nat.{ℕ, suc, ◌+◌, ◌*◌, ◌/◌, ◌%◌, ◌≤◌, ◌<◌}
use native.Mathlib.Omega.{arith}
use borrow.Author.Tests.{eqb-true, ltb-true, ltb-false, lt-ltb}
use lib.ListN.{length, take, set, length-append}
use lib.Seq.{take_all, take-append_seam, set_out}
use lib.Dec.{ltb, eqb}
use Rattle.lists.specs.Buffer.{overlay, Bytes}
use Rattle.lists.proofs.Buffer.{overlay-snoc, take-overlay, length-overlay}
use Rattle.digits.proofs.DigitLaws.{value-digit, digit-back}
use Rattle.lines.specs.declared.scan.Phase.{Phase}
use Rattle.lines.specs.declared.scan.Phase.TheVariants.{Open, Half, Full, Bad}
use Rattle.lines.specs.Hex.{digit, value, pair, pairs, spaced}
use Rattle.lines.specs.Scan.{opened, next, full, made, after, bytes_of, kept, filled}
use Rattle.lines.specs.Theorems.{ReadsPairs}
use Rattle.lines.proofs.ScanLaws.{in_parts, parts-read, kept_full, filled-full}

digit_back : (c : ℕ) → value c < 16 → digit (value c) ≡ c
digit_back c h = (digit-back c (λ e. omega (arith, e, h))).1

-- ---- writing, then reading

bytes-tail : (b : ℕ) (bs : List ℕ) → Bytes (b ∷ bs) → Bytes bs
bytes-tail b bs h i = h (suc i)

-- a pair is read as its byte
module _ (b : ℕ) (h : b < 256) where
  pair-phase : (cs : List ℕ) → after Open (pair b ++ cs) ≡ after Full cs
  unfolding after next opened
  pair-phase cs = rw (value-digit (b / 16) (omega arith), lt-ltb (b / 16) 16 (omega arith), value-digit (b % 16) (omega arith), lt-ltb (b % 16) 16 (omega arith))

  pair-bytes : (cs : List ℕ) → bytes_of Open (pair b ++ cs) ≡ b ∷ bytes_of Full cs
  unfolding bytes_of made next opened
  pair-bytes cs =
      let back : b / 16 % 16 * 16 + b % 16 ≡ b = omega arith in
      rw (value-digit (b / 16) (omega arith), lt-ltb (b / 16) 16 (omega arith), value-digit (b % 16) (omega arith), lt-ltb (b % 16) 16 (omega arith), back)

blank-phase : (cs : List ℕ) → after Full (32 ∷ cs) ≡ after Open cs
unfolding after next
blank-phase cs = refl

blank-bytes : (cs : List ℕ) → bytes_of Full (32 ∷ cs) ≡ bytes_of Open cs
unfolding bytes_of made next
blank-bytes cs = refl

end-phase : after Full [] ≡ Full
unfolding after
end-phase = refl

end-bytes : bytes_of Full [] ≡ []
unfolding bytes_of
end-bytes = refl

written-phase : (b : ℕ) (bs : List ℕ) → Bytes (b ∷ bs) → after Open (pairs (b ∷ bs)) ≡ Full
unfolding pairs
written-phase b [] h = pair-phase b (h 0) [] ∙ end-phase
written-phase b (c ∷ bs) h =
    pair-phase b (h 0) (32 ∷ pairs (c ∷ bs)) ∙ blank-phase (pairs (c ∷ bs)) ∙ written-phase c bs (bytes-tail b (c ∷ bs) h)

written-bytes : (b : ℕ) (bs : List ℕ) → Bytes (b ∷ bs) → bytes_of Open (pairs (b ∷ bs)) ≡ b ∷ bs
unfolding pairs
written-bytes b [] h = pair-bytes b (h 0) [] ∙ ap (λ (l : List ℕ). b ∷ l) end-bytes
written-bytes b (c ∷ bs) h =
    pair-bytes b (h 0) (32 ∷ pairs (c ∷ bs))
    ∙ ap (λ (l : List ℕ). b ∷ l) (blank-bytes (pairs (c ∷ bs)) ∙ written-bytes c bs (bytes-tail b (c ∷ bs) h))

written-is-read : (bs : List ℕ) → Bytes bs → (bs ≡ [] → ⊥) → (after Open (pairs bs) ≡ Full) × (bytes_of Open (pairs bs) ≡ bs)
written-is-read [] h n = absurd (n refl)
written-is-read (b ∷ bs) h n = (written-phase b bs h, written-bytes b bs h)

-- ---- each byte after a blank

spaced-pairs : (b : ℕ) (bs : List ℕ) → spaced (b ∷ bs) ≡ 32 ∷ pairs (b ∷ bs)
unfolding spaced pairs
spaced-pairs b [] = refl
spaced-pairs b (c ∷ bs) = ap (λ (l : List ℕ). 32 ∷ pair b ++ l) (spaced-pairs c bs)

-- ---- reading, then writing

-- a line that ends after a pair is not bad
bad-stays : (cs : List ℕ) → after Bad cs ≡ Bad
unfolding after next
bad-stays [] = refl
bad-stays (c ∷ cs) = bad-stays cs

unfull : (p : Phase) → full p ≡ false → p ≡ Full → ⊥
unfolding full
unfull p e f = true≢false (sym (ap full f) ∙ e)

not-bad : (cs : List ℕ) → after Bad cs ≡ Full → ⊥
unfolding full
not-bad cs e = unfull Bad refl (sym (bad-stays cs) ∙ e)

-- the two digits of a pair, and what stands after it
pub record Begun (c d : ℕ) (cs : List ℕ) : Type 0 where
  pub first : value c < 16
  pub second : value d < 16
  pub behind : after Full cs ≡ Full

begun : (c d : ℕ) (cs : List ℕ) → after Open (c ∷ d ∷ cs) ≡ Full → Begun c d cs
unfolding after next opened
begun c d cs = go (ltb (value c) 16) refl (ltb (value d) 16) refl
  where
    go : (s : Bool) → ltb (value c) 16 ≡ s → (t : Bool) → ltb (value d) 16 ≡ t → after Open (c ∷ d ∷ cs) ≡ Full → Begun c d cs
    go true e true i h = record { first = ltb-true _ _ e; second = ltb-true _ _ i; behind = rw (e, i) at h }
    go true e false i h = absurd (not-bad cs (rw (e, i) at h))
    go false e t i h = absurd (not-bad cs (rw e at h))

-- one digit alone is no pair
alone : (c : ℕ) → after Open (c ∷ []) ≡ Full → ⊥
unfolding after next opened full
alone c = go (ltb (value c) 16) refl
  where
    go : (t : Bool) → ltb (value c) 16 ≡ t → after Open (c ∷ []) ≡ Full → ⊥
    go true e h = unfull (Half (value c)) refl (rw e at h)
    go false e h = unfull Bad refl (rw e at h)

-- after a pair stands nothing, or a blank and more pairs
parted : (c : ℕ) (cs : List ℕ) → after Full (c ∷ cs) ≡ Full → (c ≡ 32) × (after Open cs ≡ Full)
unfolding after next
parted c cs = go (eqb c 32) refl
  where
    go : (t : Bool) → eqb c 32 ≡ t → after Full (c ∷ cs) ≡ Full → (c ≡ 32) × (after Open cs ≡ Full)
    go true e h = (eqb-true c 32 e, rw e at h)
    go false e h = absurd (not-bad cs (rw e at h))

-- the byte of two digits
byte_of : ℕ → ℕ → ℕ
byte_of c d = value c % 16 * 16 + value d

read-pair : (c d : ℕ) (cs : List ℕ) → Begun c d cs → bytes_of Open (c ∷ d ∷ cs) ≡ byte_of c d ∷ bytes_of Full cs
unfolding bytes_of made next opened byte_of
read-pair c d cs b = rw (lt-ltb (value c) 16 b.first, lt-ltb (value d) 16 b.second)

-- and its written form
byte_pair : (c d : ℕ) → value c < 16 → value d < 16 → pair (byte_of c d) ≡ c ∷ d ∷ []
unfolding byte_of
byte_pair c d h i =
    let high : (value c % 16 * 16 + value d) / 16 ≡ value c = omega (arith, h, i) in
    let low : (value c % 16 * 16 + value d) % 16 ≡ value d = omega (arith, h, i) in
    rw (high, low, digit_back c h, digit_back d i)

-- a line of pairs has a byte
some_read : (cs : List ℕ) → after Open cs ≡ Full → bytes_of Open cs ≡ [] → ⊥
unfolding after full
some_read [] e = λ z. unfull Open refl e
some_read (c ∷ []) e = λ z. alone c e
some_read (c ∷ d ∷ cs) e = λ z. omega (arith, ap (λ (l : List ℕ). length l) (sym (read-pair c d cs (begun c d cs e)) ∙ z))

pairs-cons : (b : ℕ) (bs : List ℕ) → (bs ≡ [] → ⊥) → pairs (b ∷ bs) ≡ pair b ++ (32 ∷ pairs bs)
unfolding pairs
pairs-cons b [] n = absurd (n refl)
pairs-cons b (c ∷ bs) n = refl

read-is-written : (line : List ℕ) → after Open line ≡ Full → pairs (bytes_of Open line) ≡ line
unfolding after full pairs bytes_of
read-is-written [] e = absurd (unfull Open refl e)
read-is-written (c ∷ []) e = absurd (alone c e)
read-is-written (c ∷ d ∷ []) e =
    let b = begun c d [] e in
    ap pairs (read-pair c d [] b) ∙ byte_pair c d b.first b.second
read-is-written (c ∷ d ∷ x ∷ cs) e =
    let b = begun c d (x ∷ cs) e in
    let more = parted x cs b.behind in
    let rest : bytes_of Full (x ∷ cs) ≡ bytes_of Open cs = rw more.0 (blank-bytes cs) in
    ap pairs (read-pair c d (x ∷ cs) b ∙ ap (λ (l : List ℕ). byte_of c d ∷ l) rest)
    ∙ pairs-cons (byte_of c d) (bytes_of Open cs) (some_read cs more.1)
    ∙ ap (λ (l : List ℕ). l ++ (32 ∷ pairs (bytes_of Open cs))) (byte_pair c d b.first b.second)
    ∙ ap (λ (l : List ℕ). c ∷ d ∷ 32 ∷ l) (read-is-written cs more.1)
    ∙ ap (λ (y : ℕ). c ∷ d ∷ y ∷ cs) (sym more.0)

-- ---- what is kept

pub kept-rest : (bs xs buffer : List ℕ) → length xs ≤ length buffer
    → (kept (length xs) bs (overlay xs buffer) ≡ overlay (take (length buffer) (xs ++ bs)) buffer)
    × (filled (length buffer) (length xs) bs ≡ length (take (length buffer) (xs ++ bs)))
unfolding kept filled
kept-rest [] xs buffer h =
    let all : take (length buffer) (xs ++ []) ≡ xs = ap (take (length buffer)) (append-nil xs) ∙ take_all (length buffer) xs h in
    rw all (refl, refl)
kept-rest (b ∷ bs) xs buffer h =
    let one : length (xs ++ (b ∷ [])) ≡ length xs + 1 = length-append xs (b ∷ []) in
    go (ltb (length xs) (length buffer)) refl (λ low. kept-rest bs (xs ++ (b ∷ [])) buffer (omega (arith, one, low)))
  where
    go : (t : Bool) → ltb (length xs) (length buffer) ≡ t
        → (length xs < length buffer → (kept (length (xs ++ (b ∷ []))) bs (overlay (xs ++ (b ∷ [])) buffer) ≡ overlay (take (length buffer) ((xs ++ (b ∷ [])) ++ bs)) buffer)
        × (filled (length buffer) (length (xs ++ (b ∷ []))) bs ≡ length (take (length buffer) ((xs ++ (b ∷ [])) ++ bs))))
        → (kept (length xs + 1) bs (set (overlay xs buffer) (length xs) b) ≡ overlay (take (length buffer) (xs ++ (b ∷ bs))) buffer)
        × (filled (length buffer) (cond (ltb (length xs) (length buffer)) (length xs + 1) (length xs)) bs ≡ length (take (length buffer) (xs ++ (b ∷ bs))))
    go true e rest =
        let low = ltb-true (length xs) (length buffer) e in
        rw (e, overlay-snoc xs buffer b low, ← length-append xs (b ∷ []), ← append_assoc xs (b ∷ []) bs) (rest low)
    go false e rest =
        let full : length xs ≡ length buffer = omega (arith, ltb-false (length xs) (length buffer) e, h) in
        let cut : take (length buffer) (xs ++ (b ∷ bs)) ≡ xs = ap (λ (n : ℕ). take n (xs ++ (b ∷ bs))) (sym full) ∙ take-append_seam xs (b ∷ bs) in
        let past : length (overlay xs buffer) ≤ length xs = omega (arith, full, length-overlay xs buffer h) in
        rw (e, cut, set_out (overlay xs buffer) (length xs) b past)
        (kept_full (length xs + 1) bs (overlay xs buffer) (omega (arith, past)), filled-full (length buffer) (length xs) bs (omega (arith, full)))

kept-start : (bs buffer : List ℕ) → take (filled (length buffer) 0 bs) (kept 0 bs buffer) ≡ take (length buffer) bs
unfolding overlay
kept-start bs buffer =
    let k = kept-rest bs [] buffer (omega arith) in
    rw (k.1, k.0) (take-overlay (take (length buffer) bs) buffer)

pub reads-pairs : ReadsPairs
reads-pairs = record {
  written-is-read = written-is-read;
  read-is-written = read-is-written;
  spaced-pairs = spaced-pairs;
  in_parts = in_parts;
  parts-read = parts-read;
  kept-start = kept-start;
}
