-- Laws of the bytes from an index on, and of a memory that some bytes are taken out of: what each index holds decides all. Assumes nothing.
use mathlib.Core.Path.{◌≡◌, refl, sym, ap, ◌∙◌}
use mathlib.Core.List.{List, ◌++◌, append_assoc}
use mathlib.Core.Logic.{◌⊎◌, inl, inr, ⊎_elim}
use Prim.Native.Nat.{ℕ, ◌+◌, ◌-◌, ◌≤◌, ◌<◌}
use native.Mathlib.Omega.{arith}
use lib.ListN.{length, take, drop, get_or, set, replicate, length-append, length-drop, length-replicate, get_or-replicate, take-append-drop, get_or-append}
use lib.Seq.{paste, drop-drop, length-take-le, get_or-take, get_or-drop, take-set-le, take-set-lt, drop-set-lt, drop-set-add, ext_get_or}
use Rattle.lists.specs.Buffer.{overlay}
use Rattle.lists.proofs.Cases.{less-or-not}
use Rattle.lists.proofs.Part.{length_part, length-replaced, part_same, part-other, part-back, part-over, part-set, getD-second}
use Rattle.state.specs.Layout.{slot, with_slot, closed, lowered}

-- ---- the bytes from an index on

pub length-slot : (start n : ℕ) (memory : List ℕ) → start + n ≤ length memory → length (slot start n memory) ≡ n
unfolding slot
length-slot start n memory room = length_part start n memory room

-- a byte of them, by its place in the memory
pub slot_at : (start n a : ℕ) (memory : List ℕ) → a < n → get_or (slot start n memory) a 0 ≡ get_or memory (start + a) 0
unfolding slot
slot_at start n a memory h = get_or-take n (drop start memory) a 0 h ∙ get_or-drop start memory a 0

-- two memories that hold the same from two indices on
pub slot-alike : (a b n : ℕ) (m k : List ℕ) → a + n ≤ length m → b + n ≤ length k → ((i : ℕ) → i < n → get_or m (a + i) 0 ≡ get_or k (b + i) 0)
    → slot a n m ≡ slot b n k
slot-alike a b n m k first second same =
    let long : length (slot a n m) ≡ n = length-slot a n m first in
    ext_get_or 0 (slot a n m) (slot b n k) (long ∙ sym (length-slot b n k second)) (λ i h.
    let low : i < n = omega arith in
    slot_at a n i m low ∙ same i low ∙ sym (slot_at b n i k low))

module _ (start : ℕ) (bytes memory : List ℕ) (room : start + length bytes ≤ length memory) where
  pub length-with_slot : length (with_slot start bytes memory) ≡ length memory
  unfolding with_slot
  length-with_slot = length-replaced start (length bytes) memory room bytes refl

  pub slot_same : slot start (length bytes) (with_slot start bytes memory) ≡ bytes
  unfolding slot with_slot
  slot_same = part_same start (length bytes) memory room bytes refl

  -- bytes that do not meet those that are put
  pub slot-other : (other n : ℕ) → (other + n ≤ start) ⊎ (start + length bytes ≤ other) → slot other n (with_slot start bytes memory) ≡ slot other n memory
  unfolding slot with_slot
  slot-other other n apart = part-other start (length bytes) memory room bytes refl other n apart

  -- one byte of those that are put, and one that is not
  pub with_slot-inside : (a : ℕ) → a < length bytes → get_or (with_slot start bytes memory) (start + a) 0 ≡ get_or bytes a 0
  with_slot-inside a h = sym (slot_at start (length bytes) a (with_slot start bytes memory) h) ∙ ap (λ (xs : List ℕ). get_or xs a 0) slot_same

  pub with_slot-outside : (i : ℕ) → (i < start) ⊎ (start + length bytes ≤ i) → get_or (with_slot start bytes memory) i 0 ≡ get_or memory i 0
  with_slot-outside i apart =
      let one : (m : List ℕ) → get_or (slot i 1 m) 0 0 ≡ get_or m i 0 = λ m.
      slot_at i 1 0 m (omega arith) ∙ ap (λ (k : ℕ). get_or m k 0) (omega arith) in
      let meets : (i + 1 ≤ start) ⊎ (start + length bytes ≤ i) = ⊎_elim (λ (l : i < start). inl (omega arith)) (λ (l : start + length bytes ≤ i). inr l) apart in
      sym (one (with_slot start bytes memory)) ∙ ap (λ (xs : List ℕ). get_or xs 0 0) (slot-other i 1 meets) ∙ one memory

-- the bytes put back are the memory, also where there are fewer than asked for
pub with_slot-slot : (start n : ℕ) (memory : List ℕ) → with_slot start (slot start n memory) memory ≡ memory
unfolding slot with_slot
with_slot-slot start n memory = ap (λ (xs : List ℕ). take start memory ++ xs) (part-back n (drop start memory)) ∙ take-append-drop start memory

-- bytes laid over the first of them: only these change
pub with_slot-over : (start n : ℕ) (bytes memory : List ℕ) → with_slot start (overlay bytes (slot start n memory)) memory ≡ with_slot start bytes memory
unfolding slot with_slot overlay
with_slot-over start n bytes memory = ap (λ (xs : List ℕ). take start memory ++ xs) (part-over n bytes (drop start memory))

-- ---- one byte of the memory set

-- in the memory and in the bytes
pub set-slot : (start n a v : ℕ) (memory : List ℕ) → a < length (slot start n memory)
    → set memory (start + a) v ≡ with_slot start (set (slot start n memory) a v) memory
unfolding slot with_slot
set-slot start n a v memory h =
    sym (take-append-drop start (set memory (start + a) v))
    ∙ rw (take-set-le start memory (start + a) v (omega arith), drop-set-add start memory a v)
    (ap (λ (xs : List ℕ). take start memory ++ xs) (part-set n a v (drop start memory) h))

pub slot-set : (start n a v : ℕ) (memory : List ℕ) → a < n → slot start n (set memory (start + a) v) ≡ set (slot start n memory) a v
unfolding slot
slot-set start n a v memory h = ap (take n) (drop-set-add start memory a v) ∙ take-set-lt n (drop start memory) a v h

-- outside them
pub slot-set-other : (start n i v : ℕ) (memory : List ℕ) → (i < start) ⊎ (start + n ≤ i) → slot start n (set memory i v) ≡ slot start n memory
unfolding slot
slot-set-other start n i v memory (inl l) = ap (take n) (drop-set-lt start memory i v l)
slot-set-other start n i v memory (inr l) =
    let at : start + (i - start) ≡ i = omega arith in
    ap (λ (k : ℕ). take n (drop start (set memory k v))) (sym at)
    ∙ ap (take n) (drop-set-add start memory (i - start) v)
    ∙ take-set-le n (drop start memory) (i - start) v (omega arith)

-- ---- bytes taken out

module _ (start count end : ℕ) (m : List ℕ) (inside : start + count ≤ end) (within : end ≤ length m) where
  abbrev above : List ℕ
  above = take (end - (start + count)) (drop (start + count) m)

  abbrev zeros : List ℕ
  zeros = replicate count 0

  front : length (take start m) ≡ start
  front = length-take-le start m (omega arith)

  middle : length above ≡ end - (start + count)
  middle = length-take-le (end - (start + count)) (drop (start + count) m) (simp length-drop (omega arith))

  pub length-closed : length (closed start count end m) ≡ length m
  unfolding closed
  length-closed = simp (length-append, length-drop, length-replicate, front, middle) (omega arith)

  -- below them all is as it was
  pub closed-low : (i : ℕ) → i < start → get_or (closed start count end m) i 0 ≡ get_or m i 0
  unfolding closed
  closed-low i h = get_or-append (take start m) (above ++ (zeros ++ drop end m)) 0 i (omega (arith, front)) ∙ get_or-take start m i 0 h

  -- what is above them moves down
  pub closed-moved : (i : ℕ) → start ≤ i → i + count < end → get_or (closed start count end m) i 0 ≡ get_or m (i + count) 0
  unfolding closed
  closed-moved i low h =
      let at : start + count + (i - start) ≡ i + count = omega arith in
      getD-second (take start m) (above ++ (zeros ++ drop end m)) start i front low
      ∙ get_or-append above (zeros ++ drop end m) 0 (i - start) (omega (arith, middle))
      ∙ get_or-take (end - (start + count)) (drop (start + count) m) (i - start) 0 (omega arith)
      ∙ get_or-drop (start + count) m (i - start) 0
      ∙ ap (λ (k : ℕ). get_or m k 0) at

  -- behind that all is as it was, but for as many zeros
  behind : (i : ℕ) → end ≤ i + count → get_or (closed start count end m) i 0 ≡ get_or (zeros ++ drop end m) (i + count - end) 0
  unfolding closed
  behind i h =
      let at : i - start - (end - (start + count)) ≡ i + count - end = omega arith in
      getD-second (take start m) (above ++ (zeros ++ drop end m)) start i front (omega arith)
      ∙ getD-second above (zeros ++ drop end m) (end - (start + count)) (i - start) middle (omega arith)
      ∙ ap (λ (k : ℕ). get_or (zeros ++ drop end m) k 0) at

  pub closed-zero : (i : ℕ) → end ≤ i + count → i < end → get_or (closed start count end m) i 0 ≡ 0
  closed-zero i low h =
      behind i low
      ∙ get_or-append zeros (drop end m) 0 (i + count - end) (omega (arith, length-replicate {A = ℕ} count 0))
      ∙ get_or-replicate count (i + count - end) 0 0 (omega arith)

  pub closed-free : (i : ℕ) → end ≤ i → get_or (closed start count end m) i 0 ≡ get_or m i 0
  closed-free i h =
      let at : end + (i + count - end - count) ≡ i = omega arith in
      behind i (omega arith)
      ∙ getD-second zeros (drop end m) count (i + count - end) (length-replicate count 0) (omega arith)
      ∙ get_or-drop end m (i + count - end - count) 0
      ∙ ap (λ (k : ℕ). get_or m k 0) at

  -- the same of whole parts
  pub closed-below : (from n : ℕ) → from + n ≤ start → slot from n (closed start count end m) ≡ slot from n m
  closed-below from n h =
      slot-alike from from n (closed start count end m) m (omega (arith, length-closed)) (omega arith) (λ i l. closed-low (from + i) (omega arith))

  pub closed-above : (a n : ℕ) → start + count ≤ a → a + n ≤ end → slot (a - count) n (closed start count end m) ≡ slot a n m
  closed-above a n low high =
      slot-alike (a - count) a n (closed start count end m) m (omega (arith, length-closed)) (omega arith) (λ i l.
      let at : a - count + i + count ≡ a + i = omega arith in
      closed-moved (a - count + i) (omega arith) (omega arith) ∙ ap (λ (k : ℕ). get_or m k 0) at)

  pub closed-freed : slot (end - count) count (closed start count end m) ≡ replicate count 0
  closed-freed =
      let c = closed start count end m in
      let long : length (slot (end - count) count c) ≡ count = length-slot (end - count) count c (omega (arith, length-closed)) in
      ext_get_or 0 (slot (end - count) count c) zeros (long ∙ sym (length-replicate count 0)) (λ i h.
      let low : i < count = omega arith in
      slot_at (end - count) count i c low ∙ closed-zero (end - count + i) (omega arith) (omega arith) ∙ sym (get_or-replicate count i 0 0 low))

  -- the memory is known by its bytes
  pub closed_is : (k : List ℕ) → length k ≡ length m → ((i : ℕ) → i < start → get_or k i 0 ≡ get_or m i 0)
      → ((i : ℕ) → start ≤ i → i + count < end → get_or k i 0 ≡ get_or m (i + count) 0) → ((i : ℕ) → end ≤ i + count → i < end → get_or k i 0 ≡ 0)
      → ((i : ℕ) → end ≤ i → get_or k i 0 ≡ get_or m i 0) → closed start count end m ≡ k
  closed_is k size low moved zero free =
      let c = closed start count end m in
      ext_get_or 0 c k (length-closed ∙ sym size) (λ i h.
      ⊎_elim (λ (l : i < start). closed-low i l ∙ sym (low i l))
      (λ (b : start ≤ i). ⊎_elim (λ (l : i + count < end). closed-moved i b l ∙ sym (moved i b l))
      (λ (d : end ≤ i + count). ⊎_elim (λ (l : i < end). closed-zero i d l ∙ sym (zero i d l)) (λ (l : end ≤ i). closed-free i l ∙ sym (free i l)) (less-or-not i end))
      (less-or-not (i + count) end))
      (less-or-not i start))

-- the bytes taken out are not seen
pub closed-alike : (start count end : ℕ) (m k : List ℕ) → start + count ≤ end → end ≤ length m → length m ≡ length k
    → ((i : ℕ) → (i < start) ⊎ (start + count ≤ i) → get_or m i 0 ≡ get_or k i 0) → closed start count end m ≡ closed start count end k
closed-alike start count end m k inside within size same =
    let also : end ≤ length k = omega arith in
    closed_is start count end m inside within (closed start count end k) (length-closed start count end k inside also ∙ sym size)
    (λ i h. closed-low start count end k inside also i h ∙ sym (same i (inl h)))
    (λ i low h. closed-moved start count end k inside also i low h ∙ sym (same (i + count) (inr (omega arith))))
    (λ i low h. closed-zero start count end k inside also i low h)
    (λ i h. closed-free start count end k inside also i h ∙ sym (same i (inr (omega arith))))

-- ---- bytes taken out, as the code does it

module _ (start count end : ℕ) (m : List ℕ) (inside : start + count ≤ end) (within : end ≤ length m) where
  -- the bytes above a gap
  abbrev upper : List ℕ
  upper = slot (start + count) (end - (start + count)) m

  size : length upper ≡ end - (start + count)
  size = length-slot (start + count) (end - (start + count)) m (omega arith)

  room : start + length upper ≤ length m
  room = omega (arith, size)

  lowered-moved : (i : ℕ) → start ≤ i → i + count < end → get_or (lowered start count end m) i 0 ≡ get_or m (i + count) 0
  lowered-moved i low h =
      let a = i - start in
      let at : start + a ≡ i = omega arith in
      let from : start + count + a ≡ i + count = omega arith in
      ap (λ (k : ℕ). get_or (lowered start count end m) k 0) (sym at)
      ∙ with_slot-inside start upper m room a (omega (arith, size))
      ∙ slot_at (start + count) (end - (start + count)) a m (omega arith)
      ∙ ap (λ (k : ℕ). get_or m k 0) from

  -- what a copy of them over the gap makes
  pub lowered-pasted : (from : ℕ) → from ≡ start + count → paste m start (drop from m) (end - from) ≡ lowered start count end m
  unfolding slot with_slot
  lowered-pasted from e = rw (e, size) (simp (append_assoc, drop-drop))

  -- with zeros after them they are taken out
  pub closed-lowered : with_slot (end - count) (replicate count 0) (lowered start count end m) ≡ closed start count end m
  closed-lowered =
      let zeros : List ℕ = replicate count 0 in
      let few : length zeros ≡ count = length-replicate count 0 in
      let long : length (lowered start count end m) ≡ length m = length-with_slot start upper m room in
      let fits : end - count + length zeros ≤ length (lowered start count end m) = omega arith in
      sym (closed_is start count end m inside within (with_slot (end - count) zeros (lowered start count end m)) (length-with_slot (end - count) zeros (lowered start count end m) fits ∙ long)
      (λ i h. with_slot-outside (end - count) zeros (lowered start count end m) fits i (inl (omega arith)) ∙ with_slot-outside start upper m room i (inl h))
      (λ i low h. with_slot-outside (end - count) zeros (lowered start count end m) fits i (inl (omega arith)) ∙ lowered-moved i low h)
      (λ i low h.
      let a = i - (end - count) in
      let at : end - count + a ≡ i = omega arith in
      ap (λ (k : ℕ). get_or (with_slot (end - count) zeros (lowered start count end m)) k 0) (sym at)
      ∙ with_slot-inside (end - count) zeros (lowered start count end m) fits a (omega arith)
      ∙ get_or-replicate count a 0 0 (omega arith))
      (λ i h. with_slot-outside (end - count) zeros (lowered start count end m) fits i (inr (omega arith)) ∙ with_slot-outside start upper m room i (inr (omega (arith, size)))))

  -- in the shape in which the lent part that is zeroed comes back
  pub closed-part : (whole part : List ℕ) → whole ≡ lowered start count end m
      → part ≡ replicate (length (take (end - (end - count)) (drop (end - count) whole))) 0
      → take (end - count) whole ++ (part ++ drop (end - (end - count)) (drop (end - count) whole)) ≡ closed start count end m
  unfolding with_slot
  closed-part whole part w p =
      let zeros : List ℕ = replicate count 0 in
      let n : end - (end - count) ≡ count = omega arith in
      let long : length whole ≡ length m = ap length w ∙ length-with_slot start upper m room in
      let few : length (take (end - (end - count)) (drop (end - count) whole)) ≡ count = length_part (end - count) (end - (end - count)) whole (omega arith) ∙ n in
      let is : part ≡ zeros = p ∙ ap (λ (k : ℕ). replicate k 0) few in
      let size : end - (end - count) ≡ length zeros = n ∙ sym (length-replicate count 0) in
      ap (λ (xs : List ℕ). take (end - count) whole ++ (xs ++ drop (end - (end - count)) (drop (end - count) whole))) is
      ∙ ap (λ (k : ℕ). take (end - count) whole ++ (zeros ++ drop k (drop (end - count) whole))) size
      ∙ ap (λ (xs : List ℕ). with_slot (end - count) zeros xs) w
      ∙ closed-lowered
