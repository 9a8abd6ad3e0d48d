-- Laws of a buffer that is written at its start. Assumes nothing.
use mathlib.Core.Path.{◌≡◌, sym, ap, ◌∙◌}
use mathlib.Core.List.{List, [], ◌∷◌, ◌++◌, append_assoc, append-nil}
use Prim.Native.Nat.{ℕ, suc, ◌+◌, ◌-◌, ◌≤◌, ◌<◌}
use native.Mathlib.Numerals.{add-one}
use native.Mathlib.Omega.{arith}
use lib.ListN.{length, take, drop, get_or, set, length-append, length-drop, length-take, drop_of_length-le, get_or-append}
use lib.Seq.{length-take-le, drop_at, drop-paste, get_or-take, get_or-drop, append_snoc, drop-cons, set-append_seam, take_all, take-length, drop-length, take-append_seam, drop-append_seam, drop-append-add, drop-drop, sets, sets-eq, paste}
use Rattle.lists.specs.Buffer.{overlay}

-- what was laid over a buffer is its front
pub take-overlay : (xs buffer : List ℕ) → take (length xs) (overlay xs buffer) ≡ xs
unfolding overlay
take-overlay xs buffer = take-append_seam xs (drop (length xs) buffer)

-- what is past it is as it was
pub drop-overlay : (xs buffer : List ℕ) → drop (length xs) (overlay xs buffer) ≡ drop (length xs) buffer
unfolding overlay
drop-overlay xs buffer = drop-append_seam xs (drop (length xs) buffer)

-- a buffer keeps its length
pub length-overlay : (xs buffer : List ℕ) → length xs ≤ length buffer → length (overlay xs buffer) ≡ length buffer
unfolding overlay
length-overlay xs buffer h = simp (length-append, length-drop) (omega arith)

-- stores one after the other from the start lay a list over the buffer
pub sets-overlay : (xs buffer : List ℕ) → length xs ≤ length buffer → sets buffer 0 xs ≡ overlay xs buffer
unfolding overlay
sets-overlay xs buffer h =
    let e : 0 + length xs ≡ length xs = omega arith in
    let k : 0 + length xs ≤ length buffer = omega arith in
    rw e at (sets-eq xs buffer 0 k)

-- a list pasted right after another lays the two over the buffer
pub paste-overlay : (xs ys buffer : List ℕ) → paste (overlay xs buffer) (length xs) ys (length ys) ≡ overlay (xs ++ ys) buffer
unfolding overlay
paste-overlay xs ys buffer = simp (take-append_seam, take-length, drop-append-add, drop-drop, length-append)

-- a list copied over a lent part's start, in the shape in which the part comes back
pub paste-part : (at : ℕ) (ys buffer : List ℕ)
    → take at buffer ++ ((take (length ys) ys ++ drop (length ys) (take (length buffer - at) (drop at buffer))) ++ drop (length buffer - at) (drop at buffer))
    ≡ paste buffer at ys (length ys)
paste-part at ys buffer =
    let rest : List ℕ = drop at buffer in
    let short : length rest ≤ length buffer - at = simp length-drop (omega arith) in
    let whole : take (length buffer - at) rest ≡ rest = take_all (length buffer - at) rest short in
    let none : drop (length buffer - at) rest ≡ [] = drop_of_length-le rest short in
    simp (whole, none, append-nil, append_assoc, drop-drop)

-- one more element right after what was laid over a buffer
pub overlay-snoc : (xs buffer : List ℕ) (a : ℕ) → length xs < length buffer → set (overlay xs buffer) (length xs) a ≡ overlay (xs ++ (a ∷ [])) buffer
unfolding overlay
overlay-snoc xs buffer a h =
    rw (drop-cons buffer (length xs) 0 h, set-append_seam xs (get_or buffer (length xs) 0) (drop (suc (length xs)) buffer) a, length-append xs (a ∷ []), add-one (length xs))
    (sym (append_snoc xs a (drop (suc (length xs)) buffer)))

-- what covers a buffer is all of it
pub overlay-all : (xs buffer : List ℕ) → length buffer ≤ length xs → overlay xs buffer ≡ xs
unfolding overlay
overlay-all xs buffer h = rw (drop_of_length-le buffer h, append-nil xs)

-- a list copied over the whole of a lent part within the buffer, in the shape in which the part comes back
pub paste-within : (at : ℕ) (ys buffer : List ℕ)
    → take at buffer ++ ((take (length ys) ys ++ drop (length ys) (take (at + length ys - at) (drop at buffer))) ++ drop (at + length ys - at) (drop at buffer))
    ≡ paste buffer at ys (length ys)
paste-within at ys buffer =
    let rest : List ℕ = drop at buffer in
    let size : at + length ys - at ≡ length ys = omega arith in
    let short : length (take (length ys) rest) ≤ length ys = simp length-take (omega arith) in
    let none : drop (length ys) (take (length ys) rest) ≡ [] = drop_of_length-le (take (length ys) rest) short in
    simp (size, none, append-nil, append_assoc, drop-drop)

-- a list of the same length in place of a lent part within the buffer, in the shape in which the part comes back
pub paste-lent : (at : ℕ) (ys buffer : List ℕ) → take at buffer ++ (ys ++ drop (at + length ys - at) (drop at buffer)) ≡ paste buffer at ys (length ys)
paste-lent at ys buffer = let size : at + length ys - at ≡ length ys = omega arith in simp (size, take-length, append_assoc, drop-drop)

-- a list copied over all of a buffer
pub copy-whole : (xs buffer : List ℕ) → length buffer ≡ length xs → take (length xs) xs ++ drop (length xs) buffer ≡ xs
copy-whole xs buffer e = rw (take-length xs, ← e, drop-length buffer) (append-nil xs)

-- ---- what is pasted is there, and all else as it was

module _ (at : ℕ) (ys buffer : List ℕ) (fits : at + length ys ≤ length buffer) where
  shape : paste buffer at ys (length ys) ≡ take at buffer ++ (ys ++ drop (at + length ys) buffer)
  shape = simp (take-length, append_assoc)

  front : length (take at buffer) ≡ at
  front = length-take-le at buffer (omega arith)

  pub part-paste : take (length ys) (drop at (paste buffer at ys (length ys))) ≡ ys
  part-paste =
      ap (λ (b : List ℕ). take (length ys) (drop at b)) shape
      ∙ ap (take (length ys)) (drop_at (take at buffer) (ys ++ drop (at + length ys) buffer) at front)
      ∙ take-append_seam ys (drop (at + length ys) buffer)

  pub getD-paste-before : (i : ℕ) → i < at → get_or (paste buffer at ys (length ys)) i 0 ≡ get_or buffer i 0
  getD-paste-before i h =
      ap (λ (b : List ℕ). get_or b i 0) shape
      ∙ get_or-append (take at buffer) (ys ++ drop (at + length ys) buffer) 0 i (omega (arith, front))
      ∙ get_or-take at buffer i 0 h

  pub getD-paste-behind : (i : ℕ) → at + length ys ≤ i → get_or (paste buffer at ys (length ys)) i 0 ≡ get_or buffer i 0
  getD-paste-behind i h =
      let j : at + length ys + (i - (at + length ys)) ≡ i = omega arith in
      let behind : drop (at + length ys) (paste buffer at ys (length ys)) ≡ drop (at + length ys) buffer = drop-paste buffer at ys (length ys) (omega arith) (omega arith) in
      ap (λ (k : ℕ). get_or (paste buffer at ys (length ys)) k 0) (sym j)
      ∙ sym (get_or-drop (at + length ys) (paste buffer at ys (length ys)) (i - (at + length ys)) 0)
      ∙ ap (λ (b : List ℕ). get_or b (i - (at + length ys)) 0) behind
      ∙ get_or-drop (at + length ys) buffer (i - (at + length ys)) 0
      ∙ ap (λ (k : ℕ). get_or buffer k 0) j

-- a list laid over the start of a buffer in which another stands right after it already
pub overlay-before : (xs ys buffer : List ℕ) (n : ℕ) → n ≡ length ys → length xs ≤ length buffer
    → overlay xs (take (length xs) buffer ++ (ys ++ drop n (drop (length xs) buffer))) ≡ overlay (xs ++ ys) buffer
unfolding overlay
overlay-before xs ys buffer n e h =
    let front : length (take (length xs) buffer) ≡ length xs = length-take-le (length xs) buffer h in
    rw (drop_at (take (length xs) buffer) (ys ++ drop n (drop (length xs) buffer)) (length xs) front, e)
    (simp (append_assoc, length-append, drop-drop))

-- what is laid over a lent part after what was laid over the buffer, in the shape in which the part comes back
pub part-overlay : (xs ys buffer : List ℕ) (whole : List ℕ) → whole ≡ overlay xs buffer
    → take (length xs) whole ++ (overlay ys (take (length whole - length xs) (drop (length xs) whole)) ++ drop (length whole - length xs) (drop (length xs) whole))
    ≡ overlay (xs ++ ys) buffer
unfolding overlay
part-overlay xs ys buffer whole e =
    let part = paste-part (length xs) ys whole in
    (rw (take-length ys) at part) ∙ rw e (rw (take-length ys) at (paste-overlay xs ys buffer))

-- the same, where what came back is known by an equation
pub laid-part : (xs ys buffer whole last : List ℕ) (at : ℕ) → at ≡ length xs → whole ≡ overlay xs buffer
    → last ≡ overlay ys (take (length whole - at) (drop at whole))
    → take at whole ++ (last ++ drop (length whole - at) (drop at whole)) ≡ overlay (xs ++ ys) buffer
laid-part xs ys buffer whole last at a w l = rw (l, a) (part-overlay xs ys buffer whole w)
