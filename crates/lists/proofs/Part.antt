-- A part of a list, and the list with another in its place, in the shape in which a lent part comes back. Assumes nothing.
use mathlib.Core.Path.{◌≡◌, refl, sym, ap, ◌∙◌}
use mathlib.Core.List.{List, [], ◌∷◌, ◌++◌, append-nil}
use mathlib.Core.Logic.{◌⊎◌, ⊎_elim}
use Prim.Native.Nat.{ℕ, zero, suc, ◌+◌, ◌-◌, ◌≤◌, ◌<◌}
use native.Mathlib.Nat.{not-suc-le-zero}
use native.Mathlib.Omega.{arith}
use lib.ListN.{length, take, drop, get_or, set, length-append, length-drop, take-append-drop}
use lib.Seq.{length-take-le, take_at, drop_at, take-append-le, drop-append-le, drop-append-add, drop-drop, get_or-append-add}

module _ (at n : ℕ) (m : List ℕ) (inside : at + n ≤ length m) where
  pub length_part : length (take n (drop at m)) ≡ n
  length_part = length-take-le n (drop at m) (simp length-drop (omega arith))

  front : length (take at m) ≡ at
  front = length-take-le at m (omega arith)

  module _ (s : List ℕ) (size : length s ≡ n) where
    abbrev replaced : List ℕ
    replaced = take at m ++ (s ++ drop n (drop at m))

    pub length-replaced : length (take at m ++ (s ++ drop n (drop at m))) ≡ length m
    length-replaced = simp (length-append, length-drop, front) (omega arith)

    -- the part that was put there
    pub part_same : take n (drop at (take at m ++ (s ++ drop n (drop at m)))) ≡ s
    part_same = rw (drop_at (take at m) (s ++ drop n (drop at m)) at front) (take_at s (drop n (drop at m)) n size)

    -- a part before it
    part-before : (b k : ℕ) → b + k ≤ at → take k (drop b replaced) ≡ take k (drop b m)
    part-before b k h =
        let short : k ≤ length (drop b (take at m)) = simp (length-drop, front) (omega arith) in
        let cut : (rest : List ℕ) → take k (drop b (take at m ++ rest)) ≡ take k (drop b (take at m)) =
        λ rest. ap (take k) (drop-append-le b (take at m) rest (omega (arith, front))) ∙ take-append-le k (drop b (take at m)) rest short in
        cut (s ++ drop n (drop at m)) ∙ sym (cut (drop at m)) ∙ ap (λ (l : List ℕ). take k (drop b l)) (take-append-drop at m)

    -- a part after it
    part-behind : (b k : ℕ) → at + n ≤ b → take k (drop b replaced) ≡ take k (drop b m)
    part-behind b k h =
        let j = b - (at + n) in
        let e : b ≡ length (take at m) + (length s + j) = omega (arith, front) in
        let back : at + (n + j) ≡ b = omega arith in
        ap (take k)
        (ap (λ (i : ℕ). drop i replaced) e
        ∙ drop-append-add (take at m) (s ++ drop n (drop at m)) (length s + j)
        ∙ drop-append-add s (drop n (drop at m)) j
        ∙ drop-drop j n (drop at m)
        ∙ drop-drop (n + j) at m
        ∙ ap (λ (i : ℕ). drop i m) back)

    -- a part that does not meet it is as it was
    pub part-other : (b k : ℕ) → (b + k ≤ at) ⊎ (at + n ≤ b) → take k (drop b (take at m ++ (s ++ drop n (drop at m)))) ≡ take k (drop b m)
    part-other b k = ⊎_elim (part-before b k) (part-behind b k)

-- ---- the first elements of a list, put back

-- as they were; where fewer are there than asked for, none are left
pub part-back : (n : ℕ) (xs : List ℕ) → take n xs ++ drop (length (take n xs)) xs ≡ xs
part-back zero xs = refl
part-back (suc n) [] = refl
part-back (suc n) (x ∷ xs) = ap (λ (ys : List ℕ). x ∷ ys) (part-back n xs)

-- with others over their start
pub part-over : (n : ℕ) (ys xs : List ℕ)
    → (ys ++ drop (length ys) (take n xs)) ++ drop (length (ys ++ drop (length ys) (take n xs))) xs ≡ ys ++ drop (length ys) xs
part-over n [] xs = part-back n xs
part-over zero (y ∷ ys) xs = ap (λ (zs : List ℕ). (y ∷ zs) ++ drop (length (y ∷ zs)) xs) (append-nil ys)
part-over (suc n) (y ∷ ys) [] = ap (λ (zs : List ℕ). y ∷ (zs ++ [])) (append-nil ys)
part-over (suc n) (y ∷ ys) (x ∷ xs) = ap (λ (zs : List ℕ). y ∷ zs) (part-over n ys xs)

-- with one of them set
pub part-set : (n a v : ℕ) (xs : List ℕ) → a < length (take n xs) → set xs a v ≡ set (take n xs) a v ++ drop (length (set (take n xs) a v)) xs
part-set zero a v xs h = absurd (not-suc-le-zero h)
part-set (suc n) a v [] h = absurd (not-suc-le-zero h)
part-set (suc n) zero v (x ∷ xs) h = ap (λ (ys : List ℕ). v ∷ ys) (sym (part-back n xs))
part-set (suc n) (suc a) v (x ∷ xs) h = ap (λ (ys : List ℕ). x ∷ ys) (part-set n a v xs (omega (arith, h)))

-- an element of the second of two lists
pub getD-second : (xs ys : List ℕ) (n i : ℕ) → length xs ≡ n → n ≤ i → get_or (xs ++ ys) i 0 ≡ get_or ys (i - n) 0
getD-second xs ys n i size h =
    let at : i ≡ length xs + (i - n) = omega arith in
    ap (λ (k : ℕ). get_or (xs ++ ys) k 0) at ∙ get_or-append-add xs ys (i - n) 0
