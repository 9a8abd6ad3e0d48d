-- Laws of the first element that passes. Assumes nothing.
use mathlib.Core.Path.{◌≡◌, refl, ap}
use mathlib.Core.Bool.{Bool, true, false, cond}
use mathlib.Core.List.{List, [], ◌∷◌}
use Prim.Native.Nat.{ℕ, zero, suc, ◌+◌, ◌≤◌, ◌<◌}
use native.Mathlib.Nat.{not-suc-le-zero, le_of_suc-le-suc}
use native.Mathlib.Numerals.{add-one}
use native.Mathlib.Omega.{arith}
use lib.ListN.{length, drop, get_or}
use lib.Seq.{drop-cons}
use Rattle.lists.specs.First.{first}

module _ {A : Type 0} (p : A → Bool) where
  -- as a loop finds it: here, or later
  pub first-here : (xs : List A) (k : ℕ) (d : A) → k < length xs → p (get_or xs k d) ≡ true → first p (drop k xs) ≡ 0
  first-here xs k d h e = rw (drop-cons xs k d h, e)

  pub first_next : (xs : List A) (k : ℕ) (d : A) → k < length xs → p (get_or xs k d) ≡ false → first p (drop k xs) ≡ first p (drop (k + 1) xs) + 1
  first_next xs k d h e = rw (drop-cons xs k d h, e, add-one k, add-one)

  pub first-≤ : (xs : List A) → first p xs ≤ length xs
  first-≤ [] = omega arith
  first-≤ (x ∷ xs) = go (p x) (first-≤ xs)
    where
      go : (t : Bool) → first p xs ≤ length xs → cond t 0 (suc (first p xs)) ≤ suc (length xs)
      go true h = omega arith
      go false h = omega arith

  -- no element before it passes
  pub first-before : (xs : List A) (d : A) (j : ℕ) → j < first p xs → p (get_or xs j d) ≡ false
  first-before [] d j h = absurd (not-suc-le-zero h)
  first-before (x ∷ xs) d j h = go (p x) refl (first-before xs d) j h
    where
      go : (t : Bool) → p x ≡ t → ((i : ℕ) → i < first p xs → p (get_or xs i d) ≡ false) → (j : ℕ) → j < cond t 0 (suc (first p xs)) → p (get_or (x ∷ xs) j d) ≡ false
      go true e r j h = absurd (not-suc-le-zero h)
      go false e r zero h = e
      go false e r (suc j) h = r j (le_of_suc-le-suc h)

  -- it passes, if there is one
  pub first_passes : (xs : List A) (d : A) → first p xs < length xs → p (get_or xs (first p xs) d) ≡ true
  first_passes [] d h = absurd (not-suc-le-zero h)
  first_passes (x ∷ xs) d h = go (p x) refl h (first_passes xs d)
    where
      go : (t : Bool) → p x ≡ t → cond t 0 (suc (first p xs)) < suc (length xs) → (first p xs < length xs → p (get_or xs (first p xs) d) ≡ true)
          → p (get_or (x ∷ xs) (cond t 0 (suc (first p xs))) d) ≡ true
      go true e h r = e
      go false e h r = r (le_of_suc-le-suc h)

  -- the one that passes with none before it is the first
  pub first-is : (xs : List A) (d : A) (k : ℕ) → k < length xs → p (get_or xs k d) ≡ true → ((j : ℕ) → j < k → p (get_or xs j d) ≡ false) → first p xs ≡ k
  first-is [] d k h e b = absurd (not-suc-le-zero h)
  first-is (x ∷ xs) d zero h e b = rw e
  first-is (x ∷ xs) d (suc k) h e b = rw (b 0 (omega arith)) (ap suc (first-is xs d k (le_of_suc-le-suc h) e (λ j l. b (suc j) (omega arith))))

-- two lists whose elements pass alike have the same first
pub first_alike : {A : Type 0} (p : A → Bool) (xs ys : List A) (d : A) → length xs ≡ length ys
    → ((i : ℕ) → i < length xs → p (get_or xs i d) ≡ p (get_or ys i d)) → first p xs ≡ first p ys
first_alike p [] [] d e h = refl
first_alike p [] (y ∷ ys) d e h = absurd (omega arith)
first_alike p (x ∷ xs) [] d e h = absurd (omega arith)
first_alike p (x ∷ xs) (y ∷ ys) d e h =
    rw (h 0 (omega arith), first_alike p xs ys d (omega arith) (λ i j. h (suc i) (omega arith)))
