-- What a test of a whole list says of each element. Assumes nothing.
use mathlib.Core.Path.{◌≡◌, refl, sym, ◌∙◌}
use mathlib.Core.Bool.{Bool, true, false}
use mathlib.Core.List.{List, [], ◌∷◌}
use mathlib.Core.Logic.{◌⊎◌, inl, inr, ⊎_elim}
use Prim.Native.Nat.{ℕ, zero, suc, ◌+◌, ◌<◌}
use native.Mathlib.Nat.{not-suc-le-zero, le_of_suc-le-suc, eq-or-lt_of_le}
use native.Mathlib.Numerals.{add-one}
use native.Mathlib.Omega.{arith}
use lib.ListN.{length, get_or}
use Rattle.lists.specs.Every.{every, below}
use Rattle.lists.proofs.Bool.{&&-left, &&-right, &&-both, same_truth}

-- the rule of a table, from one test that is computed over all of it
pub every-getD : {A : Type 0} (p : A → Bool) (xs : List A) (d : A) (k : ℕ) → every p xs ≡ true → k < length xs → p (get_or xs k d) ≡ true
every-getD p [] d k e h = absurd (not-suc-le-zero h)
every-getD p (x ∷ xs) d zero e h = &&-left (p x) (every p xs) e
every-getD p (x ∷ xs) d (suc k) e h = every-getD p xs d k (&&-right (p x) (every p xs) e) (omega arith)

-- and the test, from the rule
pub every-all : {A : Type 0} (p : A → Bool) (xs : List A) (d : A) → ((k : ℕ) → k < length xs → p (get_or xs k d) ≡ true) → every p xs ≡ true
every-all p [] d h = refl
every-all p (x ∷ xs) d h = &&-both (p x) (every p xs) (h 0 (omega arith)) (every-all p xs d (λ k l. h (suc k) (omega arith)))

-- what a test of every number below n says of each of them
pub below_at : (f : ℕ → Bool) (n k : ℕ) → k < n → below f n ≡ true → f k ≡ true
below_at f zero k h e = absurd (not-suc-le-zero h)
below_at f (suc n) k h e =
    ⊎_elim (λ q. rw q (&&-left (f n) (below f n) e)) (λ l. below_at f n k l (&&-right (f n) (below f n) e)) (eq-or-lt_of_le (le_of_suc-le-suc h))

-- and what says it of all
pub below_all : (f : ℕ → Bool) (n : ℕ) → ((k : ℕ) → k < n → f k ≡ true) → below f n ≡ true
below_all f zero h = refl
below_all f (suc n) h = rw (h n (omega arith)) (below_all f n (λ k l. h k (omega arith)))

-- as a loop makes the test: one more, or one that fails
pub below_more : (f : ℕ → Bool) (k : ℕ) → below f k ≡ true → f k ≡ true → below f (k + 1) ≡ true
below_more f k h e = rw (add-one k, e, h)

pub below_fails : (f : ℕ → Bool) (n k : ℕ) → k < n → f k ≡ false → below f n ≡ false
below_fails f n k h e = go (below f n) refl
  where
    go : (t : Bool) → below f n ≡ t → t ≡ false
    go true q = sym (below_at f n k h q) ∙ e
    go false q = refl

-- a test of every element, by their indices
pub every-below : {A : Type 0} (p : A → Bool) (xs : List A) (d : A) → every p xs ≡ below (λ (k : ℕ). p (get_or xs k d)) (length xs)
every-below p xs d =
    same_truth (every p xs) (below (λ (k : ℕ). p (get_or xs k d)) (length xs))
    (λ e. below_all (λ (k : ℕ). p (get_or xs k d)) (length xs) (λ k h. every-getD p xs d k e h))
    (λ e. every-all p xs d (λ k h. below_at (λ (i : ℕ). p (get_or xs i d)) (length xs) k h e))

-- a number below n that passes, or none does
pub found-or-none : (f : ℕ → Bool) (n : ℕ) → ((k : ℕ) × (k < n) × (f k ≡ true)) ⊎ ((k : ℕ) → k < n → f k ≡ false)
found-or-none f zero = inr (λ k h. absurd (not-suc-le-zero h))
found-or-none f (suc n) = go (f n) refl (found-or-none f n)
  where
    go : (t : Bool) → f n ≡ t → ((k : ℕ) × (k < n) × (f k ≡ true)) ⊎ ((k : ℕ) → k < n → f k ≡ false)
        → ((k : ℕ) × (k < suc n) × (f k ≡ true)) ⊎ ((k : ℕ) → k < suc n → f k ≡ false)
    go true e r = inl (n, omega arith, e)
    go false e (inl (k, h, t)) = inl (k, omega arith, t)
    go false e (inr none) = inr (λ k h. ⊎_elim (λ (q : k ≡ n). rw q e) (λ (l : k < n). none k l) (eq-or-lt_of_le (le_of_suc-le-suc h)))
