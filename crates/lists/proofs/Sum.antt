-- Laws of sums and of the greatest of some numbers: what is known of each number below n gives what is known of the sum. Assumes nothing.
use mathlib.Core.Path.{◌≡◌, refl, sym, ap, ◌∙◌}
use mathlib.Core.Bool.{Bool, true, false, cond}
use mathlib.Core.Logic.{◌⊎◌, inl, inr, ⊎_elim}
use Prim.Native.Nat.{ℕ, zero, suc, ◌+◌, ◌≤◌, ◌<◌}
use native.Mathlib.Nat.{not-suc-le-zero, le_of_suc-le-suc, eq-or-lt_of_le}
use native.Mathlib.Omega.{arith}
use borrow.Author.Tests.{ltb-true, ltb-false, lt-ltb, le-ltb}
use lib.Dec.{ltb}
use Rattle.lists.specs.Sum.{total, greatest}

-- the last number below suc n, or one before it
last-or-before : {n p : ℕ} → p < suc n → (p ≡ n) ⊎ (p < n)
last-or-before h = eq-or-lt_of_le (le_of_suc-le-suc h)

-- ---- sums

-- one number more, at the end or before the first
pub total-suc : (f : ℕ → ℕ) (n : ℕ) → total f (suc n) ≡ total f n + f n
unfolding total
total-suc f n = refl

pub total_first : (f : ℕ → ℕ) (n : ℕ) → total f (suc n) ≡ f 0 + total (λ (k : ℕ). f (suc k)) n
unfolding total
total_first f zero = omega arith
total_first f (suc n) = omega (arith, total_first f n)

-- of the same numbers
pub total-alike : (f g : ℕ → ℕ) (n : ℕ) → ((k : ℕ) → k < n → f k ≡ g k) → total f n ≡ total g n
unfolding total
total-alike f g zero same = refl
total-alike f g (suc n) same = rw (total-alike f g n (λ k h. same k (omega arith)), same n (omega arith))

-- of zeros
pub total-zero : (f : ℕ → ℕ) (n : ℕ) → ((k : ℕ) → k < n → f k ≡ 0) → total f n ≡ 0
unfolding total
total-zero f zero none = refl
total-zero f (suc n) none = omega (arith, total-zero f n (λ k h. none k (omega arith)), none n (omega arith))

-- of numbers that are no greater
pub total-≤ : (f g : ℕ → ℕ) (n : ℕ) → ((k : ℕ) → k < n → f k ≤ g k) → total f n ≤ total g n
unfolding total
total-≤ f g zero low = omega arith
total-≤ f g (suc n) low = omega (arith, total-≤ f g n (λ k h. low k (omega arith)), low n (omega arith))

-- and one of them less by d
pub total-more : (f g : ℕ → ℕ) (n : ℕ) → ((k : ℕ) → k < n → f k ≤ g k) → (p d : ℕ) → p < n → f p + d ≤ g p → total f n + d ≤ total g n
unfolding total
total-more f g zero low p d h more = absurd (not-suc-le-zero h)
total-more f g (suc n) low p d h more =
    ⊎_elim
    (λ (e : p ≡ n). let here : f n + d ≤ g n = rw e at more in omega (arith, total-≤ f g n (λ k l. low k (omega arith))))
    (λ (l : p < n). omega (arith, total-more f g n (λ k i. low k (omega arith)) p d l more, low n (omega arith)))
    (last-or-before h)

-- of the same numbers but one
pub total-one : (f g : ℕ → ℕ) (n p : ℕ) → p < n → ((k : ℕ) → k < n → (k ≡ p → ⊥) → f k ≡ g k) → total f n + g p ≡ total g n + f p
unfolding total
total-one f g zero p h same = absurd (not-suc-le-zero h)
total-one f g (suc n) p h same =
    ⊎_elim
    (λ (e : p ≡ n).
    let before : total f n ≡ total g n = total-alike f g n (λ k l. same k (omega arith) (λ q. omega arith)) in
    rw (e, before) (omega arith))
    (λ (l : p < n). omega (arith, total-one f g n p l (λ k i other. same k (omega arith) other), same n (omega arith) (λ q. omega arith)))
    (last-or-before h)

-- no number is greater than the sum
pub total-at : (f : ℕ → ℕ) (n p : ℕ) → p < n → f p ≤ total f n
unfolding total
total-at f zero p h = absurd (not-suc-le-zero h)
total-at f (suc n) p h = ⊎_elim (λ (e : p ≡ n). rw e (omega arith)) (λ (l : p < n). omega (arith, total-at f n p l)) (last-or-before h)

-- of the first p numbers: a longer sum is no less, and by the numbers between
pub total-front-≤ : (f : ℕ → ℕ) (p n : ℕ) → p ≤ n → total f p ≤ total f n
unfolding total
total-front-≤ f p zero h = let e : p ≡ 0 = omega arith in rw e (omega arith)
total-front-≤ f p (suc n) h = ⊎_elim (λ (e : p ≡ suc n). rw e (omega arith)) (λ (l : p < suc n). omega (arith, total-front-≤ f p n (omega arith))) (eq-or-lt_of_le h)

pub total-front-at : (f : ℕ → ℕ) (p n : ℕ) → p < n → total f p + f p ≤ total f n
total-front-at f p n h = omega (arith, total-suc f p, total-front-≤ f (suc p) n h)

-- the first p numbers of n, as a sum over all n
pub total-front : (f : ℕ → ℕ) (p n : ℕ) → p ≤ n → total (λ (k : ℕ). cond (ltb k p) (f k) 0) n ≡ total f p
unfolding total
total-front f p zero h = let e : p ≡ 0 = omega arith in rw e
total-front f p (suc n) h =
    ⊎_elim
    (λ (e : p ≡ suc n). total-alike (λ (k : ℕ). cond (ltb k p) (f k) 0) f (suc n) (λ k l. let i : k < p = omega arith in rw (lt-ltb k p i)) ∙ ap (total f) (sym e))
    (λ (l : p < suc n). rw (le-ltb n p (omega arith)) (omega (arith, total-front f p n (omega arith))))
    (eq-or-lt_of_le h)

-- ---- the greatest

-- none is greater than it
pub greatest-at : (f : ℕ → ℕ) (n k : ℕ) → k < n → f k ≤ greatest f n
unfolding greatest
greatest-at f zero k h = absurd (not-suc-le-zero h)
greatest-at f (suc n) k h = go (ltb (greatest f n) (f n)) refl (last-or-before h) (greatest-at f n k)
  where
    go : (t : Bool) → ltb (greatest f n) (f n) ≡ t → (k ≡ n) ⊎ (k < n) → (k < n → f k ≤ greatest f n) → f k ≤ cond t (f n) (greatest f n)
    go true e (inl q) r = rw q (omega arith)
    go true e (inr l) r = omega (arith, r l, ltb-true (greatest f n) (f n) e)
    go false e (inl q) r = rw q (ltb-false (greatest f n) (f n) e)
    go false e (inr l) r = r l

-- it is one of them, or 0
pub greatest-is : (f : ℕ → ℕ) (n : ℕ) → (greatest f n ≡ 0) ⊎ ((k : ℕ) × (k < n) × (greatest f n ≡ f k))
unfolding greatest
greatest-is f zero = inl refl
greatest-is f (suc n) = go (ltb (greatest f n) (f n)) (greatest-is f n)
  where
    go : (t : Bool) → (greatest f n ≡ 0) ⊎ ((k : ℕ) × (k < n) × (greatest f n ≡ f k))
        → (cond t (f n) (greatest f n) ≡ 0) ⊎ ((k : ℕ) × (k < suc n) × (cond t (f n) (greatest f n) ≡ f k))
    go true r = inr (n, omega arith, refl)
    go false (inl e) = inl e
    go false (inr (k, l, e)) = inr (k, omega arith, e)

-- the least number that none is greater than
pub greatest-least : (f : ℕ → ℕ) (n b : ℕ) → ((k : ℕ) → k < n → f k ≤ b) → greatest f n ≤ b
greatest-least f n b low = ⊎_elim (λ e. omega arith) (λ r. omega (arith, low r.0 r.1, r.2)) (greatest-is f n)
