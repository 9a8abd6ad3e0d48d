-- Laws of a list by its elements. Assumes nothing.
use mathlib.Core.Path.{◌≡◌, refl, sym, ap, ap₂, ◌∙◌}
use mathlib.Core.Bool.{cond}
use mathlib.Core.List.{List, [], ◌∷◌, ◌++◌}
use mathlib.Core.Logic.{◌⊎◌, inl, inr}
use Prim.Native.Nat.{ℕ, zero, suc, ◌+◌, ◌≤◌, ◌<◌}
use native.Mathlib.Nat.{not-suc-le-zero}
use native.Mathlib.Numerals.{add-one}
use native.Mathlib.Omega.{arith}
use borrow.Author.Tests.{eq-eqb, ne_eqb}
use lib.ListN.{length, take, get_or, set, length-set}
use lib.Seq.{ext_get_or, get_or-set_same, get_or-set_other}
use lib.Dec.{eqb}
use Rattle.lists.specs.Buffer.{overlay}
use Rattle.lists.specs.Elements.{elements}
use Rattle.lists.proofs.Buffer.{overlay-snoc}
use Rattle.lists.proofs.Cases.{same-or-other}

pub length-elements : (f : ℕ → ℕ) (n : ℕ) → length (elements f n) ≡ n
length-elements f zero = refl
length-elements f (suc n) = ap suc (length-elements (λ (i : ℕ). f (suc i)) n)

pub getD-elements : (f : ℕ → ℕ) (n k : ℕ) → k < n → get_or (elements f n) k 0 ≡ f k
getD-elements f zero k h = absurd (not-suc-le-zero h)
getD-elements f (suc n) zero h = refl
getD-elements f (suc n) (suc k) h = getD-elements (λ (i : ℕ). f (suc i)) n k (omega arith)

-- by elements that are the same
pub elements-alike : (f g : ℕ → ℕ) (n : ℕ) → ((k : ℕ) → k < n → f k ≡ g k) → elements f n ≡ elements g n
elements-alike f g zero h = refl
elements-alike f g (suc n) h =
    ap₂ (λ (x : ℕ) (xs : List ℕ). x ∷ xs) (h 0 (omega arith)) (elements-alike (λ (i : ℕ). f (suc i)) (λ (i : ℕ). g (suc i)) n (λ k l. h (suc k) (omega arith)))

-- one more element
pub elements-snoc : (f : ℕ → ℕ) (n : ℕ) → elements f (suc n) ≡ elements f n ++ (f n ∷ [])
elements-snoc f zero = refl
elements-snoc f (suc n) = ap (λ (r : List ℕ). f 0 ∷ r) (elements-snoc (λ (i : ℕ). f (suc i)) n)

-- the front of a list is written out by its elements
pub take-elements : (n : ℕ) (xs : List ℕ) → n ≤ length xs → take n xs ≡ elements (λ (i : ℕ). get_or xs i 0) n
take-elements zero xs h = refl
take-elements (suc n) [] h = absurd (not-suc-le-zero h)
take-elements (suc n) (x ∷ xs) h = ap (λ (r : List ℕ). x ∷ r) (take-elements n xs (omega arith))

-- a turn of the loop that writes elements one after the other
pub elements-step : (f : ℕ → ℕ) (buffer : List ℕ) (i : ℕ) → i < length buffer → set (overlay (elements f i) buffer) i (f i) ≡ overlay (elements f (i + 1)) buffer
elements-step f buffer i h =
    let at : length (elements f i) ≡ i = length-elements f i in
    ap (λ (n : ℕ). set (overlay (elements f i) buffer) n (f i)) (sym at)
    ∙ overlay-snoc (elements f i) buffer (f i) (omega arith)
    ∙ ap (λ (xs : List ℕ). overlay xs buffer) (sym (elements-snoc f i) ∙ ap (elements f) (sym (add-one i)))

-- another element in place of one
module _ (f : ℕ → ℕ) (n p a : ℕ) (low : p < n) where
  abbrev others : ℕ → ℕ
  others k = cond (eqb k p) a (f k)

  others-at : (k : ℕ) → k < n → (k ≡ p) ⊎ (k ≡ p → ⊥) → get_or (set (elements f n) p a) k 0 ≡ others k
  others-at k h (inl e) = rw (eq-eqb k p e, e) (get_or-set_same (elements f n) p a 0 (omega (arith, length-elements f n)))
  others-at k h (inr o) = rw (ne_eqb k p o) (get_or-set_other (elements f n) p k a 0 o ∙ getD-elements f n k h)

  pub set-elements : set (elements f n) p a ≡ elements (λ (k : ℕ). cond (eqb k p) a (f k)) n
  set-elements =
      let size : length (set (elements f n) p a) ≡ n = length-set (elements f n) p a ∙ length-elements f n in
      ext_get_or 0 (set (elements f n) p a) (elements others n) (size ∙ sym (length-elements others n))
      (λ k h. let i : k < n = omega (arith, h, size) in others-at k i (same-or-other k p) ∙ sym (getD-elements others n k i))
