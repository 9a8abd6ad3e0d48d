-- A loop that maps one list into another. Assumes nothing.
use mathlib.Core.Path.{◌≡◌, refl, ap}
use mathlib.Core.List.{List, [], ◌∷◌, ◌++◌, map, append-nil}
use Prim.Native.Nat.{ℕ, zero, suc, ◌+◌, ◌≤◌, ◌<◌}
use native.Mathlib.Nat.{not-suc-le-zero}
use native.Mathlib.Numerals.{add-one}
use native.Mathlib.Omega.{arith}
use lib.ListN.{length, take, drop, get_or, set, drop_of_length-le}
use lib.Seq.{take_all}

module _ {A B : Type 0} (f : A → B) (d : A) where
  step : (xs : List A) (ys : List B) (k : ℕ) → k < length xs → k < length ys
      → set (map f (take k xs) ++ drop k ys) k (f (get_or xs k d)) ≡ map f (take (suc k) xs) ++ drop (suc k) ys
  step [] ys k h i = absurd (not-suc-le-zero h)
  step (x ∷ xs) [] k h i = absurd (not-suc-le-zero i)
  step (x ∷ xs) (y ∷ ys) zero h i = refl
  step (x ∷ xs) (y ∷ ys) (suc k) h i = ap (λ (r : List B). f x ∷ r) (step xs ys k (omega arith) (omega arith))

  -- a turn: one more element is mapped
  pub map-step : (xs : List A) (ys : List B) (k : ℕ) → k < length xs → k < length ys
      → set (map f (take k xs) ++ drop k ys) k (f (get_or xs k d)) ≡ map f (take (k + 1) xs) ++ drop (k + 1) ys
  map-step xs ys k h i = rw (add-one k) (step xs ys k h i)

  -- at the end all are
  pub map_whole : (xs : List A) (ys : List B) (k : ℕ) → length xs ≤ k → length ys ≤ k → map f (take k xs) ++ drop k ys ≡ map f xs
  map_whole xs ys k h i = rw (take_all k xs h, drop_of_length-le ys i) (append-nil (map f xs))
