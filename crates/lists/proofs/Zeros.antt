-- Laws of a list of one element over and over. Assumes nothing.
use mathlib.Core.Path.{◌≡◌, refl, ap}
use mathlib.Core.List.{List, [], ◌∷◌, ◌++◌, append-nil}
use Prim.Native.Nat.{ℕ, zero, suc, ◌+◌, ◌≤◌, ◌<◌}
use native.Mathlib.Nat.{not-suc-le-zero}
use native.Mathlib.Numerals.{add-one}
use native.Mathlib.Omega.{arith}
use lib.ListN.{length, take, drop, set, replicate}
use lib.Seq.{drop-length}

-- the front of such a list
pub take-replicate : (k n a : ℕ) → k ≤ n → take k (replicate n a) ≡ replicate k a
take-replicate zero n a h = refl
take-replicate (suc k) zero a h = absurd (not-suc-le-zero h)
take-replicate (suc k) (suc n) a h = ap (λ (r : List ℕ). a ∷ r) (take-replicate k n a (omega (arith, h)))

-- as a loop writes it: one more
pub replicate-step : (i a : ℕ) (xs : List ℕ) → i < length xs → set (replicate i a ++ drop i xs) i a ≡ replicate (i + 1) a ++ drop (i + 1) xs
replicate-step i a xs h = rw (add-one i) (go i xs h)
  where
    go : (i : ℕ) (xs : List ℕ) → i < length xs → set (replicate i a ++ drop i xs) i a ≡ replicate (suc i) a ++ drop (suc i) xs
    go i [] h = absurd (not-suc-le-zero h)
    go zero (x ∷ xs) h = refl
    go (suc i) (x ∷ xs) h = ap (λ (r : List ℕ). a ∷ r) (go i xs (omega arith))

-- and at the end all
pub replicate-whole : (a : ℕ) (xs : List ℕ) → replicate (length xs) a ++ drop (length xs) xs ≡ replicate (length xs) a
replicate-whole a xs = rw (drop-length xs) (append-nil (replicate (length xs) a))
