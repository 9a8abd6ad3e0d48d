-- A front of a list, and what is left of it, are no longer than it. Assumes nothing.
use mathlib.Core.List.{List, [], ◌∷◌}
use Prim.Native.Nat.{ℕ, zero, suc, ◌≤◌}
use native.Mathlib.Omega.{arith}
use lib.ListN.{length, take, drop}

pub take_short : (n : ℕ) (xs : List ℕ) → (length (take n xs) ≤ n) × (length (take n xs) ≤ length xs)
take_short zero xs = (omega arith, omega arith)
take_short (suc n) [] = (omega arith, omega arith)
take_short (suc n) (x ∷ xs) = let r = take_short n xs in (omega (arith, r.0), omega (arith, r.1))

pub drop-short : (n : ℕ) (xs : List ℕ) → length (drop n xs) ≤ length xs
drop-short zero xs = omega arith
drop-short (suc n) [] = omega arith
drop-short (suc n) (x ∷ xs) = omega (arith, drop-short n xs)
