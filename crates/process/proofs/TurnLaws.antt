-- A loop that maps the elements of a list where they stand: at each turn the element at hand is still what it was. Assumes nothing.
use mathlib.Core.Path.{◌≡◌, refl}
use mathlib.Core.List.{List, [], ◌∷◌, ◌++◌, map}
use Prim.Native.Nat.{ℕ, zero, suc, ◌<◌}
use native.Mathlib.Nat.{not-suc-le-zero}
use native.Mathlib.Omega.{arith}
use lib.ListN.{length, take, drop, get_or}

pub still-there : {A : Type 0} (f : A → A) (d : A) (xs : List A) (k : ℕ) → k < length xs → get_or (map f (take k xs) ++ drop k xs) k d ≡ get_or xs k d
still-there f d [] k h = absurd (not-suc-le-zero h)
still-there f d (x ∷ xs) zero h = refl
still-there f d (x ∷ xs) (suc k) h = still-there f d xs k (omega arith)
