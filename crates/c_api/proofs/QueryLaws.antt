-- What a query returns and hands over. Assumes nothing.
use mathlib.Core.Path.{◌≡◌, refl}
use mathlib.Core.List.{List, [], ◌∷◌}
use Prim.Native.Nat.{ℕ, zero, suc}
use native.Mathlib.Omega.{arith}
use lib.ListN.{length, get_or, set}
use Rattle.format.specs.Outcome.{outcome, number_of, length_of, is_granted}
use Rattle.c_api.specs.Called.{minus, signed}

-- minus the number of a test, and 0 where none fails
pub minus-signed : (n : ℕ) → minus n ≡ signed (outcome n 0)
unfolding signed is_granted number_of length_of
minus-signed zero = refl
minus-signed (suc n) = refl

-- two numbers, each put in its place
pub two-put : (l two : List ℕ) → length l ≡ 2 → length two ≡ 2 → set (set l 0 (get_or two 0 0)) 1 (get_or two 1 0) ≡ two
two-put (v ∷ w ∷ []) (a ∷ b ∷ []) n k = refl
two-put [] two n k = absurd (omega arith)
two-put (v ∷ []) two n k = absurd (omega arith)
two-put (v ∷ w ∷ x ∷ l) two n k = absurd (omega arith)
two-put (v ∷ w ∷ []) [] n k = absurd (omega arith)
two-put (v ∷ w ∷ []) (a ∷ []) n k = absurd (omega arith)
two-put (v ∷ w ∷ []) (a ∷ b ∷ c ∷ two) n k = absurd (omega arith)
