-- A number as text: decimal, without sign or leading zeros.
use Rattle.std.specs.Prelude.{Bool, true, false, not, cond, List, [], ◌∷◌, ◌++◌, ℕ, zero, suc, ◌+◌, ◌-◌, ◌*◌, ◌/◌, ◌%◌, ltb, eqb}

-- ---- writing

-- the numeral of a number of at most so many digits: its last digit, after the numeral of the rest if there is one
unfoldable pub numeral_in : ℕ → ℕ → List ℕ
numeral_in zero n = []
numeral_in (suc k) n = cond (ltb n 10) ((48 + n) ∷ []) (numeral_in k (n / 10) ++ ((48 + n % 10) ∷ []))

-- the numeral of a number; no number has more digits than its successor says
unfoldable pub numeral : ℕ → List ℕ
numeral n = numeral_in (suc n) n

-- a number after a mark
unfoldable pub field : ℕ → ℕ → List ℕ
field mark n = mark ∷ numeral n

-- ---- reading

-- the value of a digit, or 10 where the character is none
unfoldable pub digit_of : ℕ → ℕ
digit_of c = cond (ltb c 48) 10 (cond (ltb 57 c) 10 (c - 48))

-- the digits that a text begins with
unfoldable pub digits_of : List ℕ → List ℕ
digits_of [] = []
digits_of (c ∷ cs) = cond (eqb (digit_of c) 10) [] (c ∷ digits_of cs)

-- the number that digits make after those of another
unfoldable pub value_from : ℕ → List ℕ → ℕ
value_from v [] = v
value_from v (c ∷ cs) = value_from (10 * v + digit_of c) cs

-- digits are a numeral: one at least, and no zero before others
unfoldable pub plain : List ℕ → Bool
plain [] = false
plain (c ∷ []) = true
plain (c ∷ d ∷ ds) = not (eqb c 48)
