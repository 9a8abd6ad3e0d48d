-- A number as text: `0x` and 'lower-case hex without leading zeros'.
use Rattle.std.specs.Prelude.{Option, Some, None, Bool, true, false, not, cond, ◌&&◌, List, [], ◌∷◌, ◌++◌, ℕ, zero, suc, ◌+◌, ◌*◌, ◌/◌, ◌%◌, length, drop, get_or, ltb, leb, eqb}
-- the digit of a number, and the number of a digit, or 16 where the character is none
unfoldable pub use Rattle.digits.specs.Digit.{digit as hex_digit, value as hex_value}
use Rattle.fields.specs.declared.number.Number.{Number}

-- ---- writing

-- the digits of a number, at most so many: its last digit, after those of the rest if there is one
unfoldable pub digits_in : ℕ → ℕ → List ℕ
digits_in zero n = []
digits_in (suc k) n = cond (ltb n 16) (hex_digit n ∷ []) (digits_in k (n / 16) ++ (hex_digit (n % 16) ∷ []))

-- the digits of a number; no number has more than its successor says
unfoldable pub hex_digits : ℕ → List ℕ
hex_digits n = digits_in (suc n) n

-- `0x` and the digits
unfoldable pub hex_numeral : ℕ → List ℕ
hex_numeral n = 48 ∷ 120 ∷ hex_digits n

-- ---- reading

-- the greatest number of 32 bits
abbrev pub most_number : ℕ
most_number = 4294967295

-- the digits that a text begins with
unfoldable pub digits_of : List ℕ → List ℕ
digits_of [] = []
digits_of (c ∷ cs) = cond (eqb (hex_value c) 16) [] (c ∷ digits_of cs)

-- the number that digits make after those of another
unfoldable pub value_from : ℕ → List ℕ → ℕ
value_from v [] = v
value_from v (c ∷ cs) = value_from (16 * v + hex_value c) cs

-- one digit at least, and no zero before others
unfoldable pub plain : List ℕ → Bool
plain [] = false
plain (c ∷ []) = true
plain (c ∷ d ∷ ds) = not (eqb c 48)

-- a number, and the index after it
abbrev pub right : ℕ → ℕ → Option Number
right value next = Some (record { value = value; next = next })

-- a number that passed its test, or none
abbrev pub checked : Bool → ℕ → ℕ → Option Number
checked t value next = cond t (right value next) None

-- all digits that stand at an index, if they are those of a number of 32 bits
unfoldable pub digits_at : List ℕ → ℕ → Option Number
digits_at text at =
    checked (plain (digits_of (drop at text)) && leb (value_from 0 (digits_of (drop at text))) most_number)
    (value_from 0 (digits_of (drop at text))) (at + length (digits_of (drop at text)))

-- the number at an index: `0x` and digits
unfoldable pub number_at : List ℕ → ℕ → Option Number
number_at text at = cond (eqb (get_or text at 0) 48 && eqb (get_or text (at + 1) 0) 120) (digits_at text (at + 2)) None

-- the number after a blank at an index
unfoldable pub number_after : List ℕ → ℕ → Option Number
number_after text at = cond (eqb (get_or text at 0) 32) (number_at text (at + 1)) None
