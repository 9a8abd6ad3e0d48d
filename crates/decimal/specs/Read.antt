-- Reading the numbers of a line one after another.
use Rattle.std.specs.Prelude.{Bool, true, false, cond, ◌&&◌, List, ℕ, ◌+◌, length, drop, get_or, eqb, leb}
use Rattle.decimal.specs.declared.number.Number.{Number}
use Rattle.decimal.specs.Numeral.{digits_of, value_from, plain}

-- no number
abbrev pub wrong : Number
wrong = record { ok = false; value = 0; next = 0 }

-- a number, and the index after it
abbrev pub right : ℕ → ℕ → Number
right value next = record { ok = true; value = value; next = next }

-- nothing was read yet, and the first number is to stand at this index
abbrev pub begun : ℕ → Number
begun at = right 0 at

-- a number that passed its test, or none
abbrev pub checked : Bool → ℕ → ℕ → Number
checked t value next = cond t (right value next) wrong

-- the number at an index: all digits that stand there, if they are a numeral of a number of at most so much
unfoldable pub number_at : ℕ → List ℕ → ℕ → Number
number_at most line at =
    checked (plain (digits_of (drop at line)) && leb (value_from 0 (digits_of (drop at line))) most)
    (value_from 0 (digits_of (drop at line))) (at + length (digits_of (drop at line)))

-- the number after another: a blank, and a number
unfoldable pub behind : ℕ → List ℕ → Number → Number
behind most line n = cond (n.ok && eqb (get_or line n.next 0) 32) (number_at most line (n.next + 1)) wrong

-- all numbers were right, and the line ends after the last
unfoldable pub ends_line : List ℕ → Number → Bool
ends_line line n = n.ok && eqb n.next (length line)
