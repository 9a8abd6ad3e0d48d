-- The lower-case hex digits, as characters.
use Rattle.std.specs.Prelude.{cond, ℕ, ◌+◌, ◌-◌, ltb, leb}

-- the digit of a number under 16: '0' to '9', then 'a' to 'f'
unfoldable pub digit : ℕ → ℕ
digit v = cond (ltb v 10) (48 + v) (87 + v)

-- the number of a digit, or 16 where the character is none
unfoldable pub value : ℕ → ℕ
value c = cond (ltb c 48) 16 (cond (leb c 57) (c - 48) (cond (ltb c 97) 16 (cond (leb c 102) (c - 87) 16)))
