-- A flag as a number.
use Rattle.std.specs.Prelude.{Bool, cond, ℕ}

-- a flag as 0 or 1
abbrev pub flag : Bool → ℕ
flag t = cond t 1 0
