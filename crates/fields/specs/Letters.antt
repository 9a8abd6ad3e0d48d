-- The requests of a line, each a single character.
use Rattle.std.specs.Prelude.{Bool, ◌||◌, ℕ, eqb}

-- `i`: a word of code is read
abbrev pub READ-CODE : ℕ
READ-CODE = 105

-- `d`: a word of data is read
abbrev pub READ-DATA : ℕ
READ-DATA = 100

-- `I`: a word of code is written
abbrev pub WRITE-CODE : ℕ
WRITE-CODE = 73

-- `D`: a word of data is written
abbrev pub WRITE-DATA : ℕ
WRITE-DATA = 68

-- `r`: a register is read
abbrev pub READ-REGISTER : ℕ
READ-REGISTER = 114

-- `R`: a register is written
abbrev pub WRITE-REGISTER : ℕ
WRITE-REGISTER = 82

-- `c`: the process goes on
abbrev pub CONTINUE : ℕ
CONTINUE = 99

-- `s`: the process takes one step
abbrev pub STEP : ℕ
STEP = 115

-- one of these eight
unfoldable pub known : ℕ → Bool
known c =
    eqb c READ-CODE || (eqb c READ-DATA || (eqb c WRITE-CODE || (eqb c WRITE-DATA
    || (eqb c READ-REGISTER || (eqb c WRITE-REGISTER || (eqb c CONTINUE || eqb c STEP))))))
