-- Sentences by patterns: a pattern is a text in which a mark stands for something of the request or for the fact of the reason.
use Rattle.std.specs.Prelude.{cond, List, [], ◌∷◌, ℕ, ◌+◌, ◌-◌, eqb}
use Prim.Native.Char.{code}
use Prim.Native.String.{String}
use Rattle.lists.specs.Joined.{joined}
use Rattle.decimal.specs.Numeral.{numeral}
use Rattle.format.specs.declared.header.Header.{Header}
use Rattle.sentence.specs.Text.{text}
use Rattle.sentence.specs.Count.{count_text}
use Rattle.sentence.specs.OpName.{op_name}

-- what a character of a pattern stands for, by the header and the fact n:
--   @ the host that asks        # the process                      ! the name of the op code
--   ^ the address, ARG1         % so many bytes, by ARG2           = where the bytes end that are there: ARG1 + ARG2 - n
--   $ the fact                  + so many bytes, by the fact       < the last address that is right: ARG1 - n
-- and any other character for itself
unfoldable pub piece_of : Header → ℕ → ℕ → List ℕ
piece_of h n c =
    cond (eqb c (code "@")) (numeral h.host)
    (cond (eqb c (code "#")) (numeral h.pid)
    (cond (eqb c (code "^")) (numeral h.arg1)
    (cond (eqb c (code "!")) (op_name h.cmd)
    (cond (eqb c (code "%")) (count_text h.arg2)
    (cond (eqb c (code "$")) (numeral n)
    (cond (eqb c (code "+")) (count_text n)
    (cond (eqb c (code "=")) (numeral (h.arg1 + h.arg2 - n))
    (cond (eqb c (code "<")) (numeral (h.arg1 - n))
    (c ∷ [])))))))))

-- a pattern with its marks filled in, by the codes of its characters
abbrev pub filled : Header → ℕ → List ℕ → List ℕ
filled h n pattern = joined (piece_of h n) pattern

-- a pattern with its marks filled in
abbrev pub told : Header → ℕ → String → List ℕ
told h n pattern = filled h n (text pattern)

-- no character of a pattern stands for more characters than this
unfoldable pub widest : ℕ → ℕ
widest c =
    cond (eqb c (code "@")) 5
    (cond (eqb c (code "#")) 5
    (cond (eqb c (code "^")) 5
    (cond (eqb c (code "!")) 20
    (cond (eqb c (code "%")) 26
    (cond (eqb c (code "$")) 20
    (cond (eqb c (code "+")) 26
    (cond (eqb c (code "=")) 20
    (cond (eqb c (code "<")) 20 1))))))))

-- room for a pattern with its marks filled in
unfoldable pub room : List ℕ → ℕ
room [] = 0
room (c ∷ cs) = widest c + room cs
