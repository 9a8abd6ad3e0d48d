-- Names by their number: a table of names is one text, in which commas separate them.
use Rattle.std.specs.Prelude.{cond, List, [], ◌∷◌, ◌++◌, ℕ, zero, suc, length, ltb, eqb}
use Rattle.std.specs.Borrow.{Bor}
use Rattle.decimal.specs.Numeral.{numeral}

-- a comma
abbrev pub comma : ℕ
comma = 44

-- the first word
unfoldable pub first_word : List ℕ → List ℕ
first_word [] = []
first_word (c ∷ cs) = cond (eqb c comma) [] (c ∷ first_word cs)

-- what follows the first comma
unfoldable pub after_comma : List ℕ → List ℕ
after_comma [] = []
after_comma (c ∷ cs) = cond (eqb c comma) cs (after_comma cs)

-- the word of this number, counted from 0; nothing where there are fewer
unfoldable pub word_at : ℕ → List ℕ → List ℕ
word_at zero cs = first_word cs
word_at (suc n) cs = word_at n (after_comma cs)

-- the name of a number under the count of names; of any other, the number itself after the text for others
unfoldable pub name_in : ℕ → List ℕ → List ℕ → ℕ → List ℕ
name_in count names other n = cond (ltb n count) (word_at n names) (other ++ numeral n)

-- no name is longer than this
abbrev pub name_room : ℕ
name_room = 20

-- the name of this number in a table, counted from 0; nothing where there are fewer
unfoldable pub name_at : List (Bor (List ℕ)) → ℕ → List ℕ
name_at [] n = []
name_at (name ∷ names) zero = name.now
name_at (name ∷ names) (suc n) = name_at names n

-- the name of a number in a table; of a number that has none, the number itself after the text for others
unfoldable pub named_in : List (Bor (List ℕ)) → List ℕ → ℕ → List ℕ
named_in names other n = cond (ltb n (length names)) (name_at names n) (other ++ numeral n)
