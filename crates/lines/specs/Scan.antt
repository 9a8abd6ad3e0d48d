-- Reading a line of hex pairs, character by character, so that a line may come in parts and be of any length.
use Rattle.std.specs.Prelude.{◌≡◌, Bool, true, false, cond, List, [], ◌∷◌, ◌++◌, ℕ, ◌+◌, ◌*◌, ◌%◌, length, set, ltb, eqb}
use Rattle.lines.specs.declared.scan.Phase.{Phase}
use Rattle.lines.specs.declared.scan.Phase.TheVariants.{Open, Half, Full, Bad}
use Rattle.lines.specs.Hex.{value}

-- after a first digit: a pair is half read, or the character is no digit
unfoldable pub opened : ℕ → Phase
opened v = cond (ltb v 16) (Half v) Bad

-- where a character leads
unfoldable pub next : Phase → ℕ → Phase
next Open c = opened (value c)
next (Half h) c = cond (ltb (value c) 16) Full Bad
next Full c = cond (eqb c 32) Open Bad
next Bad c = Bad

-- a line of pairs may end here
unfoldable pub full : Phase → Bool
full Open = false
full (Half h) = false
full Full = true
full Bad = false

-- the byte that a character completes
unfoldable pub made : Phase → ℕ → List ℕ
made Open c = []
made (Half h) c = cond (ltb (value c) 16) ((h % 16 * 16 + value c) ∷ []) []
made Full c = []
made Bad c = []

-- the same over characters one after another
unfoldable pub after : Phase → List ℕ → Phase
after p [] = p
after p (c ∷ cs) = after (next p c) cs

-- the bytes that they complete
unfoldable pub bytes_of : Phase → List ℕ → List ℕ
bytes_of p [] = []
bytes_of p (c ∷ cs) = made p c ++ bytes_of (next p c) cs

-- a buffer with bytes from an index on, as far as it reaches
unfoldable pub kept : ℕ → List ℕ → List ℕ → List ℕ
kept at [] buffer = buffer
kept at (b ∷ bs) buffer = kept (at + 1) bs (set buffer at b)

-- text was put into a buffer from an index on: the index after it, and the buffer then
abbrev pub Put : ℕ → List ℕ → List ℕ → ℕ → List ℕ → Type 0
Put at text buffer next last = (next ≡ at + length text) × (last ≡ kept at text buffer)

-- how many of the buffer are then filled: no more than it has
unfoldable pub filled : ℕ → ℕ → List ℕ → ℕ
filled room at [] = at
filled room at (b ∷ bs) = filled room (cond (ltb at room) (at + 1) at) bs

-- the end of a line
abbrev pub is_newline : ℕ → Bool
is_newline c = eqb c 10
