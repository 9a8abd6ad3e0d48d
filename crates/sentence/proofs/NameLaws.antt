-- Laws of tables of names, and of the words that commas separate. Assumes nothing.
use mathlib.Core.Path.{◌≡◌, refl}
use mathlib.Core.Bool.{Bool, true, false, cond, ◌&&◌}
use mathlib.Core.List.{List, [], ◌∷◌, ◌++◌}
use Prim.Native.Nat.{ℕ, zero, suc, ◌≤◌, ◌<◌}
use native.Mathlib.Omega.{arith}
use borrow.Author.Tests.{leb-true, ltb-true}
use lib.ListN.{length, get_or}
use lib.Dec.{leb, ltb}
use Rattle.std.specs.Borrow.{Bor}
use Rattle.lists.proofs.Bool.{&&-left, &&-right}
use Rattle.decimal.specs.Numeral.{numeral}
use Rattle.sentence.specs.Name.{first_word, after_comma, word_at, name_in, name_at, named_in}

-- the names of a table
abbrev pub spelled : List (Bor (List ℕ)) → List (List ℕ)
spelled [] = []
spelled (name ∷ names) = name.now ∷ spelled names

-- the first words of a text, as many as are asked for
abbrev pub words : ℕ → List ℕ → List (List ℕ)
words zero cs = []
words (suc n) cs = first_word cs ∷ words n (after_comma cs)

name_at-word : (names : List (Bor (List ℕ))) (cs : List ℕ) → spelled names ≡ words (length names) cs → (n : ℕ) → n < length names → name_at names n ≡ word_at n cs
unfolding name_at word_at
name_at-word [] cs e n h = absurd (omega (arith, h))
name_at-word (name ∷ names) cs e zero h = cc
name_at-word (name ∷ names) cs e (suc n) h = let rest : spelled names ≡ words (length names) (after_comma cs) = cc in name_at-word names (after_comma cs) rest n (omega (arith, h))

-- a table of a text's words, and that text, give the same names
pub named-words : (names : List (Bor (List ℕ))) (cs other : List ℕ) → spelled names ≡ words (length names) cs → (n : ℕ) → named_in names other n ≡ name_in (length names) cs other n
unfolding named_in name_in
named-words names cs other e n = go (ltb n (length names)) refl
  where
    go : (t : Bool) → ltb n (length names) ≡ t → cond t (name_at names n) (other ++ numeral n) ≡ cond t (word_at n cs) (other ++ numeral n)
    go true q = name_at-word names cs e n (ltb-true n (length names) q)
    go false q = refl

-- no name of a table is longer than this, by a test of all
unfoldable pub short : ℕ → List (Bor (List ℕ)) → Bool
short m [] = true
short m (name ∷ names) = leb (length name.now) m && short m names

pub names-short : (m : ℕ) (names : List (Bor (List ℕ))) → short m names ≡ true → (n : ℕ) → length (name_at names n) ≤ m
unfolding short name_at
names-short m [] h n = omega arith
names-short m (name ∷ names) h zero = leb-true (length name.now) m (&&-left _ (short m names) h)
names-short m (name ∷ names) h (suc n) = names-short m names (&&-right (leb (length name.now) m) (short m names) h) n

-- the name that stands at an index
pub name-here : (names : List (Bor (List ℕ))) (n : ℕ) (d : Bor (List ℕ)) → n < length names → (get_or names n d).now ≡ name_at names n
unfolding name_at
name-here [] n d h = absurd (omega (arith, h))
name-here (name ∷ names) zero d h = refl
name-here (name ∷ names) (suc n) d h = name-here names n d (omega (arith, h))
