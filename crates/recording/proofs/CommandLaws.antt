-- Laws of the word that a line begins with: the loop that compares, and the front of a long line. Assumes nothing.
use mathlib.Core.Path.{◌≡◌, refl, sym, ap, ◌∙◌}
use mathlib.Core.Bool.{Bool, true, false, ◌&&◌, true≢false}
use mathlib.Core.List.{List, [], ◌∷◌, ◌++◌}
use Prim.Native.Nat.{ℕ, zero, suc, ◌+◌, ◌≤◌, ◌<◌}
use native.Mathlib.Numerals.{add-one}
use native.Mathlib.Omega.{arith}
use borrow.Author.Tests.{eq-eqb, ne_eqb, eqb-true}
use lib.ListN.{length, take, drop, get_or, drop_of_length-le}
use lib.Seq.{drop-cons}
use lib.Dec.{eqb}
use Rattle.lists.proofs.Bool.{&&-left, &&-right}
use Rattle.recording.specs.declared.command.Command.{Command}
use Rattle.recording.specs.Command.{begins, request_word, line_word, raw_word, why_word, any_length}

pub begins-short : (text line : List ℕ) → length line < length text → false ≡ begins text line
unfolding begins
begins-short [] line h = absurd (omega (arith, h))
begins-short (c ∷ text) [] h = refl
begins-short (c ∷ text) (d ∷ line) h = go (eqb d c) (begins-short text line (omega (arith, h)))
  where
    go : (t : Bool) → false ≡ begins text line → false ≡ t && begins text line
    go true e = e
    go false e = refl

-- a turn of the loop that compares
module _ (text line : List ℕ) (i : ℕ) (h : i < length text) (k : i < length line) where
  here : (xs : List ℕ) → i < length xs → drop i xs ≡ get_or xs i 0 ∷ drop (i + 1) xs
  here xs l = drop-cons xs i 0 l ∙ ap (λ (n : ℕ). get_or xs i 0 ∷ drop n xs) (sym (add-one i))

  turn : begins (drop i text) (drop i line) ≡ eqb (get_or line i 0) (get_or text i 0) && begins (drop (i + 1) text) (drop (i + 1) line)
  unfolding begins
  turn = rw (here text h, here line k)

  pub begins-next : get_or line i 0 ≡ get_or text i 0 → begins (drop (i + 1) text) (drop (i + 1) line) ≡ begins (drop i text) (drop i line)
  begins-next e = sym (turn ∙ ap (λ (t : Bool). t && begins (drop (i + 1) text) (drop (i + 1) line)) (eq-eqb (get_or line i 0) (get_or text i 0) e))

  pub begins-other : (get_or line i 0 ≡ get_or text i 0 → ⊥) → false ≡ begins (drop i text) (drop i line)
  begins-other n = sym (turn ∙ ap (λ (t : Bool). t && begins (drop (i + 1) text) (drop (i + 1) line)) (ne_eqb (get_or line i 0) (get_or text i 0) n))

pub begins-end : (text line : List ℕ) (i : ℕ) → length text ≤ i → true ≡ begins (drop i text) line
unfolding begins
begins-end text line i h = rw (drop_of_length-le text h)

-- a word is found in the front of a line that is long enough for it
pub begins-take : (text line : List ℕ) (n : ℕ) → length text ≤ n → begins text (take n line) ≡ begins text line
unfolding begins
begins-take [] line n h = refl
begins-take (c ∷ text) line zero h = absurd (omega (arith, h))
begins-take (c ∷ text) [] (suc n) h = refl
begins-take (c ∷ text) (d ∷ line) (suc n) h = ap (λ (t : Bool). eqb d c && t) (begins-take text line n (omega (arith, h)))

-- and more behind it changes nothing
pub begins-more : (text line more : List ℕ) → length text ≤ length line → begins text (line ++ more) ≡ begins text line
unfolding begins
begins-more [] line more h = refl
begins-more (c ∷ text) [] more h = absurd (omega (arith, h))
begins-more (c ∷ text) (d ∷ line) more h = ap (λ (t : Bool). eqb d c && t) (begins-more text line more (omega (arith, h)))

-- no line has both words
pub request-not-raw : (line : List ℕ) → begins request_word line ≡ true → begins raw_word line ≡ true → ⊥
unfolding begins
request-not-raw [] q r = absurd (true≢false (sym q))
request-not-raw (d ∷ []) q r = absurd (true≢false (sym (&&-right (eqb d 114) false q)))
request-not-raw (d ∷ e ∷ line) q r =
    let one = eqb-true e 101 (&&-left (eqb e 101) _ (&&-right (eqb d 114) _ q)) in
    let other = eqb-true e 97 (&&-left (eqb e 97) _ (&&-right (eqb d 114) _ r)) in
    omega (arith, one, other)

-- nor two words with different first letters
pub other-first : (c d : ℕ) (text other line : List ℕ) → (c ≡ d → ⊥) → begins (c ∷ text) line ≡ true → begins (d ∷ other) line ≡ false
unfolding begins
other-first c d text other [] n e = absurd (true≢false (sym e))
other-first c d text other (x ∷ line) n e =
    let is = eqb-true x c (&&-left (eqb x c) (begins text line) e) in
    rw (ne_eqb x d (λ f. n (sym is ∙ f)))

-- a word of a line of any length stands in its front
pub any-front : (line : List ℕ) (n : ℕ) (other : Command) → 8 ≤ n → any_length (take n line) other ≡ any_length line other
unfolding any_length
any-front line n other h =
    rw (begins-take request_word line n (omega (arith, h)), begins-take line_word line n (omega (arith, h)), begins-take raw_word line n (omega (arith, h)), begins-take why_word line n (omega (arith, h))) refl
