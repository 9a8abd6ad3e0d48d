-- The first newline of a written line is its last character. Assumes nothing.
use mathlib.Core.Path.{◌≡◌, refl, sym, ◌∙◌}
use mathlib.Core.Bool.{Bool, true, false, cond, true≢false}
use mathlib.Core.List.{List, [], ◌∷◌, ◌++◌, append_assoc}
use Prim.Native.Nat.{ℕ, zero, suc, ◌+◌, ◌/◌, ◌%◌}
use native.Mathlib.Omega.{arith}
use borrow.Author.Tests.{eqb-true, ne_eqb}
use lib.ListN.{length}
use lib.Dec.{eqb, ltb}
use Rattle.fields.specs.declared.write.Fields.{Fields}
use Rattle.fields.specs.Letters.{known}
use Rattle.fields.specs.Hex.{hex_digit, digits_in, hex_digits, hex_numeral}
use Rattle.fields.specs.Written.{blank_numeral, written}
use Rattle.rules.proofs.NumberLaws.{by-test}
use Rattle.gateway.specs.Lengths.{after_newline}

-- a text ends with its first newline, whatever follows it
Ends : List ℕ → Type 0
Ends xs = (ys : List ℕ) → after_newline (xs ++ ys) ≡ length xs

newline-ends : Ends (10 ∷ [])
unfolding Ends after_newline
newline-ends ys = refl

-- another character before it changes nothing
before-ends : (c : ℕ) (xs : List ℕ) → eqb c 10 ≡ false → Ends xs → Ends (c ∷ xs)
unfolding Ends after_newline
before-ends c xs e h ys = rw e (omega (arith, h ys))

digit-other : (v : ℕ) → eqb (hex_digit v) 10 ≡ false
unfolding hex_digit
digit-other v = go (ltb v 10)
  where
    go : (t : Bool) → eqb (cond t (48 + v) (87 + v)) 10 ≡ false
    go true = ne_eqb (48 + v) 10 (λ z. omega (arith, z))
    go false = ne_eqb (87 + v) 10 (λ z. omega (arith, z))

digits-ends : (k n : ℕ) (xs : List ℕ) → Ends xs → Ends (digits_in k n ++ xs)
unfolding digits_in
digits-ends zero n xs h = h
digits-ends (suc k) n xs h =
    by-test (λ (ds : List ℕ). Ends (ds ++ xs)) (ltb n 16) (λ e. before-ends (hex_digit n) xs (digit-other n) h)
    (λ e. rw append_assoc (digits-ends k (n / 16) (hex_digit (n % 16) ∷ xs) (before-ends (hex_digit (n % 16)) xs (digit-other (n % 16)) h)))

numeral-ends : (n : ℕ) (xs : List ℕ) → Ends xs → Ends (hex_numeral n ++ xs)
unfolding hex_numeral hex_digits
numeral-ends n xs h = before-ends 48 _ refl (before-ends 120 _ refl (digits-ends (suc n) n xs h))

blank-ends : (n : ℕ) (xs : List ℕ) → Ends xs → Ends (blank_numeral n ++ xs)
unfolding blank_numeral
blank-ends n xs h = before-ends 32 _ refl (numeral-ends n xs h)

-- a letter is no newline
letter-other : (c : ℕ) → known c ≡ true → eqb c 10 ≡ false
unfolding known
letter-other c e = go (eqb c 10) refl
  where
    go : (t : Bool) → eqb c 10 ≡ t → t ≡ false
    go true i = absurd (true≢false (sym e ∙ rw (eqb-true c 10 i)))
    go false i = refl

written-ends : (f : Fields) → known f.letter ≡ true → Ends (written f)
unfolding written
written-ends f e =
    numeral-ends f.pid _ (before-ends 32 _ refl
    (before-ends f.letter _ (letter-other f.letter e) (blank-ends f.third _ (blank-ends f.fourth (10 ∷ []) newline-ends))))

-- so the line is counted, wherever it stands at the start of a buffer
pub after-written : (f : Fields) → known f.letter ≡ true → (ys : List ℕ) → after_newline (written f ++ ys) ≡ length (written f)
unfolding Ends
after-written f e = written-ends f e
