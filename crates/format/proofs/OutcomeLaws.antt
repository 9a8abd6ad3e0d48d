-- Laws of the answers and of the first test that fails. Assumes nothing.
use mathlib.Core.Path.{◌≡◌, refl, sym, ap}
use mathlib.Core.Bool.{Bool, true, false, cond}
use mathlib.Core.List.{List, ◌∷◌}
use Prim.Native.Nat.{ℕ, zero, suc}
use native.Mathlib.Omega.{arith}
use borrow.Author.Tests.{ne_eqb}
use lib.Dec.{eqb}
use Rattle.std.proofs.Common.{Result, Ok, Err}
use Rattle.format.specs.declared.header.Header.{Header}
use Rattle.format.specs.declared.outcome.Refusal.{Refusal}
use Rattle.format.specs.Outcome.{refusal_by, unless, Outcome, outcome, number_of, length_of, is_granted, OutcomesFit, reading, reading_number, reading_fields, no_fields, Reading, ReadingsFit, Test, test, first_failing}

-- a refusal is made of its number again, but for one with 0
pub unless-number : {A : Type 0} (r : Refusal) → (◌≡◌ {A = Result A Refusal} (Err r) (Err (refusal_by 0)) → ⊥) → (a : A) → unless r.0 a ≡ Err r
unless-number {A = A} r other a = go r.0 refl
  where
    go : (n : ℕ) → r.0 ≡ n → unless n a ≡ Err r
    go zero e = absurd (other (ap (λ (k : ℕ). Err (refusal_by k)) e))
    go (suc n) e = ap (λ (k : ℕ). Err (refusal_by k)) (sym e)

-- what is granted has number 0
pub unless-ok : {A : Type 0} (n : ℕ) (a b : A) → unless n a ≡ Ok b → n ≡ 0
unless-ok zero a b e = refl
unless-ok (suc n) a b e = let z : ◌≡◌ {A = ℕ} 0 1 = cc in absurd (omega arith)

-- and is what it was made of
pub unless-same : {A : Type 0} (n : ℕ) (a b : A) → unless n a ≡ Ok b → a ≡ b
unless-same zero a b e = cc
unless-same (suc n) a b e = let z : ◌≡◌ {A = ℕ} 0 1 = cc in absurd (omega arith)

-- what is refused has its number, which is not 0
pub unless-err : {A : Type 0} (n : ℕ) (a : A) (r : Refusal) → unless n a ≡ Err r → (n ≡ r.0) × (n ≡ 0 → ⊥)
unless-err zero a r e = let z : ◌≡◌ {A = ℕ} 0 1 = cc in absurd (omega arith)
unless-err (suc n) a r e = (ap number e, λ z. omega arith)
  where
    number : {A : Type 0} → Result A Refusal → ℕ
    number (Ok b) = 0
    number (Err t) = t.0

-- a refusal is the same whatever would have been granted
pub unless-else : {A B : Type 0} (n : ℕ) (a : A) (b : B) (r : Refusal) → unless n a ≡ Err r → Err r ≡ unless n b
unless-else {A = A} {B = B} n a b r e = go n (unless-err n a r e).0 (unless-err n a r e).1
  where
    go : (k : ℕ) → k ≡ r.0 → (k ≡ 0 → ⊥) → ◌≡◌ {A = Result B Refusal} (Err r) (unless k b)
    go zero i z = absurd (z refl)
    go (suc k) i z = ap (λ (j : ℕ). Err (refusal_by j)) (sym i)

-- number 0 is the grant
pub outcome-zero : (number length : ℕ) → number ≡ 0 → Ok length ≡ outcome number length
outcome-zero number length e = rw e

-- any other number is the refusal with it
pub outcome-other : (number length : ℕ) → (number ≡ 0 → ⊥) → Err (refusal_by number) ≡ outcome number length
outcome-other zero length e = absurd (e refl)
outcome-other (suc n) length e = refl

-- each case has the number that it was made of
pub number_of-outcome : (number length : ℕ) → number_of (outcome number length) ≡ number
unfolding number_of
number_of-outcome zero length = refl
number_of-outcome (suc n) length = refl

-- and the length, where it is granted
pub length_of-outcome : (number length : ℕ) → length_of (outcome number length) ≡ cond (eqb number 0) length 0
unfolding length_of
length_of-outcome zero length = refl
length_of-outcome (suc n) length = rw (ne_eqb (suc n) 0 (λ e. omega arith))

-- so what is made without a length has none
pub length_of-none : (number : ℕ) → length_of (outcome number 0) ≡ 0
unfolding length_of
length_of-none zero = refl
length_of-none (suc n) = refl

-- and is the grant where the number is 0
pub is_granted-outcome : (number length : ℕ) → is_granted (outcome number length) ≡ eqb number 0
unfolding is_granted
is_granted-outcome zero length = refl
is_granted-outcome (suc n) length = rw (ne_eqb (suc n) 0 (λ e. omega arith))

-- every case is made of its number and its length, but for a refusal with 0, which no call answers
pub outcome-number_of : (o : Outcome) → (o ≡ Err (refusal_by 0) → ⊥) → outcome (number_of o) (length_of o) ≡ o
unfolding number_of length_of
outcome-number_of (Ok length) other = refl
outcome-number_of (Err refusal) other = unless-number refusal other _

pub outcomes-fit : OutcomesFit
outcomes-fit = record { number = number_of-outcome; length = length_of-outcome; granted = is_granted-outcome; again = outcome-number_of }

-- what is granted has number 0
pub granted-zero : (number length n : ℕ) → outcome number length ≡ Ok n → number ≡ 0
granted-zero zero length n e = refl
granted-zero (suc m) length n e = let z : ◌≡◌ {A = ℕ} 0 1 = cc in absurd (omega arith)

-- and the length that it was made of
pub granted-length : (number length n : ℕ) → outcome number length ≡ Ok n → length ≡ n
granted-length zero length n e = cc
granted-length (suc m) length n e = let z : ◌≡◌ {A = ℕ} 0 1 = cc in absurd (omega arith)

-- the same for a reader
pub reading-zero : (number : ℕ) (h : Header) → number ≡ 0 → Ok h ≡ reading number h
reading-zero number h e = rw e

pub reading-other : (number : ℕ) (h : Header) → (number ≡ 0 → ⊥) → Err (refusal_by number) ≡ reading number h
reading-other zero h e = absurd (e refl)
reading-other (suc n) h e = refl

-- each case has the number that it was made of
pub reading_number-reading : (number : ℕ) (h : Header) → reading_number (reading number h) ≡ number
unfolding reading_number
reading_number-reading zero h = refl
reading_number-reading (suc n) h = refl

-- and the fields, where it is a message
pub reading_fields-reading : (number : ℕ) (h : Header) → reading_fields (reading number h) ≡ cond (eqb number 0) h no_fields
unfolding reading_fields
reading_fields-reading zero h = refl
reading_fields-reading (suc n) h = rw (ne_eqb (suc n) 0 (λ e. omega arith))

-- every case is made of its number and its fields, but for a refusal with 0, which no reader finds
pub reading-reading_number : (r : Reading) → (r ≡ Err (refusal_by 0) → ⊥) → reading (reading_number r) (reading_fields r) ≡ r
unfolding reading_number reading_fields
reading-reading_number (Ok header) other = refl
reading-reading_number (Err refusal) other = unless-number refusal other _

pub readings-fit : ReadingsFit
readings-fit = record { number = reading_number-reading; fields = reading_fields-reading; again = reading-reading_number }

pub message-zero : (number : ℕ) (h k : Header) → reading number h ≡ Ok k → number ≡ 0
message-zero zero h k e = refl
message-zero (suc m) h k e = let z : ◌≡◌ {A = ℕ} 0 1 = cc in absurd (omega arith)

pub message-header : (number : ℕ) (h k : Header) → reading number h ≡ Ok k → h ≡ k
message-header zero h k e = cc
message-header (suc m) h k e = let z : ◌≡◌ {A = ℕ} 0 1 = cc in absurd (omega arith)

-- where no test fails, the first does not
pub first_passes : (n : ℕ) (b : Bool) (ts : List Test) → first_failing (test (suc n) b ∷ ts) ≡ 0 → b ≡ false
unfolding first_failing
first_passes n false ts e = refl
first_passes n true ts e = absurd (omega arith)

-- nor do the others
pub rest-passes : (n : ℕ) (b : Bool) (ts : List Test) → first_failing (test (suc n) b ∷ ts) ≡ 0 → first_failing ts ≡ 0
unfolding first_failing
rest-passes n false ts e = e
rest-passes n true ts e = absurd (omega arith)
