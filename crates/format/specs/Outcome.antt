-- What a call answers, and the ordered tests that decide it.
use Rattle.std.specs.Prelude.{Result, Ok, Err, ◌≡◌, Bool, true, false, cond, List, [], ◌∷◌, ℕ, zero, suc, eqb}
use Rattle.format.specs.declared.header.Header.{Header}
use Rattle.format.specs.declared.outcome.Refusal.{Refusal}

-- ---- granted or refused

-- the refusal with this number
abbrev pub refusal_by : ℕ → Refusal
refusal_by n = record { 0 = n }

-- what is granted where the number is 0, else the refusal with it
abbrev pub unless : {A : Type 0} → ℕ → A → Result A Refusal
unless zero a = Ok a
unless (suc n) a = Err (refusal_by (suc n))

-- ---- the outcome of a call

-- what a call answers: a length, or a refusal
abbrev pub Outcome : Type 0
Outcome = Result ℕ Refusal

-- 'The answer is granted with a length, refused with a number. 0 is granted.': the case that a number and a length stand for
abbrev pub outcome : ℕ → ℕ → Outcome
outcome n length = unless n length

-- the number of each case
unfoldable pub number_of : Outcome → ℕ
number_of (Ok length) = 0
number_of (Err refusal) = refusal.0

-- the length of each case; what is refused has none
unfoldable pub length_of : Outcome → ℕ
length_of (Ok length) = length
length_of (Err refusal) = 0

-- whether each case is the grant
unfoldable pub is_granted : Outcome → Bool
is_granted (Ok length) = true
is_granted (Err refusal) = false

-- number and length are those that a case was made of, and make it again; no call is refused with 0
pub record OutcomesFit : Type 0 where
  pub number : (n l : ℕ) → number_of (outcome n l) ≡ n
  pub length : (n l : ℕ) → length_of (outcome n l) ≡ cond (eqb n 0) l 0
  pub granted : (n l : ℕ) → is_granted (outcome n l) ≡ eqb n 0
  pub again : (o : Outcome) → (o ≡ Err (refusal_by 0) → ⊥) → outcome (number_of o) (length_of o) ≡ o

-- ---- what a reader finds

-- what a reader finds: the fields of a message, or a refusal
abbrev pub Reading : Type 0
Reading = Result Header Refusal

-- the case that a number and a message's fields stand for: the fields where no test fails, else the number
abbrev pub reading : ℕ → Header → Reading
reading n header = unless n header

-- the number of each case; 0 is a message
unfoldable pub reading_number : Reading → ℕ
reading_number (Ok header) = 0
reading_number (Err refusal) = refusal.0

-- no fields: each of them 0
abbrev pub no_fields : Header
no_fields = record { host = 0; cmd = 0; pid = 0; arg1 = 0; arg2 = 0 }

-- the fields of each case; what is refused has none
unfoldable pub reading_fields : Reading → Header
reading_fields (Ok header) = header
reading_fields (Err refusal) = no_fields

-- number and fields are those that a case was made of, and make it again; no reader refuses with 0
pub record ReadingsFit : Type 0 where
  pub number : (n : ℕ) (h : Header) → reading_number (reading n h) ≡ n
  pub fields : (n : ℕ) (h : Header) → reading_fields (reading n h) ≡ cond (eqb n 0) h no_fields
  pub again : (r : Reading) → (r ≡ Err (refusal_by 0) → ⊥) → reading (reading_number r) (reading_fields r) ≡ r

-- ---- the tests

-- a numbered test of the list 'Numbers returned, and the order of tests', and whether it fails
pub record Test : Type 0 where
  pub number : ℕ
  pub fails : Bool

-- a test by its number, and whether it fails
abbrev pub test : ℕ → Bool → Test
test n b = record { number = n; fails = b }

-- 'The lowest-numbered test that fails gives the answer': the tests stand in their order, and 0 says that none fails
unfoldable pub first_failing : List Test → ℕ
first_failing [] = 0
first_failing (t ∷ ts) = cond t.fails t.number (first_failing ts)
