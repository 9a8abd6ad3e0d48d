-- A fresh start by the library: where its tests are the gateway's, and where it is refused before the gateway is called. Assumes nothing.
use mathlib.Core.Path.{◌≡◌, refl}
use mathlib.Core.Bool.{Bool, true, false, not, cond}
use mathlib.Core.List.{List, [], ◌∷◌}
use Prim.Native.Nat.{ℕ, zero, suc, ◌<◌, ◌≤◌}
use native.Mathlib.Omega.{arith}
use borrow.Author.Tests.{eq-eqb, ne_eqb, lt-ltb, le-ltb}
use lib.ListN.{length, get_or}
use lib.Dec.{eqb}
use Rattle.format.specs.Outcome.{outcome, number_of, length_of, is_granted, first_failing}
use Rattle.rules.proofs.StepLaws.{by-test}
use Rattle.state.specs.Fresh.{fresh_start, sizes_right}
use Rattle.state_bytes.specs.Widths.{process_count, state_width}
use Rattle.state_bytes.specs.State.{state_bytes}
use Rattle.gateway.specs.Called.{StartResult, started, start_on}
use Rattle.c_api.specs.Called.{minus, signed, Short, byte_of, bits_of, start_number, start_with}

abbrev ShortStart : StartResult → Type 0
ShortStart x = Short x.outcome

module _ (there : ℕ) (sizes : List ℕ) (door : ℕ) (state : List ℕ) where
  abbrev fresh : List ℕ
  fresh = state_bytes (byte_of door) (fresh_start (bits_of there) sizes)

  -- eight sizes and no bit above the eighth: the gateway's tests are left
  pub start-same : there < 256 → length sizes ≡ process_count → start_with there sizes door state ≡ start_on (bits_of there) sizes (byte_of door) state
  unfolding start_with start_number start_on first_failing
  start-same low eight =
      rw (eq-eqb (length sizes) process_count eight, lt-ltb there 256 low) (go (eqb (length state) state_width) (sizes_right (bits_of there) sizes))
    where
      number : Bool → Bool → ℕ
      number s r = cond (not s) 1 (cond (not r) 2 0)

      go : (s r : Bool) → started (outcome (number s r) 0) (cond (eqb (number s r) 0) fresh state)
          ≡ cond s (cond r (started (outcome 0 0) fresh) (started (outcome 2 0) state)) (started (outcome 1 0) state)
      go true true = refl
      go true false = refl
      go false r = refl

  -- a bit above the eighth: refused, with 7 where nothing else is wrong
  pub start-over : 256 ≤ there → start_with there sizes door state ≡ started (outcome (start_number there sizes state) 0) state
  unfolding start_with start_number first_failing
  start-over over =
      rw (le-ltb there 256 over) (go (eqb (length sizes) process_count) (eqb (length state) state_width) (sizes_right (bits_of there) sizes))
    where
      number : Bool → Bool → Bool → ℕ
      number e s r = cond (not e) 1 (cond (not s) 1 (cond (not r) 2 7))

      go : (e s r : Bool) → started (outcome (number e s r) 0) (cond (eqb (number e s r) 0) fresh state) ≡ started (outcome (number e s r) 0) state
      go true true true = refl
      go true true false = refl
      go true false r = refl
      go false s r = refl

  -- another number of sizes than eight
  pub start-uneven : (length sizes ≡ process_count → ⊥) → start_with there sizes door state ≡ started (outcome 1 0) state
  unfolding start_with start_number first_failing
  start-uneven other = rw (ne_eqb (length sizes) process_count other)

-- no start has a length
pub start_on-short : (there : List Bool) (sizes : List ℕ) (door : ℕ) (state : List ℕ) → Short (start_on there sizes door state).outcome
unfolding start_on length_of
start_on-short there sizes door state =
    by-test ShortStart (eqb (length state) state_width)
    (λ e. by-test ShortStart (sizes_right there sizes) (λ r. omega arith) (λ r. omega arith))
    (λ e. omega arith)

-- the result is minus the number that refuses it
pub start-signed : (n : ℕ) → minus n ≡ signed (outcome n 0)
unfolding signed is_granted number_of length_of
start-signed zero = refl
start-signed (suc n) = refl

pub eight-elements : (l : List ℕ) → length l ≡ 8
    → get_or l 0 0 ∷ get_or l 1 0 ∷ get_or l 2 0 ∷ get_or l 3 0 ∷ get_or l 4 0 ∷ get_or l 5 0 ∷ get_or l 6 0 ∷ get_or l 7 0 ∷ [] ≡ l
eight-elements (a ∷ b ∷ c ∷ d ∷ e ∷ f ∷ g ∷ h ∷ []) n = refl
eight-elements [] n = absurd (omega arith)
eight-elements (a ∷ []) n = absurd (omega arith)
eight-elements (a ∷ b ∷ []) n = absurd (omega arith)
eight-elements (a ∷ b ∷ c ∷ []) n = absurd (omega arith)
eight-elements (a ∷ b ∷ c ∷ d ∷ []) n = absurd (omega arith)
eight-elements (a ∷ b ∷ c ∷ d ∷ e ∷ []) n = absurd (omega arith)
eight-elements (a ∷ b ∷ c ∷ d ∷ e ∷ f ∷ []) n = absurd (omega arith)
eight-elements (a ∷ b ∷ c ∷ d ∷ e ∷ f ∷ g ∷ []) n = absurd (omega arith)
eight-elements (a ∷ b ∷ c ∷ d ∷ e ∷ f ∷ g ∷ h ∷ i ∷ l) n = absurd (omega arith)
