-- Laws of reading the numbers of a line. Assumes nothing.
use mathlib.Core.Path.{◌≡◌, refl, sym, ap, ◌∙◌}
use mathlib.Core.Bool.{Bool, true, false, not, cond, ◌&&◌, true≢false}
use mathlib.Core.List.{List, [], ◌∷◌, ◌++◌, append-nil}
use Prim.Native.Nat.{ℕ, suc, ◌+◌, ◌-◌, ◌*◌, ◌≤◌, ◌<◌}
use native.Mathlib.Numerals.{add-one}
use native.Mathlib.Omega.{arith}
use borrow.Author.Tests.{eqb-true, eqb-false, eq-eqb, ne_eqb, le-leb, lt-leb, leb-true}
use lib.ListN.{length, take, drop, get_or, drop_of_length-le, get_or-eq_default}
use lib.Seq.{drop-cons, drop-append_seam, drop-drop}
use lib.Dec.{eqb, leb}
use Rattle.lists.proofs.Bool.{&&-left, &&-right}
use Rattle.decimal.specs.declared.number.Number.{Number}
use Rattle.decimal.specs.Numeral.{numeral, digit_of, digits_of, value_from, plain}
use Rattle.decimal.specs.Read.{wrong, right, checked, number_at, behind}
use Rattle.decimal.specs.Theorems.{ReadsNumbers}
use Rattle.decimal.proofs.NumeralLaws.{digits-stop, digits-go, value-cons, digits-numeral, value-numeral, plain-numeral, numeral-back}

and-true : (t : Bool) → t && true ≡ t
and-true true = refl
and-true false = refl

and-false : (t : Bool) → t && false ≡ false
and-false true = refl
and-false false = refl

-- ---- the test of digits by its indices

pub plain-none : (xs : List ℕ) (n : ℕ) → n ≡ 0 → plain (take n xs) ≡ false
unfolding plain
plain-none xs n e = rw e

pub plain-single : (xs : List ℕ) (n : ℕ) → n ≡ 1 → 1 ≤ length xs → plain (take n xs) ≡ true
unfolding plain
plain-single [] n e h = absurd (omega (arith, h))
plain-single (x ∷ xs) n e h = rw e

pub plain-several : (xs : List ℕ) (n : ℕ) → 2 ≤ n → n ≤ length xs → plain (take n xs) ≡ not (eqb (get_or xs 0 0) 48)
unfolding plain
plain-several xs n low h = go (n - 2) xs (omega (arith, low)) h
  where
    go : (k : ℕ) (xs : List ℕ) → n ≡ suc (suc k) → n ≤ length xs → plain (take n xs) ≡ not (eqb (get_or xs 0 0) 48)
    go k [] e h = absurd (omega (arith, e, h))
    go k (x ∷ []) e h = absurd (omega (arith, e, h))
    go k (x ∷ y ∷ ys) e h = rw e

-- ---- a turn of the loop that reads digits

module _ (line : List ℕ) (i : ℕ) (h : i < length line) where
  here : drop i line ≡ get_or line i 0 ∷ drop (i + 1) line
  here = drop-cons line i 0 h ∙ ap (λ (n : ℕ). get_or line i 0 ∷ drop n line) (sym (add-one i))

  pub stops-here : digit_of (get_or line i 0) ≡ 10 → digits_of (drop i line) ≡ []
  stops-here e = ap digits_of here ∙ digits-stop (get_or line i 0) (drop (i + 1) line) e

  goes_on : (digit_of (get_or line i 0) ≡ 10 → ⊥) → digits_of (drop i line) ≡ get_or line i 0 ∷ digits_of (drop (i + 1) line)
  goes_on n = ap digits_of here ∙ digits-go (get_or line i 0) (drop (i + 1) line) n

  pub value-turn : (v : ℕ) → (digit_of (get_or line i 0) ≡ 10 → ⊥) → value_from v (digits_of (drop i line)) ≡ value_from (10 * v + digit_of (get_or line i 0)) (digits_of (drop (i + 1) line))
  value-turn v n = ap (value_from v) (goes_on n) ∙ value-cons v (get_or line i 0) (digits_of (drop (i + 1) line))

  pub length-turn : (digit_of (get_or line i 0) ≡ 10 → ⊥) → i + length (digits_of (drop i line)) ≡ i + 1 + length (digits_of (drop (i + 1) line))
  length-turn n = omega (arith, ap (λ (l : List ℕ). length l) (goes_on n))

pub stops_end : (line : List ℕ) (i : ℕ) → length line ≤ i → digits_of (drop i line) ≡ []
unfolding digits_of
stops_end line i h = rw (drop_of_length-le line h)

-- ---- what the digits passed make

take-digits : (xs : List ℕ) → take (length (digits_of xs)) xs ≡ digits_of xs
unfolding digits_of
take-digits [] = refl
take-digits (c ∷ cs) = go (eqb (digit_of c) 10) (take-digits cs)
  where
    go : (t : Bool) → take (length (digits_of cs)) cs ≡ digits_of cs
        → take (length (cond {A = List ℕ} t [] (c ∷ digits_of cs))) (c ∷ cs) ≡ cond t [] (c ∷ digits_of cs)
    go true r = refl
    go false r = ap (λ (l : List ℕ). c ∷ l) r

pub value_stays : (v : ℕ) (cs : List ℕ) → v ≤ value_from v cs
unfolding value_from
value_stays v [] = omega arith
value_stays v (c ∷ cs) = omega (arith, value_stays (10 * v + digit_of c) cs)

module _ (most at : ℕ) (line : List ℕ) (value i : ℕ)
    (same : value_from value (digits_of (drop i line)) ≡ value_from 0 (digits_of (drop at line)))
    (passed : i + length (digits_of (drop i line)) ≡ at + length (digits_of (drop at line))) where
  -- no digit is left
  pub all_read : digits_of (drop i line) ≡ [] → value ≤ most → checked (plain (take (i - at) (drop at line))) value i ≡ number_at most line at
  unfolding number_at value_from
  all_read none low =
      let ds = digits_of (drop at line) in
      let v : value_from 0 ds ≡ value = sym same ∙ ap (value_from value) none in
      let n : at + length ds ≡ i = sym passed ∙ omega (arith, ap (λ (l : List ℕ). length l) none) in
      let k : i - at ≡ length ds = omega (arith, n) in
      ap (λ (j : ℕ). checked (plain (take j (drop at line))) value i) k
      ∙ ap (λ (l : List ℕ). checked (plain l) value i) (take-digits (drop at line))
      ∙ ap (λ (t : Bool). checked t value i) (sym (and-true (plain ds)) ∙ ap (λ (t : Bool). plain ds && t) (sym (le-leb value most low)))
      ∙ ap (λ (w : ℕ). checked (plain ds && leb w most) w i) (sym v)
      ∙ ap (λ (j : ℕ). checked (plain ds && leb (value_from 0 ds) most) (value_from 0 ds) j) (sym n)

-- the digits make too much already
pub too_much : (most at : ℕ) (line : List ℕ) (value : ℕ) (cs : List ℕ) → value_from value cs ≡ value_from 0 (digits_of (drop at line)) → most < value → wrong ≡ number_at most line at
unfolding number_at
too_much most at line value cs same high =
    let ds = digits_of (drop at line) in
    let over : most < value_from 0 ds = omega (arith, same, value_stays value cs, high) in
    sym (ap (λ (t : Bool). checked (plain ds && t) (value_from 0 ds) (at + length ds)) (lt-leb (value_from 0 ds) most over)
    ∙ ap (λ (t : Bool). checked t (value_from 0 ds) (at + length ds)) (and-false (plain ds)))

-- ---- what is read

pub number_bound : (most at : ℕ) (line : List ℕ) → (number_at most line at).value ≤ most
unfolding number_at
number_bound most at line = go (plain (digits_of (drop at line)) && leb (value_from 0 (digits_of (drop at line))) most) refl
  where
    go : (t : Bool) → plain (digits_of (drop at line)) && leb (value_from 0 (digits_of (drop at line))) most ≡ t → (checked t (value_from 0 (digits_of (drop at line))) (at + length (digits_of (drop at line)))).value ≤ most
    go true e = leb-true _ _ (&&-right (plain (digits_of (drop at line))) (leb (value_from 0 (digits_of (drop at line))) most) e)
    go false e = omega arith

numeral-is-read : (most n : ℕ) (before after : List ℕ) → n ≤ most → digits_of after ≡ []
    → number_at most (before ++ (numeral n ++ after)) (length before) ≡ right n (length before + length (numeral n))
unfolding number_at
numeral-is-read most n before after h none =
    let there : digits_of (drop (length before) (before ++ (numeral n ++ after))) ≡ numeral n =
    ap digits_of (drop-append_seam before (numeral n ++ after)) ∙ digits-numeral n after ∙ ap (λ (l : List ℕ). numeral n ++ l) none ∙ append-nil (numeral n) in
    rw (there, plain-numeral n, value-numeral n, le-leb n most h)

-- after all digits stands none
rest-none : (xs : List ℕ) → digits_of (drop (length (digits_of xs)) xs) ≡ []
unfolding digits_of
rest-none [] = refl
rest-none (c ∷ cs) = go (eqb (digit_of c) 10) refl (rest-none cs)
  where
    go : (t : Bool) → eqb (digit_of c) 10 ≡ t → digits_of (drop (length (digits_of cs)) cs) ≡ [] → digits_of (drop (length (digits_of (c ∷ cs))) (c ∷ cs)) ≡ []
    go true e r = let s = digits-stop c cs (eqb-true _ _ e) in rw s s
    go false e r = rw (digits-go c cs (eqb-false _ _ e)) r

read-is-numeral : (most at : ℕ) (line : List ℕ) → (number_at most line at).ok ≡ true
    → (take ((number_at most line at).next - at) (drop at line) ≡ numeral (number_at most line at).value)
    × (digits_of (drop (number_at most line at).next line) ≡ [])
    × ((number_at most line at).value ≤ most)
unfolding number_at
read-is-numeral most at line = go (plain (digits_of (drop at line)) && leb (value_from 0 (digits_of (drop at line))) most) refl
  where
    go : (t : Bool) → plain (digits_of (drop at line)) && leb (value_from 0 (digits_of (drop at line))) most ≡ t → (checked t (value_from 0 (digits_of (drop at line))) (at + length (digits_of (drop at line)))).ok ≡ true
        → (take ((checked t (value_from 0 (digits_of (drop at line))) (at + length (digits_of (drop at line)))).next - at) (drop at line) ≡ numeral (checked t (value_from 0 (digits_of (drop at line))) (at + length (digits_of (drop at line)))).value)
        × (digits_of (drop (checked t (value_from 0 (digits_of (drop at line))) (at + length (digits_of (drop at line)))).next line) ≡ [])
        × ((checked t (value_from 0 (digits_of (drop at line))) (at + length (digits_of (drop at line)))).value ≤ most)
    go true e ok =
        let size : at + length (digits_of (drop at line)) - at ≡ length (digits_of (drop at line)) = omega arith in (
          ap (λ (n : ℕ). take n (drop at line)) size ∙ take-digits (drop at line) ∙ sym (numeral-back (drop at line) (&&-left (plain (digits_of (drop at line))) (leb (value_from 0 (digits_of (drop at line))) most) e)),
          ap digits_of (sym (drop-drop (length (digits_of (drop at line))) at line)) ∙ rest-none (drop at line),
          leb-true _ _ (&&-right (plain (digits_of (drop at line))) (leb (value_from 0 (digits_of (drop at line))) most) e),
        )
    go false e ok = absurd (true≢false (sym ok))

pub reads-numbers : ReadsNumbers
reads-numbers = record { numeral-is-read = numeral-is-read; read-is-numeral = read-is-numeral }

-- ---- the number after another

module _ (most : ℕ) (line : List ℕ) (n : Number) where
  pub behind-wrong : n.ok ≡ false → wrong ≡ behind most line n
  unfolding behind
  behind-wrong e = rw e

  pub behind-other : (get_or line n.next 0 ≡ 32 → ⊥) → wrong ≡ behind most line n
  unfolding behind
  behind-other o = rw (ne_eqb (get_or line n.next 0) 32 o, and-false n.ok)

  pub behind-end : length line ≤ n.next → wrong ≡ behind most line n
  behind-end h = behind-other (λ e. omega (arith, e, get_or-eq_default line 0 h))

  pub behind-blank : n.ok ≡ true → get_or line n.next 0 ≡ 32 → number_at most line (n.next + 1) ≡ behind most line n
  unfolding behind
  behind-blank e b = rw (e, eq-eqb (get_or line n.next 0) 32 b)
