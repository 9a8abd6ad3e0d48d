-- Laws of reading numbers. Assumes nothing.
use Rattle.std.proofs.Common.{Option, Some, None}
use Rattle.std.specs.Bool.{then_some}
use mathlib.Core.Path.{◌≡◌, refl, sym, ap, ◌∙◌, subst}
use mathlib.Core.Bool.{Bool, true, false, cond, ◌&&◌}
use mathlib.Core.List.{List, [], ◌∷◌, ◌++◌, append-nil}
use Prim.Native.Nat.{ℕ, suc, ◌+◌, ◌-◌, ◌*◌, ◌≤◌, ◌<◌}
use native.Mathlib.Nat.{add-zero}
use native.Mathlib.Numerals.{add-one}
use native.Mathlib.Omega.{arith}
use borrow.Author.Tests.{eqb-true, eq-eqb, le-leb, lt-leb, leb-true, leb-false}
use lib.ListN.{length, take, drop, get_or, length-take, length-drop, drop_of_length-le, get_or-eq_default, take-append-drop}
use lib.Seq.{drop-cons, get_or-take, drop-append_seam, drop-drop, get_or-drop}
use lib.Dec.{eqb, leb}
use Rattle.lists.proofs.Bool.{&&-left, &&-right}
use Rattle.fields.specs.declared.number.Number.{Number}
use Rattle.fields.specs.Hex.{hex_digits, hex_numeral, hex_value, digits_of, value_from, plain, most_number, right, checked, digits_at, number_at, number_after}
use Rattle.fields.specs.Written.{blank_numeral}
use Rattle.fields.proofs.HexLaws.{digits-stop, digits-go, value-cons, digits-digits, value-digits, plain-digits, digits-back}

pub and-true : (t : Bool) → t && true ≡ t
and-true true = refl
and-true false = refl

pub and-false : (t : Bool) → t && false ≡ false
and-false true = refl
and-false false = refl

-- ---- what stands at an index of a text

module _ (text : List ℕ) (i : ℕ) where
  pub here : i < length text → drop i text ≡ get_or text i 0 ∷ drop (i + 1) text
  here h = drop-cons text i 0 h ∙ ap (λ (n : ℕ). get_or text i 0 ∷ drop n text) (sym (add-one i))

  pub stands-first : (x : ℕ) (xs : List ℕ) → drop i text ≡ x ∷ xs → get_or text i 0 ≡ x
  stands-first x xs e =
      ap (λ (n : ℕ). get_or text n 0) (sym (add-zero i)) ∙ sym (get_or-drop i text 0 0) ∙ ap (λ (l : List ℕ). get_or l 0 0) e

  pub stands-rest : (x : ℕ) (xs : List ℕ) → drop i text ≡ x ∷ xs → drop (i + 1) text ≡ xs
  stands-rest x xs e = sym (drop-drop 1 i text) ∙ ap (λ (l : List ℕ). drop 1 l) e

  pub stands_after : (xs ys : List ℕ) → drop i text ≡ xs ++ ys → drop (i + length xs) text ≡ ys
  stands_after xs ys e = sym (drop-drop (length xs) i text) ∙ ap (λ (l : List ℕ). drop (length xs) l) e ∙ drop-append_seam xs ys

  -- a character other than 0 is within the text
  pub stands-within : 1 ≤ get_or text i 0 → i < length text
  stands-within h = go (leb (length text) i) refl
    where
      go : (t : Bool) → leb (length text) i ≡ t → i < length text
      go true e = absurd (omega (arith, h, get_or-eq_default text 0 (leb-true (length text) i e)))
      go false e = omega (arith, leb-false (length text) i e)

-- the part of a text from an index on
module _ (text : List ℕ) (at : ℕ) where
  pub part-long : length (take (length text - at) (drop at text)) ≡ length text - at
  part-long = simp (length-take, length-drop) (omega arith)

  pub part-here : (k i : ℕ) → k < length (take (length text - at) (drop at text)) → i ≡ at + k
      → get_or (take (length text - at) (drop at text)) k 0 ≡ get_or text i 0
  part-here k i h e =
      get_or-take (length text - at) (drop at text) k 0 (omega (arith, h, part-long))
      ∙ get_or-drop at text k 0
      ∙ ap (λ (n : ℕ). get_or text n 0) (sym e)

-- ---- a turn of the loop that reads digits

module _ (text : List ℕ) (i : ℕ) (h : i < length text) where
  pub stops-here : hex_value (get_or text i 0) ≡ 16 → digits_of (drop i text) ≡ []
  stops-here e = ap digits_of (here text i h) ∙ digits-stop (get_or text i 0) (drop (i + 1) text) e

  goes_on : (hex_value (get_or text i 0) ≡ 16 → ⊥) → digits_of (drop i text) ≡ get_or text i 0 ∷ digits_of (drop (i + 1) text)
  goes_on n = ap digits_of (here text i h) ∙ digits-go (get_or text i 0) (drop (i + 1) text) n

  pub value-turn : (v : ℕ) → (hex_value (get_or text i 0) ≡ 16 → ⊥) → value_from v (digits_of (drop i text)) ≡ value_from (16 * v + hex_value (get_or text i 0)) (digits_of (drop (i + 1) text))
  value-turn v n = ap (value_from v) (goes_on n) ∙ value-cons v (get_or text i 0) (digits_of (drop (i + 1) text))

  pub length-turn : (hex_value (get_or text i 0) ≡ 16 → ⊥) → i + length (digits_of (drop i text)) ≡ i + 1 + length (digits_of (drop (i + 1) text))
  length-turn n = omega (arith, ap (λ (l : List ℕ). length l) (goes_on n))

pub stops_end : (text : List ℕ) (i : ℕ) → length text ≤ i → digits_of (drop i text) ≡ []
unfolding digits_of
stops_end text i h = rw (drop_of_length-le text h)

pub some_checked : (t : Bool) (v n : ℕ) → then_some t (record { value = v; next = n }) ≡ checked t v n
some_checked true v n = refl
some_checked false v n = refl

-- ---- what the digits passed make

take-digits : (xs : List ℕ) → take (length (digits_of xs)) xs ≡ digits_of xs
unfolding digits_of
take-digits [] = refl
take-digits (c ∷ cs) = go (eqb (hex_value c) 16) (take-digits cs)
  where
    go : (t : Bool) → take (length (digits_of cs)) cs ≡ digits_of cs
        → take (length (cond {A = List ℕ} t [] (c ∷ digits_of cs))) (c ∷ cs) ≡ cond t [] (c ∷ digits_of cs)
    go true r = refl
    go false r = ap (λ (l : List ℕ). c ∷ l) r

value_stays : (v : ℕ) (cs : List ℕ) → v ≤ value_from v cs
unfolding value_from
value_stays v [] = omega arith
value_stays v (c ∷ cs) = omega (arith, value_stays (16 * v + hex_value c) cs)

module _ (at : ℕ) (text : List ℕ) (value i : ℕ)
    (same : value_from value (digits_of (drop i text)) ≡ value_from 0 (digits_of (drop at text)))
    (passed : i + length (digits_of (drop i text)) ≡ at + length (digits_of (drop at text))) where
  -- no digit is left
  pub all_read : digits_of (drop i text) ≡ [] → value ≤ most_number → checked (plain (take (i - at) (drop at text))) value i ≡ digits_at text at
  unfolding digits_at value_from
  all_read none low =
      let ds = digits_of (drop at text) in
      let v : value_from 0 ds ≡ value = sym same ∙ ap (value_from value) none in
      let n : at + length ds ≡ i = sym passed ∙ omega (arith, ap (λ (l : List ℕ). length l) none) in
      let k : i - at ≡ length ds = omega (arith, n) in
      ap (λ (j : ℕ). checked (plain (take j (drop at text))) value i) k
      ∙ ap (λ (l : List ℕ). checked (plain l) value i) (take-digits (drop at text))
      ∙ ap (λ (t : Bool). checked t value i) (sym (and-true (plain ds)) ∙ ap (λ (t : Bool). plain ds && t) (sym (le-leb value most_number low)))
      ∙ ap (λ (w : ℕ). checked (plain ds && leb w most_number) w i) (sym v)
      ∙ ap (λ (j : ℕ). checked (plain ds && leb (value_from 0 ds) most_number) (value_from 0 ds) j) (sym n)

-- the digits make too much already
pub too_much : (at : ℕ) (text : List ℕ) (value : ℕ) (cs : List ℕ) → value_from value cs ≡ value_from 0 (digits_of (drop at text)) → most_number < value → None ≡ digits_at text at
unfolding digits_at
too_much at text value cs same high =
    let ds = digits_of (drop at text) in
    let over : most_number < value_from 0 ds = omega (arith, same, value_stays value cs, high) in
    sym (ap (λ (t : Bool). checked (plain ds && t) (value_from 0 ds) (at + length ds)) (lt-leb (value_from 0 ds) most_number over)
    ∙ ap (λ (t : Bool). checked t (value_from 0 ds) (at + length ds)) (and-false (plain ds)))

-- ---- the number at an index

module _ (text : List ℕ) (at : ℕ) where
  number_digits : get_or text at 0 ≡ 48 → get_or text (at + 1) 0 ≡ 120 → number_at text at ≡ digits_at text (at + 2)
  unfolding number_at
  number_digits e f = rw (eq-eqb (get_or text at 0) 48 e, eq-eqb (get_or text (at + 1) 0) 120 f)

  after-blank : get_or text at 0 ≡ 32 → number_after text at ≡ number_at text (at + 1)
  unfolding number_after
  after-blank e = rw (eq-eqb (get_or text at 0) 32 e)

-- ---- a numeral is read as its number

digits-are-read : (text : List ℕ) (at n : ℕ) (after : List ℕ) → drop at text ≡ hex_digits n ++ after → n < 4294967296 → digits_of after ≡ []
    → digits_at text at ≡ right n (at + length (hex_digits n))
unfolding digits_at
digits-are-read text at n after e h none =
    let there : digits_of (drop at text) ≡ hex_digits n =
    ap digits_of e ∙ digits-digits n after ∙ ap (λ (l : List ℕ). hex_digits n ++ l) none ∙ append-nil (hex_digits n) in
    rw (there, plain-digits n, value-digits n, le-leb n most_number (omega arith))

pub numeral-is-read : (text : List ℕ) (at n : ℕ) (after : List ℕ) → drop at text ≡ hex_numeral n ++ after → n < 4294967296 → digits_of after ≡ []
    → number_at text at ≡ right n (at + length (hex_numeral n))
unfolding hex_numeral
numeral-is-read text at n after e h none =
    let rest = stands-rest text at 48 (120 ∷ (hex_digits n ++ after)) e in
    let two : at + 1 + 1 ≡ at + 2 = omega arith in
    let digits : drop (at + 2) text ≡ hex_digits n ++ after = ap (λ (k : ℕ). drop k text) (sym two) ∙ stands-rest text (at + 1) 120 (hex_digits n ++ after) rest in
    let next : at + 2 + length (hex_digits n) ≡ at + suc (suc (length (hex_digits n))) = omega arith in
    number_digits text at (stands-first text at 48 _ e) (stands-first text (at + 1) 120 _ rest)
    ∙ digits-are-read text (at + 2) n after digits h none
    ∙ ap (right n) next

pub blank-is-read : (text : List ℕ) (at n : ℕ) (after : List ℕ) → drop at text ≡ blank_numeral n ++ after → n < 4294967296 → digits_of after ≡ []
    → number_after text at ≡ right n (at + length (blank_numeral n))
unfolding blank_numeral
blank-is-read text at n after e h none =
    let next : at + 1 + length (hex_numeral n) ≡ at + suc (length (hex_numeral n)) = omega arith in
    after-blank text at (stands-first text at 32 _ e)
    ∙ numeral-is-read text (at + 1) n after (stands-rest text at 32 _ e) h none
    ∙ ap (right n) next

-- ---- and nothing else is

-- these digits, this numeral or this numeral after a blank were read: they stand there
pub record Stands (write : ℕ → List ℕ) (text : List ℕ) (at : ℕ) (n : Number) : Type 0 where
  pub text-here : drop at text ≡ write n.value ++ drop n.next text
  pub fits : n.value < 4294967296
  pub next-is : n.next ≡ at + length (write n.value)

-- what a test lets through was there, and the test was passed
pub only : {A : Type 0} (t : Bool) (o : Option A) (x : A) → cond t o None ≡ Some x → (t ≡ true) × (o ≡ Some x)
only true o x e = (refl, e)
only false o x e = absurd (none_some x e)
  where
    none_some : {A : Type 0} (x : A) → None ≡ Some x → ⊥
    none_some x e = cc

pub some_only : {A : Type 0} (t : Bool) (x y : A) → cond t (Some x) None ≡ Some y → (t ≡ true) × (x ≡ y)
some_only t x y e = let found = only t (Some x) y e in let is : Some x ≡ Some y = found.1 in (found.0, cc)

split-digits : (at : ℕ) (text : List ℕ) → drop at text ≡ digits_of (drop at text) ++ drop (at + length (digits_of (drop at text))) text
split-digits at text =
    let ds = digits_of (drop at text) in
    sym (take-append-drop (length ds) (drop at text))
    ∙ ap (λ (l : List ℕ). l ++ drop (length ds) (drop at text)) (take-digits (drop at text))
    ∙ ap (λ (l : List ℕ). ds ++ l) (drop-drop (length ds) at text)

digits-stand : (text : List ℕ) (at : ℕ) (n : Number) → digits_at text at ≡ Some n → Stands hex_digits text at n
unfolding digits_at
digits-stand text at n e =
    let ds = digits_of (drop at text) in
    let v = value_from 0 ds in
    let t = plain ds && leb v most_number in
    let m : Number = record { value = v; next = at + length ds } in
    let found = some_only t m n e in
    let back : hex_digits v ≡ ds = digits-back (drop at text) (&&-left (plain ds) (leb v most_number) found.0) in
    let stands : Stands hex_digits text at m = record {
      text-here = split-digits at text ∙ ap (λ (l : List ℕ). l ++ drop (at + length ds) text) (sym back);
      fits = omega (arith, leb-true v most_number (&&-right (plain ds) (leb v most_number) found.0));
      next-is = ap (λ (l : List ℕ). at + length l) (sym back);
    } in
    subst (λ (x : Number). Stands hex_digits text at x) found.1 stands

pub numeral-stands : (text : List ℕ) (at : ℕ) (n : Number) → number_at text at ≡ Some n → Stands hex_numeral text at n
unfolding number_at hex_numeral
numeral-stands text at n e =
    let found = only (eqb (get_or text at 0) 48 && eqb (get_or text (at + 1) 0) 120) (digits_at text (at + 2)) n e in
    let one : get_or text at 0 ≡ 48 = eqb-true _ _ (&&-left (eqb (get_or text at 0) 48) (eqb (get_or text (at + 1) 0) 120) found.0) in
    let two : get_or text (at + 1) 0 ≡ 120 = eqb-true _ _ (&&-right (eqb (get_or text at 0) 48) (eqb (get_or text (at + 1) 0) 120) found.0) in
    let s = digits-stand text (at + 2) n found.1 in
    let sum : at + 1 + 1 ≡ at + 2 = omega arith in
    record {
      text-here =
          here text at (stands-within text at (omega (arith, one)))
          ∙ ap (λ (k : ℕ). k ∷ drop (at + 1) text) one
          ∙ ap (λ (l : List ℕ). 48 ∷ l) (here text (at + 1) (stands-within text (at + 1) (omega (arith, two))))
          ∙ ap (λ (k : ℕ). 48 ∷ k ∷ drop (at + 1 + 1) text) two
          ∙ ap (λ (k : ℕ). 48 ∷ 120 ∷ drop k text) sum
          ∙ ap (λ (l : List ℕ). 48 ∷ 120 ∷ l) s.text-here;
      fits = s.fits;
      next-is = s.next-is ∙ omega arith;
    }

pub blank_stands : (text : List ℕ) (at : ℕ) (n : Number) → number_after text at ≡ Some n → Stands blank_numeral text at n
unfolding number_after blank_numeral
blank_stands text at n e =
    let found = only (eqb (get_or text at 0) 32) (number_at text (at + 1)) n e in
    let one : get_or text at 0 ≡ 32 = eqb-true _ _ found.0 in
    let s = numeral-stands text (at + 1) n found.1 in
    record {
      text-here =
          here text at (stands-within text at (omega (arith, one)))
          ∙ ap (λ (k : ℕ). k ∷ drop (at + 1) text) one
          ∙ ap (λ (l : List ℕ). 32 ∷ l) s.text-here;
      fits = s.fits;
      next-is = s.next-is ∙ omega arith;
    }
