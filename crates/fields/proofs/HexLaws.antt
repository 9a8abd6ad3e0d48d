-- Laws of hex numerals: how they are made, what they are read as, and how long they are. Assumes nothing.
use mathlib.Core.Path.{◌≡◌, refl, sym, ap, ◌∙◌}
use mathlib.Core.Bool.{Bool, true, false, cond, true≢false}
use mathlib.Core.List.{List, [], ◌∷◌, ◌++◌, append_assoc, append-nil}
use Prim.Native.Nat.{ℕ, zero, suc, ◌+◌, ◌*◌, ◌/◌, ◌%◌, ◌≤◌, ◌<◌}
use native.Mathlib.Nat.{not-suc-le-zero}
use native.Mathlib.Omega.{arith}
use borrow.Author.Tests.{eqb-true, eqb-false, eq-eqb, ltb-true, ltb-false, lt-ltb, le-ltb, ne_eqb}
use lib.ListN.{length, get_or, length-append, get_or-append}
use lib.Dec.{ltb, eqb}
use Rattle.digits.proofs.DigitLaws.{value-digit, digit-back}
use Rattle.fields.specs.Hex.{hex_digit, digits_in, hex_digits, hex_numeral, hex_value, digits_of, value_from, plain}

-- ---- one digit, or more

by_size : {P : Type 0} (n : ℕ) → (n < 16 → P) → (16 ≤ n → P) → P
by_size {P} n f g = go (ltb n 16) refl
  where
    go : (t : Bool) → ltb n 16 ≡ t → P
    go true e = f (ltb-true n 16 e)
    go false e = g (ltb-false n 16 e)

-- what holds of one digit, and of a number if it holds of the number without its last digit, holds of all
by_digits : (P : ℕ → Type 0) → ((n : ℕ) → n < 16 → P n) → ((n : ℕ) → 16 ≤ n → P (n / 16) → P n) → (n : ℕ) → P n
by_digits P small large n = go (suc n) n (omega arith)
  where
    go : (k m : ℕ) → m < k → P m
    go zero m h = absurd (not-suc-le-zero h)
    go (suc k) m h = by_size m (small m) (λ low. large m low (go k (m / 16) (omega (arith, low, h))))

-- ---- how digits are made

enough : (j k n : ℕ) → n < j → n < k → digits_in j n ≡ digits_in k n
unfolding digits_in
enough zero k n h i = absurd (not-suc-le-zero h)
enough (suc j) zero n h i = absurd (not-suc-le-zero i)
enough (suc j) (suc k) n h i = go (ltb n 16) refl (λ low. enough j k (n / 16) (omega (arith, low, h)) (omega (arith, low, i)))
  where
    go : (t : Bool) → ltb n 16 ≡ t → (16 ≤ n → digits_in j (n / 16) ≡ digits_in k (n / 16))
        → cond (ltb n 16) (hex_digit n ∷ []) (digits_in j (n / 16) ++ (hex_digit (n % 16) ∷ [])) ≡ cond (ltb n 16) (hex_digit n ∷ []) (digits_in k (n / 16) ++ (hex_digit (n % 16) ∷ []))
    go true e r = rw e
    go false e r = rw e (ap (λ (l : List ℕ). l ++ (hex_digit (n % 16) ∷ [])) (r (ltb-false n 16 e)))

pub digits-small : (n : ℕ) → n < 16 → hex_digits n ≡ hex_digit n ∷ []
unfolding hex_digits digits_in
digits-small n h = rw (lt-ltb n 16 h)

pub digits-large : (n : ℕ) → 16 ≤ n → hex_digits n ≡ hex_digits (n / 16) ++ (hex_digit (n % 16) ∷ [])
unfolding hex_digits digits_in
digits-large n h =
    rw (le-ltb n 16 h) (ap (λ (l : List ℕ). l ++ (hex_digit (n % 16) ∷ [])) (enough n (suc (n / 16)) (n / 16) (omega (arith, h)) (omega arith)))

-- one digit more
digits_more : (v d : ℕ) → 1 ≤ v → d < 16 → hex_digits (16 * v + d) ≡ hex_digits v ++ (hex_digit d ∷ [])
digits_more v d h i =
    let n = 16 * v + d in
    let q : n / 16 ≡ v = omega (arith, h, i) in
    let r : n % 16 ≡ d = omega (arith, h, i) in
    digits-large n (omega (arith, h))
    ∙ ap (λ (k : ℕ). hex_digits k ++ (hex_digit (n % 16) ∷ [])) q
    ∙ ap (λ (k : ℕ). hex_digits v ++ (hex_digit k ∷ [])) r

-- ---- one digit

zero-digit : hex_digit 0 ≡ 48
unfolding hex_digit
zero-digit = refl

-- only 0 has the digit 0
digit-zero : (d : ℕ) → d < 16 → hex_digit d ≡ 48 → d ≡ 0
digit-zero d h e = sym (value-digit d h) ∙ ap hex_value (e ∙ sym zero-digit) ∙ value-digit 0 (omega arith)

digits-one : (d : ℕ) (cs : List ℕ) → d < 16 → digits_of (hex_digit d ∷ cs) ≡ hex_digit d ∷ digits_of cs
unfolding digits_of
digits-one d cs h = rw (value-digit d h, ne_eqb d 16 (λ e. omega (arith, e, h)))

-- ---- what digits are read as

-- all their characters are digits
pub digits-digits : (n : ℕ) (cs : List ℕ) → digits_of (hex_digits n ++ cs) ≡ hex_digits n ++ digits_of cs
digits-digits = by_digits (λ (n : ℕ). (cs : List ℕ) → digits_of (hex_digits n ++ cs) ≡ hex_digits n ++ digits_of cs)
    (λ n h cs. rw (digits-small n h) (digits-one n cs h))
    (λ n h r cs.
    let last = hex_digit (n % 16) ∷ [] in
    ap (λ (l : List ℕ). digits_of (l ++ cs)) (digits-large n h)
    ∙ ap digits_of (append_assoc (hex_digits (n / 16)) last cs)
    ∙ r (hex_digit (n % 16) ∷ cs)
    ∙ ap (λ (l : List ℕ). hex_digits (n / 16) ++ l) (digits-one (n % 16) cs (omega arith))
    ∙ sym (append_assoc (hex_digits (n / 16)) last (digits_of cs))
    ∙ ap (λ (l : List ℕ). l ++ digits_of cs) (sym (digits-large n h)))

value_from-snoc : (v : ℕ) (xs : List ℕ) (c : ℕ) → value_from v (xs ++ (c ∷ [])) ≡ 16 * value_from v xs + hex_value c
unfolding value_from
value_from-snoc v [] c = refl
value_from-snoc v (x ∷ xs) c = value_from-snoc (16 * v + hex_value x) xs c

value-one : (d : ℕ) → d < 16 → value_from 0 (hex_digit d ∷ []) ≡ d
unfolding value_from
value-one d h = omega (arith, value-digit d h)

pub value-digits : (n : ℕ) → value_from 0 (hex_digits n) ≡ n
value-digits = by_digits (λ (n : ℕ). value_from 0 (hex_digits n) ≡ n)
    (λ n h. ap (value_from 0) (digits-small n h) ∙ value-one n h)
    (λ n h r. ap (value_from 0) (digits-large n h)
    ∙ value_from-snoc 0 (hex_digits (n / 16)) (hex_digit (n % 16))
    ∙ omega (arith, r, value-digit (n % 16) (omega arith)))

-- there is a first digit, and it is no zero unless the number is
Headed : ℕ → Type 0
Headed n = (1 ≤ length (hex_digits n)) × (1 ≤ n → eqb (get_or (hex_digits n) 0 0) 48 ≡ false)

headed : (n : ℕ) → Headed n
unfolding Headed
headed = by_digits Headed
    (λ n h. rw (digits-small n h) (omega arith, λ some. ne_eqb (hex_digit n) 48 (λ e. omega (arith, digit-zero n h e, some))))
    (λ n h r.
    let rest = hex_digit (n % 16) ∷ [] in
    rw (digits-large n h) (
      omega (arith, length-append (hex_digits (n / 16)) rest),
      λ some. ap (λ (c : ℕ). eqb c 48) (get_or-append (hex_digits (n / 16)) rest 0 0 (omega (arith, r.0))) ∙ r.1 (omega (arith, h)),
    ))

pub some-digits : (n : ℕ) → 1 ≤ length (hex_digits n)
unfolding Headed
some-digits n = (headed n).0

plain-head : (xs : List ℕ) → 1 ≤ length xs → eqb (get_or xs 0 0) 48 ≡ false → plain xs ≡ true
unfolding plain
plain-head [] h e = absurd (not-suc-le-zero h)
plain-head (c ∷ []) h e = refl
plain-head (c ∷ d ∷ ds) h e = rw e

plain-one : (c : ℕ) → plain (c ∷ []) ≡ true
unfolding plain
plain-one c = refl

pub plain-digits : (n : ℕ) → plain (hex_digits n) ≡ true
unfolding Headed
plain-digits n =
    by_size n (λ h. ap plain (digits-small n h) ∙ plain-one (hex_digit n))
    (λ h. plain-head (hex_digits n) (headed n).0 ((headed n).1 (omega (arith, h))))

-- ---- digits that are read are those of what they are read as

module _ (c : ℕ) (cs : List ℕ) where
  pub digits-stop : hex_value c ≡ 16 → digits_of (c ∷ cs) ≡ []
  unfolding digits_of
  digits-stop e = rw (eq-eqb (hex_value c) 16 e)

  pub digits-go : (hex_value c ≡ 16 → ⊥) → digits_of (c ∷ cs) ≡ c ∷ digits_of cs
  unfolding digits_of
  digits-go n = rw (ne_eqb (hex_value c) 16 n)

by-digit : {P : Type 0} (c : ℕ) → (hex_value c ≡ 16 → P) → ((hex_value c ≡ 16 → ⊥) → P) → P
by-digit {P} c f g = go (eqb (hex_value c) 16) refl
  where
    go : (t : Bool) → eqb (hex_value c) 16 ≡ t → P
    go true e = f (eqb-true _ _ e)
    go false e = g (eqb-false _ _ e)

pub no-digits : digits_of [] ≡ []
unfolding digits_of
no-digits = refl

value_none : (v : ℕ) → value_from v [] ≡ v
unfolding value_from
value_none v = refl

pub value-cons : (v c : ℕ) (cs : List ℕ) → value_from v (c ∷ cs) ≡ value_from (16 * v + hex_value c) cs
unfolding value_from
value-cons v c cs = refl

-- after digits that make a number other than 0
digits-behind : (v : ℕ) (xs : List ℕ) → 1 ≤ v → hex_digits (value_from v (digits_of xs)) ≡ hex_digits v ++ digits_of xs
digits-behind v [] h =
    ap (λ (l : List ℕ). hex_digits (value_from v l)) no-digits
    ∙ ap hex_digits (value_none v)
    ∙ sym (append-nil (hex_digits v))
    ∙ ap (λ (l : List ℕ). hex_digits v ++ l) (sym no-digits)
digits-behind v (c ∷ cs) h =
    by-digit c
    (λ e. rw (digits-stop c cs e) (ap hex_digits (value_none v) ∙ sym (append-nil (hex_digits v))))
    (λ n.
    let d = digit-back c n in
    rw (digits-go c cs n)
    (ap hex_digits (value-cons v c (digits_of cs))
    ∙ digits-behind (16 * v + hex_value c) cs (omega (arith, h))
    ∙ ap (λ (l : List ℕ). l ++ digits_of cs) (digits_more v (hex_value c) h d.0)
    ∙ append_assoc (hex_digits v) (hex_digit (hex_value c) ∷ []) (digits_of cs)
    ∙ ap (λ (k : ℕ). hex_digits v ++ (k ∷ digits_of cs)) d.1))

-- a zero stands alone
zero-alone : (c : ℕ) (ds : List ℕ) → plain (c ∷ ds) ≡ true → c ≡ 48 → ds ≡ []
unfolding plain
zero-alone c [] p e = refl
zero-alone c (d ∷ ds) p e = absurd (true≢false (sym p ∙ rw e))

pub digits-back : (xs : List ℕ) → plain (digits_of xs) ≡ true → hex_digits (value_from 0 (digits_of xs)) ≡ digits_of xs
unfolding plain
digits-back [] p = absurd (true≢false (sym p ∙ ap plain no-digits))
digits-back (c ∷ cs) p =
    by-digit c
    (λ e. absurd (true≢false (sym p ∙ ap plain (digits-stop c cs e))))
    (λ n. rw (digits-go c cs n) (first n (digit-back c n) (rw (digits-go c cs n) at p) (eqb (hex_value c) 0) refl))
  where
    first : (hex_value c ≡ 16 → ⊥) → (hex_value c < 16) × (hex_digit (hex_value c) ≡ c) → plain (c ∷ digits_of cs) ≡ true → (t : Bool) → eqb (hex_value c) 0 ≡ t
        → hex_digits (value_from 0 (c ∷ digits_of cs)) ≡ c ∷ digits_of cs
    first n d q true e =
        let nought = eqb-true (hex_value c) 0 e in
        let alone = zero-alone c (digits_of cs) q (sym d.1 ∙ ap hex_digit nought ∙ zero-digit) in
        let is : value_from 0 (c ∷ []) ≡ hex_value c = value-cons 0 c [] ∙ value_none (16 * 0 + hex_value c) ∙ omega arith in
        rw alone (ap hex_digits is ∙ digits-small (hex_value c) d.0 ∙ ap (λ (k : ℕ). k ∷ []) d.1)
    first n d q false e =
        let some : 1 ≤ hex_value c = omega (arith, eqb-false (hex_value c) 0 e) in
        let is : 16 * 0 + hex_value c ≡ hex_value c = omega arith in
        ap hex_digits (value-cons 0 c (digits_of cs) ∙ ap (λ (v : ℕ). value_from v (digits_of cs)) is)
        ∙ digits-behind (hex_value c) cs some
        ∙ ap (λ (l : List ℕ). l ++ digits_of cs) (digits-small (hex_value c) d.0)
        ∙ ap (λ (k : ℕ). k ∷ digits_of cs) d.1

-- ---- lengths

pub one_less : (n : ℕ) → 16 ≤ n → length (hex_digits n) ≡ length (hex_digits (n / 16)) + 1
one_less n h = ap (λ (l : List ℕ). length l) (digits-large n h) ∙ length-append (hex_digits (n / 16)) (hex_digit (n % 16) ∷ [])

pub one-digit : (n : ℕ) → n < 16 → length (hex_digits n) ≡ 1
one-digit n h = ap (λ (l : List ℕ). length l) (digits-small n h)

-- a number of one digit is under 16, and one of more is not
pub one_alone : (n : ℕ) → length (hex_digits n) ≤ 1 → n < 16
one_alone n h = by_size n (λ low. low) (λ high. absurd (omega (arith, h, one_less n high, some-digits (n / 16))))

pub one_of_several : (n : ℕ) → 2 ≤ length (hex_digits n) → 16 ≤ n
one_of_several n h = by_size n (λ low. absurd (omega (arith, h, one-digit n low))) (λ high. high)

more-digits : (m b : ℕ) → 1 ≤ m → ((n : ℕ) → n < b → length (hex_digits n) ≤ m) → (n : ℕ) → n < 16 * b → length (hex_digits n) ≤ m + 1
more-digits m b some short n h =
    by_size n (λ low. omega (arith, one-digit n low, some)) (λ large. omega (arith, one_less n large, short (n / 16) (omega (arith, h))))

pub eight-digits : (n : ℕ) → n < 4294967296 → length (hex_digits n) ≤ 8
eight-digits =
    more-digits 7 268435456 (omega arith)
    (more-digits 6 16777216 (omega arith)
    (more-digits 5 1048576 (omega arith)
    (more-digits 4 65536 (omega arith)
    (more-digits 3 4096 (omega arith)
    (more-digits 2 256 (omega arith)
    (more-digits 1 16 (omega arith) (λ n h. omega (arith, one-digit n h))))))))

pub length-numeral : (n : ℕ) → n < 4294967296 → length (hex_numeral n) ≤ 10
unfolding hex_numeral
length-numeral n h = omega (arith, eight-digits n h)
