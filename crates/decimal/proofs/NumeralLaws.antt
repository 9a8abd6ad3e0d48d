-- Laws of numerals: how they are made, what they are read as, and how long they are. Assumes nothing.
use mathlib.Core.Path.{◌≡◌, refl, sym, ap, ◌∙◌, subst}
use mathlib.Core.Bool.{Bool, true, false, cond, true≢false}
use mathlib.Core.List.{List, [], ◌∷◌, ◌++◌, append_assoc, append-nil}
use Prim.Native.Nat.{ℕ, zero, suc, ◌+◌, ◌-◌, ◌*◌, ◌/◌, ◌%◌, ◌^◌, ◌≤◌, ◌<◌}
use native.Mathlib.Nat.{not-suc-le-zero}
use native.Mathlib.Omega.{arith}
use borrow.Author.Tests.{eqb-true, eqb-false, eq-eqb, ltb-true, ltb-false, lt-ltb, le-ltb, ne_eqb}
use lib.ListN.{length, get_or, length-append, get_or-append}
use lib.Dec.{ltb, eqb}
use lib.Pow.{pow-add}
use Rattle.io.specs.Digits.{hex_digit_ascii, last_digits, IsDigitCount}
use Rattle.lines.specs.Scan.{Put}
use Rattle.decimal.specs.Numeral.{numeral_in, numeral, field, digit_of, digits_of, value_from, plain}

-- ---- one digit, or more

by_size : {P : Type 0} (n : ℕ) → (n < 10 → P) → (10 ≤ n → P) → P
by_size {P} n f g = go (ltb n 10) refl
  where
    go : (t : Bool) → ltb n 10 ≡ t → P
    go true e = f (ltb-true n 10 e)
    go false e = g (ltb-false n 10 e)

-- what holds of one digit, and of a number if it holds of the number without its last digit, holds of all
by_digits : (P : ℕ → Type 0) → ((n : ℕ) → n < 10 → P n) → ((n : ℕ) → 10 ≤ n → P (n / 10) → P n) → (n : ℕ) → P n
by_digits P small large n = go (suc n) n (omega arith)
  where
    go : (k m : ℕ) → m < k → P m
    go zero m h = absurd (not-suc-le-zero h)
    go (suc k) m h = by_size m (small m) (λ low. large m low (go k (m / 10) (omega (arith, low, h))))

-- ---- how a numeral is made

enough : (j k n : ℕ) → n < j → n < k → numeral_in j n ≡ numeral_in k n
unfolding numeral_in
enough zero k n h i = absurd (not-suc-le-zero h)
enough (suc j) zero n h i = absurd (not-suc-le-zero i)
enough (suc j) (suc k) n h i = go (ltb n 10) refl (λ low. enough j k (n / 10) (omega (arith, low, h)) (omega (arith, low, i)))
  where
    go : (t : Bool) → ltb n 10 ≡ t → (10 ≤ n → numeral_in j (n / 10) ≡ numeral_in k (n / 10))
        → cond (ltb n 10) ((48 + n) ∷ []) (numeral_in j (n / 10) ++ ((48 + n % 10) ∷ [])) ≡ cond (ltb n 10) ((48 + n) ∷ []) (numeral_in k (n / 10) ++ ((48 + n % 10) ∷ []))
    go true e r = rw e
    go false e r = rw e (ap (λ (l : List ℕ). l ++ ((48 + n % 10) ∷ [])) (r (ltb-false n 10 e)))

pub numeral-small : (n : ℕ) → n < 10 → numeral n ≡ (48 + n) ∷ []
unfolding numeral numeral_in
numeral-small n h = rw (lt-ltb n 10 h)

numeral-large : (n : ℕ) → 10 ≤ n → numeral n ≡ numeral (n / 10) ++ ((48 + n % 10) ∷ [])
unfolding numeral numeral_in
numeral-large n h =
    rw (le-ltb n 10 h) (ap (λ (l : List ℕ). l ++ ((48 + n % 10) ∷ [])) (enough n (suc (n / 10)) (n / 10) (omega (arith, h)) (omega arith)))

-- one digit more
numeral-more : (v d : ℕ) → 1 ≤ v → d < 10 → numeral (10 * v + d) ≡ numeral v ++ ((48 + d) ∷ [])
numeral-more v d h i =
    let n = 10 * v + d in
    let q : n / 10 ≡ v = omega (arith, h, i) in
    let r : n % 10 ≡ d = omega (arith, h, i) in
    numeral-large n (omega (arith, h))
    ∙ ap (λ (k : ℕ). numeral k ++ ((48 + n % 10) ∷ [])) q
    ∙ ap (λ (k : ℕ). numeral v ++ ((48 + k) ∷ [])) r

-- ---- digits

digit_of-digit : (d : ℕ) → d < 10 → digit_of (48 + d) ≡ d
unfolding digit_of
digit_of-digit d h = rw (le-ltb (48 + d) 48 (omega arith), le-ltb 57 (48 + d) (omega (arith, h))) (omega arith)

module _ (c : ℕ) where
  pub digit_of-below : c < 48 → 10 ≡ digit_of c
  unfolding digit_of
  digit_of-below h = rw (lt-ltb c 48 h)

  pub digit_of-above : 48 ≤ c → 57 < c → 10 ≡ digit_of c
  unfolding digit_of
  digit_of-above l h = rw (le-ltb c 48 l, lt-ltb 57 c h)

  pub digit_of-among : 48 ≤ c → c ≤ 57 → c - 48 ≡ digit_of c
  unfolding digit_of
  digit_of-among l h = rw (le-ltb c 48 l, le-ltb 57 c h)

-- a digit is the character of its value
pub digit-back : (c : ℕ) → (digit_of c ≡ 10 → ⊥) → (digit_of c < 10) × (48 + digit_of c ≡ c)
unfolding digit_of
digit-back c = go (ltb c 48) refl (ltb 57 c) refl
  where
    go : (s : Bool) → ltb c 48 ≡ s → (t : Bool) → ltb 57 c ≡ t → (digit_of c ≡ 10 → ⊥) → (digit_of c < 10) × (48 + digit_of c ≡ c)
    go true e t i n = absurd (n (rw e))
    go false e true i n = absurd (n (rw (e, i)))
    go false e false i n = rw (e, i) (omega (arith, ltb-false c 48 e, ltb-false 57 c i), omega (arith, ltb-false c 48 e, ltb-false 57 c i))

digits-one : (d : ℕ) (cs : List ℕ) → d < 10 → digits_of ((48 + d) ∷ cs) ≡ (48 + d) ∷ digits_of cs
unfolding digits_of
digits-one d cs h = rw (digit_of-digit d h, ne_eqb d 10 (λ e. omega (arith, e, h)))

-- ---- what a numeral is read as

-- all its characters are digits
pub digits-numeral : (n : ℕ) (cs : List ℕ) → digits_of (numeral n ++ cs) ≡ numeral n ++ digits_of cs
digits-numeral = by_digits (λ (n : ℕ). (cs : List ℕ) → digits_of (numeral n ++ cs) ≡ numeral n ++ digits_of cs)
    (λ n h cs. rw (numeral-small n h) (digits-one n cs h))
    (λ n h r cs.
    let last = (48 + n % 10) ∷ [] in
    ap (λ (l : List ℕ). digits_of (l ++ cs)) (numeral-large n h)
    ∙ ap digits_of (append_assoc (numeral (n / 10)) last cs)
    ∙ r ((48 + n % 10) ∷ cs)
    ∙ ap (λ (l : List ℕ). numeral (n / 10) ++ l) (digits-one (n % 10) cs (omega arith))
    ∙ sym (append_assoc (numeral (n / 10)) last (digits_of cs))
    ∙ ap (λ (l : List ℕ). l ++ digits_of cs) (sym (numeral-large n h)))

value_from-snoc : (v : ℕ) (xs : List ℕ) (c : ℕ) → value_from v (xs ++ (c ∷ [])) ≡ 10 * value_from v xs + digit_of c
unfolding value_from
value_from-snoc v [] c = refl
value_from-snoc v (x ∷ xs) c = value_from-snoc (10 * v + digit_of x) xs c

value-one : (d : ℕ) → d < 10 → value_from 0 ((48 + d) ∷ []) ≡ d
unfolding value_from
value-one d h = omega (arith, digit_of-digit d h)

pub value-numeral : (n : ℕ) → value_from 0 (numeral n) ≡ n
value-numeral = by_digits (λ (n : ℕ). value_from 0 (numeral n) ≡ n)
    (λ n h. ap (value_from 0) (numeral-small n h) ∙ value-one n h)
    (λ n h r. ap (value_from 0) (numeral-large n h)
    ∙ value_from-snoc 0 (numeral (n / 10)) (48 + n % 10)
    ∙ omega (arith, r, digit_of-digit (n % 10) (omega arith)))

-- there is a first digit, and it is no zero unless the number is
Headed : ℕ → Type 0
Headed n = (1 ≤ length (numeral n)) × (1 ≤ n → eqb (get_or (numeral n) 0 0) 48 ≡ false)

headed : (n : ℕ) → Headed n
unfolding Headed
headed = by_digits Headed
    (λ n h. rw (numeral-small n h) (omega arith, λ some. ne_eqb (48 + n) 48 (λ e. omega (arith, e, some))))
    (λ n h r.
    let rest = (48 + n % 10) ∷ [] in
    rw (numeral-large n h) (
      omega (arith, length-append (numeral (n / 10)) rest),
      λ some. ap (λ (c : ℕ). eqb c 48) (get_or-append (numeral (n / 10)) rest 0 0 (omega (arith, r.0))) ∙ r.1 (omega (arith, h)),
    ))

plain-head : (xs : List ℕ) → 1 ≤ length xs → eqb (get_or xs 0 0) 48 ≡ false → plain xs ≡ true
unfolding plain
plain-head [] h e = absurd (not-suc-le-zero h)
plain-head (c ∷ []) h e = refl
plain-head (c ∷ d ∷ ds) h e = rw e

plain-one : (c : ℕ) → plain (c ∷ []) ≡ true
unfolding plain
plain-one c = refl

pub plain-numeral : (n : ℕ) → plain (numeral n) ≡ true
unfolding Headed
plain-numeral n =
    by_size n (λ h. ap plain (numeral-small n h) ∙ plain-one (48 + n))
    (λ h. plain-head (numeral n) (headed n).0 ((headed n).1 (omega (arith, h))))

-- ---- digits that are read are the numeral of what they are read as

module _ (c : ℕ) (cs : List ℕ) where
  pub digits-stop : digit_of c ≡ 10 → digits_of (c ∷ cs) ≡ []
  unfolding digits_of
  digits-stop e = rw (eq-eqb (digit_of c) 10 e)

  pub digits-go : (digit_of c ≡ 10 → ⊥) → digits_of (c ∷ cs) ≡ c ∷ digits_of cs
  unfolding digits_of
  digits-go n = rw (ne_eqb (digit_of c) 10 n)

by-digit : {P : Type 0} (c : ℕ) → (digit_of c ≡ 10 → P) → ((digit_of c ≡ 10 → ⊥) → P) → P
by-digit {P} c f g = go (eqb (digit_of c) 10) refl
  where
    go : (t : Bool) → eqb (digit_of c) 10 ≡ t → P
    go true e = f (eqb-true _ _ e)
    go false e = g (eqb-false _ _ e)

no-digits : digits_of [] ≡ []
unfolding digits_of
no-digits = refl

value_none : (v : ℕ) → value_from v [] ≡ v
unfolding value_from
value_none v = refl

pub value-cons : (v c : ℕ) (cs : List ℕ) → value_from v (c ∷ cs) ≡ value_from (10 * v + digit_of c) cs
unfolding value_from
value-cons v c cs = refl

-- after digits that make a number other than 0
numeral-behind : (v : ℕ) (xs : List ℕ) → 1 ≤ v → numeral (value_from v (digits_of xs)) ≡ numeral v ++ digits_of xs
numeral-behind v [] h =
    ap (λ (l : List ℕ). numeral (value_from v l)) no-digits
    ∙ ap numeral (value_none v)
    ∙ sym (append-nil (numeral v))
    ∙ ap (λ (l : List ℕ). numeral v ++ l) (sym no-digits)
numeral-behind v (c ∷ cs) h =
    by-digit c
    (λ e. rw (digits-stop c cs e) (ap numeral (value_none v) ∙ sym (append-nil (numeral v))))
    (λ n.
    let d = digit-back c n in
    rw (digits-go c cs n)
    (ap numeral (value-cons v c (digits_of cs))
    ∙ numeral-behind (10 * v + digit_of c) cs (omega (arith, h))
    ∙ ap (λ (l : List ℕ). l ++ digits_of cs) (numeral-more v (digit_of c) h d.0)
    ∙ append_assoc (numeral v) ((48 + digit_of c) ∷ []) (digits_of cs)
    ∙ ap (λ (k : ℕ). numeral v ++ (k ∷ digits_of cs)) d.1))

-- a zero stands alone
zero-alone : (c : ℕ) (ds : List ℕ) → plain (c ∷ ds) ≡ true → c ≡ 48 → ds ≡ []
unfolding plain
zero-alone c [] p e = refl
zero-alone c (d ∷ ds) p e = absurd (true≢false (sym p ∙ rw e))

pub numeral-back : (xs : List ℕ) → plain (digits_of xs) ≡ true → numeral (value_from 0 (digits_of xs)) ≡ digits_of xs
unfolding plain
numeral-back [] p = absurd (true≢false (sym p ∙ ap plain no-digits))
numeral-back (c ∷ cs) p =
    by-digit c
    (λ e. absurd (true≢false (sym p ∙ ap plain (digits-stop c cs e))))
    (λ n. rw (digits-go c cs n) (first n (digit-back c n) (rw (digits-go c cs n) at p) (eqb (digit_of c) 0) refl))
  where
    first : (digit_of c ≡ 10 → ⊥) → (digit_of c < 10) × (48 + digit_of c ≡ c) → plain (c ∷ digits_of cs) ≡ true → (t : Bool) → eqb (digit_of c) 0 ≡ t
        → numeral (value_from 0 (c ∷ digits_of cs)) ≡ c ∷ digits_of cs
    first n d q true e =
        let nought = eqb-true (digit_of c) 0 e in
        let alone = zero-alone c (digits_of cs) q (omega (arith, nought, d.1)) in
        let is : value_from 0 (c ∷ []) ≡ digit_of c = value-cons 0 c [] ∙ value_none (10 * 0 + digit_of c) ∙ omega arith in
        rw alone (ap numeral is ∙ numeral-small (digit_of c) d.0 ∙ ap (λ (k : ℕ). k ∷ []) d.1)
    first n d q false e =
        let some : 1 ≤ digit_of c = omega (arith, eqb-false (digit_of c) 0 e) in
        let is : 10 * 0 + digit_of c ≡ digit_of c = omega arith in
        ap numeral (value-cons 0 c (digits_of cs) ∙ ap (λ (v : ℕ). value_from v (digits_of cs)) is)
        ∙ numeral-behind (digit_of c) cs some
        ∙ ap (λ (l : List ℕ). l ++ digits_of cs) (numeral-small (digit_of c) d.0)
        ∙ ap (λ (k : ℕ). k ∷ digits_of cs) d.1

-- ---- lengths

-- a numeral of one digit, and one of more
size-small : (n : ℕ) → n < 10 → length (numeral n) ≡ 1
size-small n h = ap (λ (l : List ℕ). length l) (numeral-small n h)

size-large : (n : ℕ) → 10 ≤ n → length (numeral n) ≡ length (numeral (n / 10)) + 1
size-large n h = ap (λ (l : List ℕ). length l) (numeral-large n h) ∙ length-append (numeral (n / 10)) ((48 + n % 10) ∷ [])

more-digits : (m b : ℕ) → 1 ≤ m → ((n : ℕ) → n < b → length (numeral n) ≤ m) → (n : ℕ) → n < 10 * b → length (numeral n) ≤ m + 1
more-digits m b some short n h =
    by_size n (λ low. omega (arith, size-small n low, some))
    (λ large. omega (arith, size-large n large, short (n / 10) (omega (arith, h))))

pub three-digits : (n : ℕ) → n < 1000 → length (numeral n) ≤ 3
three-digits =
    more-digits 2 100 (omega arith)
    (more-digits 1 10 (omega arith) (λ n h. omega (arith, size-small n h)))

pub five-digits : (n : ℕ) → n < 100000 → length (numeral n) ≤ 5
five-digits = more-digits 4 10000 (omega arith) (more-digits 3 1000 (omega arith) three-digits)

pub ten-digits : (n : ℕ) → n < 10000000000 → length (numeral n) ≤ 10
ten-digits =
    more-digits 9 1000000000 (omega arith)
    (more-digits 8 100000000 (omega arith)
    (more-digits 7 10000000 (omega arith)
    (more-digits 6 1000000 (omega arith)
    (more-digits 5 100000 (omega arith) five-digits))))

pub twenty-digits : (n : ℕ) → n < 100000000000000000000 → length (numeral n) ≤ 20
twenty-digits =
    more-digits 19 10000000000000000000 (omega arith)
    (more-digits 18 1000000000000000000 (omega arith)
    (more-digits 17 100000000000000000 (omega arith)
    (more-digits 16 10000000000000000 (omega arith)
    (more-digits 15 1000000000000000 (omega arith)
    (more-digits 14 100000000000000 (omega arith)
    (more-digits 13 10000000000000 (omega arith)
    (more-digits 12 1000000000000 (omega arith)
    (more-digits 11 100000000000 (omega arith)
    (more-digits 10 10000000000 (omega arith) ten-digits)))))))))

-- a number that is no larger has no longer numeral
no-longer : (n m : ℕ) → m ≤ n → length (numeral m) ≤ length (numeral n)
no-longer = by_digits (λ (n : ℕ). (m : ℕ) → m ≤ n → length (numeral m) ≤ length (numeral n))
    (λ n h m less. omega (arith, size-small n h, size-small m (omega (arith, h, less))))
    (λ n h r m less.
    by_size m (λ low. omega (arith, size-small m low, size-large n h))
    (λ high. omega (arith, size-large m high, size-large n h, r (m / 10) (omega (arith, less)))))

-- where there is room for so many digits there is room for the numeral of a number that is no larger than one with so many at most
pub numeral-fits : (at most size m n : ℕ) → m ≤ n → length (numeral n) ≤ most → at + most ≤ size → at + length (numeral m) ≤ size
numeral-fits at most size m n less short room = omega (arith, no-longer n m less, short, room)

-- and it ends within that room
pub numeral-ends : (at most next m n : ℕ) (buffer last : List ℕ) → m ≤ n → length (numeral n) ≤ most → Put at (numeral m) buffer next last → next ≤ at + most
numeral-ends at most next m n buffer last less short p = omega (arith, no-longer n m less, short, p.0)

pub length-field : (mark n : ℕ) → n < 65536 → length (field mark n) ≤ 6
unfolding field
length-field mark n h = omega (arith, five-digits n (omega (arith, h)))

-- ---- the fewest digits are the numeral

ten-more : (m : ℕ) → 10 ^ suc m ≡ 10 * 10 ^ m
ten-more m = let next : suc m ≡ 1 + m = omega arith in ap (λ (n : ℕ). 10 ^ n) next ∙ pow-add 10 1 m

tenth : (n x : ℕ) → n < 10 * x → n / 10 < x
tenth n x h = omega (arith, h)

tenth-least : (n x : ℕ) → 10 * x ≤ n → x ≤ n / 10
tenth-least n x h = omega (arith, h)

at_least : (n x y : ℕ) → 10 * x ≤ n → 0 < x → 10 ≤ n
at_least n x y h s = omega (arith, h, s)

tenfold : (x y : ℕ) → y ≡ 10 * x → 0 < x → 0 < y
tenfold x y e h = omega (arith, e, h)

ten-pos : (m : ℕ) → 0 < 10 ^ m
ten-pos zero = omega arith
ten-pos (suc m) = tenfold (10 ^ m) (10 ^ suc m) (ten-more m) (ten-pos m)

glyph-digit : (d : ℕ) → d < 10 → hex_digit_ascii d ≡ 48 + d
glyph-digit d h = rw (lt-ltb d 10 h)

pub fewest-numeral : (k n : ℕ) → IsDigitCount 10 1 n k → last_digits 10 k n ≡ numeral n
fewest-numeral zero n few = absurd (not-suc-le-zero few.0)
fewest-numeral (suc zero) n few =
    let low : n < 10 = omega (arith, few.1) in
    let same : n % 10 ≡ n = omega (arith, low) in
    ap (λ (d : ℕ). d ∷ []) (glyph-digit (n % 10) (omega arith) ∙ ap (λ (d : ℕ). 48 + d) same) ∙ sym (numeral-small n low)
fewest-numeral (suc (suc k)) n few =
    let most : n < 10 * 10 ^ suc k = subst (λ (x : ℕ). n < x) (ten-more (suc k)) few.1 in
    let one : suc (suc k) - 1 ≡ suc k = omega arith in
    let less : suc k - 1 ≡ k = omega arith in
    let least : 10 * 10 ^ k ≤ n = subst (λ (x : ℕ). x ≤ n) (ap (λ (m : ℕ). 10 ^ m) one ∙ ten-more k) (few.2 (omega arith)) in
    let rest : IsDigitCount 10 1 (n / 10) (suc k) = (omega arith, tenth n (10 ^ suc k) most, λ more. rw less (tenth-least n (10 ^ k) least)) in
    ap (λ (l : List ℕ). l ++ (hex_digit_ascii (n % 10) ∷ [])) (fewest-numeral (suc k) (n / 10) rest)
    ∙ ap (λ (d : ℕ). numeral (n / 10) ++ (d ∷ [])) (glyph-digit (n % 10) (omega arith))
    ∙ sym (numeral-large n (at_least n (10 ^ k) 0 least (ten-pos k)))
