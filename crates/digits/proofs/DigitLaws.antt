-- Laws of digits: each number under 16 has one, and it is read as that number. Assumes nothing.
use mathlib.Core.Path.{◌≡◌, refl}
use mathlib.Core.Bool.{Bool, true, false}
use Prim.Native.Nat.{ℕ, ◌-◌, ◌<◌}
use native.Mathlib.Omega.{arith}
use borrow.Author.Tests.{eqb-true, ltb-false, leb-true, lt-ltb, le-ltb}
use lib.Dec.{ltb, leb, eqb}
use Rattle.lists.specs.Every.{below}
use Rattle.lists.proofs.Every.{below_at}
use Rattle.digits.specs.Digit.{digit, value}

all_digits : below (λ (v : ℕ). eqb (value (digit v)) v) 16 ≡ true
unfolding value digit
all_digits = refl

-- a digit is read as its number
pub value-digit : (v : ℕ) → v < 16 → value (digit v) ≡ v
value-digit v h = eqb-true _ _ (below_at (λ (k : ℕ). eqb (value (digit k)) k) 16 v h all_digits)

-- and what is read is the digit of its number
pub digit-back : (c : ℕ) → (value c ≡ 16 → ⊥) → (value c < 16) × (digit (value c) ≡ c)
unfolding value digit
digit-back c = go (ltb c 48) refl (leb c 57) refl (ltb c 97) refl (leb c 102) refl
  where
    go : (s : Bool) → ltb c 48 ≡ s → (t : Bool) → leb c 57 ≡ t → (u : Bool) → ltb c 97 ≡ u → (v : Bool) → leb c 102 ≡ v → (value c ≡ 16 → ⊥)
        → (value c < 16) × (digit (value c) ≡ c)
    go true e t f u g v i n = absurd (n (rw e))
    go false e true f u g v i n =
        let l = ltb-false c 48 e in
        let h = leb-true c 57 f in
        rw (e, f) (omega (arith, l, h), rw (lt-ltb (c - 48) 10 (omega (arith, l, h))) (omega (arith, l, h)))
    go false e false f true g v i n = absurd (n (rw (e, f, g)))
    go false e false f false g true i n =
        let l = ltb-false c 97 g in
        let h = leb-true c 102 i in
        rw (e, f, g, i) (omega (arith, l, h), rw (le-ltb (c - 87) 10 (omega (arith, l, h))) (omega (arith, l, h)))
    go false e false f false g false i n = absurd (n (rw (e, f, g, i)))
