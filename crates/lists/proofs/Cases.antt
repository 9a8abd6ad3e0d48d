-- The two cases of a test, of two numbers that may be the same, and of their order. Assumes nothing.
use mathlib.Core.Path.{◌≡◌, refl}
use mathlib.Core.Bool.{Bool, true, false}
use mathlib.Core.Logic.{◌⊎◌, inl, inr}
use Prim.Native.Nat.{ℕ, ◌≤◌, ◌<◌}
use borrow.Author.Tests.{eqb-true, eqb-false, ltb-true, ltb-false, lt-ltb, le-ltb}
use lib.Dec.{eqb, ltb}

pub true-or-false : (t : Bool) → (t ≡ true) ⊎ (t ≡ false)
true-or-false true = inl refl
true-or-false false = inr refl

pub same-or-other : (k p : ℕ) → (k ≡ p) ⊎ (k ≡ p → ⊥)
same-or-other k p = go (eqb k p) refl
  where
    go : (t : Bool) → eqb k p ≡ t → (k ≡ p) ⊎ (k ≡ p → ⊥)
    go true e = inl (eqb-true k p e)
    go false e = inr (eqb-false k p e)

pub less-or-not : (a b : ℕ) → (a < b) ⊎ (b ≤ a)
less-or-not a b = go (ltb a b) refl
  where
    go : (t : Bool) → ltb a b ≡ t → (a < b) ⊎ (b ≤ a)
    go true e = inl (ltb-true a b e)
    go false e = inr (ltb-false a b e)

-- two numbers are in the order of two others
pub ltb-alike : (a b c d : ℕ) → (a < b → c < d) → (b ≤ a → d ≤ c) → ltb c d ≡ ltb a b
ltb-alike a b c d less not-less = go (ltb a b) refl
  where
    go : (t : Bool) → ltb a b ≡ t → ltb c d ≡ t
    go true e = lt-ltb c d (less (ltb-true a b e))
    go false e = le-ltb c d (not-less (ltb-false a b e))
