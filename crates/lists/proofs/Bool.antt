-- Laws of tests that are joined. Assumes nothing.
use mathlib.Core.Path.{◌≡◌, refl, sym}
use mathlib.Core.Bool.{Bool, true, false, ◌&&◌, ◌||◌}

-- both of two tests that hold together
pub &&-left : (a b : Bool) → a && b ≡ true → a ≡ true
&&-left true b e = refl
&&-left false b e = e

pub &&-right : (a b : Bool) → a && b ≡ true → b ≡ true
&&-right true b e = e
&&-right false b e = absurd-false b e
  where
    absurd-false : (b : Bool) → false ≡ true → b ≡ true
    absurd-false true e = refl
    absurd-false false e = e

pub &&-both : (a b : Bool) → a ≡ true → b ≡ true → a && b ≡ true
&&-both true b p q = q
&&-both false b p q = p

-- neither of two tests that fail together
pub ||-left : (a b : Bool) → a || b ≡ false → a ≡ false
||-left true b e = e
||-left false b e = refl

pub ||-right : (a b : Bool) → a || b ≡ false → b ≡ false
||-right false b e = e
||-right true true e = e
||-right true false e = refl

-- two tests that hold of the same are one
pub same_truth : (a b : Bool) → (a ≡ true → b ≡ true) → (b ≡ true → a ≡ true) → a ≡ b
same_truth true b f g = sym (f refl)
same_truth false true f g = g refl
same_truth false false f g = refl

-- two pairs of tests, paired the other way
pub &&-pairs : (a b c d : Bool) → (a && b) && (c && d) ≡ (a && c) && (b && d)
&&-pairs true true c d = refl
&&-pairs true false true d = refl
&&-pairs true false false d = refl
&&-pairs false b c d = refl
