-- Elements that a loop moves down over a gap, one after the other. Assumes nothing.
use mathlib.Core.Path.{◌≡◌, refl, ap, ◌∙◌}
use mathlib.Core.List.{List}
use mathlib.Core.Logic.{⊎_elim}
use Prim.Native.Nat.{ℕ, ◌+◌, ◌≤◌, ◌<◌}
use native.Mathlib.Omega.{arith}
use lib.ListN.{length, get_or, set, length-set}
use lib.Seq.{get_or-set_same, get_or-set_other}
use Rattle.lists.proofs.Cases.{same-or-other}

-- those from at on, up to i, are those n further on; all others are as they were
pub record Moved (at n i : ℕ) (m k : List ℕ) : Type 0 where
  pub size : length k ≡ length m
  pub low : (j : ℕ) → j < at → get_or k j 0 ≡ get_or m j 0
  pub down : (j : ℕ) → at ≤ j → j < i → get_or k j 0 ≡ get_or m (j + n) 0
  pub high : (j : ℕ) → i ≤ j → get_or k j 0 ≡ get_or m j 0

pub moved_none : (at n : ℕ) (m : List ℕ) → Moved at n at m m
moved_none at n m = record { size = refl; low = λ j h. refl; down = λ j h i. absurd (omega (arith, h, i)); high = λ j h. refl }

-- a turn of the loop, which reads at index f
pub moved_more : (at n i f : ℕ) (m k : List ℕ) → f ≡ i + n → at ≤ i → i < length k → Moved at n i m k → Moved at n (i + 1) m (set k i (get_or k f 0))
moved_more at n i f m k from h l v = record {
  size = length-set k i (get_or k f 0) ∙ v.size;
  low = λ j g. get_or-set_other k i j _ 0 (λ e. omega (arith, e, g, h)) ∙ v.low j g;
  down = λ j g b.
      ⊎_elim (λ (e : j ≡ i). rw e (get_or-set_same k i (get_or k f 0) 0 l ∙ v.high f (omega arith) ∙ ap (λ (x : ℕ). get_or m x 0) from))
      (λ (o : j ≡ i → ⊥). get_or-set_other k i j _ 0 o ∙ v.down j g (omega arith))
      (same-or-other j i);
  high = λ j g. get_or-set_other k i j _ 0 (λ e. omega (arith, e, g)) ∙ v.high j (omega (arith, g));
}
