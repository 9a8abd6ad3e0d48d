-- Laws of lists that are written one after the other. Assumes nothing.
use mathlib.Core.Path.{◌≡◌, refl, sym, ap, ◌∙◌}
use mathlib.Core.List.{List, [], ◌∷◌, ◌++◌, append_assoc, append-nil}
use Prim.Native.Nat.{ℕ, ◌+◌, ◌<◌}
use native.Mathlib.Numerals.{add-one}
use lib.ListN.{length, take, get_or}
use lib.Seq.{take-suc}
use Rattle.lists.specs.Joined.{joined}

module _ {A : Type 0} (f : A → List ℕ) where
  pub joined-none : joined f [] ≡ []
  unfolding joined
  joined-none = refl

  joined_snoc : (xs : List A) (x : A) → joined f (xs ++ (x ∷ [])) ≡ joined f xs ++ f x
  unfolding joined
  joined_snoc [] x = append-nil (f x)
  joined_snoc (y ∷ xs) x = ap (λ (l : List ℕ). f y ++ l) (joined_snoc xs x) ∙ sym (append_assoc (f y) (joined f xs) (f x))

  -- one element more
  pub joined-more : (xs : List A) (i : ℕ) (d : A) → i < length xs → joined f (take i xs) ++ f (get_or xs i d) ≡ joined f (take (i + 1) xs)
  joined-more xs i d h =
      sym (joined_snoc (take i xs) (get_or xs i d)) ∙ ap (joined f) (sym (take-suc xs i d h) ∙ ap (λ (n : ℕ). take n xs) (sym (add-one i)))
