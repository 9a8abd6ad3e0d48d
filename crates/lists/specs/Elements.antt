-- A list by its elements.
use Rattle.std.specs.Prelude.{List, [], ◌∷◌, ℕ, zero, suc}

-- f 0, f 1, .., n of them
abbrev pub elements : (ℕ → ℕ) → ℕ → List ℕ
elements f zero = []
elements f (suc n) = f 0 ∷ elements (λ (i : ℕ). f (suc i)) n
