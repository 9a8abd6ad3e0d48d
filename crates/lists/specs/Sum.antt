-- Sums, and the greatest of some numbers.
use Rattle.std.specs.Prelude.{cond, ℕ, zero, suc, ◌+◌, ltb}

-- f 0 + f 1 + .., n of them
unfoldable pub total : (ℕ → ℕ) → ℕ → ℕ
total f zero = 0
total f (suc n) = total f n + f n

-- the greatest of f 0, f 1, .., n of them, or 0
unfoldable pub greatest : (ℕ → ℕ) → ℕ → ℕ
greatest f zero = 0
greatest f (suc n) = cond (ltb (greatest f n) (f n)) (f n) (greatest f n)
