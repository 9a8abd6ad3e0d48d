-- The statements that the contracts of theorems.rt carry.
use Rattle.std.specs.Prelude.{◌≡◌, true, List, [], ◌++◌, ℕ, ◌+◌, ◌-◌, ◌≤◌, length, take, drop}
use Rattle.decimal.specs.Numeral.{numeral, digits_of}
use Rattle.decimal.specs.Read.{right, number_at}

-- a number is read from its numeral, and from nothing else
pub record ReadsNumbers : Type 0 where
  -- the numeral of a number is read as it, wherever it stands, if no digit follows
  pub numeral-is-read : (most n : ℕ) (before after : List ℕ) → n ≤ most → digits_of after ≡ []
      → number_at most (before ++ (numeral n ++ after)) (length before) ≡ right n (length before + length (numeral n))
  -- and only the numeral is read as it: it stands there, no digit follows, and it is not over the bound
  pub read-is-numeral : (most at : ℕ) (line : List ℕ) → (number_at most line at).ok ≡ true
      → (take ((number_at most line at).next - at) (drop at line) ≡ numeral (number_at most line at).value)
      × (digits_of (drop (number_at most line at).next line) ≡ [])
      × ((number_at most line at).value ≤ most)
