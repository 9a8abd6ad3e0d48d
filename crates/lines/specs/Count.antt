-- A count of bytes that are there.
use Rattle.std.specs.Prelude.{◌≡◌, List, ℕ, ◌≤◌, min, length, take}

-- r is n, or the length where there are fewer. The parts after the first follow from it, and are stated so that the proof of
-- `&bytes[..r]` finds them.
abbrev pub AtMost : ℕ → ℕ → List ℕ → Type 0
AtMost r n xs = (r ≡ min n (length xs)) × (r ≤ n) × (r ≤ length xs) × (r ≡ length (take r xs))
