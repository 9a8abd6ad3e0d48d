-- The statements that the contracts of theorems.rt carry.
use Rattle.std.specs.Prelude.{◌≡◌, List, [], ◌∷◌, ◌++◌, ℕ, length, take}
use Rattle.lists.specs.Buffer.{Bytes}
use Rattle.lines.specs.declared.scan.Phase.{Phase}
use Rattle.lines.specs.declared.scan.Phase.TheVariants.{Open, Full}
use Rattle.lines.specs.Hex.{pairs, spaced}
use Rattle.lines.specs.Scan.{after, bytes_of, kept, filled}

-- pairs that are written are read as they were, and only those are read
pub record ReadsPairs : Type 0 where
  -- the written form of one or more bytes is read as them
  pub written-is-read : (bs : List ℕ) → Bytes bs → (bs ≡ [] → ⊥) → (after Open (pairs bs) ≡ Full) × (bytes_of Open (pairs bs) ≡ bs)
  -- and only the written form is
  pub read-is-written : (line : List ℕ) → after Open line ≡ Full → pairs (bytes_of Open line) ≡ line
  -- each byte after a blank is a blank and the pairs parted by single blanks
  pub spaced-pairs : (b : ℕ) (bs : List ℕ) → spaced (b ∷ bs) ≡ 32 ∷ pairs (b ∷ bs)
  -- a line may come in parts
  pub in_parts : (p : Phase) (xs ys : List ℕ) → after p (xs ++ ys) ≡ after (after p xs) ys
  pub parts-read : (p : Phase) (xs ys : List ℕ) → bytes_of p (xs ++ ys) ≡ bytes_of p xs ++ bytes_of (after p xs) ys
  -- what is kept of the bytes read is their start, as much as the buffer has room for
  pub kept-start : (bs buffer : List ℕ) → take (filled (length buffer) 0 bs) (kept 0 bs buffer) ≡ take (length buffer) bs
