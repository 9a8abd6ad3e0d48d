-- A law of the room for a pattern. Assumes nothing.
use mathlib.Core.Path.{◌≡◌, sym, ap, ◌∙◌}
use mathlib.Core.List.{List, ◌∷◌}
use Prim.Native.Nat.{ℕ, ◌+◌, ◌<◌}
use native.Mathlib.Numerals.{add-one}
use lib.ListN.{length, drop, get_or}
use lib.Seq.{drop-cons}
use Rattle.sentence.specs.Pattern.{widest, room}

-- room for the next character, and for those after it
pub room_next : (cs : List ℕ) (i : ℕ) → i < length cs → room (drop i cs) ≡ widest (get_or cs i 0) + room (drop (i + 1) cs)
unfolding room
room_next cs i low = ap room (drop-cons cs i 0 low ∙ ap (λ (k : ℕ). get_or cs i 0 ∷ drop k cs) (sym (add-one i)))
