-- The row of a type is the row of what it asks for, and what test 3 and the range say. Assumes nothing.
use mathlib.Core.Path.{◌≡◌, refl}
use mathlib.Core.Bool.{Bool, true, false, cond}
use mathlib.Core.List.{List}
use Prim.Native.Nat.{ℕ, ◌+◌, ◌*◌, ◌≤◌}
use borrow.Author.Tests.{ltb-false}
use lib.ListN.{length}
use Rattle.packets.specs.Types.{fewest_words, too_few}
use Rattle.packets.specs.Units.{word_count, byte_count}
use Rattle.packets.specs.Data.{address_of}
use Rattle.packets.proofs.UnitLaws.{holds-within}
use Rattle.rules.specs.PacketRule.{word_inside, packet_row_of}
use Rattle.packet_door.specs.declared.request.PacketRequest.{PacketRequest}
use Rattle.packet_door.specs.At.{request_of, row_of, fewest_of}

row-cond : (t : Bool) (x y : PacketRequest) → row_of (cond t x y) ≡ cond t (row_of x) (row_of y)
row-cond true x y = refl
row-cond false x y = refl

pub row-of : (kind : ℕ) → packet_row_of kind ≡ row_of (request_of kind)
unfolding packet_row_of request_of row_of
row-of kind = simp row-cond

-- ---- data words

fewest-cond : (t : Bool) (x y : PacketRequest) → fewest_of (cond t x y) ≡ cond t (fewest_of x) (fewest_of y)
fewest-cond true x y = refl
fewest-cond false x y = refl

no_more : (t : Bool) → ◌≡◌ {A = ℕ} (cond t 0 0) 0
no_more true = refl
no_more false = refl

fewest-of : (kind : ℕ) → fewest_of (request_of kind) ≡ fewest_words kind
unfolding fewest_words request_of fewest_of
fewest-of kind = simp (fewest-cond, no_more)

-- a packet that passed test 3 has enough
pub enough : (kind : ℕ) (words : List ℕ) → too_few kind words ≡ false → fewest_of (request_of kind) ≤ length words
unfolding too_few
enough kind words e = rw (fewest-of kind) (ltb-false (length words) (fewest_words kind) e)

-- ---- ranges

-- a word that lies inside ends before the end
pub inside-within : (words : List ℕ) (size : ℕ) → word_inside words size ≡ true → 2 * ((address_of words).0 + 1) ≤ size
unfolding word_inside
inside-within words size e = holds-within (byte_count size) (address_of words) (word_count 1) e
