-- What the number of the tests of a packet says, and what a packet leaves of its process. Assumes nothing.
use mathlib.Core.Path.{◌≡◌, refl, sym, ap, ◌∙◌}
use mathlib.Core.Bool.{true}
use mathlib.Core.List.{List}
use Prim.Native.Nat.{ℕ, zero, suc, ◌≤◌}
use native.Mathlib.Omega.{arith}
use borrow.Author.Tests.{not-false}
use lib.ListN.{length}
use Rattle.format.specs.Outcome.{outcome}
use Rattle.format.proofs.OutcomeLaws.{first_passes, rest-passes}
use Rattle.packets.specs.Units.{first_byte}
use Rattle.packets.specs.Data.{address_of, value_of}
use Rattle.process.specs.declared.record.Process.{Process}
use Rattle.process.specs.Local.{Local}
use Rattle.process.proofs.KeptLaws.{shape, same_size, same_bytes}
use Rattle.process.proofs.PacketLaws.{shape-go_asked, shape-go_replied, shape-word_stored}
use Rattle.rules.specs.PacketRule.{PacketRule}
use Rattle.rules.specs.Step.{plain_answer}
use Rattle.service.specs.At.{leaving}
use Rattle.packet_door.specs.declared.request.PacketRequest.{PacketRequest}
use Rattle.packet_door.specs.declared.request.PacketRequest.TheVariants.{Store, Fetch, Go, GoReply}
use Rattle.packet_door.specs.At.{request_of, row_of, fewest_of, number_of, Passed, replied, granted_by, packet_number_at, packet_by}
use Rattle.packet_door.proofs.RowLaws.{row-of, inside-within}

-- ---- the tests

pub number-of : (kind : ℕ) (words : List ℕ) (p : Process) → packet_number_at kind words p ≡ number_of (request_of kind) words p
unfolding packet_number_at number_of
number-of kind words p = rw (row-of kind)

module _ (request : PacketRequest) (words : List ℕ) (p : Process) (e : number_of request words p ≡ 0) where
  -- where none fails the process is there
  pub passed-there : p.there ≡ true
  unfolding number_of
  passed-there = not-false _ (first_passes 6 _ _ e)

  -- and the packet has passed
  pub passed : fewest_of request ≤ length words → Passed request words p
  unfolding number_of
  passed enough =
      record { enough = enough; range = not-false _ (first_passes 9 _ _ (rest-passes 8 _ _ (rest-passes 7 _ _ (rest-passes 6 _ _ e)))) }

-- ---- by the number

pub packet-granted : (kind id : ℕ) (words buffer : List ℕ) (l : Local) → packet_by 0 kind id words buffer l ≡ granted_by (request_of kind) id words buffer l
unfolding packet_by
packet-granted kind id words buffer l =
    ap (λ (r : PacketRule). leaving (replied (r.ack words (r.effect id words l)) buffer) (r.effect id words l)) (row-of kind)

pub packet-refused : (n : ℕ) → (n ≡ 0 → ⊥) → (kind id : ℕ) (words buffer : List ℕ) (l : Local)
    → packet_by n kind id words buffer l ≡ leaving (plain_answer (outcome n 0) buffer) l
unfolding packet_by
packet-refused zero z kind id words buffer l = absurd (z refl)
packet-refused (suc n) z kind id words buffer l = refl

-- ---- what stays

-- a granted packet leaves the size of the process and the number of its bytes
pub shape-effect : (request : PacketRequest) (id : ℕ) (words : List ℕ) (l : Local) → Passed request words l.process
    → length l.bytes ≡ l.process.size → shape ((row_of request).effect id words l) ≡ shape l
unfolding row_of
shape-effect Store id words l h whole =
    shape-word_stored (first_byte (address_of words)).0 (value_of words) l (omega (arith, inside-within words l.process.size h.range, whole))
shape-effect Fetch id words l h whole = refl
shape-effect Go id words l h whole = shape-go_asked id l
shape-effect GoReply id words l h whole = shape-go_replied id l

-- so it has passed at the process after it, which has as many bytes as its size says
module _ (request : PacketRequest) (id : ℕ) (words : List ℕ) (l : Local) (h : Passed request words l.process) (whole : length l.bytes ≡ l.process.size)
    (p : Process) (bytes : List ℕ) (q : p ≡ ((row_of request).effect id words l).process) (r : bytes ≡ ((row_of request).effect id words l).bytes) where
  kept : shape ((row_of request).effect id words l) ≡ shape l
  kept = shape-effect request id words l h whole

  size-after : p.size ≡ l.process.size
  size-after = ap (λ (x : Process). x.size) q ∙ same_size kept

  pub whole-after : length bytes ≡ p.size
  whole-after = ap length r ∙ same_bytes kept ∙ whole ∙ sym size-after

  pub passed-after : Passed request words p
  passed-after = record { enough = h.enough; range = rw size-after h.range }
