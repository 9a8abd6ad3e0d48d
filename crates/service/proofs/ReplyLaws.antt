-- The reply to EXAMINE: the bytes are written first, and the header in front of them. Assumes nothing.
use mathlib.Core.Path.{◌≡◌, sym, ap₂, ◌∙◌}
use mathlib.Core.List.{List, ◌++◌}
use Prim.Native.Nat.{ℕ, ◌+◌, ◌≤◌}
use lib.ListN.{length, take, drop}
use Rattle.lists.proofs.Buffer.{overlay-before}
use Rattle.lists.proofs.Part.{length_part}
use Rattle.format.specs.declared.header.Header.{Header}
use Rattle.std.proofs.Common.{Ok}
use Rattle.format.specs.Layout.{header, written}
use Rattle.message.specs.Exchange.{wrote, sends, sends_head}
use Rattle.process.specs.Local.{Local}
use Rattle.breakpoints.specs.Seen.{seen}
use Rattle.process.specs.Request.{examined}
use Rattle.breakpoints.proofs.SeenLaws.{length_seen}

pub length-examined : (at count : ℕ) (l : Local) → at + count ≤ length l.bytes → length (examined at count l) ≡ count
unfolding examined
length-examined at count l h =
    length_part at count (seen l.process.breaks l.bytes) (rw (length_seen l.process.breaks l.bytes) h)

-- the header in front of a string that stands after the tenth byte is the message
pub contents-sent : (h : Header) (out shown buffer : List ℕ) (n : ℕ) → n ≡ h.arg2 → out ≡ shown → length shown ≡ h.arg2 → 10 ≤ length buffer
    → sends_head h h.arg2 (take 10 buffer ++ (out ++ drop n (drop 10 buffer))) ≡ sends h shown buffer
unfolding sends_head sends written
contents-sent h out shown buffer n e same size long =
    ap₂ (λ (k : ℕ) (b : List ℕ). wrote (Ok (10 + k)) b) (sym size) (rw same (overlay-before (header h) shown buffer n (e ∙ sym size) long))
