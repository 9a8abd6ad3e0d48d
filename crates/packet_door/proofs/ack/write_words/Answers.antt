-- `packet_door::ack::write_words` meets its contract. The loop's invariant: the words made so far lie over the buffer's start. Assumes nothing.
use mathlib.Core.Path.{◌≡◌, refl, ◌∙◌}
use mathlib.Core.List.{List}
use Prim.Native.Nat.{ℕ, ◌+◌, ◌*◌}
use native.Mathlib.Omega.{arith}
use lib.ListN.{get_or, length-set}
use Rattle.lists.specs.Word.{word}
use Rattle.lists.specs.Buffer.{overlay}
use Rattle.lists.proofs.Elements.{elements-step}
use Rattle.packet_door.proofs.ack.write_words.Goals as goal

-- the word of two bytes, by where they stand
word_at : (bytes : List ℕ) (i : ℕ) {x y w : ℕ} → w ≡ word (get_or bytes x 0) (get_or bytes y 0) → x ≡ 2 * i + 1 → y ≡ 2 * i
    → w ≡ word (get_or bytes (2 * i + 1) 0) (get_or bytes (2 * i) 0)
word_at bytes i made h l = rw (← h, ← l) made

pub loop-i-init : goal.loop-i-init
unfolding overlay
loop-i-init c = (omega arith, refl, refl)

pub loop-i-preserved : goal.loop-i-preserved
loop-i-preserved c =
    let b = c.args.bytes.now in
    let o = c.args.out.now in (
      omega arith,
      length-set c.loop-i.out c.loop-i.i c.word_of.result ∙ c.loop-i.invariant.1,
      rw (c.loop-i.invariant.2, word_at b c.loop-i.i c.word_of.ensures (omega arith) (omega arith))
          (elements-step (λ (k : ℕ). word (get_or b (2 * k + 1) 0) (get_or b (2 * k) 0)) o c.loop-i.i (omega arith)),
    )

pub returns : goal.returns
returns c =
    let end : c.loop-i.i ≡ c.args.count.0 = omega arith in
    rw (c.loop-i.invariant.2, end)
