-- `words::vector_bytes` meets its contract. The loop's invariant: the bytes of the words passed lie over the array's start. Assumes nothing.
use Rattle.std.proofs.Common.{◌≡◌, refl, ap, ◌∙◌, ℕ, ◌*◌, length, replicate, arith, rules}
use lib.Seq.{take_all}
use Rattle.lists.specs.Word.{low_first}
use Rattle.lists.specs.Buffer.{overlay}
use Rattle.lists.proofs.Word.{low_first-step, length-low_first}
use Rattle.lists.proofs.Buffer.{overlay-all}
use Rattle.words.proofs.vector_bytes.Goals as goal

pub loop-i-init : goal.loop-i-init
unfolding overlay low_first
loop-i-init c = (refl, refl)

pub loop-i-preserved : goal.loop-i-preserved
loop-i-preserved c =
    let v = c.args.vector in (
      search rules,
      rw (c.loop-i.invariant.1, c.low_byte.ensures, c.high_byte.ensures)
          (low_first-step v (replicate 18 0) c.loop-i.i (omega arith) (omega arith)),
    )

pub returns : goal.returns
returns c =
    let v = c.args.vector in
    let size : length v ≡ 9 = search rules in
    let full : length (low_first v) ≡ 18 = length-low_first v ∙ ap (λ (n : ℕ). 2 * n) size in
    rw (c.loop-i.invariant.1, take_all c.loop-i.i v (omega arith)) (overlay-all (low_first v) (replicate 18 0) (omega arith))
