-- `calls::number::words_behind` meets its contract. The loop's invariant: the words passed, and those that are left, are all. Assumes nothing.
use mathlib.Core.Path.{refl, sym, ◌∙◌}
use Prim.Native.Nat.{◌≤◌, ◌<◌}
use native.Mathlib.Omega.{arith}
use lib.ListN.{length-set}
use Rattle.calls.proofs.WordsLaws.{last_turn, words-turn, last_end, words-end}
use Rattle.calls.proofs.number.words_behind.Goals as goal

pub loop-word-init : goal.loop-word-init
loop-word-init c = (refl, refl, refl)

pub loop-word-preserved : goal.loop-word-preserved
loop-word-preserved c =
    let line = c.args.line.now in
    let i = c.loop-word.word-index in
    let next = c.then-last.result in
    let is = c.then-last.ensures.value in
    let low : i < 9 = omega (arith, c.loop-word.invariant.0) in (
      length-set c.loop-word.word-items i c.then-last.result.value ∙ c.loop-word.invariant.0,
      last_turn 9 line c.loop-word.last next i low is ∙ c.loop-word.invariant.1,
      words-turn 9 line c.loop-word.last next i low is c.loop-word.word-items c.loop-word.invariant.0 ∙ c.loop-word.invariant.2,
    )

pub returns : goal.returns
returns c =
    let line = c.args.line.now in
    let i = c.loop-word.word-index in
    let end : 9 ≤ i = omega (arith, c.loop-word.invariant.0) in record {
      last_value = sym (last_end 9 line c.loop-word.last i end) ∙ c.loop-word.invariant.1;
      words_value = sym (words-end 9 line c.loop-word.last i end c.loop-word.word-items c.loop-word.invariant.0) ∙ c.loop-word.invariant.2;
    }
