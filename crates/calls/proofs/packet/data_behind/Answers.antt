-- `calls::packet::data_behind` meets its contract. The loop's invariant: the words passed, and those that are left, are all. Assumes nothing.
use mathlib.Core.Path.{◌≡◌, refl, sym, ap, ◌∙◌}
use Prim.Native.Nat.{ℕ, ◌-◌, ◌≤◌, ◌<◌}
use native.Mathlib.Omega.{arith}
use lib.ListN.{take, length-set}
use Rattle.calls.proofs.PacketLaws.{last_turn, data-turn, last-stops, data-stops, last-full, data-full, all-passed}
use Rattle.calls.proofs.packet.data_behind.Goals as goal

pub loop-len-init : goal.loop-len-init
loop-len-init c = (refl, refl, refl)

pub returns-then-ends : goal.returns-then-ends
returns-then-ends c =
    let line = c.args.line.now in
    let ends = sym c.ends.ensures ∙ c.if-ends.true in record {
      last_value = sym (last-stops line c.loop-len.last ends (64 - c.loop-len.len)) ∙ c.loop-len.invariant.1;
      words_value = all-passed _ _ _ (data-stops line c.loop-len.last ends (64 - c.loop-len.len)) c.loop-len.invariant.2;
      fits = omega arith;
    }

pub loop-len-preserved : goal.loop-len-preserved
loop-len-preserved c =
    let line = c.args.line.now in
    let i = c.loop-len.len in
    let next = c.then-last.result in
    let is = c.then-last.ensures.value in
    let goes = sym c.ends.ensures ∙ c.if-ends.false in
    let low : i < 64 = omega arith in (
      length-set c.loop-len.words i c.then-last.result.value ∙ c.loop-len.invariant.0,
      last_turn 64 line c.loop-len.last next i low goes is ∙ c.loop-len.invariant.1,
      data-turn 64 line c.loop-len.last next i low goes is c.loop-len.words c.loop-len.invariant.0 ∙ c.loop-len.invariant.2,
    )

pub returns : goal.returns
returns c =
    let line = c.args.line.now in
    let end : 64 ≤ c.loop-len.len = omega arith in
    let all : 64 ≡ c.loop-len.len = omega arith in record {
      last_value = sym (last-full 64 line c.loop-len.last c.loop-len.len end) ∙ c.loop-len.invariant.1;
      words_value = ap (λ (n : ℕ). take n c.loop-len.words) all ∙ all-passed _ _ _ (data-full 64 line c.loop-len.last c.loop-len.len end) c.loop-len.invariant.2;
      fits = omega arith;
    }
