-- `calls::show::answer_memory` meets its contract, by whether the numbers are right. Assumes nothing.
use mathlib.Core.Path.{◌≡◌, refl, sym, ap, ◌∙◌}
use mathlib.Core.List.{List}
use Prim.Native.Nat.{ℕ, ◌+◌}
use Rattle.decimal.specs.declared.number.Number.{Number}
use Rattle.decimal.specs.Read.{begun, behind}
use Rattle.lines.specs.Hex.{pairs_line}
use Rattle.state.specs.Layout.{slot}
use Rattle.calls.specs.Meaning.{ends_within, memory_p, memory_address, memory_count, memory_effect}
use Rattle.calls.proofs.MeaningLaws.{does-right, does-wrong, prints-as}
use Rattle.calls.proofs.show.answer_memory.Goals as goal

-- the numbers of the line, as they were read one after another
numbers : (line : List ℕ) (s p a n : Number) → s ≡ begun 6 → p ≡ behind 7 line s → a ≡ behind 4096 line p → n ≡ behind 4096 line a
    → (p ≡ memory_p line) × (a ≡ memory_address line) × (n ≡ memory_count line)
numbers line s p a n S P A N = rw (N, A, P, S) (refl, refl, refl)

pub returns-then-not-ends_within : goal.returns-then-not-ends_within
unfolding memory_effect
returns-then-not-ends_within c =
    let a = c.then-address.result.value in
    let is = numbers c.args.line.now _ _ _ _ c.start.ensures c.then-process.ensures.value c.then-address.ensures.value c.then-count.ensures.value in
    let wrong = sym (ap (ends_within c.args.line.now c.then-count.result (a + c.then-count.result.value)) c.read_extent_at-size.ensures) ∙ sym c.ends_within.ensures ∙ c.if-not-ends_within.true in
    rw (← is.2, ← is.1, ← is.0) (does-wrong _ _ _ _ _ _ _ _ _ wrong c.answer_unknown.ensures)

pub returns : goal.returns
unfolding memory_effect
returns c =
    let a = c.then-address.result.value in
    let is = numbers c.args.line.now _ _ _ _ c.start.ensures c.then-process.ensures.value c.then-address.ensures.value c.then-count.ensures.value in
    let right = sym (ap (ends_within c.args.line.now c.then-count.result (a + c.then-count.result.value)) c.read_extent_at-size.ensures) ∙ sym c.ends_within.ensures ∙ c.if-not-ends_within.false in
    let same = ap (λ (from : ℕ). pairs_line (slot from c.then-count.result.value c.args.memory.now)) c.place-from.ensures in
    rw (← is.2, ← is.1, ← is.0)
    (does-right _ _ _ _ _ _ _ _ _ right (record { state = refl; memory = refl; text = prints-as _ _ _ _ _ same c.put_slot.ensures }))
