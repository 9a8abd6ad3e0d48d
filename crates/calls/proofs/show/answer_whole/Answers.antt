-- `calls::show::answer_whole` meets its contract, by whether the numbers are right. Assumes nothing.
use mathlib.Core.Path.{◌≡◌, refl, sym, ◌∙◌}
use mathlib.Core.List.{List}
use Prim.Native.Nat.{ℕ}
use Rattle.decimal.specs.declared.number.Number.{Number}
use Rattle.decimal.specs.Read.{begun, behind}
use Rattle.calls.specs.Meaning.{whole_address, whole_count, whole_memory_effect}
use Rattle.calls.proofs.MeaningLaws.{does-right, does-wrong}
use Rattle.calls.proofs.show.answer_whole.Goals as goal

-- the numbers of the line, as they were read one after another
numbers : (line : List ℕ) (s a n : Number) → s ≡ begun 5 → a ≡ behind 16384 line s → n ≡ behind 256 line a
    → (a ≡ whole_address line) × (n ≡ whole_count line)
numbers line s a n S A N = rw (N, A, S) (refl, refl)

pub returns-then-not-ends_within : goal.returns-then-not-ends_within
unfolding whole_memory_effect
returns-then-not-ends_within c =
    let is = numbers c.args.line.now _ _ _ c.start.ensures c.then-address.ensures.value c.then-count.ensures.value in
    rw (← is.1, ← is.0) (does-wrong _ _ _ _ _ _ _ _ _ (sym c.ends_within.ensures ∙ c.if-not-ends_within.true) c.answer_unknown.ensures)

pub returns : goal.returns
unfolding whole_memory_effect
returns c =
    let is = numbers c.args.line.now _ _ _ c.start.ensures c.then-address.ensures.value c.then-count.ensures.value in
    rw (← is.1, ← is.0)
    (does-right _ _ _ _ _ _ _ _ _ (sym c.ends_within.ensures ∙ c.if-not-ends_within.false) (record { state = refl; memory = refl; text = c.put_slot.ensures }))
