-- `calls::call::answer_store` meets its contract, by whether the numbers are right. Assumes nothing.
use mathlib.Core.Path.{◌≡◌, refl, sym, ap, ◌∙◌}
use mathlib.Core.List.{List, [], ◌∷◌}
use Prim.Native.Nat.{ℕ, ◌+◌}
use native.Mathlib.Omega.{arith}
use lib.ListN.{set}
use Rattle.decimal.specs.declared.number.Number.{Number}
use Rattle.decimal.specs.Read.{begun, behind}
use Rattle.gateway.specs.Called.{machine_stored}
use Rattle.calls.specs.Meaning.{ends_within, store_p, store_address, store_byte, store_effect}
use Rattle.calls.proofs.MeaningLaws.{does-right, does-wrong, prints-put}
use Rattle.calls.proofs.call.answer_store.Goals as goal

-- the numbers of the line, as they were read one after another
numbers : (line : List ℕ) (s p a n : Number) → s ≡ begun 5 → p ≡ behind 7 line s → a ≡ behind 4095 line p → n ≡ behind 255 line a
    → (p ≡ store_p line) × (a ≡ store_address line) × (n ≡ store_byte line)
numbers line s p a n S P A N = rw (N, A, P, S) (refl, refl, refl)

pub returns-then-not-ends_within : goal.returns-then-not-ends_within
unfolding store_effect
returns-then-not-ends_within c =
    let is = numbers c.args.line.now _ _ _ _ c.start.ensures c.then-process.ensures.value c.then-address.ensures.value c.then-byte.ensures.value in
    let wrong = sym (ap (ends_within c.args.line.now c.then-byte.result (c.then-address.result.value + 1)) c.read_extent_at-size.ensures) ∙ sym c.ends_within.ensures ∙ c.if-not-ends_within.true in
    rw (← is.2, ← is.1, ← is.0) (does-wrong _ _ _ _ _ _ _ _ _ wrong c.answer_unknown.ensures)

pub put-requires : goal.put-requires
put-requires c = omega (arith, c.requires)

pub returns : goal.returns
unfolding store_effect machine_stored
returns c =
    let is = numbers c.args.line.now _ _ _ _ c.start.ensures c.then-process.ensures.value c.then-address.ensures.value c.then-byte.ensures.value in
    let right = sym (ap (ends_within c.args.line.now c.then-byte.result (c.then-address.result.value + 1)) c.read_extent_at-size.ensures) ∙ sym c.ends_within.ensures ∙ c.if-not-ends_within.false in
    let ok : List ℕ = 111 ∷ 107 ∷ 10 ∷ [] in
    rw (← is.2, ← is.1, ← is.0)
    (does-right _ _ _ _ _ _ _ _ _ right (record {
      state = refl;
      memory = c.store.ensures ∙ ap (λ (k : ℕ). set c.args.memory.now k c.then-byte.result.value) c.place-at.ensures;
      text = prints-put ok _ _ _ (omega (arith, c.requires)) c.put.ensures;
    }))
