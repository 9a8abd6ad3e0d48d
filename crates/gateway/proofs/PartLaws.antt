-- A process's bytes as the lent part of memory that the code takes and gives back. Assumes nothing.
use mathlib.Core.Path.{◌≡◌, refl, sym, ap, ◌∙◌, subst}
use mathlib.Core.Bool.{Bool, true, false, cond}
use mathlib.Core.List.{List, [], ◌∷◌, ◌++◌}
use mathlib.Core.Logic.{◌⊎◌, inl, inr, ⊎_elim}
use Prim.Native.Nat.{ℕ, ◌+◌, ◌-◌, ◌≤◌, ◌<◌}
use native.Mathlib.Omega.{arith}
use lib.ListN.{length, take, drop}
use Rattle.lists.proofs.Part.{length_part}
use Rattle.process.specs.declared.record.Process.{Process}
use Rattle.process.specs.Local.{Local, local, extent, Tested}
use Rattle.state.specs.Records.{start_of}
use Rattle.state.specs.Layout.{extent_at, used, slot, with_slot, closed}
use Rattle.state.proofs.LayoutLaws.{start-inside}
use Rattle.state.proofs.MemoryLaws.{length-with_slot, with_slot-outside, with_slot-slot, closed-alike}
use Rattle.rules.specs.Tests.{State, lent, record_of}
use Rattle.rules.specs.Window.{taken_out}
use Rattle.rules.specs.Step.{local_of}
use Rattle.rules.specs.Ready.{Ready}
use Rattle.rules.proofs.StateLaws.{layout_of, inside, local-proper}

-- no bytes, put anywhere
with_slot-none : (start : ℕ) (bytes memory : List ℕ) → length bytes ≡ 0 → with_slot start bytes memory ≡ memory
unfolding slot
with_slot-none start [] memory none = with_slot-slot start 0 memory
with_slot-none start (b ∷ bytes) memory none = absurd (omega (arith, none))

module _ (start n : ℕ) (memory : List ℕ) where
  size : start + n - start ≡ n
  size = omega arith

  slot-part : take (start + n - start) (drop start memory) ≡ slot start n memory
  unfolding slot
  slot-part = rw size

  module _ (fits : start + n ≤ length memory) where
    pub part-size : length (take (start + n - start) (drop start memory)) ≡ n
    part-size = rw size (length_part start n memory fits)

    module _ (bytes : List ℕ) (same : length bytes ≡ length (take (start + n - start) (drop start memory))) where
      count : length bytes ≡ n
      count = same ∙ part-size

      -- as many bytes come back
      pub slot-back : take start memory ++ (bytes ++ drop (start + n - start) (drop start memory)) ≡ with_slot start bytes memory
      unfolding with_slot
      slot-back = rw (size, count)

      pub length_back : length (take start memory ++ (bytes ++ drop (start + n - start) (drop start memory))) ≡ length memory
      length_back = rw slot-back (length-with_slot start bytes memory (omega (arith, fits, count)))

      -- what stands in a part that is taken out is not looked at
      pub closed-back : (end : ℕ) → start + n ≤ end → end ≤ length memory
          → closed start n end (take start memory ++ (bytes ++ drop (start + n - start) (drop start memory))) ≡ closed start n end memory
      closed-back end far near =
          let inside : start + length bytes ≤ length memory = omega (arith, fits, count) in
          let size = length-with_slot start bytes memory inside in
          rw slot-back
          (closed-alike start n end (with_slot start bytes memory) memory far (omega (arith, near, size)) size
          (λ i out. with_slot-outside start bytes memory inside i (rw count out)))

-- process p of a sound state, with its record and the number of its bytes, which begin where the state says; an absent one has none
module _ (s : State) (r : Ready s) (p start n : ℕ) (q : Process) (low : p < 8) (e : start ≡ cond q.there (start_of s.records p) 0) (i : q ≡ record_of s p) (j : n ≡ extent q) where
  pub part_count : n ≡ extent_at s.records p
  part_count = j ∙ ap extent i

  pub part-begins : q.there ≡ true → start ≡ start_of s.records p
  part-begins there = rw there at e

  -- it is there, or has no bytes
  there-or-none : (start ≡ start_of s.records p) ⊎ (n ≡ 0)
  there-or-none = go q.there refl
    where
      go : (t : Bool) → q.there ≡ t → (start ≡ start_of s.records p) ⊎ (n ≡ 0)
      go true there = inl (part-begins there)
      go false absent = inr (rw absent at j)

  here : q.there ≡ true → (record_of s p).there ≡ true
  here there = ap (λ (x : Process). x.there) (sym i) ∙ there

  pub part-inside : start + n ≤ length s.memory
  part-inside = go q.there refl
    where
      go : (t : Bool) → q.there ≡ t → start + n ≤ length s.memory
      go true there = rw (part-begins there, part_count) (inside s r p low (here there))
      go false absent = let first : start ≡ 0 = rw absent at e in let none : n ≡ 0 = rw absent at j in rw (first, none) (omega arith)

  same-slot : slot start n s.memory ≡ slot (start_of s.records p) n s.memory
  unfolding slot
  same-slot = ⊎_elim
      (λ (b : start ≡ start_of s.records p). rw b)
      (λ (none : n ≡ 0). rw none)
      there-or-none

  pub local-part : local q (take (start + n - start) (drop start s.memory)) ≡ local_of s p
  local-part = rw (slot-part start n s.memory, same-slot, i, part_count)

  pub tested-part : Tested q (take (start + n - start) (drop start s.memory))
  tested-part = subst (λ (l : Local). Tested l.process l.bytes) (sym local-part) (local-proper s r p low).tested

  module _ (bytes : List ℕ) (same : length bytes ≡ length (take (start + n - start) (drop start s.memory))) where
    empty : n ≡ 0 → length bytes ≡ 0
    empty none = count start n s.memory part-inside bytes same ∙ none

    -- as many bytes come back, to where the process lies
    pub part-back : take start s.memory ++ (bytes ++ drop (start + n - start) (drop start s.memory)) ≡ with_slot (start_of s.records p) bytes s.memory
    part-back = slot-back start n s.memory part-inside bytes same ∙ ⊎_elim
        (λ (b : start ≡ start_of s.records p). ap (λ (k : ℕ). with_slot k bytes s.memory) b)
        (λ (none : n ≡ 0). with_slot-none start bytes s.memory (empty none) ∙ sym (with_slot-none (start_of s.records p) bytes s.memory (empty none)))
        there-or-none

    pub part-long : length (take start s.memory ++ (bytes ++ drop (start + n - start) (drop start s.memory))) ≡ length s.memory
    part-long = length_back start n s.memory part-inside bytes same

    -- the process is taken out, whatever stands in its bytes
    pub gone-back : q.there ≡ true → (l : Local)
        → taken_out p l (lent s.records (take start s.memory ++ (bytes ++ drop (start + n - start) (drop start s.memory)))) ≡ taken_out p l s
    unfolding taken_out
    gone-back there l =
        let laid = layout_of s r in
        let begins = part-begins there in
        let far : start + n ≤ used s.records = rw (begins, part_count) (start-inside s.records laid p low (here there)) in
        rw (← begins, ← part_count)
        (ap (λ (m : List ℕ). record { records = (taken_out p l s).records; memory = m })
        (closed-back start n s.memory part-inside bytes same (used s.records) far (omega (arith, laid.fits, r.memory))))
