-- Each process has its own bytes, without gaps. Among those that begin before an address the sizes grow by one process at a time, the one that
-- begins there; so every byte below their sum is in one of them. Assumes nothing.
use mathlib.Core.Path.{◌≡◌, sym, ◌∙◌}
use mathlib.Core.Bool.{Bool, true, false, ◌&&◌}
use mathlib.Core.Logic.{⊎_elim}
use Prim.Native.Nat.{ℕ, zero, suc, ◌+◌, ◌≤◌, ◌<◌}
use native.Mathlib.Omega.{arith}
use borrow.Author.Tests.{eqb-true, eqb-false}
use lib.Dec.{eqb}
use Rattle.lists.specs.Sum.{total}
use Rattle.lists.proofs.Bool.{&&-left, &&-right}
use Rattle.lists.proofs.Cases.{true-or-false, less-or-not}
use Rattle.lists.proofs.Every.{found-or-none}
use Rattle.lists.proofs.Sum.{total-alike, total-zero, total-one}
use Rattle.state.specs.Records.{Records, process_at, start_of}
use Rattle.state.specs.Layout.{extent_at, used, used_before, LaidOut}
use Rattle.state.specs.Theorems.{ProcessesApart}
use Rattle.state.proofs.LayoutLaws.{extent-absent, part, part_in, part_out, part-absent, start-inside, starts-differ, starts_apart}

module _ (g : Records) (laid : LaidOut g) where
  -- a process has the byte at index i
  abbrev Covered : ℕ → Type 0
  Covered i = (p : ℕ) × (p < 8) × ((process_at g p).there ≡ true) × (start_of g p ≤ i) × (i < start_of g p + extent_at g p)

  -- process p begins at address a
  abbrev begins_at : ℕ → ℕ → Bool
  begins_at a p = (process_at g p).there && eqb (start_of g p) a

  -- a process that does not begin at a begins before it, or after it
  part-next : (a k : ℕ) → ((process_at g k).there ≡ true → start_of g k ≡ a → ⊥) → part g (suc a) k ≡ part g a k
  part-next a k other =
      ⊎_elim
      (λ (e : (process_at g k).there ≡ true).
      ⊎_elim (λ (l : start_of g k < a). part_in g (suc a) k (omega arith) ∙ sym (part_in g a k l))
      (λ (l : a ≤ start_of g k). part_out g (suc a) k (omega (arith, other e)) ∙ sym (part_out g a k l))
      (less-or-not (start_of g k) a))
      (λ (e : (process_at g k).there ≡ false). part-absent g (suc a) k e ∙ sym (part-absent g a k e))
      (true-or-false (process_at g k).there)

  -- the one that does adds its size
  grows : (a p : ℕ) → p < 8 → (process_at g p).there ≡ true → start_of g p ≡ a → total (part g (suc a)) 8 ≡ total (part g a) 8 + extent_at g p
  grows a p h there at =
      let out : part g a p ≡ 0 = part_out g a p (omega arith) in
      let inner : part g (suc a) p ≡ extent_at g p = part_in g (suc a) p (omega arith) in
      omega (arith, total-one (part g (suc a)) (part g a) 8 p h (λ k i o. part-next a k (λ e same. starts-differ g laid p k h i o there e (same ∙ sym at))))

  covered : (a i : ℕ) → i < total (part g a) 8 → Covered i
  unfolding used_before
  covered zero i h = absurd (omega (arith, total-zero (part g 0) 8 (λ k l. part_out g 0 k (omega arith))))
  covered (suc a) i h =
      ⊎_elim
      (λ r.
      let p = r.0 in
      let there = &&-left (process_at g p).there (eqb (start_of g p) a) r.2 in
      let at = eqb-true (start_of g p) a (&&-right (process_at g p).there (eqb (start_of g p) a) r.2) in
      let sum = grows a p r.1 there at in
      let until : a ≡ total (part g a) 8 = before p r.1 there at in
      ⊎_elim (λ (l : i < a). covered a i (omega arith)) (λ (l : a ≤ i). (p, r.1, there, omega arith, omega arith)) (less-or-not i a))
      (λ none. covered a i (rw (total-alike (part g (suc a)) (part g a) 8 (λ k l. part-next a k (λ e same. absent k l none e same))) at h))
      (found-or-none (begins_at a) 8)
    where
      before : (p : ℕ) → p < 8 → (process_at g p).there ≡ true → start_of g p ≡ a → a ≡ total (part g a) 8
      before p low there at = rw at at (laid.begins p low there)

      absent : (k : ℕ) → k < 8 → ((k : ℕ) → k < 8 → begins_at a k ≡ false) → (process_at g k).there ≡ true → start_of g k ≡ a → ⊥
      absent k l none e same = eqb-false (start_of g k) a (rw e at (none k l)) same

  pub no_gaps : (i : ℕ) → i < used g → Covered i
  unfolding used
  no_gaps i h = covered (suc (used g)) i (rw (total-alike (part g (suc (used g))) (extent_at g) 8 all) h)
    where
      all : (k : ℕ) → k < 8 → part g (suc (used g)) k ≡ extent_at g k
      all k l =
          ⊎_elim (λ (e : (process_at g k).there ≡ true). part_in g (suc (used g)) k (omega (arith, start-inside g laid k l e)))
          (λ (e : (process_at g k).there ≡ false). part-absent g (suc (used g)) k e ∙ sym (extent-absent (process_at g k) e))
          (true-or-false (process_at g k).there)

pub processes-apart : ProcessesApart
processes-apart = record { inside = λ g laid p h there. (start-inside g laid p h there, laid.fits); apart = starts_apart; no_gaps = no_gaps }
