-- Laws of the search among the entries of a process. Assumes nothing.
use mathlib.Core.Path.{◌≡◌, refl, sym, ◌∙◌}
use mathlib.Core.Bool.{Bool, true, false, cond, ◌||◌, true≢false}
use mathlib.Core.Logic.{⊎_elim}
use Prim.Native.Nat.{ℕ, ◌+◌, ◌≤◌, ◌<◌}
use native.Mathlib.Nat.{eq-or-lt_of_le}
use native.Mathlib.Omega.{arith}
use borrow.Author.Tests.{eqb-true, eq-eqb, ne_eqb, not-true, ltb-true, ltb-false, lt-ltb, le-ltb}
use lib.ListN.{length}
use lib.Dec.{eqb, ltb}
use Rattle.lists.proofs.Bool.{&&-left, &&-right, &&-both}
use Rattle.lists.proofs.First.{first-≤, first-before, first_passes, first-is}
use Rattle.breakpoints.specs.declared.entry.Breakpoint.{Breakpoint}
use Rattle.process.specs.declared.record.Process.{Process}
use Rattle.std.specs.Prelude.{Some, None}
use Rattle.std.specs.Option.{option_eq}
use Rattle.breakpoints.specs.declared.entry_query.EntryQuery.{EntryQuery}
use Rattle.breakpoints.specs.declared.entry_query.EntryQuery.TheVariants.{Free, Lifted, At}
use Rattle.breakpoints.specs.Entry.{free, in_use}
use Rattle.process.specs.Record.{entry}
use Rattle.breakpoints.specs.EntryQuery.{matches}
use Rattle.process.specs.Find.{find, found_entry}

-- ---- what an entry that matches is

pub matches-free : (b : Breakpoint) → matches Free b ≡ true → in_use b ≡ false
unfolding matches
matches-free b e = not-true (in_use b) e

pub matches-lifted : (b : Breakpoint) → matches Lifted b ≡ true → (in_use b ≡ true) × (b.lifted ≡ true)
unfolding matches
matches-lifted b e = (&&-left (in_use b) b.lifted e, &&-right (in_use b) b.lifted e)

pub matches-at : (a : ℕ) (b : Breakpoint) → matches (At a) b ≡ true → (in_use b ≡ true) × (b.address ≡ a)
unfolding matches
matches-at a b e =
    (&&-left (in_use b) (eqb b.address a) e, eqb-true b.address a (&&-right (in_use b) (eqb b.address a) e))

-- ---- and what is one

pub lifted-matches : (b : Breakpoint) → in_use b ≡ true → b.lifted ≡ true → matches Lifted b ≡ true
unfolding matches
lifted-matches b u l = &&-both (in_use b) b.lifted u l

pub at-matches : (a : ℕ) (b : Breakpoint) → in_use b ≡ true → b.address ≡ a → matches (At a) b ≡ true
unfolding matches
at-matches a b u e = &&-both (in_use b) (eqb b.address a) u (eq-eqb b.address a e)

-- ---- the search

module _ (want : EntryQuery) (p : Process) where
  -- no entry before the one found matches
  pub find-before : (j : ℕ) → j < find want p → matches want (entry p j) ≡ true → ⊥
  unfolding find
  find-before j h e = true≢false (sym e ∙ first-before (matches want) p.breaks free j h)

  module _ (eight : length p.breaks ≡ 8) where
    pub find-≤ : find want p ≤ 8
    unfolding find
    find-≤ = rw eight at (first-≤ (matches want) p.breaks)

    -- the one found matches
    pub find-matches : find want p < 8 → matches want (entry p (find want p)) ≡ true
    unfolding find
    find-matches h = first_passes (matches want) p.breaks free (omega arith)

    -- the one that matches with none before it is found
    pub find-is : (k : ℕ) → k < 8 → matches want (entry p k) ≡ true → ((j : ℕ) → j < k → matches want (entry p j) ≡ false) → find want p ≡ k
    unfolding find
    find-is k h e none = first-is (matches want) p.breaks free k (omega arith) e none

    -- as a loop goes, none before entry j: it is found, or none up to it
    pub find-here : (j : ℕ) → j < 8 → j ≤ find want p → matches want (entry p j) ≡ true → find want p ≡ j
    unfolding find
    find-here j h b e = find-is j h e (λ i l. first-before (matches want) p.breaks free i (omega (arith, b, l)))

    pub find_past : (j : ℕ) → j < 8 → j ≤ find want p → matches want (entry p j) ≡ false → j < find want p
    find_past j h b e = ⊎_elim (λ q. absurd (here q)) (λ l. l) (eq-or-lt_of_le b)
      where
        here : j ≡ find want p → ⊥
        here q = let m : matches want (entry p j) ≡ true = rw q (find-matches (omega (arith, q, h))) in true≢false (sym m ∙ e)

-- an entry before the next one matches, where one before this does or this one does
pub find-next : (want : EntryQuery) (p : Process) → length p.breaks ≡ 8 → (k : ℕ) → k < 8 → (earlier : Bool) → earlier ≡ ltb (find want p) k
    → earlier || matches want (entry p k) ≡ ltb (find want p) (k + 1)
find-next want p eight k low true e = sym (lt-ltb (find want p) (k + 1) (omega (arith, ltb-true (find want p) k (sym e))))
find-next want p eight k low false e = go (matches want (entry p k)) refl
  where
    far : k ≤ find want p
    far = ltb-false (find want p) k (sym e)

    go : (t : Bool) → matches want (entry p k) ≡ t → t ≡ ltb (find want p) (k + 1)
    go true m = sym (lt-ltb (find want p) (k + 1) (omega (arith, find-here want p eight k low far m)))
    go false m = sym (le-ltb (find want p) (k + 1) (omega (arith, find_past want p eight k low far m)))

-- ---- what a search answers

-- an entry that is found: its index, which is under 8
pub record FoundAt (n k : ℕ) : Type 0 where
  pub same : n ≡ k
  pub low : n < 8

pub found-index : (n k : ℕ) → found_entry n ≡ Some k → FoundAt n k
unfolding found_entry
found-index n k e = go (ltb n 8) refl e
  where
    go : (t : Bool) → ltb n 8 ≡ t → cond t (Some n) None ≡ Some k → FoundAt n k
    go true q e = record { same = cc; low = ltb-true n 8 q }
    go false q e = let z : ◌≡◌ {A = ℕ} 0 1 = cc in absurd (omega arith)

pub found_nowhere : (n : ℕ) → found_entry n ≡ None → 8 ≤ n
unfolding found_entry
found_nowhere n e = go (ltb n 8) refl e
  where
    go : (t : Bool) → ltb n 8 ≡ t → cond t (Some n) None ≡ None → 8 ≤ n
    go true q e = let z : ◌≡◌ {A = ℕ} 0 1 = cc in absurd (omega arith)
    go false q e = ltb-false n 8 q

-- a search answers k exactly where it finds entry k
pub found-is : (n k : ℕ) → k < 8 → option_eq eqb (found_entry n) (Some k) ≡ eqb n k
unfolding found_entry
found-is n k h = go (ltb n 8) refl
  where
    go : (t : Bool) → ltb n 8 ≡ t → option_eq eqb (cond t (Some n) None) (Some k) ≡ eqb n k
    go true q = refl
    go false q = sym (ne_eqb n k (λ e. omega (arith, ltb-false n 8 q, h, e)))
