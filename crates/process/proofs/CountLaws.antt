-- Laws of how many entries are in use. Assumes nothing.
use mathlib.Core.Path.{◌≡◌, refl, ap}
use mathlib.Core.Bool.{Bool, true, false, cond}
use mathlib.Core.List.{List, [], ◌∷◌, map}
use Prim.Native.Nat.{ℕ, zero, suc, ◌+◌, ◌<◌, ◌≤◌}
use native.Mathlib.Omega.{arith}
use native.Mathlib.Numerals.{add-one}
use lib.Seq.{drop-cons}
use lib.ListN.{length, drop, get_or, set}
use Rattle.lists.proofs.Bool.{&&-left}
use Rattle.breakpoints.specs.declared.entry.Breakpoint.{Breakpoint}
use Rattle.breakpoints.specs.Entry.{free, in_use}
use Rattle.breakpoints.specs.Entry.{is_set_by}
use Rattle.breakpoints.specs.Seen.{planted}
use Rattle.process.specs.Record.{no_breaks, entry, count_used}
use Rattle.process.specs.Local.{Local}
use Rattle.process.specs.Planting.{planted_in}
use Rattle.process.specs.Request.{count_set_by, without_his}

-- none of eight free entries
pub count_none : count_used no_breaks ≡ 0
unfolding count_used
count_none = refl

-- an entry that is in use as before changes nothing
pub count_set : (bs : List Breakpoint) (k : ℕ) (b : Breakpoint) → in_use b ≡ in_use (get_or bs k free) → count_used (set bs k b) ≡ count_used bs
unfolding count_used
count_set [] k b e = refl
count_set (c ∷ bs) zero b e = ap (λ (t : Bool). cond t (suc (count_used bs)) (count_used bs)) e
count_set (c ∷ bs) (suc k) b e = ap (λ (n : ℕ). cond (in_use c) (suc n) n) (count_set bs k b e)

-- nor does what leaves each in use or free
pub count_map : (f : Breakpoint → Breakpoint) (bs : List Breakpoint) → ((b : Breakpoint) → in_use (f b) ≡ in_use b) → count_used (map f bs) ≡ count_used bs
unfolding count_used
count_map f [] e = refl
count_map f (b ∷ bs) e = rw (e b, count_map f bs e)

-- as a loop counts them
module _ (bs : List Breakpoint) (k : ℕ) (h : k < length bs) where
  pub count-used : in_use (get_or bs k free) ≡ true → count_used (drop k bs) ≡ suc (count_used (drop (k + 1) bs))
  unfolding count_used
  count-used e = rw (drop-cons bs k free h, add-one k, e)

  pub count-unused : in_use (get_or bs k free) ≡ false → count_used (drop k bs) ≡ count_used (drop (k + 1) bs)
  unfolding count_used
  count-unused e = rw (drop-cons bs k free h, add-one k, e)

-- one more is in use
pub count-more : (bs : List Breakpoint) (k : ℕ) (b : Breakpoint) → k < length bs → in_use (get_or bs k free) ≡ false → in_use b ≡ true
    → count_used (set bs k b) ≡ suc (count_used bs)
unfolding count_used
count-more [] k b h e u = absurd (omega (arith, h))
count-more (c ∷ bs) zero b h e u = rw (e, u)
count-more (c ∷ bs) (suc k) b h e u =
    let more = count-more bs k b (omega (arith, h)) e u in
    go (in_use c) more
  where
    go : (t : Bool) {m n : ℕ} → m ≡ suc n → cond t (suc m) m ≡ suc (cond t (suc n) n)
    go true q = ap suc q
    go false q = q

-- one less
pub count_less : (bs : List Breakpoint) (k : ℕ) → k < length bs → in_use (get_or bs k free) ≡ true → count_used bs ≡ suc (count_used (set bs k free))
unfolding count_used
count_less [] k h u = absurd (omega (arith, h))
count_less (c ∷ bs) zero h u = rw u
count_less (c ∷ bs) (suc k) h u = go (in_use c) (count_less bs k (omega (arith, h)) u)
  where
    go : (t : Bool) {m n : ℕ} → m ≡ suc n → cond t (suc m) m ≡ suc (cond t (suc n) n)
    go true q = ap suc q
    go false q = q

-- there are no more of them than entries
pub count_most : (bs : List Breakpoint) → count_used bs ≤ length bs
unfolding count_used
count_most [] = omega arith
count_most (b ∷ bs) = go (in_use b) (count_most bs)
  where
    go : (t : Bool) → count_used bs ≤ length bs → cond t (suc (count_used bs)) (count_used bs) ≤ suc (length bs)
    go true h = omega arith
    go false h = omega arith

-- a breakpoint of a host is in use
his-used : (host : ℕ) (b : Breakpoint) → is_set_by host b ≡ true → in_use b ≡ true
unfolding is_set_by
his-used host b e = &&-left (in_use b) _ e

-- those of a host, and those left when his go, are all
pub count-without : (host : ℕ) (bs : List Breakpoint) → count_used bs ≡ count_used (map (without_his host) bs) + count_set_by host bs
unfolding count_used count_set_by without_his
count-without host [] = refl
count-without host (b ∷ bs) = go (is_set_by host b) refl (count-without host bs)
  where
    more : (t : Bool) (m n o : ℕ) → m ≡ n + o → cond t (suc m) m ≡ cond t (suc n) n + o
    more true m n o q = omega arith
    more false m n o q = q

    go : (t : Bool) → is_set_by host b ≡ t → count_used bs ≡ count_used (map (without_his host) bs) + count_set_by host bs → cond (in_use b) (suc (count_used bs)) (count_used bs) ≡ cond (in_use (cond t free b)) (suc (count_used (map (without_his host) bs))) (count_used (map (without_his host) bs)) + cond t (suc (count_set_by host bs)) (count_set_by host bs)
    go true e rest = rw (his-used host b e) (omega arith)
    go false e rest = more (in_use b) (count_used bs) (count_used (map (without_his host) bs)) (count_set_by host bs) rest

-- where a breakpoint is planted in a free entry there is one more
pub count-planted : (k : ℕ) (b : Breakpoint) (l : Local) → k < length l.process.breaks → in_use (entry l.process k) ≡ false → in_use b ≡ true
    → count_used (planted_in k b l).process.breaks ≡ suc (count_used l.process.breaks)
unfolding planted_in
count-planted k b l h e u = count-more l.process.breaks k (planted l.bytes b) h e u
