-- Laws of where the processes lie. The sum over those that begin before an address decides everything: a process ends where the sum up to it,
-- and its own size, end; so two never meet, the last ends where all sizes together end, and the sums stay right when a process is put last, is
-- taken out, or keeps its size. Assumes nothing.
use mathlib.Core.Path.{◌≡◌, refl, sym, ap, ◌∙◌}
use mathlib.Core.Bool.{Bool, true, false, cond}
use mathlib.Core.Logic.{◌⊎◌, inl, inr, ⊎_elim}
use Prim.Native.Nat.{ℕ, ◌+◌, ◌-◌, ◌≤◌, ◌<◌}
use native.Mathlib.Omega.{arith}
use borrow.Author.Tests.{lt-ltb, le-ltb, eq-eqb, ne_eqb}
use lib.ListN.{length, get_or}
use lib.Dec.{ltb}
use Rattle.lists.specs.Sum.{total, greatest}
use Rattle.lists.proofs.Cases.{true-or-false, same-or-other, less-or-not, ltb-alike}
use Rattle.lists.proofs.Elements.{length-elements, getD-elements}
use Rattle.lists.proofs.Sum.{total-alike, total-zero, total-more, total-one, greatest-at, greatest-is}
use Rattle.process.specs.declared.record.Process.{Process}
use Rattle.process.specs.Local.{extent}
use Rattle.state.specs.Records.{Records, process_at, with_process, start_of, with_start}
use Rattle.state.specs.Layout.{capacity, extent_at, used, used_before, LaidOut, start_without, starts_without}
use Rattle.state.proofs.RecordsLaws.{process-same, process-other, start-same, start-other}

-- every process that is there has bytes
abbrev pub Sized : Records → Type 0
Sized g = (k : ℕ) → k < 8 → (process_at g k).there ≡ true → 0 < extent_at g k

-- an absent process has no bytes
pub extent-absent : (q : Process) → q.there ≡ false → extent q ≡ 0
extent-absent q e = rw e

-- ---- the bytes of one process in a sum over those that begin before an address

abbrev pub part : Records → ℕ → ℕ → ℕ
part g a q = cond (ltb (start_of g q) a) (extent_at g q) 0

part-≤ : (g : Records) (a q : ℕ) → part g a q ≤ extent_at g q
part-≤ g a q = go (ltb (start_of g q) a)
  where
    go : (t : Bool) → cond t (extent_at g q) 0 ≤ extent_at g q
    go true = omega arith
    go false = omega arith

pub part_in : (g : Records) (a q : ℕ) → start_of g q < a → part g a q ≡ extent_at g q
part_in g a q h = rw (lt-ltb (start_of g q) a h)

pub part_out : (g : Records) (a q : ℕ) → a ≤ start_of g q → part g a q ≡ 0
part_out g a q h = rw (le-ltb (start_of g q) a h)

pub part-absent : (g : Records) (a q : ℕ) → (process_at g q).there ≡ false → part g a q ≡ 0
part-absent g a q e = omega (arith, part-≤ g a q, extent-absent (process_at g q) e)

part-more : (g : Records) (a b q : ℕ) → a ≤ b → part g a q ≤ part g b q
part-more g a b q h =
    ⊎_elim (λ (l : start_of g q < a). omega (arith, part_in g a q l, part_in g b q (omega arith)))
    (λ (l : a ≤ start_of g q). omega (arith, part_out g a q l))
    (less-or-not (start_of g q) a)

-- ---- what a layout says of one process, and of two

pub start-inside : (g : Records) → LaidOut g → (p : ℕ) → p < 8 → (process_at g p).there ≡ true → start_of g p + extent_at g p ≤ used g
unfolding used used_before
start-inside g laid p low there =
    let a = start_of g p in
    let out : part g a p ≡ 0 = part_out g a p (omega arith) in
    let sum : total (part g a) 8 + extent_at g p ≤ total (extent_at g) 8 = total-more (part g a) (extent_at g) 8 (λ k h. part-≤ g a k) p (extent_at g p) low (omega arith) in
    omega (arith, laid.begins p low there)

-- one that begins before another ends before it
start-before : (g : Records) → LaidOut g → (p q : ℕ) → p < 8 → q < 8 → (process_at g p).there ≡ true → (process_at g q).there ≡ true
    → start_of g q < start_of g p → start_of g q + extent_at g q ≤ start_of g p
unfolding used_before
start-before g laid p q low h there also less =
    let a = start_of g q in
    let b = start_of g p in
    let out : part g a q ≡ 0 = part_out g a q (omega arith) in
    let inner : part g b q ≡ extent_at g q = part_in g b q less in
    let sum : total (part g a) 8 + extent_at g q ≤ total (part g b) 8 = total-more (part g a) (part g b) 8 (λ k i. part-more g a b k (omega arith)) q (extent_at g q) h (omega arith) in
    omega (arith, laid.begins p low there, laid.begins q h also)

pub starts-differ : (g : Records) → LaidOut g → (p q : ℕ) → p < 8 → q < 8 → (q ≡ p → ⊥) → (process_at g p).there ≡ true → (process_at g q).there ≡ true
    → start_of g q ≡ start_of g p → ⊥
starts-differ g laid p q low h other there also same =
    ⊎_elim (λ (l : q < p). laid.differ p q l low also there same) (λ (l : p ≤ q). laid.differ q p (omega arith) h there also (sym same)) (less-or-not q p)

pub starts_apart : (g : Records) → LaidOut g → (p q : ℕ) → p < 8 → q < 8 → (q ≡ p → ⊥) → (process_at g p).there ≡ true → (process_at g q).there ≡ true
    → (start_of g q + extent_at g q ≤ start_of g p) ⊎ (start_of g p + extent_at g p ≤ start_of g q)
starts_apart g laid p q low h other there also =
    ⊎_elim (λ (l : start_of g q < start_of g p). inl (start-before g laid p q low h there also l))
    (λ (l : start_of g p ≤ start_of g q). inr (start-before g laid q p h low also there (omega (arith, starts-differ g laid p q low h other there also))))
    (less-or-not (start_of g q) (start_of g p))

-- ---- states whose processes lie alike

pub record Alike (g h : Records) : Type 0 where
  pub there : (k : ℕ) → k < 8 → (process_at h k).there ≡ (process_at g k).there
  pub extents : (k : ℕ) → k < 8 → extent_at h k ≡ extent_at g k
  pub starts : (k : ℕ) → k < 8 → (process_at g k).there ≡ true → start_of h k ≡ start_of g k

pub used-alike : (g h : Records) → Alike g h → used h ≡ used g
unfolding used
used-alike g h same = total-alike (extent_at h) (extent_at g) 8 same.extents

part-alike : (g h : Records) → Alike g h → (a k : ℕ) → k < 8 → part h a k ≡ part g a k
part-alike g h same a k low =
    ⊎_elim (λ e. rw (same.starts k low e, same.extents k low))
    (λ e. part-absent h a k (same.there k low ∙ e) ∙ sym (part-absent g a k e))
    (true-or-false (process_at g k).there)

pub layout-alike : (g h : Records) → Alike g h → LaidOut g → LaidOut h
unfolding used_before
layout-alike g h same laid = record {
  begins = λ p low there.
      let was = sym (same.there p low) ∙ there in
      rw (same.starts p low was) (laid.begins p low was ∙ sym (total-alike (part h (start_of g p)) (part g (start_of g p)) 8 (part-alike g h same (start_of g p))));
  differ = λ p q less low there also e.
      let early : q < 8 = omega arith in
      let was = sym (same.there q early) ∙ there in
      let so = sym (same.there p low) ∙ also in
      laid.differ p q less low was so (sym (same.starts q early was) ∙ e ∙ same.starts p low so);
  fits = rw (used-alike g h same) laid.fits;
}

-- another record of a process that is there as before and has as many bytes
kept-alike : (g : Records) → length g.processes ≡ 8 → (p : ℕ) → p < 8 → (q : Process) → q.there ≡ (process_at g p).there → extent q ≡ extent_at g p
    → Alike g (with_process p q g)
kept-alike g eight p low q there size = record {
  there = λ k h.
      ⊎_elim (λ (e : k ≡ p). rw (e, process-same g eight p low q) there)
      (λ (o : k ≡ p → ⊥). ap (λ (r : Process). r.there) (process-other g p q k o))
      (same-or-other k p);
  extents = λ k h.
      ⊎_elim (λ (e : k ≡ p). rw (e, process-same g eight p low q) size) (λ (o : k ≡ p → ⊥). ap extent (process-other g p q k o)) (same-or-other k p);
  starts = λ k h e. refl;
}

pub layout-kept : (g : Records) → length g.processes ≡ 8 → LaidOut g → (p : ℕ) → p < 8 → (q : Process)
    → q.there ≡ (process_at g p).there → extent q ≡ extent_at g p → LaidOut (with_process p q g)
layout-kept g eight laid p low q there size = layout-alike g (with_process p q g) (kept-alike g eight p low q there size) laid

pub used-kept : (g : Records) → length g.processes ≡ 8 → LaidOut g → (p : ℕ) → p < 8 → (q : Process)
    → q.there ≡ (process_at g p).there → extent q ≡ extent_at g p → used (with_process p q g) ≡ used g
used-kept g eight laid p low q there size = used-alike g (with_process p q g) (kept-alike g eight p low q there size)

-- ---- a process put last

used-with-last : (g h : Records) (p : ℕ) → p < 8 → (process_at g p).there ≡ false → ((k : ℕ) → (k ≡ p → ⊥) → process_at h k ≡ process_at g k)
    → used h ≡ used g + extent_at h p
unfolding used
used-with-last g h p low absent process =
    let none : extent_at g p ≡ 0 = extent-absent (process_at g p) absent in
    omega (arith, total-one (extent_at h) (extent_at g) 8 p low (λ k i o. ap extent (process k o)))

module _ (g h : Records) (laid : LaidOut g) (sized : Sized g) (p : ℕ) (low : p < 8) (absent : (process_at g p).there ≡ false)
    (process : (k : ℕ) → (k ≡ p → ⊥) → process_at h k ≡ process_at g k) (start : (k : ℕ) → (k ≡ p → ⊥) → start_of h k ≡ start_of g k)
    (last : start_of h p ≡ used g) where
  -- every other begins before the free bytes
  begins-lower : (k : ℕ) → k < 8 → (process_at g k).there ≡ true → start_of g k < used g
  begins-lower k i there = omega (arith, start-inside g laid k i there, sized k i there)

  -- it begins where all others end
  part-others : (k : ℕ) → k < 8 → part h (used g) k ≡ extent_at g k
  part-others k i =
      ⊎_elim
      (λ (e : k ≡ p). rw e (part_out h (used g) p (omega arith) ∙ sym (extent-absent (process_at g p) absent)))
      (λ (o : k ≡ p → ⊥). rw (start k o, process k o)
      (⊎_elim (λ (e : (process_at g k).there ≡ true). part_in g (used g) k (begins-lower k i e))
      (λ (e : (process_at g k).there ≡ false). part-absent g (used g) k e ∙ sym (extent-absent (process_at g k) e))
      (true-or-false (process_at g k).there)))
      (same-or-other k p)

  -- and for the others nothing has changed
  part-kept : (a k : ℕ) → a ≤ used g → k < 8 → part h a k ≡ part g a k
  part-kept a k few i =
      ⊎_elim (λ (e : k ≡ p). rw e (part_out h a p (omega arith) ∙ sym (part-absent g a p absent))) (λ (o : k ≡ p → ⊥). rw (start k o, process k o)) (same-or-other k p)

  begins-each : (k : ℕ) → k < 8 → (process_at h k).there ≡ true → (k ≡ p) ⊎ (k ≡ p → ⊥) → start_of h k ≡ used_before (start_of h k) h
  unfolding used used_before
  begins-each k i there (inl e) = rw (e, last) (sym (total-alike (part h (used g)) (extent_at g) 8 part-others))
  begins-each k i there (inr o) =
      let was = ap (λ (r : Process). r.there) (sym (process k o)) ∙ there in
      let a = start_of g k in
      let few : a ≤ used g = omega (arith, begins-lower k i was) in
      rw (start k o) (laid.begins k i was ∙ sym (total-alike (part h a) (part g a) 8 (λ j m. part-kept a j few m)))

  differ-each : (j k : ℕ) → k < j → j < 8 → (process_at h k).there ≡ true → (process_at h j).there ≡ true → start_of h k ≡ start_of h j
      → (k ≡ p) ⊎ (k ≡ p → ⊥) → (j ≡ p) ⊎ (j ≡ p → ⊥) → ⊥
  differ-each j k less i there also same (inl e) (inl d) = omega arith
  differ-each j k less i there also same (inl e) (inr n) =
      let was = ap (λ (r : Process). r.there) (sym (process j n)) ∙ also in
      let at : start_of h k ≡ used g = rw e last in
      omega (arith, begins-lower j i was, start j n)
  differ-each j k less i there also same (inr o) (inl d) =
      let was = ap (λ (r : Process). r.there) (sym (process k o)) ∙ there in
      let at : start_of h j ≡ used g = rw d last in
      omega (arith, begins-lower k (omega arith) was, start k o)
  differ-each j k less i there also same (inr o) (inr n) =
      let was = ap (λ (r : Process). r.there) (sym (process k o)) ∙ there in
      let so = ap (λ (r : Process). r.there) (sym (process j n)) ∙ also in
      laid.differ j k less i was so (sym (start k o) ∙ same ∙ start j n)

  layout-with-last : used g + extent_at h p ≤ capacity → LaidOut h
  layout-with-last room = record {
    begins = λ k i there. begins-each k i there (same-or-other k p);
    differ = λ j k less i there also same. differ-each j k less i there also same (same-or-other k p) (same-or-other j p);
    fits = rw (used-with-last g h p low absent process) room;
  }

module _ (g : Records) (eight : length g.processes ≡ 8) (starts : length g.starts ≡ 8) (laid : LaidOut g) (p : ℕ) (low : p < 8)
    (q : Process) (absent : (process_at g p).there ≡ false) where
  abbrev put : Records
  put = with_start p (used g) (with_process p q g)

  is : process_at put p ≡ q
  is = process-same g eight p low q

  last : start_of put p ≡ used g
  last = start-same (with_process p q g) starts p low (used g)

  others : (k : ℕ) → (k ≡ p → ⊥) → process_at put k ≡ process_at g k
  others k o = process-other g p q k o

  elsewhere : (k : ℕ) → (k ≡ p → ⊥) → start_of put k ≡ start_of g k
  elsewhere k o = start-other (with_process p q g) p (used g) k o

  pub used-last : used (with_start p (used g) (with_process p q g)) ≡ used g + extent q
  used-last = used-with-last g put p low absent others ∙ ap (λ (r : Process). used g + extent r) is

  pub layout-last : q.there ≡ true → used g + extent q ≤ capacity → Sized g → LaidOut (with_start p (used g) (with_process p q g))
  layout-last there room sized = layout-with-last g put laid sized p low absent others elsewhere last (rw is room)

-- ---- a process taken out

-- where the others begin then
start_without-is : (g : Records) (p k : ℕ) → k < 8 → get_or (starts_without p g) k 0 ≡ start_without g p k
unfolding starts_without
start_without-is g p k h = getD-elements (start_without g p) 8 k h

pub length-starts_without : (p : ℕ) (g : Records) → length (starts_without p g) ≡ 8
unfolding starts_without
length-starts_without p g = length-elements (start_without g p) 8

pub start-above : (g : Records) (p k : ℕ) → k < 8 → (k ≡ p → ⊥) → (process_at g k).there ≡ true → start_of g p < start_of g k
    → get_or (starts_without p g) k 0 ≡ start_of g k - extent_at g p
unfolding start_without
start-above g p k h other there above = start_without-is g p k h ∙ rw (ne_eqb k p other, there, lt-ltb (start_of g p) (start_of g k) above)

pub start_under : (g : Records) (p k : ℕ) → k < 8 → (k ≡ p → ⊥) → (process_at g k).there ≡ true → start_of g k ≤ start_of g p
    → get_or (starts_without p g) k 0 ≡ start_of g k
unfolding start_without
start_under g p k h other there under = start_without-is g p k h ∙ rw (ne_eqb k p other, there, le-ltb (start_of g p) (start_of g k) under)

-- an absent process keeps what its record says, and the one that goes has no start any more
pub start-absent : (g : Records) (p k : ℕ) → k < 8 → (k ≡ p → ⊥) → (process_at g k).there ≡ false → get_or (starts_without p g) k 0 ≡ start_of g k
unfolding start_without
start-absent g p k h other absent = start_without-is g p k h ∙ rw (ne_eqb k p other, absent)

pub start-gone : (g : Records) (p : ℕ) → p < 8 → get_or (starts_without p g) p 0 ≡ 0
unfolding start_without
start-gone g p h = start_without-is g p p h ∙ rw (eq-eqb p p refl)

module _ (g : Records) (eight : length g.processes ≡ 8) (laid : LaidOut g) (p : ℕ) (low : p < 8) (there : (process_at g p).there ≡ true)
    (q : Process) (gone : q.there ≡ false) where
  abbrev left : Records
  left = record { processes = (with_process p q g).processes; starts = starts_without p g }

  absent : (process_at left p).there ≡ false
  absent = rw (process-same g eight p low q) gone

  stays : (k : ℕ) → (k ≡ p → ⊥) → process_at left k ≡ process_at g k
  stays k o = process-other g p q k o

  not-p : (k : ℕ) → (process_at left k).there ≡ true → k ≡ p → ⊥
  not-p k e same = let both : true ≡ false = sym e ∙ ap (λ (i : ℕ). (process_at left i).there) same ∙ absent in let z : ◌≡◌ {A = ℕ} 0 1 = cc in omega arith

  -- a process that stays begins below it and stays where it is, or begins after its end and moves down by its size
  data Moved (k : ℕ) : Type 0 where
    under : start_of g k < start_of g p → start_of left k ≡ start_of g k → Moved k
    above : start_of g p < start_of g k → start_of g p + extent_at g p ≤ start_of g k → start_of left k + extent_at g p ≡ start_of g k → Moved k

  moved : (k : ℕ) → k < 8 → (k ≡ p → ⊥) → (process_at g k).there ≡ true → Moved k
  moved k i o also =
      ⊎_elim (λ (l : start_of g k < start_of g p). under l (start_under g p k i o also (omega arith)))
      (λ (l : start_of g p ≤ start_of g k).
      let less : start_of g p < start_of g k = omega (arith, starts-differ g laid p k low i o there also) in
      let room : start_of g p + extent_at g p ≤ start_of g k = start-before g laid k p i low also there less in
      above less room (omega (arith, start-above g p k i o also less)))
      (less-or-not (start_of g k) (start_of g p))

  -- so they stay in their order
  moved-less : (j k : ℕ) → Moved j → Moved k → start_of g j < start_of g k → start_of left j < start_of left k
  moved-less j k (under a b) (under d e) l = omega arith
  moved-less j k (under a b) (above d e f) l = omega arith
  moved-less j k (above a b c) (under d e) l = omega arith
  moved-less j k (above a b c) (above d e f) l = omega arith

  moved-≤ : (j k : ℕ) → Moved j → Moved k → start_of g k ≤ start_of g j → start_of left k ≤ start_of left j
  moved-≤ j k (under a b) (under d e) l = omega arith
  moved-≤ j k (under a b) (above d e f) l = omega arith
  moved-≤ j k (above a b c) (under d e) l = omega arith
  moved-≤ j k (above a b c) (above d e f) l = omega arith

  -- and what begins before each of them is the same, but for the one that goes
  part_stays : (k : ℕ) → Moved k → (j : ℕ) → j < 8 → (j ≡ p → ⊥) → part left (start_of left k) j ≡ part g (start_of g k) j
  part_stays k m j i o =
      ⊎_elim
      (λ (e : (process_at g j).there ≡ true).
      let n = moved j i o e in
      rw (ltb-alike (start_of g j) (start_of g k) (start_of left j) (start_of left k) (moved-less j k n m) (moved-≤ j k n m), stays j o))
      (λ (e : (process_at g j).there ≡ false). part-absent left (start_of left k) j (rw (stays j o) e) ∙ sym (part-absent g (start_of g k) j e))
      (true-or-false (process_at g j).there)

  begins-moved : (k : ℕ) → Moved k → start_of g k ≡ used_before (start_of g k) g → start_of left k ≡ used_before (start_of left k) left
  unfolding used_before
  begins-moved k m was =
      let none : part left (start_of left k) p ≡ 0 = part-absent left (start_of left k) p absent in
      let sum = total-one (part left (start_of left k)) (part g (start_of g k)) 8 p low (λ j i o. part_stays k m j i o) in
      go m sum none
    where
      go : Moved k → total (part left (start_of left k)) 8 + part g (start_of g k) p ≡ total (part g (start_of g k)) 8 + part left (start_of left k) p
          → part left (start_of left k) p ≡ 0 → start_of left k ≡ total (part left (start_of left k)) 8
      go (under a b) sum none = let out : part g (start_of g k) p ≡ 0 = part_out g (start_of g k) p (omega arith) in omega arith
      go (above a b c) sum none = let inner : part g (start_of g k) p ≡ extent_at g p = part_in g (start_of g k) p a in omega arith

  pub used-without : used (record { processes = (with_process p q g).processes; starts = starts_without p g }) + extent_at g p ≡ used g
  unfolding used
  used-without =
      let none : extent_at left p ≡ 0 = extent-absent (process_at left p) absent in
      omega (arith, total-one (extent_at left) (extent_at g) 8 p low (λ k i o. ap extent (stays k o)))

  pub layout-without : LaidOut (record { processes = (with_process p q g).processes; starts = starts_without p g })
  layout-without = record {
    begins = λ k i e.
        let o = not-p k e in
        let was = ap (λ (r : Process). r.there) (sym (stays k o)) ∙ e in
        begins-moved k (moved k i o was) (laid.begins k i was);
    differ = λ j k less i e f same.
        let early : k < 8 = omega arith in
        let o = not-p k e in
        let n = not-p j f in
        let was = ap (λ (r : Process). r.there) (sym (stays k o)) ∙ e in
        let so = ap (λ (r : Process). r.there) (sym (stays j n)) ∙ f in
        let first = moved k early o was in
        let second = moved j i n so in
        ⊎_elim (λ (l : start_of g k < start_of g j). omega (arith, moved-less k j first second l))
        (λ (l : start_of g j ≤ start_of g k).
        ⊎_elim (λ (m : start_of g j < start_of g k). omega (arith, moved-less j k second first m))
        (λ (m : start_of g k ≤ start_of g j). laid.differ j k less i was so (omega arith))
        (less-or-not (start_of g j) (start_of g k)))
        (less-or-not (start_of g k) (start_of g j));
    fits = omega (arith, used-without, laid.fits);
  }

-- ---- the last process ends where the free bytes begin

module _ (g : Records) (laid : LaidOut g) (sized : Sized g) where
  abbrev end_of : ℕ → ℕ
  end_of p = cond (process_at g p).there (start_of g p + extent_at g p) 0

  end-there : (p : ℕ) → (process_at g p).there ≡ true → end_of p ≡ start_of g p + extent_at g p
  end-there p e = rw e

  end-absent : (p : ℕ) → (process_at g p).there ≡ false → end_of p ≡ 0
  end-absent p e = rw e

  end-≤ : (p : ℕ) → p < 8 → end_of p ≤ used g
  end-≤ p h =
      ⊎_elim (λ (e : (process_at g p).there ≡ true). omega (arith, end-there p e, start-inside g laid p h e))
      (λ (e : (process_at g p).there ≡ false). omega (arith, end-absent p e))
      (true-or-false (process_at g p).there)

  -- with no end above 0 there is no process
  none-there : greatest end_of 8 ≡ 0 → used g ≡ 0
  unfolding used
  none-there z = total-zero (extent_at g) 8 (λ k h.
      ⊎_elim (λ (e : (process_at g k).there ≡ true). absurd (omega (arith, greatest-at end_of 8 k h, end-there k e, sized k h e)))
      (λ (e : (process_at g k).there ≡ false). extent-absent (process_at g k) e)
      (true-or-false (process_at g k).there))

  -- all others begin before the one that ends last
  last-is : (p : ℕ) → p < 8 → (process_at g p).there ≡ true → greatest end_of 8 ≡ end_of p → used g ≡ start_of g p + extent_at g p
  unfolding used used_before
  last-is p h there top =
      let a = start_of g p in
      let out : part g a p ≡ 0 = part_out g a p (omega arith) in
      omega (arith, laid.begins p h there, total-one (extent_at g) (part g a) 8 p h (λ k i o. sym (inner k i o (true-or-false (process_at g k).there))))
    where
      inner : (k : ℕ) → k < 8 → (k ≡ p → ⊥) → ((process_at g k).there ≡ true) ⊎ ((process_at g k).there ≡ false) → part g (start_of g p) k ≡ extent_at g k
      inner k i o (inr e) = part-absent g (start_of g p) k e ∙ sym (extent-absent (process_at g k) e)
      inner k i o (inl e) =
          ⊎_elim (λ (l : start_of g k + extent_at g k ≤ start_of g p). part_in g (start_of g p) k (omega (arith, sized k i e)))
          (λ (l : start_of g p + extent_at g p ≤ start_of g k). absurd (omega (arith, sized k i e, greatest-at end_of 8 k i, end-there k e, end-there p there)))
          (starts_apart g laid p k h i o there e)

  pub last-ends : greatest (λ (p : ℕ). cond (process_at g p).there (start_of g p + extent_at g p) 0) 8 ≡ used g
  last-ends =
      ⊎_elim (λ (z : greatest end_of 8 ≡ 0). z ∙ sym (none-there z))
      (λ r.
      ⊎_elim (λ (e : (process_at g r.0).there ≡ true). r.2 ∙ end-there r.0 e ∙ sym (last-is r.0 r.1 e r.2))
      (λ (e : (process_at g r.0).there ≡ false). let z = r.2 ∙ end-absent r.0 e in z ∙ sym (none-there z))
      (true-or-false (process_at g r.0).there))
      (greatest-is end_of 8)
