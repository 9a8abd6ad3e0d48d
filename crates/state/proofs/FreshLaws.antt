-- Laws of a fresh start: in number order each process begins where the sizes of those before it end, so the state is laid out. Assumes nothing.
use mathlib.Core.Path.{◌≡◌, refl, sym, ap, ◌∙◌}
use mathlib.Core.Bool.{Bool, true, false, not, cond, ◌&&◌, ◌||◌}
use mathlib.Core.List.{List, [], ◌∷◌}
use mathlib.Core.Logic.{◌⊎◌, inl, inr}
use Prim.Native.Nat.{ℕ, zero, suc, ◌+◌, ◌≤◌, ◌<◌, ◌%◌}
use native.Mathlib.Omega.{arith}
use borrow.Author.Tests.{eqb-true, leb-true, lt-ltb, le-ltb}
use lib.ListN.{length, drop, get_or}
use lib.Seq.{get_or-drop}
use lib.Dec.{eqb, leb, ltb}
use Rattle.lists.specs.Sum.{total}
use Rattle.lists.proofs.Bool.{&&-left, &&-right}
use Rattle.lists.proofs.Cases.{true-or-false, less-or-not}
use Rattle.lists.proofs.Every.{below_at}
use Rattle.lists.proofs.Sum.{total_first, total-alike, total-front, total-front-≤, total-front-at}
use Rattle.run_state.specs.declared.Run.TheVariants.{Running}
use Rattle.process.specs.Sizes.{memory_bytes, valid_size}
use Rattle.process.specs.Record.{fresh}
use Rattle.process.specs.Request.{cleared}
use Rattle.process.specs.Local.{extent}
use Rattle.process.specs.Sound.{Sound, SizeRight}
use Rattle.process.proofs.SoundLaws.{sound-free}
use Rattle.state.specs.Records.{Records, nobody, process_at, start_of}
use Rattle.state.specs.Layout.{capacity, extent_at, used, used_before, LaidOut}
use Rattle.state.specs.Fresh.{fresh_process, fresh_processes, fresh_starts, fresh_start, needed, each_right, sizes_right}
use Rattle.state.specs.Theorems.{FreshIsSound}
use Rattle.state.proofs.LayoutLaws.{Sized, extent-absent}

-- ---- processes that lie in number order

module _ (g : Records) (ordered : (p : ℕ) → p < 8 → (process_at g p).there ≡ true → start_of g p ≡ total (extent_at g) p) (fits : used g ≤ capacity) (sized : Sized g) where
  -- those that begin before process p are those with lower numbers
  lower : (p : ℕ) → p < 8 → (process_at g p).there ≡ true → (q : ℕ) → q < 8
      → cond (ltb (start_of g q) (start_of g p)) (extent_at g q) 0 ≡ cond (ltb q p) (extent_at g q) 0
  lower p h there q i = go (true-or-false (process_at g q).there) (less-or-not q p)
    where
      none : (t : Bool) (n : ℕ) → n ≡ 0 → cond t n 0 ≡ 0
      none true n e = e
      none false n e = refl

      go : ((process_at g q).there ≡ true) ⊎ ((process_at g q).there ≡ false) → (q < p) ⊎ (p ≤ q)
          → cond (ltb (start_of g q) (start_of g p)) (extent_at g q) 0 ≡ cond (ltb q p) (extent_at g q) 0
      go (inr e) o =
          let size = extent-absent (process_at g q) e in
          none (ltb (start_of g q) (start_of g p)) (extent_at g q) size ∙ sym (none (ltb q p) (extent_at g q) size)
      go (inl e) (inl l) =
          let less : start_of g q < start_of g p = omega (arith, ordered p h there, ordered q i e, sized q i e, total-front-at (extent_at g) q p l) in
          rw (lt-ltb (start_of g q) (start_of g p) less, lt-ltb q p l)
      go (inl e) (inr l) =
          let more : start_of g p ≤ start_of g q = omega (arith, ordered p h there, ordered q i e, total-front-≤ (extent_at g) p q l) in
          rw (le-ltb (start_of g q) (start_of g p) more, le-ltb q p l)

  pub in_order : LaidOut g
  unfolding used_before
  in_order = record {
    begins = λ p h there.
        ordered p h there
        ∙ sym (total-front (extent_at g) p 8 (omega arith))
        ∙ sym (total-alike (λ (q : ℕ). cond (ltb (start_of g q) (start_of g p)) (extent_at g q) 0) (λ (q : ℕ). cond (ltb q p) (extent_at g q) 0) 8 (lower p h there));
    differ = λ p q less h there also same.
        let early : q < 8 = omega arith in
        omega (arith, ordered p h also, ordered q early there, sized q early there, total-front-at (extent_at g) q p less);
    fits = fits;
  }

-- ---- the records of a fresh start

pub there-fresh_process : (t : Bool) (n : ℕ) → (fresh_process t n).there ≡ t
unfolding fresh_process fresh cleared
there-fresh_process true n = refl
there-fresh_process false n = refl

pub extent-fresh_process : (t : Bool) (n : ℕ) → extent (fresh_process t n) ≡ cond t n 0
unfolding fresh_process fresh cleared
extent-fresh_process true n = refl
extent-fresh_process false n = refl

-- a fresh record is sound: it has no host and no breakpoints, and its size is right
size-right : (n : ℕ) → valid_size n ≡ true → SizeRight n
unfolding valid_size
size-right n e =
    let both = &&-right (eqb (n % 2) 0) (leb 2 n && leb n memory_bytes) e in
    record { even = eqb-true _ _ (&&-left (eqb (n % 2) 0) _ e); least = leb-true _ _ (&&-left (leb 2 n) _ both); most = leb-true _ _ (&&-right (leb 2 n) (leb n memory_bytes) both) }

fresh-sound : (t : Bool) (n : ℕ) → not t || valid_size n ≡ true → Sound (fresh_process t n)
unfolding fresh_process fresh cleared valid_size
fresh-sound true n e = sound-free (fresh true 0 Running n) (size-right n e) refl refl refl refl refl (λ i. refl)
fresh-sound false n e = sound-free (fresh false 0 Running memory_bytes) (size-right memory_bytes refl) refl refl refl refl refl (λ i. refl)

pub length-fresh_processes : (ts : List Bool) (ns : List ℕ) → length (fresh_processes ts ns) ≡ length ts
unfolding fresh_processes
length-fresh_processes [] ns = refl
length-fresh_processes (t ∷ ts) ns = ap suc (length-fresh_processes ts (drop 1 ns))

-- the sizes that follow the first
next-size : (ns : List ℕ) (k : ℕ) → get_or (drop 1 ns) k 0 ≡ get_or ns (suc k) 0
next-size ns k = let next : 1 + k ≡ suc k = omega arith in get_or-drop 1 ns k 0 ∙ ap (λ (n : ℕ). get_or ns n 0) next

-- process k is there as the first list says, with its size of the second
pub getD-fresh_processes : (ts : List Bool) (ns : List ℕ) (k : ℕ) → k < length ts → get_or (fresh_processes ts ns) k nobody ≡ fresh_process (get_or ts k false) (get_or ns k 0)
unfolding fresh_processes
getD-fresh_processes [] ns k h = absurd (omega (arith, h))
getD-fresh_processes (t ∷ ts) ns zero h = refl
getD-fresh_processes (t ∷ ts) ns (suc k) h = getD-fresh_processes ts (drop 1 ns) k (omega arith) ∙ ap (fresh_process (get_or ts k false)) (next-size ns k)

-- ---- and its starts

pub length-fresh_starts : (at : ℕ) (ts : List Bool) (ns : List ℕ) → length (fresh_starts at ts ns) ≡ length ts
unfolding fresh_starts
length-fresh_starts at [] ns = refl
length-fresh_starts at (t ∷ ts) ns = ap suc (length-fresh_starts (at + cond t (get_or ns 0 0) 0) ts (drop 1 ns))

-- the size that process p has
abbrev size_at : List Bool → List ℕ → ℕ → ℕ
size_at ts ns p = cond (get_or ts p false) (get_or ns p 0) 0

pub getD-fresh_starts : (at : ℕ) (ts : List Bool) (ns : List ℕ) (k : ℕ) → k < length ts
    → get_or (fresh_starts at ts ns) k 0 ≡ cond (get_or ts k false) (at + total (λ (p : ℕ). cond (get_or ts p false) (get_or ns p 0) 0) k) 0
unfolding fresh_starts total
getD-fresh_starts at [] ns k h = absurd (omega (arith, h))
getD-fresh_starts at (t ∷ ts) ns zero h = let none : at ≡ at + 0 = omega arith in ap (λ (n : ℕ). cond t n 0) none
getD-fresh_starts at (t ∷ ts) ns (suc k) h =
    let size = cond t (get_or ns 0 0) 0 in
    let others : total (size_at ts (drop 1 ns)) k ≡ total (λ (p : ℕ). size_at (t ∷ ts) ns (suc p)) k =
    total-alike (size_at ts (drop 1 ns)) (λ (p : ℕ). size_at (t ∷ ts) ns (suc p)) k (λ p i. ap (λ (n : ℕ). cond (get_or ts p false) n 0) (next-size ns p)) in
    let sum : at + size + total (size_at ts (drop 1 ns)) k ≡ at + total (size_at (t ∷ ts) ns) (suc k) = omega (arith, total_first (size_at (t ∷ ts) ns) k) in
    getD-fresh_starts (at + size) ts (drop 1 ns) k (omega arith) ∙ ap (λ (n : ℕ). cond (get_or ts k false) n 0) sum

-- ---- the whole state

module _ (ts : List Bool) (ns : List ℕ) (long : length ts ≡ 8) where
  process-fresh : (p : ℕ) → p < 8 → process_at (fresh_start ts ns) p ≡ fresh_process (get_or ts p false) (get_or ns p 0)
  unfolding fresh_start
  process-fresh p h = getD-fresh_processes ts ns p (omega arith)

  extent-fresh : (p : ℕ) → p < 8 → extent_at (fresh_start ts ns) p ≡ size_at ts ns p
  extent-fresh p h = ap extent (process-fresh p h) ∙ extent-fresh_process (get_or ts p false) (get_or ns p 0)

  there-fresh : (p : ℕ) → p < 8 → (process_at (fresh_start ts ns) p).there ≡ true → get_or ts p false ≡ true
  there-fresh p h there = sym (rw (process-fresh p h) (there-fresh_process (get_or ts p false) (get_or ns p 0))) ∙ there

  pub used-fresh : used (fresh_start ts ns) ≡ needed ts ns
  unfolding used needed
  used-fresh = total-alike (extent_at (fresh_start ts ns)) (size_at ts ns) 8 extent-fresh

  start-fresh : (p : ℕ) → p < 8 → (process_at (fresh_start ts ns) p).there ≡ true → start_of (fresh_start ts ns) p ≡ total (extent_at (fresh_start ts ns)) p
  unfolding fresh_start
  start-fresh p h there =
      let none : 0 + total (size_at ts ns) p ≡ total (size_at ts ns) p = omega arith in
      getD-fresh_starts 0 ts ns p (omega arith)
      ∙ rw (there-fresh p h there) none
      ∙ sym (total-alike (extent_at (fresh_start ts ns)) (size_at ts ns) p (λ k i. extent-fresh k (omega arith)))

  module _ (right : sizes_right ts ns ≡ true) where
    size-valid : (p : ℕ) → p < 8 → not (get_or ts p false) || valid_size (get_or ns p 0) ≡ true
    unfolding sizes_right each_right
    size-valid p h = below_at (λ (q : ℕ). not (get_or ts q false) || valid_size (get_or ns q 0)) 8 p h (&&-left (each_right ts ns) (leb (needed ts ns) capacity) right)

    sized_fresh : Sized (fresh_start ts ns)
    sized_fresh p h there =
        let here = there-fresh p h there in
        let valid : valid_size (get_or ns p 0) ≡ true = rw here at (size-valid p h) in
        let size : extent_at (fresh_start ts ns) p ≡ get_or ns p 0 = extent-fresh p h ∙ rw here in
        omega (arith, (size-right (get_or ns p 0) valid).least)

    pub layout-fresh : LaidOut (fresh_start ts ns)
    unfolding sizes_right
    layout-fresh =
        let room = leb-true (needed ts ns) capacity (&&-right (each_right ts ns) (leb (needed ts ns) capacity) right) in
        in_order (fresh_start ts ns) start-fresh (rw used-fresh room) sized_fresh

pub fresh-is-sound : FreshIsSound
unfolding FreshIsSound
fresh-is-sound ts ns long right = record {
  each = λ p h. rw (process-fresh ts ns long p h) (fresh-sound (get_or ts p false) (get_or ns p 0) (size-valid ts ns long right p h));
  layout = layout-fresh ts ns long right;
}
