-- The test of soundness passes exactly the sound states: each conjunct of the test is one field of the definition. Assumes nothing.
use mathlib.Core.Path.{◌≡◌, refl}
use mathlib.Core.Bool.{Bool, true, false, not, ◌&&◌, ◌||◌}
use Prim.Native.Nat.{ℕ, ◌≤◌, ◌<◌}
use native.Mathlib.Omega.{arith}
use borrow.Author.Tests.{eqb-true, eqb-false, leb-true, le-leb, eq-eqb, ne_eqb, not-true}
use lib.Dec.{eqb, leb}
use Rattle.lists.specs.Every.{below}
use Rattle.lists.proofs.Bool.{&&-left, &&-right, &&-both}
use Rattle.lists.proofs.Every.{below_at, below_all}
use Rattle.process.specs.Sound.{sound_test as sound_process}
use Rattle.process.proofs.SoundTestLaws.{passes-sound, sound-passes}
use Rattle.state.specs.Records.{Records, process_at, start_of}
use Rattle.state.specs.Layout.{capacity, used, used_before, LaidOut, start_is_unique, placed, laid_out}
use Rattle.state.specs.Sound.{SoundState, EightEntries, records_sound, sound_test}
use Rattle.state.specs.Theorems.{TestIsSound}
use Rattle.state.proofs.LayoutLaws.{Sized}

-- ---- the layout

module _ (g : Records) (e : laid_out g ≡ true) where
  fits-passed : used g ≤ capacity
  unfolding laid_out
  fits-passed = leb-true (used g) capacity (&&-left (leb (used g) capacity) (below (placed g) 8) e)

  placed-each : (p : ℕ) → p < 8 → placed g p ≡ true
  unfolding laid_out
  placed-each p h = below_at (placed g) 8 p h (&&-right (leb (used g) capacity) (below (placed g) 8) e)

  placed-both : (p : ℕ) → p < 8 → (process_at g p).there ≡ true → eqb (start_of g p) (used_before (start_of g p) g) && start_is_unique g p ≡ true
  unfolding placed
  placed-both p h there = rw there at (placed-each p h)

  pub layout-passed : LaidOut g
  unfolding start_is_unique
  layout-passed = record {
    begins = λ p h there. eqb-true (start_of g p) (used_before (start_of g p) g) (&&-left _ (start_is_unique g p) (placed-both p h there));
    differ = λ p q less h there also same.
        let lower = &&-right (eqb (start_of g p) (used_before (start_of g p) g)) (start_is_unique g p) (placed-both p h also) in
        let other = below_at (λ (k : ℕ). not ((process_at g k).there && eqb (start_of g k) (start_of g p))) p q less lower in
        let apart : not (eqb (start_of g q) (start_of g p)) ≡ true = rw there at other in
        eqb-false (start_of g q) (start_of g p) (not-true (eqb (start_of g q) (start_of g p)) apart) same;
    fits = fits-passed;
  }

module _ (g : Records) (laid : LaidOut g) where
  not_there : (a b : Bool) → (a ≡ true → b ≡ false) → not (a && b) ≡ true
  not_there true b h = rw (h refl)
  not_there false b h = refl

  absent-or : (a b : Bool) → (a ≡ true → b ≡ true) → not a || b ≡ true
  absent-or true b h = h refl
  absent-or false b h = refl

  unique : (p : ℕ) → p < 8 → (process_at g p).there ≡ true → start_is_unique g p ≡ true
  unfolding start_is_unique
  unique p h there =
      below_all (λ (k : ℕ). not ((process_at g k).there && eqb (start_of g k) (start_of g p))) p (λ q less.
      not_there (process_at g q).there (eqb (start_of g q) (start_of g p)) (λ also. ne_eqb (start_of g q) (start_of g p) (laid.differ p q less h also there)))

  placed_one : (p : ℕ) → p < 8 → placed g p ≡ true
  unfolding placed
  placed_one p h =
      absent-or (process_at g p).there (eqb (start_of g p) (used_before (start_of g p) g) && start_is_unique g p) (λ there.
      &&-both (eqb (start_of g p) (used_before (start_of g p) g)) (start_is_unique g p) (eq-eqb (start_of g p) (used_before (start_of g p) g) (laid.begins p h there)) (unique p h there))

  pub layout-passes : laid_out g ≡ true
  unfolding laid_out
  layout-passes = &&-both (leb (used g) capacity) (below (placed g) 8) (le-leb (used g) capacity laid.fits) (below_all (placed g) 8 placed_one)

-- ---- the whole state

pub state-sound : (g : Records) → sound_test g ≡ true → SoundState g
unfolding sound_test records_sound
state-sound g e = record {
  each = λ p h. passes-sound (process_at g p) (below_at (λ (q : ℕ). sound_process (process_at g q)) 8 p h (&&-left (records_sound g) (laid_out g) e));
  layout = layout-passed g (&&-right (records_sound g) (laid_out g) e);
}

pub state-passes : (g : Records) → EightEntries g → SoundState g → sound_test g ≡ true
unfolding sound_test records_sound
state-passes g eight s =
    &&-both (records_sound g) (laid_out g)
    (below_all (λ (q : ℕ). sound_process (process_at g q)) 8 (λ p h. sound-passes (process_at g p) (eight p h) (s.each p h)))
    (layout-passes g s.layout)

pub test-is-sound : TestIsSound
test-is-sound = record { passes-sound = state-sound; sound-passes = state-passes }

-- every process of a sound state that is there has bytes, at least 2
pub state-sized : (g : Records) → SoundState g → Sized g
state-sized g s k h there = rw there (let size = (s.each k h).sized.least in omega arith)
