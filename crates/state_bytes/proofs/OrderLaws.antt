-- Laws of processes that lie in number order: then they are laid out. Assumes nothing.
use mathlib.Core.Path.{◌≡◌}
use mathlib.Core.Bool.{true}
use Prim.Native.Nat.{ℕ, ◌<◌}
use native.Mathlib.Omega.{arith}
use borrow.Author.Tests.{eqb-true, leb-true}
use lib.Dec.{leb}
use Rattle.lists.specs.Every.{below}
use Rattle.lists.specs.Sum.{total}
use Rattle.lists.proofs.Bool.{&&-left, &&-right}
use Rattle.lists.proofs.Every.{below_at}
use Rattle.process.specs.Sound.{sound_test as sound_process}
use Rattle.process.proofs.SoundTestLaws.{passes-sound}
use Rattle.state.specs.Records.{Records, process_at, start_of}
use Rattle.state.specs.Layout.{capacity, extent_at, used, laid_out}
use Rattle.state.specs.Sound.{records_sound}
use Rattle.state.proofs.FreshLaws.{in_order}
use Rattle.state.proofs.LayoutLaws.{Sized}
use Rattle.state.proofs.SoundLaws.{layout-passes}
use Rattle.state_bytes.specs.Layout.{lies_at, in_number_order}
use Rattle.state_bytes.specs.Widths.{process_count}

module _ (g : Records) (sound : records_sound g ≡ true) where
  -- a sound record that is there has bytes
  sized : Sized g
  unfolding records_sound
  sized p h there =
      let size = (passes-sound (process_at g p) (below_at (λ (q : ℕ). sound_process (process_at g q)) process_count p h sound)).sized.least in
      rw there (omega (arith, size))

  pub order-laid : in_number_order g ≡ true → laid_out g ≡ true
  unfolding in_number_order
  order-laid e =
      let each = below (λ (p : ℕ). lies_at g (total (extent_at g) p) p) process_count in
      let lies : (p : ℕ) → p < process_count → lies_at g (total (extent_at g) p) p ≡ true =
      λ p h. below_at (λ (q : ℕ). lies_at g (total (extent_at g) q) q) process_count p h (&&-left each (leb (used g) capacity) e) in
      let ordered : (p : ℕ) → p < process_count → (process_at g p).there ≡ true → start_of g p ≡ total (extent_at g) p =
      λ p h there. eqb-true (start_of g p) (total (extent_at g) p) (rw there at (lies p h)) in
      layout-passes g (in_order g ordered (leb-true (used g) capacity (&&-right each (leb (used g) capacity) e)) sized)
