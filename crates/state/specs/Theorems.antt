-- The statements that the contracts of theorems.rt carry.
use Rattle.std.specs.Prelude.{◌≡◌, Bool, true, List, ◌⊎◌, ℕ, ◌+◌, ◌≤◌, ◌<◌, length}
use Rattle.state.specs.Records.{Records, process_at, start_of}
use Rattle.state.specs.Layout.{capacity, extent_at, used, LaidOut}
use Rattle.state.specs.Sound.{SoundState, EightEntries, sound_test}
use Rattle.state.specs.Fresh.{fresh_start, sizes_right}

-- the test passes exactly the sound states
pub record TestIsSound : Type 0 where
  pub passes-sound : (g : Records) → sound_test g ≡ true → SoundState g
  pub sound-passes : (g : Records) → EightEntries g → SoundState g → sound_test g ≡ true

-- every fresh start with right sizes is sound
unfoldable pub FreshIsSound : Type 0
FreshIsSound = (there : List Bool) (sizes : List ℕ) → length there ≡ 8 → sizes_right there sizes ≡ true → SoundState (fresh_start there sizes)

-- 'One memory for all': in a state that is laid out each process has its own bytes
pub record ProcessesApart : Type 0 where
  -- they lie before the free ones, which are within the memory
  pub inside : (g : Records) → LaidOut g → (p : ℕ) → p < 8 → (process_at g p).there ≡ true
      → (start_of g p + extent_at g p ≤ used g) × (used g ≤ capacity)
  -- no byte is in two processes
  pub apart : (g : Records) → LaidOut g → (p q : ℕ) → p < 8 → q < 8 → (q ≡ p → ⊥) → (process_at g p).there ≡ true → (process_at g q).there ≡ true
      → (start_of g q + extent_at g q ≤ start_of g p) ⊎ (start_of g p + extent_at g p ≤ start_of g q)
  -- 'without gaps': every byte before the free ones is in a process
  pub no_gaps : (g : Records) → LaidOut g → (i : ℕ) → i < used g
      → (p : ℕ) × (p < 8) × ((process_at g p).there ≡ true) × (start_of g p ≤ i) × (i < start_of g p + extent_at g p)
