-- When the eight records are sound.
use Rattle.std.specs.Prelude.{◌≡◌, Bool, ◌&&◌, ℕ, ◌<◌, length}
use Rattle.lists.specs.Every.{below}
use Rattle.process.specs.Sound.{Sound}
use Rattle.process.specs.Sound.{sound_test as sound_process}
use Rattle.state.specs.Records.{Records, process_at}
use Rattle.state.specs.Layout.{LaidOut, laid_out}

-- 'A state is sound when': each process's record is, and 'sound includes the layout'
pub record SoundState (g : Records) : Type 0 where
  pub each : (p : ℕ) → p < 8 → Sound (process_at g p)
  pub layout : LaidOut g

-- every record has its eight entries, as every record of the code does
abbrev pub EightEntries : Records → Type 0
EightEntries g = (p : ℕ) → p < 8 → length (process_at g p).breaks ≡ 8

-- every record is sound
unfoldable pub records_sound : Records → Bool
records_sound g = below (λ (p : ℕ). sound_process (process_at g p)) 8

-- the test of soundness
unfoldable pub sound_test : Records → Bool
sound_test g = records_sound g && laid_out g
