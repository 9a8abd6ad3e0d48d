-- What is read from any bytes has the sizes of the code's types; from those of a sound state it is ready. Assumes nothing.
use mathlib.Core.Path.{◌≡◌, refl}
use mathlib.Core.Bool.{true}
use mathlib.Core.List.{List}
use Prim.Native.Nat.{ℕ, ◌<◌}
use borrow.Author.Tests.{eqb-true}
use lib.ListN.{length}
use lib.Dec.{eqb}
use Rattle.lists.specs.Word.{vector_of}
use Rattle.lists.proofs.Bool.{&&-left, &&-right}
use Rattle.state.specs.Records.{nobody, process_at}
use Rattle.state.specs.Layout.{capacity}
use Rattle.state.specs.Sound.{EightEntries, sound_test}
use Rattle.rules.specs.Ready.{Ready, Worded}
use Rattle.state_bytes.specs.Chunk.{chunks}
use Rattle.state_bytes.specs.Process.{process_of}
use Rattle.state_bytes.specs.State.{state_of, state_formed, state_sound}
use Rattle.state_bytes.specs.Theorems.{Sized}
use Rattle.state_bytes.specs.Widths.{process_count, process_width, state_width}
use Rattle.state_bytes.proofs.ChunkLaws.{getD-chunks}
use Rattle.state_bytes.proofs.StartLaws.{eight-starts}
use Rattle.state_bytes.proofs.StateLaws.{eight-at}
use Rattle.gateway.specs.Sequence.{read_from}

process-sizes : (m : List ℕ) → (length (process_of m).vector ≡ 9) × (length (process_of m).breaks ≡ 8)
unfolding process_of vector_of chunks
process-sizes m = (refl, refl)

at-sizes : (m : List ℕ) (p : ℕ) → p < 8 → (length (process_at (state_of m) p).vector ≡ 9) × (length (process_at (state_of m) p).breaks ≡ 8)
unfolding state_of
at-sizes m p h = rw (getD-chunks process_width process_of process_count p m nobody h) (process-sizes _)

pub read-worded : (state memory : List ℕ) → Worded (read_from state memory)
read-worded state memory p h = (at-sizes state p h).0

pub read-eight : (state : List ℕ) → EightEntries (state_of state)
read-eight state p h = (at-sizes state p h).1

-- the records that are read, with any starts
pub read-sized : (m starts : List ℕ) → length starts ≡ 8 → Sized (record { processes = (state_of m).processes; starts = starts })
read-sized m starts eight = record {
  processes = eight-at m;
  vectors = λ p h. (at-sizes m p h).0;
  entries = λ p h. (at-sizes m p h).1;
  starts = eight;
}

-- ---- bytes of a sound state

pub formed-long : (state : List ℕ) → state_formed state ≡ true → length state ≡ state_width
unfolding state_formed
formed-long state f = eqb-true (length state) state_width (&&-left (eqb (length state) state_width) _ f)

pub sound-formed : (state : List ℕ) → state_sound state ≡ true → state_formed state ≡ true
unfolding state_sound
sound-formed state e = &&-left (state_formed state) (sound_test (state_of state)) e

pub sound-ready : (state memory : List ℕ) → state_sound state ≡ true → length memory ≡ capacity → Ready (read_from state memory)
unfolding state_sound
sound-ready state memory e size = record {
  memory = size;
  processes = eight-at state;
  starts = eight-starts state;
  entries = read-eight state;
  sound = &&-right (state_formed state) (sound_test (state_of state)) e;
}
