-- What a tick does to the bytes of a sound state: nothing where the Pup door is at no process, else it puts the process back a tick later. Assumes nothing.
use Rattle.std.proofs.Common.{Ok}
use mathlib.Core.Path.{◌≡◌, refl, sym, ◌∙◌}
use mathlib.Core.Bool.{true, false}
use mathlib.Core.List.{List, []}
use Prim.Native.Nat.{ℕ, ◌≤◌, ◌<◌}
use Rattle.lists.specs.Buffer.{Bytes}
use Rattle.lists.proofs.Bool.{&&-right}
use Rattle.format.specs.Outcome.{outcome, is_granted}
use Rattle.process.specs.Packet.{go_of, ticked}
use Rattle.process.proofs.KeptLaws.{same-there}
use Rattle.process.proofs.PacketLaws.{shape-ticked}
use Rattle.state.specs.Records.{process_at, start_of}
use Rattle.state.specs.Layout.{extent_at}
use Rattle.state.specs.Sound.{sound_test}
use Rattle.state.proofs.SoundLaws.{state-sound}
use Rattle.state.proofs.MemoryLaws.{with_slot-slot}
use Rattle.rules.specs.Tests.{State, lent}
use Rattle.rules.specs.Step.{plain_answer, tick, local_of, step}
use Rattle.state_bytes.specs.State.{state_of, door_of, state_formed, state_sound, with_process_bytes}
use Rattle.gateway.specs.Called.{called, lent_on, call_on}
use Rattle.gateway.proofs.ReadyLaws.{sound-formed}
use Rattle.gateway.proofs.LentLaws.{passed, lent-passes, call-fit}
use Rattle.gateway.proofs.TickLaws.{tick-nowhere, tick-there}
use Rattle.gateway.proofs.FinishLaws.{finished-unmoved, finished-served}

-- 'with at most 99 ticks counted'
pub few-ticks : (state : List ℕ) → state_sound state ≡ true → (p : ℕ) → p < 8 → (go_of (process_at (state_of state) p)).waits ≡ true
    → (go_of (process_at (state_of state) p)).ticks ≤ 99
unfolding state_sound
few-ticks state e p low w = (((state-sound (state_of state) (&&-right (state_formed state) (sound_test (state_of state)) e)).each p low).waiting w).1

module _ (state : List ℕ) (bytes : Bytes state) (zero : lent_on state false ≡ 0) (memory : List ℕ) where
  abbrev s : State
  s = lent (state_of state) memory

  abbrev door : ℕ
  door = door_of state

  formed : state_formed state ≡ true
  formed = sound-formed state (passed state false zero).1

  pub tick-idle : 8 ≤ door_of state → called (Ok 0) state memory [] ≡ call_on state memory (tick (door_of state))
  unfolding step
  tick-idle h =
      finished-unmoved state memory bytes formed _ _ refl _ (tick-nowhere s door (lent-passes state false memory zero) h)
      ∙ sym (call-fit state memory formed (tick door))

  pub tick-acts : door_of state < 8
      → called (Ok 0) (with_process_bytes (door_of state) (ticked (process_at (state_of state) (door_of state))) state) memory [] ≡ call_on state memory (tick (door_of state))
  unfolding step is_granted
  tick-acts h =
      rw (with_slot-slot (start_of (state_of state) door) (extent_at (state_of state) door) memory) at
      (finished-served state memory bytes formed door (plain_answer (outcome 0 0) []) (ticked (process_at (state_of state) door)) (local_of s door).bytes _ refl _
      (tick-there s door (lent-passes state false memory zero) h) h (same-there (shape-ticked (local_of s door)))
      ∙ sym (call-fit state memory formed (tick door)))
