-- A tick: refused by the test 2, or it goes to the process of the Pup door, if there is one. Assumes nothing.
use mathlib.Core.Path.{◌≡◌, refl}
use mathlib.Core.Bool.{Bool, true, false}
use mathlib.Core.List.{[]}
use Prim.Native.Nat.{ℕ, ◌≤◌, ◌<◌}
use native.Mathlib.Omega.{arith}
use borrow.Author.Tests.{lt-ltb, le-ltb}
use Rattle.format.specs.Outcome.{outcome, first_failing}
use Rattle.process.specs.Request.{on_record}
use Rattle.process.specs.Packet.{ticked}
use Rattle.rules.specs.Tests.{State, unsound, tick_number}
use Rattle.rules.specs.Step.{plain_answer, local_of, ticked_state, tick_step}
use Rattle.rules.specs.Turn.{single}
use Rattle.service.specs.At.{leaving}
use Rattle.gateway.specs.Stage.{lent_number}
use Rattle.gateway.proofs.StageLaws.{silent}
use Rattle.gateway.proofs.AskedLaws.{stepped, unmoved}

module _ (s : State) (door : ℕ) where
  pub tick-lent : (n : ℕ) → n ≡ lent_number s false → (n ≡ 0 → ⊥) → tick_step door s ≡ silent n (single []) s
  unfolding lent_number tick_step tick_number first_failing
  tick-lent n e z = go (unsound s) refl
    where
      go : (t : Bool) → unsound s ≡ t → tick_step door s ≡ silent n (single []) s
      go true i = rw (e, i)
      go false i = absurd (z (rw i at e))

  module _ (fit : lent_number s false ≡ 0) where
    passes : unsound s ≡ false
    unfolding lent_number first_failing
    passes = go (unsound s) refl
      where
        go : (t : Bool) → unsound s ≡ t → t ≡ false
        go true i = absurd (omega (arith, rw i at fit))
        go false i = refl

    pub tick-nowhere : 8 ≤ door → tick_step door s ≡ unmoved (plain_answer (outcome 0 0) []) s
    unfolding tick_step ticked_state tick_number first_failing
    tick-nowhere h = rw (passes, le-ltb door 8 h)

    pub tick-there : door < 8 → tick_step door s ≡ stepped door (leaving (plain_answer (outcome 0 0) []) (on_record ticked (local_of s door))) s
    unfolding tick_step ticked_state tick_number first_failing
    tick-there h = rw (passes, lt-ltb door 8 h)
