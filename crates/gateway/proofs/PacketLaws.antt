-- A packet stage by stage: refused by what is lent, by its words, its type or the number of the door's process, or answered at that process. Assumes
-- nothing.
use mathlib.Core.Path.{◌≡◌, refl, ap, ◌∙◌}
use mathlib.Core.Bool.{Bool, true, false, not, cond, ◌&&◌}
use mathlib.Core.List.{List, ◌++◌}
use Prim.Native.Nat.{ℕ, zero, suc, ◌≤◌, ◌<◌}
use native.Mathlib.Omega.{arith}
use borrow.Author.Tests.{ne_eqb, lt-ltb, le-ltb}
use lib.Dec.{ltb}
use Rattle.format.specs.Outcome.{first_failing}
use Rattle.format.proofs.OutcomeLaws.{outcome-other}
use Rattle.packets.specs.Types.{known_type, too_few}
use Rattle.process.specs.Local.{Local}
use Rattle.rules.specs.Rule.{Public, public}
use Rattle.rules.specs.Tests.{State, record_of, no_ack_room, unsound, packet_outer_tests, packet_inner_tests, packet_number}
use Rattle.rules.specs.Step.{StepResult, local_of, packet_step}
use Rattle.rules.specs.Turn.{single}
use Rattle.rules.proofs.NumberLaws.{or_else}
use Rattle.rules.proofs.StateLaws.{put_same}
use Rattle.rules.proofs.PacketLaws.{packet-row}
use Rattle.packet_door.specs.At.{packet_number_at, packet_by, packet_at}
use Rattle.gateway.specs.Stage.{lent_number, packet_step_at}
use Rattle.gateway.proofs.StageLaws.{silent}
use Rattle.gateway.proofs.AskedLaws.{stepped}

-- ---- the number

-- 3, 5 and 7, which look at no process
packet_away : ℕ → ℕ → List ℕ → ℕ
packet_away door kind words = cond (too_few kind words) 3 (cond (not (known_type kind)) 5 (cond (not (ltb door 8)) 7 0))

staged : (a b c d e f : Bool) (n : ℕ)
    → cond a 1 (cond b 2 (cond c 3 (cond d 5 (cond (not (e && f)) 7 n))))
    ≡ or_else (cond a 1 (cond b 2 0)) (or_else (cond c 3 (cond d 5 (cond (not e) 7 0))) (cond (not f) 7 n))
staged true b c d e f n = refl
staged false true c d e f n = refl
staged false false true d e f n = refl
staged false false false true e f n = refl
staged false false false false false f n = refl
staged false false false false true false n = refl
staged false false false false true true n = refl

module _ (s : State) (door kind id : ℕ) (words buffer : List ℕ) where
  abbrev short : Bool
  short = no_ack_room s.memory buffer

  abbrev whole : StepResult
  whole = packet_step door kind id words buffer s

  stages : packet_number s door kind words buffer ≡ or_else (lent_number s (no_ack_room s.memory buffer)) (or_else (packet_away door kind words) (packet_number_at kind words (record_of s door)))
  unfolding packet_number lent_number packet_away packet_number_at first_failing
  stages =
      staged short (unsound s) (too_few kind words) (not (known_type kind)) (ltb door 8) (record_of s door).there
      (first_failing (packet_outer_tests kind (public (record_of s door)) ++ packet_inner_tests kind words (record_of s door)))

  -- ---- a packet that is refused

  refused-by : (n : ℕ) → packet_number s door kind words buffer ≡ n → (n ≡ 0 → ⊥) → packet_step door kind id words buffer s ≡ silent n (single buffer) s
  unfolding packet_step
  refused-by n e z = rw (e, ne_eqb n 0 z, outcome-other n 0 z)

  pub packet-lent : (n : ℕ) → n ≡ lent_number s (no_ack_room s.memory buffer) → (n ≡ 0 → ⊥) → packet_step door kind id words buffer s ≡ silent n (single buffer) s
  packet-lent n e z = refused-by n (stages ∙ rw (← e, ne_eqb n 0 z)) z

  module _ (fit : lent_number s (no_ack_room s.memory buffer) ≡ 0) where
    pub packet-few : too_few kind words ≡ true → packet_step door kind id words buffer s ≡ silent 3 (single buffer) s
    unfolding packet_away
    packet-few e = refused-by 3 (stages ∙ rw (fit, e)) (λ z. omega (arith, z))

    module _ (enough : too_few kind words ≡ false) where
      pub packet-unknown : known_type kind ≡ false → packet_step door kind id words buffer s ≡ silent 5 (single buffer) s
      unfolding packet_away
      packet-unknown e = refused-by 5 (stages ∙ rw (fit, enough, e)) (λ z. omega (arith, z))

      module _ (known : known_type kind ≡ true) where
        pub packet-beyond : 8 ≤ door → packet_step door kind id words buffer s ≡ silent 7 (single buffer) s
        unfolding packet_away
        packet-beyond h = refused-by 7 (stages ∙ rw (fit, enough, known, le-ltb door 8 h)) (λ z. omega (arith, z))

        -- ---- a packet that is answered at its process

        near : door < 8 → packet_away door kind words ≡ 0
        unfolding packet_away
        near low = rw (enough, known, lt-ltb door 8 low)

        by_number : door < 8 → (k : ℕ) → packet_number_at kind words (record_of s door) ≡ k
            → packet_step door kind id words buffer s ≡ stepped door (packet_by k kind id words buffer (local_of s door)) s
        unfolding packet_step packet_by
        by_number low zero e = rw (stages, fit, near low, e)
        by_number low (suc k) e = rw (stages, fit, near low, e, ne_eqb (suc k) 0 (λ z. omega (arith, z)), put_same door s)

        pub packet-known : door < 8 → packet_step door kind id words buffer s ≡ packet_step_at door kind id words buffer s
        unfolding packet_at packet_step_at
        packet-known low = by_number low (packet_number_at kind words (record_of s door)) refl

-- ---- a process that is there stays

stays_by : (n kind id : ℕ) (words buffer : List ℕ) (l : Local) → (packet_by n kind id words buffer l).left.process.there ≡ l.process.there
unfolding packet_by public
stays_by zero kind id words buffer l = ap (λ (u : Public). u.there) ((packet-row kind).publicly id words l)
stays_by (suc n) kind id words buffer l = refl

pub packet-stays : (kind id : ℕ) (words buffer : List ℕ) (l : Local) → (packet_at kind id words buffer l).left.process.there ≡ l.process.there
unfolding packet_at
packet-stays kind id words buffer l = stays_by (packet_number_at kind words l.process) kind id words buffer l
