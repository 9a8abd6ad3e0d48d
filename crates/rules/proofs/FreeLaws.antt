-- Free bytes are not read, nor is the order in which processes lie; only a CREATE changes a free byte. Assumes nothing.
use mathlib.Core.Path.{◌≡◌, refl, sym, ap, ap₂, ◌∙◌}
use mathlib.Core.Bool.{Bool, true, false}
use mathlib.Core.List.{List, [], ◌∷◌}
use mathlib.Core.Logic.{inr}
use Prim.Native.Nat.{ℕ, ◌≤◌, ◌<◌}
use native.Mathlib.Omega.{arith}
use borrow.Author.Tests.{eqb-true}
use lib.ListN.{length, get_or, take-append-drop}
use lib.Dec.{eqb}
use Rattle.ops.specs.Codes.{CREATE}
use Rattle.format.specs.Outcome.{first_failing}
use Rattle.process.specs.Local.{Local, extent, Proper}
use Rattle.state.specs.Records.{start_of}
use Rattle.state.specs.Layout.{extent_at, used, with_slot}
use Rattle.state.proofs.LayoutLaws.{start-inside}
use Rattle.state.proofs.MemoryLaws.{with_slot-outside, closed-free}
use Rattle.rules.specs.Rule.{public}
use Rattle.rules.specs.Tests.{State, record_of}
use Rattle.rules.specs.Access.{Place, nowhere, at_process, Turn, reached, taken}
use Rattle.rules.specs.Window.{put_in_place, taken_out, put}
use Rattle.rules.specs.Step.{Answer, Call, step, local_of}
use Rattle.rules.specs.Turn.{turn_of, buffers_of}
use Rattle.rules.specs.Ready.{Ready}
use Rattle.rules.specs.Run.{run, final}
use Rattle.rules.specs.Isolation.{Apart, fields_of, public_of}
use Rattle.rules.specs.OneMemory.{SameProcesses, answers_of, FreeBytes}
use Rattle.rules.proofs.ProperLaws.{sound-of}
use Rattle.rules.proofs.StateLaws.{extent_of, inside, layout_of, absent_none, none_of, put_is, put-stays}
use Rattle.rules.proofs.AccessLaws.{said_at}
use Rattle.rules.proofs.CallLaws.{Placed}
use Rattle.rules.proofs.LawfulLaws.{lawful}
use Rattle.rules.proofs.StepLaws.{Done, stays, idles, acts, done, step-ready, left-proper}
use Rattle.rules.proofs.IsolationLaws.{reached-answer, both}

-- ---- one call on two states with the same processes

module _ (s t : State) (r : Ready s) (q : Ready t) (same : SameProcesses s t) where
  apart : Apart (λ (p : ℕ). false) s t
  apart = record { shown = λ p h. ap (λ (l : Local). public l.process) (same p h); others = λ p h n. same p h }

  after_same : (c : Call) → SameProcesses (step s c).after (step t c).after
  after_same c p h = (both (λ (host : ℕ). true) (λ (k : ℕ). false) s t r q apart c).apart.others p h refl

  place_same : (c : Call) (place : Place) → Placed s c place → (reached place (buffers_of c) s).answer ≡ (reached place (buffers_of c) t).answer
  unfolding Placed reached
  place_same c (nowhere bytes) n = refl
  place_same c (at_process p a) w = reached-answer p a (buffers_of c) s ∙ ap (said_at a (buffers_of c)) (same p w.low) ∙ sym (reached-answer p a (buffers_of c) t)

  answer-same : (c : Call) → (step s c).answer ≡ (step t c).answer
  unfolding taken
  answer-same c =
      rw ((lawful c).turn s, (lawful c).turn t ∙ ap (λ (u : Turn). taken u (buffers_of c) t) (sym ((lawful c).alike s t r q apart.shown)))
      (go (eqb (first_failing (turn_of s c).tests) 0) refl)
    where
      go : (b : Bool) → eqb (first_failing (turn_of s c).tests) 0 ≡ b → (taken (turn_of s c) (buffers_of c) s).answer ≡ (taken (turn_of s c) (buffers_of c) t).answer
      go true e = rw e (place_same c (turn_of s c).place ((lawful c).placed s r (eqb-true _ 0 e)))
      go false e = rw e

-- ---- whole lists

list-answers : (s t : State) → Ready s → Ready t → SameProcesses s t → (l : List Call) → answers_of (run s l) ≡ answers_of (run t l)
unfolding run
list-answers s t r q same [] = refl
list-answers s t r q same (c ∷ l) =
    ap₂ (λ (a : Answer) (rest : List Answer). a ∷ rest) (answer-same s t r q same c)
    (list-answers (step s c).after (step t c).after (step-ready s r c) (step-ready t q c) (after_same s t r q same c) l)

list-processes : (s t : State) → Ready s → Ready t → SameProcesses s t → (l : List Call) → SameProcesses (final s l) (final t l)
unfolding final
list-processes s t r q same [] = same
list-processes s t r q same (c ∷ l) = list-processes (step s c).after (step t c).after (step-ready s r c) (step-ready t q c) (after_same s t r q same c) l

-- ---- a free byte

-- a process put back changes no free byte, unless it was absent and is there then
module _ (s : State) (r : Ready s) (p : ℕ) (h : p < 8) (l : Local) (g : Proper l) (i : ℕ) (free : used s.records ≤ i) where
  in-place-free : length l.bytes ≤ extent_at s.records p → get_or (put_in_place p l s).memory i 0 ≡ get_or s.memory i 0
  unfolding put_in_place with_slot
  in-place-free few = go (record_of s p).there refl
    where
      go : (t : Bool) → (record_of s p).there ≡ t → get_or (with_slot (start_of s.records p) l.bytes s.memory) i 0 ≡ get_or s.memory i 0
      go true e =
          let last = start-inside s.records (layout_of s r) p h e in
          with_slot-outside (start_of s.records p) l.bytes s.memory (omega (arith, inside s r p h e, few)) i (inr (omega (arith, last, few, free)))
      go false e =
          let none = none_of l.bytes (omega (arith, few, absent_none (record_of s p) e)) in
          rw none (ap (λ (m : List ℕ). get_or m i 0) (take-append-drop (start_of s.records p) s.memory))

  put-free : extent l.process ≤ extent_at s.records p → get_or (put p l s).memory i 0 ≡ get_or s.memory i 0
  unfolding taken_out
  put-free narrow = go (record_of s p).there refl l.process.there refl
    where
      few : length l.bytes ≤ extent_at s.records p
      few = omega (arith, g.tested.size, narrow)

      memory-of : {x y : State} → x ≡ y → get_or y.memory i 0 ≡ get_or s.memory i 0 → get_or x.memory i 0 ≡ get_or s.memory i 0
      memory-of e known = ap (λ (x : State). get_or x.memory i 0) e ∙ known

      go : (before : Bool) → (record_of s p).there ≡ before → (after : Bool) → l.process.there ≡ after → get_or (put p l s).memory i 0 ≡ get_or s.memory i 0
      go true b true a = memory-of (put-stays p l s (a ∙ sym b)) (in-place-free few)
      go true b false a =
          memory-of (put_is p l s true false b a)
          (closed-free (start_of s.records p) (extent_at s.records p) (used s.records) s.memory
          (start-inside s.records (layout_of s r) p h b) (omega (arith, (layout_of s r).fits, r.memory)) i free)
      go false b true a =
          let size : extent l.process ≡ l.process.size = rw a in
          absurd (omega (arith, narrow, absent_none (record_of s p) b, size, (sound-of l g).sized.least))
      go false b false a = memory-of (put-stays p l s (a ∙ sym b)) (in-place-free few)

-- by the public part of a process
by-public : (l : Local) → extent l.process ≡ extent_of (public l.process)
unfolding public
by-public l = refl

free_stays : (s : State) → Ready s → (c : Call) → ((fields_of c).cmd ≡ CREATE → ⊥) → (i : ℕ) → used s.records ≤ i
    → get_or (step s c).after.memory i 0 ≡ get_or s.memory i 0
free_stays s r c created i free = go (done s r c)
  where
    go : Done s c (step s c) → get_or (step s c).after.memory i 0 ≡ get_or s.memory i 0
    go (stays number bytes e) = rw e
    go (idles bytes n e) = rw e
    go (acts p a t z e) =
        let l = a.effect (local_of s p) in
        let after : extent l.process ≡ extent_of (t.then (public_of s p)) = by-public l ∙ ap extent_of (t.fair.publicly (local_of s p) z) in
        rw e
        (put-free s r p t.low (a.effect (local_of s p)) (left-proper s r c p a t z) i free
        (omega (arith, after, t.narrows created (public_of s p), by-public (local_of s p))))

pub free_bytes : FreeBytes
free_bytes = record { same-answers = list-answers; same-processes = list-processes; free_stays = free_stays }
