-- Calls on bytes, one after another, are a run of the rules. Assumes nothing.
use mathlib.Core.Path.{◌≡◌, refl, sym, ap, ap₂, ◌∙◌, subst}
use mathlib.Core.Bool.{Bool, true, false, cond, true≢false}
use mathlib.Core.List.{List, [], ◌∷◌}
use Prim.Native.Nat.{ℕ, ◌+◌, ◌<◌}
use native.Mathlib.Nat.{not-suc-le-zero}
use native.Mathlib.Omega.{arith}
use borrow.Author.Tests.{eq-eqb, lt-ltb, ltb-true, ltb-false}
use lib.ListN.{length, get_or, set, get_or-eq_default}
use lib.Seq.{set-get_or}
use lib.Dec.{ltb}
use Rattle.format.specs.Outcome.{outcome}
use Rattle.process.specs.declared.record.Process.{Process}
use Rattle.process.specs.Record.{fresh}
use Rattle.process.specs.Request.{cleared}
use Rattle.process.specs.Local.{Local, local}
use Rattle.state.specs.Records.{Records, nobody, process_at, start_of}
use Rattle.state.specs.Layout.{capacity, extent_at}
use Rattle.state.specs.Sound.{SoundState}
use Rattle.state.specs.Fresh.{fresh_process, fresh_start, sizes_right}
use Rattle.state.specs.Theorems.{FreshIsSound}
use Rattle.state.proofs.MemoryLaws.{set-slot}
use Rattle.state.proofs.SoundLaws.{state-passes}
use Rattle.state.proofs.FreshLaws.{fresh-is-sound, length-fresh_processes, getD-fresh_processes, length-fresh_starts}
use Rattle.rules.specs.Tests.{State, lent, record_of, no_room, no_line_room, no_ack_room}
use Rattle.rules.specs.Window.{put_in_place}
use Rattle.rules.specs.Step.{Answer, StepResult, plain_answer, Call, request, report, store, text_line, packet, tick, query, stored, local_of, step, query_step}
use Rattle.rules.specs.Ready.{Ready, Worded, Typed}
use Rattle.rules.specs.Run.{TraceItem, trace_item, run}
use Rattle.rules.specs.Isolation.{is_granted}
use Rattle.rules.proofs.StateLaws.{put-stays, length-local}
use Rattle.rules.proofs.StepLaws.{by-test}
use Rattle.rules.proofs.TotalLaws.{total}
use Rattle.state_bytes.specs.State.{state_bytes, state_of, door_of, state_formed}
use Rattle.state_bytes.specs.Theorems.{Sized}
use Rattle.state_bytes.specs.Widths.{state_width}
use Rattle.state_bytes.proofs.StateLaws.{inverse, eight-at}
use Rattle.rules.specs.Why.{why_of}
use Rattle.reasons.specs.Reason.{facts_of}
use Rattle.rules.proofs.WhyLaws.{reason-number}
use Rattle.gateway.specs.Called.{Called, finished, call_on, machine_stored, why_on, why_called, lent_on, start_on, Did}
use Rattle.gateway.specs.Sequence.{Begins, Done, AllTyped, item, items, read_from}
use Rattle.gateway.proofs.ReadyLaws.{read-worded}
use Rattle.gateway.proofs.WhyLaws.{why-formed}
use Rattle.gateway.proofs.LentLaws.{request-fits, line-fits, ack-fits}

sized_of : (s : State) → Ready s → Worded s → Sized s.records
sized_of s r w = record { processes = r.processes; vectors = w; entries = r.entries; starts = r.starts }

-- ---- one call

-- a call that answered and left what the step does
pub record Follows (state memory : List ℕ) (c : Call) (x : Called) : Type 0 where
  pub answer : (item c x).answer ≡ (step (read_from state memory) c).answer
  pub after : read_from x.state x.memory ≡ (step (read_from state memory) c).after
  pub formed : state_formed x.state ≡ true

module _ (state memory : List ℕ) (b : Begins state memory) (c : Call) (typed : Typed c) where
  abbrev s : State
  s = read_from state memory

  abbrev y : StepResult
  y = step s c

  sized : Sized y.after.records
  sized = sized_of y.after (total.sound-stays s b.ready c) (total.words-stay s b.ready (read-worded state memory) c typed)

  -- a refused step leaves the state
  unmoved : is_granted y.answer.outcome ≡ false → y.after ≡ s
  unmoved e = total.refused s c (λ z. true≢false (sym (total.granted s c z) ∙ e))

  left : (t : Bool) → is_granted y.answer.outcome ≡ t
      → (lent (state_of (cond t (state_bytes (door_of state) y.after.records) state)) y.after.memory ≡ y.after) × (state_formed (cond t (state_bytes (door_of state) y.after.records) state) ≡ true)
  left true e = (ap (λ (g : Records). lent g y.after.memory) (inverse.written-is-read (door_of state) y.after.records sized), inverse.written-is-formed (door_of state) y.after.records sized)
  left false e = (ap (λ (t : State). lent s.records t.memory) (unmoved e) ∙ sym (unmoved e), b.formed)

  finished-follows : (x : Called) → x ≡ finished state y → Follows state memory c x
  unfolding finished
  finished-follows x e = rw e (record {
    answer = refl;
    after = (left (is_granted y.answer.outcome) refl).0;
    formed = (left (is_granted y.answer.outcome) refl).1;
  })

  -- the process of the Pup door stays
  door-left : (t : Bool) → door_of (cond t (state_bytes (door_of state) y.after.records) state) ≡ door_of state
  door-left true = inverse.door-is-read (door_of state) y.after.records sized
  door-left false = refl

  call-door : (x : Called) → x ≡ call_on state memory c → door_of x.state ≡ door_of state
  unfolding call_on finished
  call-door x e = rw (e, b.formed) (door-left (is_granted y.answer.outcome))

  call-follows : (x : Called) → x ≡ call_on state memory c → Follows state memory c x
  unfolding call_on
  call-follows x e = finished-follows x (rw b.formed at e)

-- the process that the machine stores into, after it
abbrev stored_at : ℕ → ℕ → ℕ → State → Local
stored_at p a v before = local (record_of before p) (set (local_of before p).bytes a v)

-- the records stay when the machine stores
stored-records : (p a v : ℕ) (before : State) → (stored p a v before).records ≡ before.records
unfolding stored put_in_place
stored-records p a v before =
    by-test (λ (t : State). t.records ≡ before.records) (ltb p 8)
    (λ e. ap (λ (t : State). t.records) (put-stays p (stored_at p a v before) before refl)
    ∙ ap (λ (ps : List Process). record { processes = ps; starts = before.records.starts }) (set-get_or before.records.processes p nobody))
    (λ e. refl)

-- a process with bytes is one of the eight
few : (state : List ℕ) (p a : ℕ) → a < extent_at (state_of state) p → p < 8
few state p a h = go (ltb p 8) refl
  where
    go : (t : Bool) → ltb p 8 ≡ t → p < 8
    go true e = ltb-true p 8 e
    go false e =
        let none : process_at (state_of state) p ≡ nobody = get_or-eq_default (state_of state).processes nobody (omega (arith, eight-at state, ltb-false p 8 e)) in
        absurd (not-suc-le-zero (rw none at h))

stored-memory : (state memory : List ℕ) → Begins state memory → (p a v : ℕ) → a < extent_at (state_of state) p
    → set memory (start_of (state_of state) p + a) v ≡ (stored p a v (read_from state memory)).memory
unfolding stored put_in_place
stored-memory state memory b p a v h =
    let before = read_from state memory in
    let low = few state p a h in
    rw (lt-ltb p 8 low)
    (set-slot (start_of (state_of state) p) (extent_at (state_of state) p) a v memory (omega (arith, h, length-local before b.ready p low))
    ∙ sym (ap (λ (t : State). t.memory) (put-stays p (stored_at p a v before) before refl)))

store-follows : (state memory : List ℕ) → Begins state memory → (p a v : ℕ) (x : Called) → a < extent_at (state_of state) p → x ≡ machine_stored p a v state memory
    → Follows state memory (store p a v) x
unfolding machine_stored step
store-follows state memory b p a v x h e = rw e (record {
  answer = refl;
  after = ap₂ lent (sym (stored-records p a v (read_from state memory))) (stored-memory state memory b p a v h);
  formed = b.formed;
})

-- a query of the code is that of the rules, and leaves all as it is
query-follows : (state memory : List ℕ) → Begins state memory → (m : List ℕ) (x : Called) → x ≡ why_called (why_on state m) state memory
    → Follows state memory (query m) x
unfolding step query_step
query-follows state memory b m x e = rw (e, why-formed state memory m b.formed) (record {
  answer = ap (λ (n : ℕ). plain_answer (outcome n 0) (facts_of (why_of (read_from state memory) m))) (reason-number (read_from state memory) m);
  after = refl;
  formed = b.formed;
})

pub did-follows : (state memory : List ℕ) → Begins state memory → (c : Call) → Typed c → (x : Called) → Did state memory c x → Follows state memory c x
unfolding Did
did-follows state memory b (request m buffer) t x d = call-follows state memory b (request m buffer) t x d
did-follows state memory b (report p kind reason words buffer line) t x d = call-follows state memory b (report p kind reason words buffer line) t x d
did-follows state memory b (store p a v) t x d = store-follows state memory b p a v x d.0 d.1
did-follows state memory b (text_line text buffer) t x d = call-follows state memory b (text_line text buffer) t x d
did-follows state memory b (packet door kind id words buffer) t x d = call-follows state memory b (packet door kind id words buffer) t x d.1
did-follows state memory b (tick door) t x d = call-follows state memory b (tick door) t x d.1
did-follows state memory b (query m) t x d = query-follows state memory b m x d

-- no call changes the process of the Pup door
pub did-door : (state memory : List ℕ) → Begins state memory → (c : Call) → Typed c → (x : Called) → Did state memory c x → door_of x.state ≡ door_of state
unfolding Did machine_stored
did-door state memory b (request m buffer) t x d = call-door state memory b (request m buffer) t x d
did-door state memory b (report p kind reason words buffer line) t x d = call-door state memory b (report p kind reason words buffer line) t x d
did-door state memory b (store p a v) t x d = rw d.1
did-door state memory b (text_line text buffer) t x d = call-door state memory b (text_line text buffer) t x d
did-door state memory b (packet door kind id words buffer) t x d = call-door state memory b (packet door kind id words buffer) t x d.1
did-door state memory b (tick door) t x d = call-door state memory b (tick door) t x d.1
did-door state memory b (query m) t x d = rw d

-- ---- whole lists

pub did-begins : (state memory : List ℕ) → Begins state memory → (c : Call) → Typed c → (x : Called) → Did state memory c x → Begins x.state x.memory
did-begins state memory b c t x d =
    let f = did-follows state memory b c t x d in
    record { formed = f.formed; ready = subst Ready (sym f.after) (total.sound-stays (read_from state memory) b.ready c) }

pub done-run : (state memory : List ℕ) → Begins state memory → (l : List Call) → AllTyped l → (xs : List Called) → Done state memory l xs → items l xs ≡ run (read_from state memory) l
unfolding Done AllTyped items run
done-run state memory b [] ts [] d = refl
done-run state memory b [] ts (x ∷ xs) d = absurd d
done-run state memory b (c ∷ cs) ts [] d = absurd d
done-run state memory b (c ∷ cs) ts (x ∷ xs) d =
    let f = did-follows state memory b c ts.0 x d.0 in
    let rest = done-run x.state x.memory (did-begins state memory b c ts.0 x d.0) cs ts.1 xs d.1 in
    let here : item c x ≡ trace_item (read_from state memory) c = ap₂ (λ (a : Answer) (t : State). record { call = c; answer = a; after = t }) f.answer f.after in
    ap₂ (λ (e : TraceItem) (es : List TraceItem). e ∷ es) here (rest ∙ ap (λ (t : State). run t cs) f.after)

-- ---- where lists begin

fresh-sizes : (t : Bool) (n : ℕ) → (length (fresh_process t n).vector ≡ 9) × (length (fresh_process t n).breaks ≡ 8)
unfolding fresh_process fresh cleared
fresh-sizes true n = (refl, refl)
fresh-sizes false n = (refl, refl)

module _ (ts : List Bool) (ns : List ℕ) (long : length ts ≡ 8) (right : sizes_right ts ns ≡ true) where
  at-fresh : (p : ℕ) → p < 8 → (length (process_at (fresh_start ts ns) p).vector ≡ 9) × (length (process_at (fresh_start ts ns) p).breaks ≡ 8)
  unfolding fresh_start
  at-fresh p h = rw (getD-fresh_processes ts ns p (omega (arith, h, long))) (fresh-sizes (get_or ts p false) (get_or ns p 0))

  fresh-sized : Sized (fresh_start ts ns)
  unfolding fresh_start
  fresh-sized = record {
    processes = length-fresh_processes ts ns ∙ long;
    vectors = λ p h. (at-fresh p h).0;
    entries = λ p h. (at-fresh p h).1;
    starts = length-fresh_starts 0 ts ns ∙ long;
  }

  fresh-sound : SoundState (fresh_start ts ns)
  unfolding FreshIsSound
  fresh-sound = fresh-is-sound ts ns long right

  fresh-ready : (memory : List ℕ) → length memory ≡ capacity → Ready (lent (fresh_start ts ns) memory)
  fresh-ready memory size = record {
    memory = size;
    processes = fresh-sized.processes;
    starts = fresh-sized.starts;
    entries = fresh-sized.entries;
    sound = state-passes (fresh_start ts ns) fresh-sized.entries fresh-sound;
  }

  pub fresh-door : (door : ℕ) (state : List ℕ) → length state ≡ state_width → door_of (start_on ts ns door state).state ≡ door
  unfolding start_on
  fresh-door door state wide = rw (eq-eqb (length state) state_width wide, right) (inverse.door-is-read door (fresh_start ts ns) fresh-sized)

  pub fresh-begins : (door : ℕ) (state memory : List ℕ) → length state ≡ state_width → length memory ≡ capacity → Begins (start_on ts ns door state).state memory
  unfolding start_on
  fresh-begins door state memory wide size = rw (eq-eqb (length state) state_width wide, right) (record {
    formed = inverse.written-is-formed door (fresh_start ts ns) fresh-sized;
    ready = subst (λ (g : Records). Ready (lent g memory)) (sym (inverse.written-is-read door (fresh_start ts ns) fresh-sized)) (fresh-ready memory size);
  })

pub passed-begins : (state memory buffer : List ℕ) → lent_on state (no_room memory buffer) ≡ 0 → Begins state memory
passed-begins state memory buffer e = let fit = request-fits state memory buffer e in record { formed = fit.formed; ready = fit.ready }

pub passed-line-begins : (state memory buffer : List ℕ) → lent_on state (no_line_room memory buffer) ≡ 0 → Begins state memory
passed-line-begins state memory buffer e = let fit = line-fits state memory buffer e in record { formed = fit.formed; ready = fit.ready }

pub passed-packet-begins : (state memory buffer : List ℕ) → lent_on state (no_ack_room memory buffer) ≡ 0 → Begins state memory
passed-packet-begins state memory buffer e = let fit = ack-fits state memory buffer e in record { formed = fit.formed; ready = fit.ready }
