-- The bytes of a state after a call, by what the call left: the process as it was, changed where it lies, gone, or come as the last. What the
-- code leaves is the byte form of what the rules put. Assumes nothing.
use mathlib.Core.Path.{◌≡◌, refl, sym, ap, ap₂, ◌∙◌}
use mathlib.Core.Bool.{Bool, true, false, cond}
use mathlib.Core.List.{List, []}
use Prim.Native.Nat.{ℕ, ◌<◌}
use lib.ListN.{set, length-set}
use Rattle.lists.specs.Buffer.{Bytes}
use Rattle.process.specs.declared.record.Process.{Process}
use Rattle.process.specs.Local.{Local, local}
use Rattle.state.specs.Records.{Records, start_of, with_process, with_start}
use Rattle.state.specs.Layout.{extent_at, used, with_slot, starts_without}
use Rattle.state.proofs.MemoryLaws.{with_slot-slot}
use Rattle.rules.specs.Tests.{State, lent, record_of}
use Rattle.rules.specs.Window.{put_in_place, put_last, taken_out}
use Rattle.rules.specs.Step.{Answer, StepResult, local_of, put}
use Rattle.rules.proofs.StateLaws.{put_is, put-stays, put_same}
use Rattle.rules.specs.Isolation.{is_granted}
use Rattle.service.specs.At.{ProcessResult, leaving}
use Rattle.state_bytes.specs.State.{state_bytes, state_of, door_of, state_formed, with_process_bytes, with_start_bytes, with_starts_bytes}
use Rattle.state_bytes.specs.Theorems.{Sized}
use Rattle.state_bytes.proofs.StartLaws.{eight-starts}
use Rattle.state_bytes.proofs.StateLaws.{inverse}
use Rattle.gateway.specs.Called.{Called, report_called, finished}
use Rattle.gateway.proofs.AskedLaws.{stepped, unmoved}
use Rattle.gateway.proofs.ReadyLaws.{read-sized}

-- what a call answered, with the bytes of state and memory that it left
abbrev pub leaves : Answer → List ℕ → List ℕ → Called
leaves a state memory = report_called a.outcome a.line_length state memory a.buffer a.line

-- ---- a record put into the bytes of a state whose starts were written before it

module _ (door : ℕ) (g : Records) (m : List ℕ) (sized : Sized g) (is : state_bytes door g ≡ m) (bytes : Bytes m) (p : ℕ) (q : Process) (low : p < 8) where
  read_back : state_of m ≡ g
  read_back = ap state_of (sym is) ∙ inverse.written-is-read door g sized

  door-back : door_of m ≡ door
  door-back = ap door_of (sym is) ∙ inverse.door-is-read door g sized

  formed-still : state_formed m ≡ true
  formed-still = ap state_formed (sym is) ∙ inverse.written-is-formed door g sized

  put_on : with_process_bytes p q m ≡ state_bytes door (with_process p q g)
  put_on = sym (ap₂ (λ (d : ℕ) (x : Records). state_bytes d (with_process p q x)) (sym door-back) (sym read_back) ∙ inverse.put-is-with m bytes formed-still p q low)

module _ (state memory : List ℕ) (bytes : Bytes state) (formed : state_formed state ≡ true) where
  abbrev s : State
  s = lent (state_of state) memory

  -- 'a new one last'
  pub last-bytes : (p start : ℕ) (q : Process) (part : List ℕ) → p < 8 → start ≡ used (state_of state) → Bytes (with_start_bytes p start state)
      → with_process_bytes p q (with_start_bytes p start state) ≡ state_bytes (door_of state) (put_last p (local q part) s).records
  unfolding put_last
  last-bytes p start q part low e more =
      rw (← e)
      (put_on (door_of state) (with_start p start (state_of state)) (with_start_bytes p start state)
      (read-sized state (set (state_of state).starts p start) (length-set (state_of state).starts p start ∙ eight-starts state))
      (inverse.put-start state bytes formed p start low) more p q low)

  -- 'those above move down'
  pub gone-bytes : (p : ℕ) (q : Process) → p < 8 → Bytes (with_starts_bytes (starts_without p (state_of state)) state)
      → with_process_bytes p q (with_starts_bytes (starts_without p (state_of state)) state) ≡ state_bytes (door_of state) (taken_out p (local q []) s).records
  unfolding taken_out starts_without
  gone-bytes p q low more =
      put_on (door_of state) (record { processes = (state_of state).processes; starts = starts_without p (state_of state) })
      (with_starts_bytes (starts_without p (state_of state)) state) (read-sized state (starts_without p (state_of state)) refl)
      (inverse.put-starts state bytes formed (starts_without p (state_of state))) more p q low

  -- ---- no process changed

  kept-bytes : (t : Bool) → cond t (state_bytes (door_of state) (state_of state)) state ≡ state
  kept-bytes true = inverse.read-is-written state bytes formed
  kept-bytes false = refl

  pub finished-unmoved : (a b : Answer) → a ≡ b → (y : StepResult) → y ≡ unmoved b s → leaves a state memory ≡ finished state y
  unfolding finished
  finished-unmoved a b e y i = rw (i, ← e, kept-bytes (is_granted a.outcome))

  -- ---- a call at process p

  module _ (p : ℕ) (a : Answer) (q : Process) (part : List ℕ) (x : ProcessResult) (e : leaving a (local q part) ≡ x) (y : StepResult) (i : y ≡ stepped p x s) where
    abbrev granted : Bool
    granted = is_granted a.outcome

    -- where the call is granted, the rules put this state
    finished-put : (t : State) → put p (local q part) s ≡ t → leaves a (cond granted (state_bytes (door_of state) t.records) state) t.memory ≡ finished state y
    unfolding finished
    finished-put t k = rw (i, ← e, k)

    -- the process stays where it lies
    pub finished-served : p < 8 → q.there ≡ (record_of s p).there
        → leaves a (cond granted (with_process_bytes p q state) state) (with_slot (start_of (state_of state) p) part memory) ≡ finished state y
    unfolding put_in_place
    finished-served low stays =
        rw (← inverse.put-is-with state bytes formed p q low) (finished-put (put_in_place p (local q part) s) (put-stays p (local q part) s stays))

    -- it goes
    finished-gone : (record_of s p).there ≡ true → q.there ≡ false → granted ≡ true
        → leaves a (state_bytes (door_of state) (taken_out p (local q []) s).records) (taken_out p (local q []) s).memory ≡ finished state y
    unfolding taken_out
    finished-gone there absent g =
        rw g at (finished-put (taken_out p (local q part) s) (put_is p (local q part) s true false there absent))

    -- it comes
    pub finished-last : (record_of s p).there ≡ false → q.there ≡ true → granted ≡ true
        → leaves a (state_bytes (door_of state) (put_last p (local q part) s).records) (with_slot (used (state_of state)) part memory) ≡ finished state y
    unfolding put_last
    finished-last absent there g =
        rw g at (finished-put (put_last p (local q part) s) (put_is p (local q part) s false true absent there))

    -- it is left as it was
    pub finished-kept : x.left ≡ local_of s p → leaves a state (with_slot (start_of (state_of state) p) part memory) ≡ finished state y
    finished-kept l =
        let same : part ≡ (local_of s p).bytes = ap (λ (z : ProcessResult). z.left.bytes) e ∙ ap (λ (z : Local). z.bytes) l in
        let still : stepped p x s ≡ unmoved x.answer s = rw (l, put_same p s) in
        rw (same, with_slot-slot (start_of (state_of state) p) (extent_at (state_of state) p) memory)
        (finished-unmoved a x.answer (ap (λ (z : ProcessResult). z.answer) e) y (i ∙ still))

    -- it goes where the call is granted, from a memory that holds these bytes of it, and is left as it was where it is refused
    pub finished-removed : (back : List ℕ) → back ≡ with_slot (start_of (state_of state) p) part memory
        → (granted ≡ true → ((record_of s p).there ≡ true) × (q.there ≡ false) × (taken_out p (local q []) (lent (state_of state) back) ≡ taken_out p (local q []) s))
        → (granted ≡ false → x.left ≡ local_of s p)
        → leaves a (cond granted (state_bytes (door_of state) (taken_out p (local q []) (lent (state_of state) back)).records) state)
        (cond granted (taken_out p (local q []) (lent (state_of state) back)).memory back)
        ≡ finished state y
    finished-removed back is gone stays = go granted refl
      where
        go : (t : Bool) → granted ≡ t
            → leaves a (cond t (state_bytes (door_of state) (taken_out p (local q []) (lent (state_of state) back)).records) state)
            (cond t (taken_out p (local q []) (lent (state_of state) back)).memory back)
            ≡ finished state y
        go true g = rw (gone g).2 (finished-gone (gone g).0 (gone g).1 g)
        go false g = rw is (finished-kept (stays g))
