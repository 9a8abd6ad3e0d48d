-- The tests 1 and 2 on the bytes of a state, and what they say of its record. Assumes nothing.
use Rattle.std.proofs.Common.{Result, Err}
use mathlib.Core.Path.{◌≡◌, refl, sym, ap, ◌∙◌}
use mathlib.Core.Bool.{Bool, true, false, not, cond}
use mathlib.Core.List.{List, []}
use Prim.Native.Nat.{ℕ, zero, suc, ◌≤◌}
use native.Mathlib.Omega.{arith}
use borrow.Author.Tests.{eqb-true, ltb-false, not-false}
use lib.ListN.{length}
use lib.Dec.{eqb, ltb}
use Rattle.lists.proofs.Bool.{||-left, ||-right}
use Rattle.format.specs.Outcome.{Outcome}
use Rattle.format.specs.declared.outcome.Refusal.{Refusal}
use Rattle.format.specs.Outcome.{refusal_by, unless, first_failing}
use Rattle.format.specs.Sizes.{message_bytes}
use Rattle.format.proofs.OutcomeLaws.{outcome-other, unless-err}
use Rattle.fields.specs.Written.{line_bytes}
use Rattle.packets.specs.Ack.{ack_words}
use Rattle.state.specs.Layout.{capacity}
use Rattle.state.specs.Sound.{sound_test}
use Rattle.rules.specs.Tests.{State, lent, no_room, no_report_room, no_line_room, no_ack_room}
use Rattle.rules.specs.Window.{Buffers}
use Rattle.rules.specs.Step.{Call, request, report, text_line, packet, tick, step}
use Rattle.rules.specs.Turn.{buffers_of}
use Rattle.rules.specs.Isolation.{is_granted}
use Rattle.rules.specs.Ready.{Ready}
use Rattle.state_bytes.specs.Widths.{state_width}
use Rattle.state_bytes.specs.State.{state_of, state_formed, state_sound}
use Rattle.gateway.specs.Stage.{lent_number}
use Rattle.gateway.specs.Called.{called, report_called, lent_on, badly_lent, finished, call_on}
use Rattle.gateway.proofs.ReadyLaws.{formed-long, sound-formed, sound-ready}
use Rattle.gateway.proofs.StageLaws.{silent, request-lent}
use Rattle.gateway.proofs.ReportLaws.{report-lent}
use Rattle.gateway.proofs.TextLaws.{line-lent}
use Rattle.gateway.proofs.PacketLaws.{packet-lent}
use Rattle.gateway.proofs.TickLaws.{tick-lent}

-- tests with this number refuse so
abbrev pub Failed : ℕ → Refusal → Type 0
Failed n r = ◌≡◌ {A = Result Unit Refusal} (unless n tt) (Err r)

pub failed-by : (n : ℕ) → (n ≡ 0 → ⊥) → Failed n (refusal_by n)
failed-by zero z = absurd (z refl)
failed-by (suc n) z = refl

-- ---- what is lent, where the tests 1 and 2 pass

-- with so much room in the output buffers
pub record Fit (state memory : List ℕ) (Room : Type 0) : Type 0 where
  pub formed : state_formed state ≡ true
  pub long : length state ≡ state_width
  pub sound : state_sound state ≡ true
  pub ready : Ready (lent (state_of state) memory)
  pub room : Room

module _ (state : List ℕ) where
  -- of bytes that are a state's
  lent-number : (short : Bool) (memory : List ℕ) → state_formed state ≡ true → lent_on state short ≡ lent_number (lent (state_of state) memory) short
  unfolding lent_on state_sound lent_number first_failing
  lent-number short memory f = rw f (go short (sound_test (state_of state)))
    where
      go : (a b : Bool) → cond {A = ℕ} a 1 (cond b 0 2) ≡ cond a 1 (cond (not b) 2 0)
      go true b = refl
      go false true = refl
      go false false = refl

  -- both pass
  pub passed : (short : Bool) → lent_on state short ≡ 0 → (short ≡ false) × (state_sound state ≡ true)
  unfolding lent_on
  passed short e = go short (state_sound state) e
    where
      go : (a b : Bool) → cond {A = ℕ} a 1 (cond b 0 2) ≡ 0 → (a ≡ false) × (b ≡ true)
      go true b z = absurd (omega (arith, z))
      go false true z = (refl, refl)
      go false false z = absurd (omega (arith, z))

  pub lent-passes : (short : Bool) (memory : List ℕ) → lent_on state short ≡ 0 → lent_number (lent (state_of state) memory) short ≡ 0
  lent-passes short memory e = sym (lent-number short memory (sound-formed state (passed short e).1)) ∙ e

  fit : (memory : List ℕ) (Room : Type 0) → state_sound state ≡ true → length memory ≡ capacity → Room → Fit state memory Room
  fit memory Room e size room = record {
    formed = sound-formed state e;
    long = formed-long state (sound-formed state e);
    sound = e;
    ready = sound-ready state memory e size;
    room = room;
  }

-- ---- of each call

-- memory has its length, and the buffer room for a message
roomy : (memory buffer : List ℕ) → no_room memory buffer ≡ false → (length memory ≡ capacity) × (message_bytes ≤ length buffer)
roomy memory buffer e =
    (eqb-true (length memory) capacity (not-false _ (||-left _ _ e)), ltb-false (length buffer) message_bytes (||-right (not (eqb (length memory) capacity)) _ e))

pub request-fits : (state memory buffer : List ℕ) → lent_on state (no_room memory buffer) ≡ 0 → Fit state memory (message_bytes ≤ length buffer)
request-fits state memory buffer e =
    let both = passed state (no_room memory buffer) e in
    let room = roomy memory buffer both.0 in
    fit state memory _ both.1 room.0 room.1

pub report-fits : (state memory buffer line : List ℕ) → lent_on state (no_report_room memory buffer line) ≡ 0
    → Fit state memory ((message_bytes ≤ length buffer) × (line_bytes ≤ length line))
report-fits state memory buffer line e =
    let both = passed state (no_report_room memory buffer line) e in
    let room = roomy memory buffer (||-right (ltb (length line) line_bytes) (no_room memory buffer) both.0) in
    fit state memory _ both.1 room.0 (room.1, ltb-false (length line) line_bytes (||-left _ _ both.0))

pub line-fits : (state memory buffer : List ℕ) → lent_on state (no_line_room memory buffer) ≡ 0 → Fit state memory (line_bytes ≤ length buffer)
line-fits state memory buffer e =
    let both = passed state (no_line_room memory buffer) e in
    fit state memory _ both.1 (eqb-true (length memory) capacity (not-false _ (||-right (ltb (length buffer) line_bytes) _ both.0)))
    (ltb-false (length buffer) line_bytes (||-left _ _ both.0))

pub ack-fits : (state memory buffer : List ℕ) → lent_on state (no_ack_room memory buffer) ≡ 0 → Fit state memory (ack_words ≤ length buffer)
ack-fits state memory buffer e =
    let both = passed state (no_ack_room memory buffer) e in
    fit state memory _ both.1 (eqb-true (length memory) capacity (not-false _ (||-right (ltb (length buffer) ack_words) _ both.0)))
    (ltb-false (length buffer) ack_words (||-left _ _ both.0))

-- ---- calls on bytes

-- a refused step leaves the bytes
pub finished-refused : (state memory : List ℕ) (b : Buffers) (n : ℕ)
    → finished state (silent n b (lent (state_of state) memory)) ≡ report_called (Err (refusal_by n)) 0 state memory b.own b.line
unfolding finished is_granted
finished-refused state memory b n = refl

module _ (state memory : List ℕ) where
  abbrev pub s : State
  s = lent (state_of state) memory

  -- a call that the tests 1 and 2 refuse
  unfit : (c : Call) (r : Refusal) → Failed (lent_on state (badly_lent memory c)) r
      → ((n : ℕ) → n ≡ lent_number s (badly_lent memory c) → (n ≡ 0 → ⊥) → step s c ≡ silent n (buffers_of c) s)
      → report_called (Err r) 0 state memory (buffers_of c).own (buffers_of c).line ≡ call_on state memory c
  unfolding call_on
  unfit c r failed steps = go (state_formed state) refl
    where
      n : ℕ
      n = r.0

      e : n ≡ lent_on state (badly_lent memory c)
      e = sym (unless-err _ _ _ failed).0

      z : n ≡ 0 → ⊥
      z i = (unless-err _ _ _ failed).1 (sym e ∙ i)

      go : (t : Bool) → state_formed state ≡ t → report_called (Err r) 0 state memory (buffers_of c).own (buffers_of c).line ≡ call_on state memory c
      go true f = rw (f, steps n (e ∙ lent-number state (badly_lent memory c) memory f) z) (sym (finished-refused state memory (buffers_of c) n))
      go false f = rw (f, ← e) (ap (λ (o : Outcome). report_called o 0 state memory (buffers_of c).own (buffers_of c).line) (outcome-other n 0 z))

  pub request-unfit : (m buffer : List ℕ) (r : Refusal) → Failed (lent_on state (no_room memory buffer)) r
      → called (Err r) state memory buffer ≡ call_on state memory (request m buffer)
  unfolding badly_lent buffers_of step
  request-unfit m buffer r failed = unfit (request m buffer) r failed (λ n i z. request-lent s m buffer n i z)

  pub report-unfit : (p kind reason : ℕ) (words buffer line : List ℕ) (r : Refusal) → Failed (lent_on state (no_report_room memory buffer line)) r
      → report_called (Err r) 0 state memory buffer line ≡ call_on state memory (report p kind reason words buffer line)
  unfolding badly_lent buffers_of step
  report-unfit p kind reason words buffer line r failed =
      unfit (report p kind reason words buffer line) r failed (λ n i z. report-lent s p kind reason words buffer line n i z)

  pub line-unfit : (text buffer : List ℕ) (r : Refusal) → Failed (lent_on state (no_line_room memory buffer)) r
      → called (Err r) state memory buffer ≡ call_on state memory (text_line text buffer)
  unfolding badly_lent buffers_of step
  line-unfit text buffer r failed = unfit (text_line text buffer) r failed (λ n i z. line-lent s text buffer n i z)

  pub packet-unfit : (door kind id : ℕ) (words buffer : List ℕ) (r : Refusal) → Failed (lent_on state (no_ack_room memory buffer)) r
      → called (Err r) state memory buffer ≡ call_on state memory (packet door kind id words buffer)
  unfolding badly_lent buffers_of step
  packet-unfit door kind id words buffer r failed =
      unfit (packet door kind id words buffer) r failed (λ n i z. packet-lent s door kind id words buffer n i z)

  pub tick-unfit : (door : ℕ) (r : Refusal) → Failed (lent_on state false) r → called (Err r) state memory [] ≡ call_on state memory (tick door)
  unfolding badly_lent buffers_of step
  tick-unfit door r failed = unfit (tick door) r failed (λ n i z. tick-lent s door n i z)

  -- a call that they let pass
  pub call-fit : state_formed state ≡ true → (c : Call) → call_on state memory c ≡ finished state (step (lent (state_of state) memory) c)
  unfolding call_on
  call-fit f c = rw f
