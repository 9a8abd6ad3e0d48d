-- The demands hold of calls on bytes, since these are a run of the rules. Assumes nothing.
use Rattle.std.proofs.Common.{Ok, Err}
use mathlib.Core.Path.{◌≡◌, refl, sym, ap, ◌∙◌}
use mathlib.Core.Bool.{Bool, true, false, cond}
use mathlib.Core.List.{List, [], ◌∷◌}
use mathlib.Core.Logic.{◌⊎◌, inl, inr}
use Prim.Native.Nat.{ℕ, ◌<◌}
use lib.ListN.{get_or}
use Rattle.format.specs.Outcome.{Outcome}
use Rattle.format.specs.Outcome.{refusal_by, number_of}
use Rattle.format.proofs.OutcomeLaws.{number_of-outcome, outcome-other}
use Rattle.rules.specs.Tests.{State, no_room, no_report_room, no_line_room, no_ack_room}
use Rattle.rules.specs.Window.{Buffers}
use Rattle.rules.specs.Step.{Call, request, report, store, text_line, packet, tick, query, step, query_step, local_of}
use Rattle.rules.specs.Turn.{single, buffers_of}
use Rattle.rules.specs.Run.{TraceItem, run, leave}
use Rattle.rules.specs.Total.{one_of, numbers_of}
use Rattle.rules.specs.Isolation.{is_granted, heard, theirs}
use Rattle.rules.specs.Outsider.{only, Outsider, Outsiders}
use Rattle.rules.specs.Together.{without_theirs, calls_of}
use Rattle.rules.proofs.TotalLaws.{total}
use Rattle.rules.proofs.RightsLaws.{rights}
use Rattle.rules.proofs.OutsiderLaws.{isolation}
use Rattle.rules.proofs.FreeLaws.{free_bytes}
use Rattle.rules.proofs.CreateLaws.{create-rule}
use Rattle.rules.proofs.DestroyLaws.{destroy-rule, nothing-is-left}
use Rattle.rules.proofs.LedgerLaws.{ledger}
use Rattle.rules.proofs.LoopLaws.{loops}
use Rattle.rules.proofs.OwedLaws.{owed-answers}
use Rattle.rules.proofs.BreakLifeLaws.{watching}
use Rattle.rules.proofs.StatusLaws.{how-many-set}
use Rattle.rules.proofs.WaitingLaws.{waiting}
use Rattle.rules.specs.Why.{why_of}
use Rattle.rules.specs.WhyRight.{Shaped, told_number, told_facts}
use Rattle.rules.proofs.WhyLaws.{number_is, why-right}
use Rattle.reasons.specs.declared.Reason.{Reason}
use Rattle.reasons.specs.Reason.{reason_number, facts_of}
use Rattle.state_bytes.specs.State.{state_formed, state_sound}
use Rattle.gateway.specs.Called.{Called, report_called, finished, badly_lent, lent_on, refused_by, call_on, machine_stored, why_on, why_called, Did}
use Rattle.gateway.specs.Sequence.{Begins, Made, read_from}
use Rattle.gateway.specs.Demands.{TotalOnBytes, SameNumber, TellsRight, ListsOnBytes, Demands}
use Rattle.gateway.proofs.LentLaws.{failed-by, request-unfit, report-unfit, line-unfit, packet-unfit, tick-unfit}
use Rattle.state_bytes.proofs.StartLaws.{eight-starts}
use Rattle.state_bytes.proofs.StateLaws.{eight-at}
use Rattle.gateway.proofs.ReadyLaws.{read-eight}
use Rattle.gateway.proofs.ReportLaws.{both}
use Rattle.gateway.proofs.WhyLaws.{why-formed, why-unsound}
use Rattle.gateway.proofs.SequenceLaws.{did-begins, did-door, done-run, fresh-begins, fresh-door, passed-begins, passed-line-begins, passed-packet-begins}

-- ---- demand 1 on any bytes

-- a call that was answered with a number of its list, and that changed nothing if it was refused
record Answered (state memory : List ℕ) (numbers : List ℕ) (x : Called) : Type 0 where
  listed : one_of numbers (number_of x.outcome) ≡ true
  refused : (number_of x.outcome ≡ 0 → ⊥) → (x.state ≡ state) × (x.memory ≡ memory)

-- bytes that are no state's are refused with 1 or 2
unformed : (state memory : List ℕ) (short : Bool) (b : Buffers) (numbers : List ℕ) → one_of numbers 1 ≡ true → one_of numbers 2 ≡ true → state_formed state ≡ false
    → Answered state memory numbers (refused_by (lent_on state short) state memory b)
unfolding lent_on state_sound
unformed state memory short b numbers one two f = record { listed = rw (number_of-outcome (lent_on state short) 0, f) (go short); refused = λ n. (refl, refl) }
  where
    go : (t : Bool) → one_of numbers (cond t 1 2) ≡ true
    go true = one
    go false = two

module _ (state memory : List ℕ) (c : Call) where
  abbrev s : State
  s = read_from state memory

  stays : (number_of (step s c).answer.outcome ≡ 0 → ⊥) → is_granted (step s c).answer.outcome ≡ false
  unfolding number_of is_granted
  stays n = go (step s c).answer.outcome n (total.granted s c)
    where
      go : (o : Outcome) → (number_of o ≡ 0 → ⊥) → (number_of o ≡ 0 → is_granted o ≡ true) → is_granted o ≡ false
      go (Ok k) z g = absurd (z refl)
      go (Err r) z g = refl

  formed : Answered state memory (numbers_of c) (finished state (step s c))
  unfolding finished
  formed = record {
    listed = total.listed s c;
    refused = λ n. (rw (stays n), ap (λ (t : State). t.memory) (total.refused s c n));
  }

  call-answered : one_of (numbers_of c) 1 ≡ true → one_of (numbers_of c) 2 ≡ true → (x : Called) → x ≡ call_on state memory c → Answered state memory (numbers_of c) x
  unfolding call_on
  call-answered one two x e = rw e (go (state_formed state) refl)
    where
      go : (t : Bool) → state_formed state ≡ t → Answered state memory (numbers_of c) (call_on state memory c)
      go true f = rw f formed
      go false f = rw f (unformed state memory (badly_lent memory c) (buffers_of c) (numbers_of c) one two f)

-- a tick is lent nothing that could be too short
tick-answered : (state memory : List ℕ) (door : ℕ) (x : Called) → x ≡ call_on state memory (tick door) → Answered state memory (numbers_of (tick door)) x
unfolding call_on badly_lent lent_on state_sound numbers_of number_of
tick-answered state memory door x e = rw e (go (state_formed state) refl)
  where
    go : (t : Bool) → state_formed state ≡ t → Answered state memory (numbers_of (tick door)) (call_on state memory (tick door))
    go true f = rw f (formed state memory (tick door))
    go false f = rw f (record { listed = refl; refused = λ n. (refl, refl) })

-- nor is a query
query-answered : (state memory m : List ℕ) (x : Called) → x ≡ why_called (why_on state m) state memory → Answered state memory (numbers_of (query m)) x
unfolding why_on step numbers_of
query-answered state memory m x e = rw e (record {
  listed = rw (number_of-outcome (reason_number (why_on state m)) 0) (go (state_formed state) refl);
  refused = λ n. (refl, refl);
})
  where
    go : (t : Bool) → state_formed state ≡ t → one_of (numbers_of (query m)) (reason_number (why_on state m)) ≡ true
    go true f = rw (why-formed state memory m f, ← number_is (read_from state memory) m) (total.listed (read_from state memory) (query m))
    go false f = rw f

answered : (state memory : List ℕ) (c : Call) (x : Called) → Did state memory c x → Answered state memory (numbers_of c) x
unfolding Did numbers_of machine_stored number_of
answered state memory (request m buffer) x d = call-answered state memory (request m buffer) refl refl x d
answered state memory (report p kind reason words buffer line) x d = call-answered state memory (report p kind reason words buffer line) refl refl x d
answered state memory (store p a v) x d = rw d.1 (record { listed = refl; refused = λ n. absurd (n refl) })
answered state memory (text_line text buffer) x d = call-answered state memory (text_line text buffer) refl refl x d
answered state memory (packet door kind id words buffer) x d = call-answered state memory (packet door kind id words buffer) refl refl x d.1
answered state memory (tick door) x d = tick-answered state memory door x d.1
answered state memory (query m) x d = query-answered state memory m x d

refused-by : (state memory : List ℕ) (b : Buffers) (n : ℕ) → (n ≡ 0 → ⊥) → report_called (Err (refusal_by n)) 0 state memory b.own b.line ≡ refused_by n state memory b
refused-by state memory b n z = ap (λ (o : Outcome). report_called o 0 state memory b.own b.line) (outcome-other n 0 z)

-- what is lent to a tick is never too short
tick-number : (state : List ℕ) → (lent_on state false ≡ 0 → ⊥) → lent_on state false ≡ 2
unfolding lent_on
tick-number state n = go (state_sound state) n
  where
    go : (t : Bool) → (◌≡◌ {A = ℕ} (cond t 0 2) 0 → ⊥) → ◌≡◌ {A = ℕ} (cond t 0 2) 2
    go true z = absurd (z refl)
    go false z = refl

unsound-by : (state : List ℕ) → (lent_on state false ≡ 0 → ⊥) → state_sound state ≡ false
unfolding lent_on
unsound-by state n = go (state_sound state) n
  where
    go : (t : Bool) → (◌≡◌ {A = ℕ} (cond t 0 2) 0 → ⊥) → t ≡ false
    go true z = absurd (z refl)
    go false z = refl

total-on-bytes : TotalOnBytes
unfolding Did buffers_of facts_of
total-on-bytes = record {
  listed = λ state memory c x d. (answered state memory c x d).listed;
  refused = λ state memory c x d. (answered state memory c x d).refused;
  unfit-request = λ state memory m buffer x d n.
      let k = lent_on state (no_room memory buffer) in
      d ∙ sym (request-unfit state memory m buffer (refusal_by k) (failed-by k n)) ∙ refused-by state memory (single buffer) k n;
  unfit-report = λ state memory p kind reason words buffer line x d n.
      let k = lent_on state (no_report_room memory buffer line) in
      d ∙ sym (report-unfit state memory p kind reason words buffer line (refusal_by k) (failed-by k n)) ∙ refused-by state memory (both buffer line) k n;
  unfit-line = λ state memory text buffer x d n.
      let k = lent_on state (no_line_room memory buffer) in
      d ∙ sym (line-unfit state memory text buffer (refusal_by k) (failed-by k n)) ∙ refused-by state memory (single buffer) k n;
  unfit-packet = λ state memory door kind id words buffer x d n.
      let k = lent_on state (no_ack_room memory buffer) in
      d.1 ∙ sym (packet-unfit state memory door kind id words buffer (refusal_by k) (failed-by k n)) ∙ refused-by state memory (single buffer) k n;
  unfit-tick = λ state memory door x d n.
      let k = lent_on state false in
      d.1 ∙ sym (tick-unfit state memory door (refusal_by k) (failed-by k n)) ∙ refused-by state memory (single []) k n
      ∙ ap (λ (number : ℕ). refused_by number state memory (single [])) (tick-number state n);
  unfit-query = λ state memory m x d n. d ∙ ap (λ (r : Reason). why_called r state memory) (why-unsound state m (unsound-by state n));
}

-- ---- a query and its request

query-same : SameNumber
unfolding SameNumber Did call_on finished why_on lent_on state_sound badly_lent step number_of
query-same state memory m buffer x y room d e = rw (d, e) (number_of-outcome (reason_number (why_on state m)) 0 ∙ go (state_formed state) refl)
  where
    go : (t : Bool) → state_formed state ≡ t → reason_number (why_on state m) ≡ number_of (call_on state memory (request m buffer)).outcome
    go true f = rw (why-formed state memory m f, f) (sym (number_is (read_from state memory) m) ∙ why-right.same_number (read_from state memory) m buffer room)
    go false f = rw (f, room)

shaped : (state memory : List ℕ) → Shaped (read_from state memory)
shaped state memory = record { processes = eight-at state; starts = eight-starts state; entries = read-eight state }

tells-right : TellsRight
unfolding TellsRight Did why_on buffers_of facts_of query_step
tells-right state memory m x d = go (state_formed state) refl
  where
    go : (t : Bool) → state_formed state ≡ t
        → (x ≡ refused_by 2 state memory (buffers_of (query m)))
        ⊎ (Shaped (read_from state memory)
        × ((number_of x.outcome ≡ told_number (read_from state memory) m) × (x.buffer ≡ told_facts (read_from state memory) m)))
    go true f =
        let same = why-formed state memory m f in
        inr (shaped state memory, (rw (d, same) (number_of-outcome (reason_number (why_of (read_from state memory) m)) 0 ∙ sym (number_is (read_from state memory) m)), rw (d, same)))
    go false f = inl (d ∙ rw f)

-- ---- lists

outsiders : (host p : ℕ) → p < 8 → Outsider host p
unfolding Outsiders
outsiders = isolation.outsiders

-- calls that are a run of the rules, however they are made
module _ (made : List ℕ → List ℕ → List Call → List TraceItem → Type 0)
    (runs : (state memory : List ℕ) → Begins state memory → (l : List Call) (es : List TraceItem) → made state memory l es → es ≡ run (read_from state memory) l) where
  one-after : (state memory : List ℕ) → Begins state memory → (c : Call) (e : TraceItem) → made state memory (c ∷ []) (e ∷ []) → e.after ≡ (step (read_from state memory) c).after
  unfolding run
  one-after state memory b c e m = ap (λ (es : List TraceItem). (get_or es 0 e).after) (runs state memory b (c ∷ []) (e ∷ []) m)

  pub lists-on-bytes : ListsOnBytes made
  lists-on-bytes = record {
    runs = runs;
    changes = λ state memory b c e m p low none.
        ap (λ (after : State). local_of after p) (one-after state memory b c e m) ∙ rights.changes (read_from state memory) b.ready c p low none;
    same-heard = λ H P s₁ m₁ s₂ m₂ b₁ b₂ apart l₁ l₂ es₁ es₂ d₁ d₂ alike away.
        let first = runs s₁ m₁ b₁ l₁ es₁ d₁ in
        let second = runs s₂ m₂ b₂ l₂ es₂ d₂ in
        ap (heard H) first
        ∙ (isolation.together H P).same-heard (read_from s₁ m₁) (read_from s₂ m₂) l₁ l₂
        (record { ready₁ = b₁.ready; ready₂ = b₂.ready; apart = apart; alike = rw (first, second) at alike; away = rw first at away })
        ∙ ap (heard H) (sym second);
    left_out = λ H P state memory b l es fewer d away marks f.
        let whole = runs state memory b l es d in
        runs state memory b (calls_of (without_theirs H P marks es)) fewer f
        ∙ ap (λ (xs : List TraceItem). run (read_from state memory) (calls_of (without_theirs H P marks xs))) whole
        ∙ (isolation.together H P).left_out (read_from state memory) b.ready l (rw whole at away) marks
        ∙ ap (without_theirs H P marks) (sym whole);
    outsider-heard = λ host p low s₁ m₁ s₂ m₂ b₁ b₂ differ l₁ l₂ es₁ es₂ d₁ d₂ alike never.
        let first = runs s₁ m₁ b₁ l₁ es₁ d₁ in
        ap (heard (only host)) first
        ∙ (outsiders host p low).same-answers (read_from s₁ m₁) (read_from s₂ m₂) b₁.ready b₂.ready differ l₁ l₂ alike (rw first at never)
        ∙ ap (heard (only host)) (sym (runs s₂ m₂ b₂ l₂ es₂ d₂));
    outsider-left-out = λ host p low state memory b l es fewer d never marks f.
        let whole = runs state memory b l es d in
        runs state memory b (leave (theirs (only host) (only p)) marks l) fewer f
        ∙ (outsiders host p low).unnoticed (read_from state memory) b.ready l (rw whole at never) marks
        ∙ ap (leave (λ (e : TraceItem). theirs (only host) (only p) e.call) marks) (sym whole);
  }

made-runs : (state memory : List ℕ) → Begins state memory → (l : List Call) (es : List TraceItem) → Made state memory l es → es ≡ run (read_from state memory) l
made-runs state memory b l es m = m.trace ∙ done-run state memory b l m.typed m.answers m.done

pub demands : Demands
demands = record {
  starts = record {
    fresh = λ there sizes door state memory long right. fresh-begins there sizes long right door state memory;
    passed = passed-begins;
    passed-line = passed-line-begins;
    passed-packet = passed-packet-begins;
    after = did-begins;
  };
  door-stays = record { set = λ there sizes door state long right. fresh-door there sizes long right door state; stays = did-door };
  total-on-bytes = total-on-bytes;
  lists = lists-on-bytes Made made-runs;
  total = total;
  rights = rights;
  isolation = isolation;
  one-memory = record { free_bytes = free_bytes; create = create-rule; destroy = destroy-rule; nothing-is-left = nothing-is-left };
  ledger = ledger;
  loops = loops;
  owed-answers = owed-answers;
  watching = watching;
  how-many-set = how-many-set;
  waiting = waiting;
  same_number = query-same;
  tells-right = tells-right;
  why-right = why-right;
}
