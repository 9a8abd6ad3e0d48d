-- What becomes of an owed answer, by one call and by lists of calls. Assumes nothing.
use mathlib.Core.Path.{◌≡◌, refl, sym, ap, ◌∙◌, subst}
use mathlib.Core.Bool.{Bool, true, false, cond, ◌&&◌, ◌||◌, true≢false}
use mathlib.Core.List.{List, [], ◌∷◌}
use mathlib.Core.Logic.{◌⊎◌, inl, inr}
use Prim.Native.Nat.{ℕ, ◌<◌}
use native.Mathlib.Omega.{arith}
use borrow.Author.Tests.{eqb-true, eqb-false, eq-eqb, not-false}
use lib.ListN.{length}
use lib.Dec.{eqb, leb, ltb}
use Rattle.lists.proofs.Bool.{&&-right}
use Rattle.ops.specs.Codes.{STOP, END-DEBUG, CREATE, DESTROY}
use Rattle.format.specs.declared.header.Header.{Header}
use Rattle.format.specs.Outcome.{first_failing}
use Rattle.format.specs.Layout.{header_of, string_of}
use Rattle.format.proofs.OutcomeLaws.{first_passes, rest-passes}
use Rattle.fields.specs.Letters.{known}
use Rattle.fields.specs.Read.{line_of}
use Rattle.fields.proofs.LineLaws.{read-is-written}
use Rattle.run_state.specs.RunState.{moving}
use Rattle.session.specs.declared.Owed.{Owed}
use Rattle.session.specs.declared.Owed.TheVariants.{Nothing}
use Rattle.session.specs.Session.{owes, owed_letter}
use Rattle.process.specs.declared.record.Process.{Process}
use Rattle.process.specs.Record.{fresh}
use Rattle.process.specs.Local.{Local}
use Rattle.process.specs.Request.{created}
use Rattle.process.specs.declared.report.Verdict.TheVariants.{Stops}
use Rattle.process.specs.Report.{store_vector_and_replant, verdict_of, reported, recipient_of, answer_of}
use Rattle.process.proofs.AnswerLaws.{none-owed-nothing, stops-owes, stops-still, still-stops, unanswered-owed}
use Rattle.state.specs.Records.{lowest_absent}
use Rattle.rules.specs.Rule.{rule_of, names, creates}
use Rattle.rules.specs.TextRule.{text_rule_of}
use Rattle.rules.specs.Tests.{State, record_of, request_number, bad_report, text_number, packet_number}
use Rattle.rules.specs.Access.{alone, Access, number_at, grants}
use Rattle.rules.specs.Step.{StepResult, local_of, granted, granted_named, granted_create, refused, request_step, text_step, packet_step, tick_step, query_step, Call, request, report, store, text_line, packet, tick, query, step}
use Rattle.rules.specs.Turn.{rule_access, create_access, request_place, request_turn, report_access, store_access, store_turn, text_access, text_turn, packet_access, tick_access, tick_turn, turn_of, buffers_of}
use Rattle.rules.specs.Ready.{Ready}
use Rattle.rules.specs.Isolation.{names_one, subject, fields_of}
use Rattle.rules.specs.Outsider.{only}
use Rattle.rules.specs.Loops.{words_of}
use Rattle.rules.specs.Owed.{text_of, kind_of, reason_of, owed_at, cancelling, Asks, StopsIt, Cancels, Answers, NoLine, Settled, ends, asks_again, stays, Fate, owed_still, answered, cancelled, waits, OwedAnswers}
use Rattle.rules.proofs.StateLaws.{each-sound}
use Rattle.rules.proofs.NumberLaws.{by-test, or_else-zero}
use Rattle.rules.proofs.AccessLaws.{outer_number}
use Rattle.rules.proofs.RequestLaws.{lowest-absent}
use Rattle.rules.proofs.StepLaws.{step-ready}
use Rattle.rules.proofs.PlaceLaws.{Refused, Acted, Reached, came, acted-granted, acted-line, acted-here, acted-else, report-accepted, report-came, packet-came, tick-came}
use Rattle.rules.proofs.PacketLaws.{packet-row, plain-ticked}
use Rattle.rules.proofs.OwedRowLaws.{owed_in, absent-owes, rule-owed, Keeps, Later, letter-owed, later-owed, later-silent, no_line, answer-or}

-- ---- what one call does to the answer that process p owes

data Turned (p : ℕ) (s : State) (c : Call) : Type 0 where
  answers : StopsIt p s c → Answers p (owed_at s p) s c → owed_at (step s c).after p ≡ Nothing → Turned p s c
  cancels : Cancels p s c → NoLine p s c → owed_at (step s c).after p ≡ Nothing → Turned p s c
  asks : (o : Owed) → Asks p o s c → NoLine p s c → owed_at s p ≡ Nothing → Turned p s c
  keeps : (StopsIt p s c → ⊥) → (Cancels p s c → ⊥) → NoLine p s c → owed_at (step s c).after p ≡ owed_at s p → Turned p s c

-- a refused call keeps it
refused-kept : (p : ℕ) (s : State) (c : Call) → Refused s c → Turned p s c
refused-kept p s c f =
    keeps (λ x. true≢false (sym x.granted ∙ f.ungranted)) (λ x. true≢false (sym x.granted ∙ f.ungranted)) (λ i. f.silent)
    (ap (λ (t : State). owed_at t p) f.same)

-- a request that cancels names the process that it is about
cancels-pid : (c : Call) (q : ℕ) → subject (only q) c ≡ true → cancelling (fields_of c).cmd ≡ true → q ≡ (fields_of c).pid
unfolding subject names_one fields_of
cancels-pid (request m buffer) q e k =
    eqb-true q (header_of m).pid (&&-right (names (header_of m).cmd) (eqb q (header_of m).pid) (&&-right (leb 10 (length m)) (names (header_of m).cmd && eqb q (header_of m).pid) e))
cancels-pid (report p kind reason words buffer line) q e k = absurd (true≢false (sym k))
cancels-pid (store p a v) q e k = absurd (true≢false (sym k))
cancels-pid (text_line text buffer) q e k = absurd (true≢false (sym k))
cancels-pid (packet door kind id words buffer) q e k = absurd (true≢false (sym k))
cancels-pid (tick door) q e k = absurd (true≢false (sym k))
cancels-pid (query m) q e k = absurd (true≢false (sym k))

-- an op code that cancels names a process
cancels-names : (cmd : ℕ) → cancelling cmd ≡ true → names cmd ≡ true
unfolding names
cancels-names cmd = go (eqb cmd STOP) refl (eqb cmd END-DEBUG) refl
  where
    go : (t : Bool) → eqb cmd STOP ≡ t → (u : Bool) → eqb cmd END-DEBUG ≡ u → t || (u || eqb cmd DESTROY) ≡ true → names cmd ≡ true
    go true e u i k = rw (eqb-true cmd STOP e)
    go false e true i k = rw (eqb-true cmd END-DEBUG i)
    go false e false i k = rw (eqb-true cmd DESTROY k)

-- ---- a granted call at process q

module _ (s : State) (r : Ready s) (c : Call) (q : ℕ) (a : Access) (x : Acted s c q a) where
  acted-owes : owed_at (step s c).after q ≡ owed_in (a.effect (local_of s q))
  acted-owes = ap (λ (k : Process). k.session.owed) (acted-here s r c q a x)

  -- it keeps what another process owes
  elsewhere : (p : ℕ) → p < 8 → (p ≡ q → ⊥) → Turned p s c
  unfolding subject
  elsewhere p low other =
      keeps (λ y. away (subst (λ (d : Call). subject (only p) d ≡ true) (sym y.is) (eq-eqb p p refl))) (λ y. no-cancels y x.there.reaches) (λ i. absurd (away i))
      (ap owed_in (acted-else s r c q a x p low other))
    where
      away : subject (only p) c ≡ true → ⊥
      away i = other (eqb-true p q (x.there.named (only p) i))

      no-cancels : Cancels p s c → (subject (only q) c ≡ true) ⊎ ((fields_of c).cmd ≡ CREATE) → ⊥
      no-cancels y (inl i) = other (sym (cancels-pid c q i y.op ∙ y.named))
      no-cancels y (inr e) = true≢false (sym y.op ∙ ap cancelling e)

  anywhere : Turned q s c → (p : ℕ) → p < 8 → Turned p s c
  anywhere here p low = go (eqb p q) refl
    where
      go : (t : Bool) → eqb p q ≡ t → Turned p s c
      go true e = subst (λ (n : ℕ). Turned n s c) (sym (eqb-true p q e)) here
      go false e = elsewhere p low (eqb-false p q e)

-- ---- requests

module _ (s : State) (r : Ready s) (m buffer : List ℕ) where
  abbrev h : Header
  h = header_of m

  abbrev asking : Call
  asking = request m buffer

  no-report : (p : ℕ) → StopsIt p s (request m buffer) → ⊥
  no-report p y = let e = y.is in let z : ◌≡◌ {A = ℕ} 0 1 = cc in omega arith

  named-turned : Acted s (request m buffer) (header_of m).pid (rule_access (rule_of (header_of m).cmd) (header_of m) (string_of m)) → Turned (header_of m).pid s (request m buffer)
  unfolding rule_access fields_of
  named-turned x = go (cancelling h.cmd) refl
    where
      silent : (step s asking).answer.line_length ≡ 0
      silent = acted-line s r asking _ _ x

      after : owed_at (step s asking).after h.pid ≡ cond (cancelling h.cmd) Nothing (owed_at s h.pid)
      after = acted-owes s r asking _ _ x ∙ rule-owed h.cmd h (string_of m) (local_of s h.pid)

      go : (t : Bool) → cancelling h.cmd ≡ t → Turned h.pid s asking
      go true e = cancels (record { op = e; named = refl; granted = acted-granted s r asking _ _ x }) (λ i. silent) (after ∙ rw e)
      go false e = keeps (no-report h.pid) (λ y. true≢false (sym y.op ∙ e)) (λ i. silent) (after ∙ rw e)

  -- CREATE and NOP name no process, so they do not cancel
  no-cancel : names (header_of m).cmd ≡ false → (p : ℕ) → Cancels p s (request m buffer) → ⊥
  unfolding fields_of
  no-cancel n p y = true≢false (sym (cancels-names h.cmd y.op) ∙ n)

  created-turned : names (header_of m).cmd ≡ false → Acted s (request m buffer) (lowest_absent s.records) (create_access (header_of m) (lowest_absent s.records))
      → Turned (lowest_absent s.records) s (request m buffer)
  unfolding create_access created fresh
  created-turned n x =
      let q = lowest_absent s.records in
      keeps (no-report q) (no-cancel n q) (λ i. acted-line s r asking _ _ x)
      (acted-owes s r asking _ _ x ∙ sym (absent-owes (record_of s q) (each-sound s r q x.there.low) (lowest-absent s r x.there.low)))

  request-turned : (p : ℕ) → p < 8 → Turned p s (request m buffer)
  unfolding turn_of request_turn request_place Reached
  request-turned p low = go (came s r asking)
    where
      placed : (t : Bool) → names h.cmd ≡ t → (u : Bool) → creates h.cmd ≡ u → Reached s asking (request_place h (string_of m) s) → Turned p s asking
      placed true n u k x = let y = rw n at x in anywhere s r asking _ _ y (named-turned y) p low
      placed false n true k x = let y = rw (n, k) at x in anywhere s r asking _ _ y (created-turned n y) p low
      placed false n false k x = let y = rw (n, k) at x in keeps (no-report p) (no-cancel n p) (λ i. rw y) (rw y)

      go : Refused s asking ⊎ ((first_failing (turn_of s asking).tests ≡ 0) × Reached s asking (turn_of s asking).place) → Turned p s asking
      go (inl f) = refused-kept p s asking f
      go (inr x) = placed (names h.cmd) refl (creates h.cmd) refl x.1

-- ---- reports

module _ (s : State) (r : Ready s) (q kind reason : ℕ) (words buffer line : List ℕ) where
  abbrev told : Call
  told = report q kind reason words buffer line

  abbrev before : Local
  before = local_of s q

  module _ (x : Acted s (report q kind reason words buffer line) q (report_access q kind reason words)) where
    after_run : moving (record_of (step s (report q kind reason words buffer line)).after q).run ≡ moving (reported kind words (local_of s q)).process.run
    unfolding report_access
    after_run = ap (λ (k : Process). moving k.run) (acted-here s r told _ _ x)

    report-answers : answer_of kind words (local_of s q) ≡ owed_at s q → Answers q (owed_at s q) s (report q kind reason words buffer line)
    unfolding report_access kind_of buffers_of
    report-answers e = record { told = rw (x.is, e); line = rw (x.is, e) }

    report-here : Turned q s (report q kind reason words buffer line)
    unfolding report_access kind_of reason_of words_of buffers_of fields_of
    report-here = go (answer-or kind words before)
      where
        after : owed_at (step s told).after q ≡ owed_in (reported kind words before)
        after = acted-owes s r told _ _ x

        go : ((verdict_of kind (store_vector_and_replant words before).process ≡ Stops (recipient_of kind words before)) × (answer_of kind words before ≡ owed_in before))
            ⊎ ((verdict_of kind (store_vector_and_replant words before).process ≡ Stops (recipient_of kind words before) → ⊥) × (owes (answer_of kind words before) ≡ false)) → Turned q s told
        go (inl v) =
            answers (record { is = refl; granted = acted-granted s r told _ _ x; stops = after_run ∙ stops-still kind words before v.0 })
            (report-answers v.1) (after ∙ stops-owes kind words before v.0)
        go (inr v) =
            keeps (λ y. v.0 (still-stops kind words before (report-accepted s r q kind reason words buffer line x) (sym after_run ∙ y.stops))) (λ y. true≢false (sym y.op))
            (λ i. acted-line s r told _ _ x ∙ ap length (no_line q kind (answer_of kind words before) v.1)) (after ∙ unanswered-owed kind words before v.1)

  report-turned : (p : ℕ) → p < 8 → Turned p s (report q kind reason words buffer line)
  report-turned p low = go (report-came s r q kind reason words buffer line)
    where
      go : Refused s told ⊎ ((bad_report kind reason ≡ false) × Acted s told q (report_access q kind reason words)) → Turned p s told
      go (inl f) = refused-kept p s told f
      go (inr x) = anywhere s r told _ _ x.1 (report-here x.1) p low

-- ---- stores

module _ (s : State) (r : Ready s) (q a v : ℕ) where
  abbrev storing : Call
  storing = store q a v

  store-silent : (p : ℕ) → (step s (store q a v)).answer.line_length ≡ 0 → owed_at (step s (store q a v)).after p ≡ owed_at s p → Turned p s (store q a v)
  unfolding fields_of
  store-silent p silent same =
      keeps (λ y. let e = y.is in let z : ◌≡◌ {A = ℕ} 0 1 = cc in omega arith) (λ y. true≢false (sym y.op)) (λ i. silent) same

  store-turned : (p : ℕ) → p < 8 → Turned p s (store q a v)
  unfolding turn_of store_turn store_access Reached
  store-turned p low = go (came s r storing)
    where
      placed : (t : Bool) → ltb q 8 ≡ t → Reached s storing (turn_of s storing).place → Turned p s storing
      placed true e x = let y = rw e at x in anywhere s r storing _ _ y (store-silent q (acted-line s r storing _ _ y) (acted-owes s r storing _ _ y)) p low
      placed false e x = let y = rw e at x in store-silent p (rw y) (rw y)

      go : Refused s storing ⊎ ((first_failing (turn_of s storing).tests ≡ 0) × Reached s storing (turn_of s storing).place) → Turned p s storing
      go (inl f) = refused-kept p s storing f
      go (inr x) = placed (ltb q 8) refl x.1

-- ---- text lines

-- what a granted `c` or `s` answers, and leaves
record Begun (p : ℕ) (o : Owed) (s : State) (c : Call) : Type 0 where
  low : p < 8
  before : owed_at s p ≡ Nothing
  silent : (step s c).answer ≡ grants (alone []) (buffers_of c)
  owed : owed_at (step s c).after p ≡ o

module _ (s : State) (r : Ready s) (text buffer : List ℕ) where
  abbrev lined : Call
  lined = text_line text buffer

  abbrev pid : ℕ
  pid = (line_of text).pid

  abbrev letter : ℕ
  letter = (line_of text).letter

  text-came : Refused s (text_line text buffer) ⊎ ((known (line_of text).letter ≡ true) × Acted s (text_line text buffer) (line_of text).pid (text_access (line_of text)))
  unfolding turn_of text_turn Reached
  text-came = go (came s r lined)
    where
      go : Refused s lined ⊎ ((first_failing (turn_of s lined).tests ≡ 0) × Acted s lined pid (text_access (line_of text))) → Refused s lined ⊎ ((known letter ≡ true) × Acted s lined pid (text_access (line_of text)))
      go (inl f) = inl f
      go (inr x) =
          let whole = not-false _ (first_passes 121 _ _ (rest-passes 5 _ _ (rest-passes 1 _ _ (rest-passes 0 _ _ x.0)))) in
          inr ((read-is-written text whole).1.letter-known, x.1)

  module _ (x : Acted s (text_line text buffer) (line_of text).pid (text_access (line_of text))) where
    -- 116: nothing was owed
    none-owed : owed_at s (line_of text).pid ≡ Nothing
    unfolding number_at text_access
    none-owed =
        let z = or_else-zero (outer_number (text_access (line_of text)) (local_of s pid)) (first_failing ((text_access (line_of text)).inner (local_of s pid))) x.passes in
        none-owed-nothing (owed_at s pid) (first_passes 115 _ _ z.1)

    text-here : known (line_of text).letter ≡ true → Turned (line_of text).pid s (text_line text buffer)
    unfolding text_access text_of buffers_of fields_of
    text-here k = go (letter-owed letter k)
      where
        silent : (step s lined).answer.line_length ≡ 0
        silent = acted-line s r lined _ _ x

        go : Keeps (text_rule_of letter) ⊎ Later letter → Turned pid s lined
        go (inl same) =
            keeps (λ y. let e = y.is in let z : ◌≡◌ {A = ℕ} 0 1 = cc in omega arith) (λ y. true≢false (sym y.op)) (λ i. silent)
            (acted-owes s r lined _ _ x ∙ same (line_of text) (local_of s pid))
        go (inr y) =
            asks y.owed (record { is = refl; named = refl; letter = y.is; later = y.later; granted = acted-granted s r lined _ _ x }) (λ i. silent) none-owed

    text-begun : (o : Owed) → owes o ≡ true → (line_of text).letter ≡ owed_letter o → Begun (line_of text).pid o s (text_line text buffer)
    unfolding text_access
    text-begun o e i = record {
      low = x.there.low;
      before = none-owed;
      silent = rw (x.is, later-silent (line_of text) (local_of s pid) letter o e i);
      owed = acted-owes s r lined _ _ x ∙ later-owed (line_of text) (local_of s pid) letter o e i;
    }

  text-turned : (p : ℕ) → p < 8 → Turned p s (text_line text buffer)
  text-turned p low = go text-came
    where
      go : Refused s lined ⊎ ((known letter ≡ true) × Acted s lined pid (text_access (line_of text))) → Turned p s lined
      go (inl f) = refused-kept p s lined f
      go (inr x) = anywhere s r lined _ _ x.1 (text-here x.1 x.0) p low

  line-asked : (p : ℕ) (o : Owed) → Asks p o s (text_line text buffer) → Begun p o s (text_line text buffer)
  unfolding text_of
  line-asked p o y = go text-came
    where
      go : Refused s lined ⊎ ((known letter ≡ true) × Acted s lined pid (text_access (line_of text))) → Begun p o s lined
      go (inl f) = absurd (true≢false (sym y.granted ∙ f.ungranted))
      go (inr x) = subst (λ (n : ℕ). Begun n o s lined) y.named (text-begun x.1 o y.later y.letter)

-- ---- packets and ticks

module _ (s : State) (r : Ready s) (door kind id : ℕ) (words buffer : List ℕ) where
  abbrev packed : Call
  packed = packet door kind id words buffer

  packet-turned : (p : ℕ) → p < 8 → Turned p s (packet door kind id words buffer)
  unfolding fields_of packet_access
  packet-turned p low = go (packet-came s r door kind id words buffer)
    where
      go : Refused s packed ⊎ Acted s packed door (packet_access kind id words) → Turned p s packed
      go (inl f) = refused-kept p s packed f
      go (inr x) =
          anywhere s r packed _ _ x
          (keeps (λ y. let e = y.is in let z : ◌≡◌ {A = ℕ} 0 1 = cc in omega arith) (λ y. true≢false (sym y.op)) (λ i. acted-line s r packed _ _ x)
          (acted-owes s r packed _ _ x ∙ (packet-row kind).owed id words (local_of s door))) p low

module _ (s : State) (r : Ready s) (door : ℕ) where
  tick-silent : (p : ℕ) → (step s (tick door)).answer.line_length ≡ 0 → owed_at (step s (tick door)).after p ≡ owed_at s p → Turned p s (tick door)
  unfolding fields_of
  tick-silent p silent same =
      keeps (λ y. let e = y.is in let z : ◌≡◌ {A = ℕ} 0 1 = cc in omega arith) (λ y. true≢false (sym y.op)) (λ i. silent) same

  tick-turned : (p : ℕ) → p < 8 → Turned p s (tick door)
  unfolding turn_of tick_turn tick_access Reached
  tick-turned p low = go (tick-came s r door)
    where
      placed : (t : Bool) → ltb door 8 ≡ t → Reached s (tick door) (turn_of s (tick door)).place → Turned p s (tick door)
      placed true e x =
          let y = rw e at x in
          anywhere s r (tick door) _ _ y
          (tick-silent door (acted-line s r (tick door) _ _ y) (acted-owes s r (tick door) _ _ y ∙ (plain-ticked (record_of s door)).owed)) p low
      placed false e x = let y = rw e at x in tick-silent p (rw y) (rw y)

      go : Refused s (tick door) ⊎ Reached s (tick door) (turn_of s (tick door)).place → Turned p s (tick door)
      go (inl f) = refused-kept p s (tick door) f
      go (inr x) = placed (ltb door 8) refl x

query-turned : (s : State) (m : List ℕ) (p : ℕ) → p < 8 → Turned p s (query m)
unfolding fields_of step query_step
query-turned s m p low = keeps (λ y. let e = y.is in let z : ◌≡◌ {A = ℕ} 0 1 = cc in omega arith) (λ y. true≢false (sym y.op)) (λ i. refl) refl

-- ---- any call

turned : (s : State) → Ready s → (c : Call) (p : ℕ) → p < 8 → Turned p s c
turned s r (request m buffer) = request-turned s r m buffer
turned s r (report q kind reason words buffer line) = report-turned s r q kind reason words buffer line
turned s r (store q a v) = store-turned s r q a v
turned s r (text_line text buffer) = text-turned s r text buffer
turned s r (packet door kind id words buffer) = packet-turned s r door kind id words buffer
turned s r (tick door) = tick-turned s r door
turned s r (query m) = query-turned s m

begun : (s : State) → Ready s → (c : Call) (p : ℕ) (o : Owed) → Asks p o s c → Begun p o s c
begun s r (request m buffer) p o y = absurd (let e = y.is in let z : ◌≡◌ {A = ℕ} 0 1 = cc in omega arith)
begun s r (report q kind reason words buffer line) p o y = absurd (let e = y.is in let z : ◌≡◌ {A = ℕ} 0 1 = cc in omega arith)
begun s r (store q a v) p o y = absurd (let e = y.is in let z : ◌≡◌ {A = ℕ} 0 1 = cc in omega arith)
begun s r (text_line text buffer) p o y = line-asked s r text buffer p o y
begun s r (packet door kind id words buffer) p o y = absurd (let e = y.is in let z : ◌≡◌ {A = ℕ} 0 1 = cc in omega arith)
begun s r (tick door) p o y = absurd (let e = y.is in let z : ◌≡◌ {A = ℕ} 0 1 = cc in omega arith)
begun s r (query m) p o y = absurd (let e = y.is in let z : ◌≡◌ {A = ℕ} 0 1 = cc in omega arith)

-- ---- lists

-- an answer to nothing is no line
nothing-sent : (p : ℕ) (s : State) (c : Call) → owed_at s p ≡ Nothing → Answers p (owed_at s p) s c → NoLine p s c
nothing-sent p s c e a i = a.told ∙ ap length (no_line p (kind_of c) (owed_at s p) (ap owes e))

settled : (p : ℕ) → p < 8 → (s : State) → Ready s → owed_at s p ≡ Nothing → (l : List Call) → Settled p s l
settled p low s r e [] = ends e
settled p low s r e (c ∷ l) = go (turned s r c p low) (λ i. settled p low (step s c).after (step-ready s r c) i l)
  where
    go : Turned p s c → (owed_at (step s c).after p ≡ Nothing → Settled p (step s c).after l) → Settled p s (c ∷ l)
    go (answers x a i) then = stays e (nothing-sent p s c e a) (then i)
    go (cancels x n i) then = stays e n (then i)
    go (asks o x n i) then = asks_again e n o x
    go (keeps x y n i) then = stays e n (then (i ∙ e))

fate : (p : ℕ) → p < 8 → (o : Owed) → owes o ≡ true → (s : State) → Ready s → owed_at s p ≡ o → (l : List Call) → Fate p o s l
fate p low o later s r e [] = owed_still e
fate p low o later s r e (c ∷ l) = go (turned s r c p low) (λ i. fate p low o later (step s c).after (step-ready s r c) i l)
  where
    then : owed_at (step s c).after p ≡ Nothing → Settled p (step s c).after l
    then i = settled p low (step s c).after (step-ready s r c) i l

    go : Turned p s c → (owed_at (step s c).after p ≡ o → Fate p o (step s c).after l) → Fate p o s (c ∷ l)
    go (answers x a i) on = answered x (subst (λ (k : Owed). Answers p k s c) e a) (then i)
    go (cancels x n i) on = cancelled x n (then i)
    go (asks k x n i) on = absurd (true≢false (sym later ∙ ap owes (sym e ∙ i)))
    go (keeps x y n i) on = waits x y (λ k z. true≢false (sym later ∙ ap owes (sym e ∙ (begun s r c p k z).before))) n (on (i ∙ e))

-- ---- who sends a line

-- a report about process p sends the line that it owed
abbrev Sender : State → Call → ℕ → Type 0
Sender s c p = (owes (owed_at s p) ≡ true) × (StopsIt p s c × Answers p (owed_at s p) s c)

sends : (s : State) → Ready s → (c : Call) (p : ℕ) → p < 8 → subject (only p) c ≡ true → 0 < (step s c).answer.line_length → Sender s c p
sends s r c p low about sent = go (turned s r c p low)
  where
    owed : Answers p (owed_at s p) s c → (t : Bool) → owes (owed_at s p) ≡ t → t ≡ true
    owed a true e = refl
    owed a false e = absurd (omega (arith, sent, a.told, ap length (no_line p (kind_of c) (owed_at s p) e)))

    go : Turned p s c → Sender s c p
    go (answers x a i) = (owed a (owes (owed_at s p)) refl, (x, a))
    go (cancels x n i) = absurd (omega (arith, sent, n about))
    go (asks o x n i) = absurd (omega (arith, sent, n about))
    go (keeps x y n i) = absurd (omega (arith, sent, n about))

report-only : (s : State) → Ready s → (q kind reason : ℕ) (words buffer line : List ℕ) → 0 < (step s (report q kind reason words buffer line)).answer.line_length
    → (p : ℕ) × Sender s (report q kind reason words buffer line) p
unfolding subject
report-only s r q kind reason words buffer line sent = go (report-came s r q kind reason words buffer line)
  where
    go : Refused s (report q kind reason words buffer line) ⊎ ((bad_report kind reason ≡ false) × Acted s (report q kind reason words buffer line) q (report_access q kind reason words))
        → (p : ℕ) × Sender s (report q kind reason words buffer line) p
    go (inl f) = absurd (omega (arith, sent, f.silent))
    go (inr x) = (q, sends s r (report q kind reason words buffer line) q x.1.there.low (eq-eqb q q refl) sent)

request-sends : (s : State) (m buffer : List ℕ) → (request_step m buffer s).answer.line_length ≡ 0
unfolding request_step granted granted_named granted_create refused
request-sends s m buffer =
    by-test None (eqb (request_number s m buffer) 0)
    (λ e. by-test None (names (header_of m).cmd) (λ i. refl) (λ i. by-test None (creates (header_of m).cmd) (λ k. refl) (λ k. refl))) (λ e. refl)
  where
    None : StepResult → Type 0
    None x = x.answer.line_length ≡ 0

text-sends : (s : State) (text buffer : List ℕ) → (text_step text buffer s).answer.line_length ≡ 0
unfolding text_step
text-sends s text buffer = by-test (λ (x : StepResult). x.answer.line_length ≡ 0) (eqb (text_number s text buffer) 0) (λ e. refl) (λ e. refl)

packet-sends : (s : State) (door kind id : ℕ) (words buffer : List ℕ) → (packet_step door kind id words buffer s).answer.line_length ≡ 0
unfolding packet_step
packet-sends s door kind id words buffer =
    by-test (λ (x : StepResult). x.answer.line_length ≡ 0) (eqb (packet_number s door kind words buffer) 0) (λ e. refl) (λ e. refl)

tick-sends : (s : State) (door : ℕ) → (tick_step door s).answer.line_length ≡ 0
unfolding tick_step
tick-sends s door = refl

query-sends : (s : State) (m : List ℕ) → (query_step m s).answer.line_length ≡ 0
unfolding query_step
query-sends s m = refl

only-owed : (s : State) → Ready s → (c : Call) → 0 < (step s c).answer.line_length → (p : ℕ) × Sender s c p
unfolding step
only-owed s r (request m buffer) sent = absurd (omega (arith, sent, request-sends s m buffer))
only-owed s r (report q kind reason words buffer line) sent = report-only s r q kind reason words buffer line sent
only-owed s r (store q a v) sent = absurd (omega (arith, sent))
only-owed s r (text_line text buffer) sent = absurd (omega (arith, sent, text-sends s text buffer))
only-owed s r (packet door kind id words buffer) sent = absurd (omega (arith, sent, packet-sends s door kind id words buffer))
only-owed s r (tick door) sent = absurd (omega (arith, sent, tick-sends s door))
only-owed s r (query m) sent = absurd (omega (arith, sent, query-sends s m))

-- ---- the theorem

pub owed-answers : OwedAnswers
owed-answers = record {
  asked = λ s r c p o y. let b = begun s r c p o y in (b.silent, λ l. fate p b.low o y.later (step s c).after (step-ready s r c) b.owed l);
  fate = λ s r p low o later e l. fate p low o later s r e l;
  settled = λ s r p low e l. settled p low s r e l;
  only-owed = only-owed;
}
