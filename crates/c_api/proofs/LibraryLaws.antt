-- Calls of the library are calls of the gateway, and so a run of the rules. Assumes nothing.
use Rattle.std.proofs.Common.{Ok, Err}
use mathlib.Core.Path.{◌≡◌, refl, sym, ap, ap₂, ◌∙◌}
use mathlib.Core.Bool.{true, true≢false}
use mathlib.Core.List.{List, [], ◌∷◌, ◌++◌, map}
use Prim.Native.Nat.{ℕ, zero, suc, ◌%◌}
use native.Mathlib.Omega.{arith}
use borrow.Author.Tests.{eq-eqb, eqb-true, ltb-true, not-false}
use lib.IntN.{ℤ, pos, negsuc, +ℤ_idl}
use lib.ListN.{length, take}
use lib.Dec.{eqb}
use Rattle.lists.specs.Word.{vector_of}
use Rattle.format.specs.Outcome.{Outcome}
use Rattle.format.specs.Outcome.{refusal_by, outcome, number_of, length_of}
use Rattle.format.specs.Layout.{header_of}
use Rattle.format.proofs.OutcomeLaws.{number_of-outcome, first_passes, rest-passes}
use Rattle.state.specs.Layout.{capacity}
use Rattle.rules.specs.Rule.{names, creates}
use Rattle.rules.specs.Tests.{State, request_number, text_number, packet_number}
use Rattle.rules.specs.Step.{Answer, StepResult, plain_answer, Call, request, report, store, text_line, packet, tick, query, step, request_step, granted, granted_named, granted_create, refused, text_step, packet_step, tick_step}
use Rattle.rules.specs.Ready.{Typed}
use Rattle.rules.specs.Run.{TraceItem, trace_item, run}
use Rattle.rules.specs.Isolation.{is_granted}
use Rattle.rules.proofs.NumberLaws.{by-test}
use Rattle.rules.proofs.TotalLaws.{total}
use Rattle.state_bytes.specs.Widths.{process_count, state_width}
use Rattle.reasons.specs.declared.Reason.{Reason}
use Rattle.reasons.specs.declared.Reason.TheVariants.{Granted as ReasonGranted, Length, Debugger, RunState, Past, Full, Watcher, Setter, Other}
use Rattle.reasons.specs.Reason.{reason_number, facts_of, fact_count, two_facts}
use Rattle.gateway.specs.Called.{Called, called, call_on, machine_stored, why_on, why_called, Did}
use Rattle.gateway.specs.Sequence.{Begins, read_from}
use Rattle.gateway.proofs.SequenceLaws.{Follows, did-follows, did-begins, fresh-begins}
use Rattle.gateway.proofs.DemandLaws.{lists-on-bytes}
use Rattle.gateway.proofs.WhyLaws.{facts-on}
use Rattle.c_api.specs.Called.{signed, both_lengths, Returns, Reports, byte_of, kind_of, report_on, type_of, packet_on, why_with, bits_of, start_number, start_with}
use Rattle.c_api.specs.Library.{LibraryCall, requested, reported, stored, line_sent, packet_sent, ticked, queried, Returned, DidReturn, DoneByLibrary, call_of, Whole, AllWhole, outcome_of, notice_told, line_told, plain_told, query_told, answer_told, returned_item, returned_items, MadeByLibrary, LibraryDemands}
use Rattle.c_api.proofs.ShortLaws.{Small, report-small, nine_words}
use Rattle.c_api.proofs.StartLaws.{start-same}

-- ---- the number that is returned tells the outcome

-- where a number of 0 says that the call was granted
told : (o : Outcome) → (number_of o ≡ 0 → is_granted o ≡ true) → outcome_of (signed o) ≡ o
unfolding signed outcome_of number_of length_of is_granted
told (Ok n) g = refl
told (Err r) g = go r.0 refl
  where
    go : (n : ℕ) → r.0 ≡ n → outcome_of (signed (Err r)) ≡ Err r
    go zero e = absurd (true≢false (sym (g e)))
    go (suc n) e = rw e (ap outcome_of (+ℤ_idl (negsuc n))) ∙ ap (λ (k : ℕ). Err (refusal_by k)) (sym e)

-- both lengths of a report come back from the one number
both_told : (o : Outcome) (n : ℕ) → Small o n → (number_of o ≡ 0 → is_granted o ≡ true)
    → (notice_told (signed (both_lengths o n)) ≡ o) × (line_told (signed (both_lengths o n)) ≡ n)
unfolding signed both_lengths notice_told line_told number_of length_of is_granted
both_told (Ok k) n f g =
    let own = f.own in
    (ap Ok (omega arith), omega arith)
both_told (Err r) n f g = go r.0 refl
  where
    go : (k : ℕ) → r.0 ≡ k → (notice_told (signed (both_lengths (Err r) n)) ≡ Err r) × (line_told (signed (both_lengths (Err r) n)) ≡ n)
    go zero e = absurd (true≢false (sym (g e)))
    go (suc k) e =
        (rw e (ap notice_told (+ℤ_idl (negsuc k))) ∙ ap (λ (j : ℕ). Err (refusal_by j)) (sym e), rw e (ap line_told (+ℤ_idl (negsuc k))) ∙ sym (f.silent refl))

-- ---- calls with no line buffer

Lineless : StepResult → Type 0
Lineless x = (x.answer.line_length ≡ 0) × (x.answer.line ≡ [])

request-lineless : (s : State) (m buffer : List ℕ) → Lineless (step s (request m buffer))
unfolding Lineless step request_step granted granted_named granted_create refused
request-lineless s m buffer =
    by-test Lineless (eqb (request_number s m buffer) 0)
    (λ e. by-test Lineless (names (header_of m).cmd) (λ n. (refl, refl))
    (λ n. by-test Lineless (creates (header_of m).cmd) (λ c. (refl, refl)) (λ c. (refl, refl))))
    (λ e. (refl, refl))

line-lineless : (s : State) (text buffer : List ℕ) → Lineless (step s (text_line text buffer))
unfolding Lineless step text_step
line-lineless s text buffer = by-test Lineless (eqb (text_number s text buffer) 0) (λ e. (refl, refl)) (λ e. (refl, refl))

packet-lineless : (s : State) (door kind id : ℕ) (words buffer : List ℕ) → Lineless (step s (packet door kind id words buffer))
unfolding Lineless step packet_step
packet-lineless s door kind id words buffer = by-test Lineless (eqb (packet_number s door kind words buffer) 0) (λ e. (refl, refl)) (λ e. (refl, refl))

tick-lineless : (s : State) (door : ℕ) → Lineless (step s (tick door))
unfolding Lineless step tick_step
tick-lineless s door = (refl, refl)

store-lineless : (s : State) (p a v : ℕ) → Lineless (step s (store p a v))
unfolding Lineless step
store-lineless s p a v = (refl, refl)

-- ---- one call

-- the call of the gateway that it is, and the answer that it told where the call follows the rules
record IsCall (state memory : List ℕ) (c : LibraryCall) (y : Returned) : Type 0 where
  call : Called
  did : Did state memory (call_of c) call
  answered : Follows state memory (call_of c) call → answer_told c y ≡ (step (read_from state memory) (call_of c)).answer
  state-is : y.state ≡ call.state
  memory-is : y.memory ≡ call.memory

typed : (c : LibraryCall) → Typed (call_of c)
unfolding Typed call_of
typed (requested m reply) = tt
typed (reported p kind reason words notice line) = nine_words words
typed (stored p a v) = tt
typed (line_sent text line) = tt
typed (packet_sent door kind id words ack) = tt
typed (ticked door) = tt
typed (queried m facts) = tt

module _ (state memory : List ℕ) (c : Call) (y : Returned) (x : Called) (f : Follows state memory c x) where
  abbrev a : Answer
  a = (step (read_from state memory) c).answer

  -- what follows the rules is granted where its number is 0
  grants : number_of x.outcome ≡ 0 → is_granted x.outcome ≡ true
  grants =
      let same : x.outcome ≡ a.outcome = ap (λ (b : Answer). b.outcome) f.answer in
      rw same (total.granted (read_from state memory) c)

  plain-told : Lineless (step (read_from state memory) c) → Returns x y.result y.state y.memory y.buffer → plain_told y ≡ a
  unfolding Lineless
  plain-told none r =
      let outcome-is = ap outcome_of r.result-is ∙ told x.outcome grants ∙ ap (λ (b : Answer). b.outcome) f.answer in
      let buffer-is = r.buffer-is ∙ ap (λ (b : Answer). b.buffer) f.answer in
      ap₂ plain_answer outcome-is buffer-is
      ∙ ap₂ (λ (n : ℕ) (line : List ℕ). record { outcome = a.outcome; buffer = a.buffer; line_length = n; line = line }) (sym none.0) (sym none.1)

  both-are : Small x.outcome x.line_length → Reports x y.result y.state y.memory y.buffer y.line
      → record { outcome = notice_told y.result; buffer = y.buffer; line_length = line_told y.result; line = y.line } ≡ a
  both-are small r =
      let back = both_told x.outcome x.line_length small grants in
      rw (r.result-is, back.0, back.1, r.notice-is, r.line-is) f.answer

-- the facts are the first of the two numbers
front_of : (r : Reason) → length (facts_of r) ≡ fact_count (reason_number r) → take (fact_count (reason_number r)) (two_facts r) ≡ facts_of r
unfolding two_facts facts_of fact_count
front_of ReasonGranted e = refl
front_of (Length n) e = refl
front_of (Debugger host) e = refl
front_of (RunState run) e = refl
front_of (Past limit excess) e = refl
front_of (Full entries) e = refl
front_of (Watcher host) e = refl
front_of (Setter host) e = refl
front_of (Other n) e = rw (← e)

-- and zeros are all that follows them
behind-of : (r : Reason) → two_facts r ≡ take 2 (facts_of r ++ (0 ∷ 0 ∷ []))
unfolding two_facts facts_of
behind-of ReasonGranted = refl
behind-of (Length n) = refl
behind-of (Debugger host) = refl
behind-of (RunState run) = refl
behind-of (Past limit excess) = refl
behind-of (Full entries) = refl
behind-of (Watcher host) = refl
behind-of (Setter host) = refl
behind-of (Other n) = refl

-- the number and the two numbers tell what a query answers
query-told : (state memory m : List ℕ) (y : Returned) → Follows state memory (query m) (why_called (why_on state m) state memory)
    → y.result ≡ signed (outcome (reason_number (why_on state m)) 0) → y.buffer ≡ two_facts (why_on state m) → query_told y ≡ (step (read_from state memory) (query m)).answer
query-told state memory m y f r b =
    let n = reason_number (why_on state m) in
    let back = ap outcome_of r ∙ told (outcome n 0) (grants state memory (query m) y _ f) in
    rw (back, b, number_of-outcome n 0, front_of (why_on state m) (facts-on state m)) f.answer

is_call : (state memory : List ℕ) (c : LibraryCall) → Whole c → (y : Returned) → DidReturn state memory c y → IsCall state memory c y
unfolding DidReturn Did call_of Whole report_on packet_on why_with answer_told
is_call state memory (requested m reply) w y d = record {
  call = call_on state memory (request m reply);
  did = refl;
  answered = λ f. plain-told state memory (request m reply) y _ f (request-lineless (read_from state memory) m reply) d;
  state-is = d.state-is;
  memory-is = d.memory-is;
}
is_call state memory (reported p kind reason words notice line) w y d =
    let c = report p (kind_of kind reason) reason (vector_of words) notice line in
    let r : Reports (call_on state memory c) y.result y.state y.memory y.buffer y.line = rw (eq-eqb (length words) 18 w) at d in
    record {
      call = call_on state memory c;
      did = refl;
      answered = λ f. both-are state memory c y _ f (report-small state memory p (kind_of kind reason) reason (vector_of words) notice line (nine_words words)) r;
      state-is = r.state-is;
      memory-is = r.memory-is;
    }
is_call state memory (stored p a v) w y d = record {
  call = machine_stored p a v state memory;
  did = (d.0, refl);
  answered = λ f. plain-told state memory (store p a v) y _ f (store-lineless (read_from state memory) p a v) d.1;
  state-is = d.1.state-is;
  memory-is = d.1.memory-is;
}
is_call state memory (line_sent text line) w y d = record {
  call = call_on state memory (text_line text line);
  did = refl;
  answered = λ f. plain-told state memory (text_line text line) y _ f (line-lineless (read_from state memory) text line) d;
  state-is = d.state-is;
  memory-is = d.memory-is;
}
is_call state memory (packet_sent door kind id words ack) w y d =
    let c = packet door (type_of kind id) (id % 4294967296) words ack in
    let r : Returns (call_on state memory c) y.result y.state y.memory y.buffer = rw (← d.0) at d.1 in
    record {
      call = call_on state memory c;
      did = (d.0, refl);
      answered = λ f. plain-told state memory c y _ f (packet-lineless (read_from state memory) door (type_of kind id) (id % 4294967296) words ack) r;
      state-is = r.state-is;
      memory-is = r.memory-is;
    }
is_call state memory (ticked door) w y d = record {
  call = call_on state memory (tick door);
  did = (d.0, refl);
  answered = λ f. plain-told state memory (tick door) y _ f (tick-lineless (read_from state memory) door) d.1;
  state-is = d.1.state-is;
  memory-is = d.1.memory-is;
}
is_call state memory (queried m facts) w y d =
    let x = why_called (why_on state m) state memory in
    let r : Returns (called x.outcome state memory (two_facts (why_on state m))) y.result y.state y.memory y.buffer = rw (eq-eqb (length facts) 2 w) at d in
    record {
      call = x;
      did = refl;
      answered = λ f. query-told state memory m y f r.result-is r.buffer-is;
      state-is = r.state-is;
      memory-is = r.memory-is;
    }

module _ (state memory : List ℕ) (b : Begins state memory) (c : LibraryCall) (y : Returned) (i : IsCall state memory c y) where
  follows : Follows state memory (call_of c) i.call
  follows = did-follows state memory b (call_of c) (typed c) i.call i.did

  item-run : returned_item c y ≡ trace_item (read_from state memory) (call_of c)
  item-run =
      ap₂ (λ (answer : Answer) (t : State). record { call = call_of c; answer = answer; after = t }) (i.answered follows)
      (ap₂ read_from i.state-is i.memory-is ∙ follows.after)

  after-begins : Begins y.state y.memory
  after-begins = rw (i.state-is, i.memory-is) (did-begins state memory b (call_of c) (typed c) i.call i.did)

-- ---- whole lists

done-run : (state memory : List ℕ) → Begins state memory → (l : List LibraryCall) → AllWhole l → (ys : List Returned) → DoneByLibrary state memory l ys
    → returned_items l ys ≡ run (read_from state memory) (map call_of l)
unfolding DoneByLibrary AllWhole returned_items run
done-run state memory b [] w [] d = refl
done-run state memory b [] w (y ∷ ys) d = absurd d
done-run state memory b (c ∷ cs) w [] d = absurd d
done-run state memory b (c ∷ cs) w (y ∷ ys) d =
    let i = is_call state memory c w.0 y d.0 in
    let here = item-run state memory b c y i in
    let rest = done-run y.state y.memory (after-begins state memory b c y i) cs w.1 ys d.1 in
    ap₂ (λ (e : TraceItem) (es : List TraceItem). e ∷ es) here (rest ∙ ap (λ (e : TraceItem). run e.after (map call_of cs)) here)

made-runs : (state memory : List ℕ) → Begins state memory → (l : List Call) (es : List TraceItem) → MadeByLibrary state memory l es → es ≡ run (read_from state memory) l
made-runs state memory b l es m = rw m.are (m.trace ∙ done-run state memory b m.calls m.whole m.returned m.done)

eight-bits : (there : ℕ) → length (bits_of there) ≡ 8
unfolding bits_of
eight-bits there = refl

-- 0 is returned where no test fails
none-fails : (n : ℕ) → pos 0 ≡ signed (outcome n 0) → n ≡ 0
unfolding outcome_of number_of
none-fails zero e = refl
none-fails (suc n) e =
    sym (ap (λ (z : ℤ). number_of (outcome_of z)) e ∙ ap number_of (told (Err (refusal_by (suc n))) (λ z. absurd (omega (arith, z)))))

started-begins : (there door : ℕ) (sizes before memory : List ℕ) → start_number there sizes before ≡ 0 → length memory ≡ capacity
    → Begins (start_with there sizes door before).state memory
unfolding start_number
started-begins there door sizes before memory e size =
    let eight = eqb-true (length sizes) process_count (not-false _ (first_passes 0 _ _ e)) in
    let state = rest-passes 0 _ _ e in
    let wide = eqb-true (length before) state_width (not-false _ (first_passes 0 _ _ state)) in
    let right = not-false _ (first_passes 1 _ _ (rest-passes 0 _ _ state)) in
    let low = ltb-true there 256 (not-false _ (first_passes 6 _ _ (rest-passes 1 _ _ (rest-passes 0 _ _ state)))) in
    rw (start-same there sizes door before low eight) (fresh-begins (bits_of there) sizes (eight-bits there) right (byte_of door) before memory wide size)

started-zero : (there door : ℕ) (sizes before : List ℕ) (r : ℤ) → r ≡ signed (start_with there sizes door before).outcome → r ≡ pos 0 → start_number there sizes before ≡ 0
unfolding start_with
started-zero there door sizes before r e z = none-fails (start_number there sizes before) (sym z ∙ e)

-- the number that a query returns is that of its reason
query-number : (n : ℕ) → number_of (outcome_of (signed (outcome n 0))) ≡ n
unfolding outcome_of signed is_granted number_of length_of
query-number zero = refl
query-number (suc n) = ap (λ (z : ℤ). number_of (outcome_of z)) (+ℤ_idl (negsuc n))

only-facts : (state memory m facts : List ℕ) (y : Returned) → length facts ≡ 2 → DidReturn state memory (queried m facts) y
    → y.buffer ≡ take 2 ((query_told y).buffer ++ (0 ∷ 0 ∷ []))
unfolding DidReturn why_with
only-facts state memory m facts y w d =
    let r = rw (eq-eqb (length facts) 2 w) at d in
    let why = why_on state m in
    rw (r.buffer-is, r.result-is, query-number (reason_number why), front_of why (facts-on state m)) (behind-of why)

pub library-demands : LibraryDemands
library-demands = record {
  fresh = λ there door sizes before state memory r s z size.
      rw s.state-is (started-begins there door sizes before memory (started-zero there door sizes before r s.result-is z) size);
  lists = lists-on-bytes MadeByLibrary made-runs;
  only-facts = only-facts;
}
