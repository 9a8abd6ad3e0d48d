-- When a Go that waits lets the process run: what each packet and each tick leaves of the record, and an induction over lists. Assumes nothing.
use mathlib.Core.Path.{◌≡◌, refl, sym, ap, ◌∙◌}
use mathlib.Core.Bool.{Bool, true, false, not, cond, true≢false}
use mathlib.Core.List.{List, [], ◌∷◌}
use mathlib.Core.Logic.{◌⊎◌, inl, inr}
use native.Mathlib.Omega.{arith}
use Prim.Native.Nat.{ℕ, ◌+◌, ◌≤◌, ◌<◌}
use borrow.Author.Tests.{eqb-true, eq-eqb, ne_eqb, lt-ltb, not-false}
use lib.Dec.{eqb, ltb}
use Rattle.ops.specs.Codes.{END-DEBUG, DESTROY}
use Rattle.format.specs.Outcome.{first_failing}
use Rattle.format.proofs.OutcomeLaws.{first_passes, rest-passes}
use Rattle.packets.specs.Types.{STORE, FETCH, GO, GO-REPLY, known_type}
use Rattle.packets.specs.Id.{next_id}
use Rattle.run_state.specs.declared.Run.TheVariants.{Running}
use Rattle.run_state.specs.RunState.{stopped_or_at_break}
use Rattle.session.specs.declared.Go.{Go}
use Rattle.session.specs.Session.{pup_host, no_go, new_go, waits_for, answers_go, is_last_tick}
use Rattle.process.specs.declared.record.Process.{Process}
use Rattle.process.specs.Record.{fresh, with_run, going}
use Rattle.process.specs.Local.{Local, local}
use Rattle.process.specs.Request.{on_record, resumed, end_debugged, cleared, deposited}
use Rattle.process.specs.Packet.{go_of, without_go, go_asked, go_ended, go_replied, ticked, word_stored}
use Rattle.process.proofs.PacketLaws.{ticked-last, ticked-on}
use Rattle.rules.specs.Rule.{public, rule_of, names}
use Rattle.rules.specs.PacketRule.{PacketRule, go_row, go_reply_row, packet_row_of}
use Rattle.rules.specs.Tests.{State, record_of, asked_tests, tick_number}
use Rattle.rules.specs.Step.{local_of, Call, request, report, store, text_line, packet, tick, query, tick_step, step}
use Rattle.rules.specs.Turn.{packet_access, packet_turn, tick_access, tick_turn, turn_of}
use Rattle.rules.specs.Ready.{Ready}
use Rattle.rules.specs.Run.{final}
use Rattle.rules.specs.Isolation.{is_granted}
use Rattle.rules.specs.Owed.{Granted}
use Rattle.rules.specs.Watch.{GrantedRequest}
use Rattle.rules.specs.Waiting.{go_at, waiting_go, Waits, resume_number, go_resumed, is_tick, tick_count, ticks_at, OnlyGos, AllOnlyGos, Timed, Waiting}
use Rattle.rules.proofs.NumberLaws.{by-test}
use Rattle.rules.proofs.StateLaws.{each-sound}
use Rattle.rules.proofs.PacketLaws.{packet-passing}
use Rattle.rules.proofs.PlaceLaws.{Refused, Acted, Reached, came, acted-left, packet-came, packet-left, tick-came, named}
use Rattle.rules.proofs.StepLaws.{step-ready}

-- ---- a granted packet

module _ (s : State) (r : Ready s) (p kind id : ℕ) (words buffer : List ℕ) (granted : Granted s (packet p kind id words buffer)) where
  packet-acted : Acted s (packet p kind id words buffer) p (packet_access kind id words)
  packet-acted = go (packet-came s r p kind id words buffer)
    where
      go : Refused s (packet p kind id words buffer) ⊎ Acted s (packet p kind id words buffer) p (packet_access kind id words)
          → Acted s (packet p kind id words buffer) p (packet_access kind id words)
      go (inl f) = absurd (true≢false (sym granted ∙ f.ungranted))
      go (inr x) = x

  packet-leaves : local_of (step s (packet p kind id words buffer)).after p ≡ (packet_row_of kind).effect id words (local_of s p)
  packet-leaves = packet-left s r p kind id words buffer packet-acted

  packet-record : record_of (step s (packet p kind id words buffer)).after p ≡ ((packet_row_of kind).effect id words (local_of s p)).process
  packet-record = ap (λ (l : Local). l.process) packet-leaves

  packet-known : known_type kind ≡ true
  unfolding turn_of packet_turn
  packet-known = go (came s r (packet p kind id words buffer))
    where
      go : Refused s (packet p kind id words buffer) ⊎ ((first_failing (turn_of s (packet p kind id words buffer)).tests ≡ 0) × Reached s (packet p kind id words buffer) (turn_of s (packet p kind id words buffer)).place)
          → known_type kind ≡ true
      go (inl f) = absurd (true≢false (sym granted ∙ f.ungranted))
      go (inr x) = not-false _ (first_passes 4 _ _ (rest-passes 2 _ _ (rest-passes 1 _ _ (rest-passes 0 _ _ x.0))))

-- ---- RESUME

-- by a host that debugs a process which is there, RESUME asks the run state alone
resume-asks : (s : State) (p : ℕ) → p < 8 → (record_of s p).there ≡ true → (record_of s p).host ≡ pup_host
    → resume_number p s ≡ cond (stopped_or_at_break (record_of s p).run) 0 9
unfolding resume_number asked_tests names rule_of public first_failing
resume-asks s p low there host = rw (lt-ltb p 8 low, there, eq-eqb (record_of s p).host pup_host host) (go (stopped_or_at_break (record_of s p).run))
  where
    go : (t : Bool) → cond (not t) 9 0 ≡ cond {A = ℕ} t 0 9
    go true = refl
    go false = refl

-- a host debugs only a process that is there
hosted-there : (s : State) → Ready s → (p : ℕ) → p < 8 → (record_of s p).host ≡ pup_host → (record_of s p).there ≡ true
hosted-there s r p low host = go (record_of s p).there refl
  where
    go : (t : Bool) → (record_of s p).there ≡ t → t ≡ true
    go true e = refl
    go false e = absurd (omega (arith, host, ((each-sound s r p low).absent e).0))

-- a Go that ends is a RESUME where that would be granted
ends-as-resume : (s : State) → Ready s → (p id n : ℕ) → p < 8 → Waits p id n s → on_record go_ended (local_of s p) ≡ go_resumed p s
unfolding go_resumed go_ended rule_of
ends-as-resume s r p id n low w =
    let host = ((each-sound s r p low).waiting (ap (λ (g : Go). g.waits) w)).0 in
    rw (resume-asks s p low (hosted-there s r p low host) host) (go (stopped_or_at_break (record_of s p).run))
  where
    go : (t : Bool) → on_record (λ (q : Process). cond t (with_run Running (without_go q)) (without_go q)) (local_of s p)
        ≡ on_record (going no_go) (cond (eqb (cond {A = ℕ} t 0 9) 0) (resumed (local_of s p)) (local_of s p))
    go true = refl
    go false = refl

-- ---- a Go

go-row-is : packet_row_of GO ≡ go_row
unfolding packet_row_of
go-row-is = refl

still-then : (s : State) → Ready s → (p id : ℕ) (words buffer : List ℕ) → Granted s (packet p GO id words buffer) → stopped_or_at_break (record_of s p).run ≡ true
still-then s r p id words buffer granted =
    rw go-row-is at (packet-passing GO id words (local_of s p) (packet-acted s r p GO id words buffer granted).passes).runs

where-resume : (s : State) → Ready s → (p id : ℕ) (words buffer : List ℕ) → Granted s (packet p GO id words buffer) → resume_number p s ≡ 0
unfolding public
where-resume s r p id words buffer granted =
    let x = packet-acted s r p GO id words buffer granted in
    let passing = packet-passing GO id words (local_of s p) x.passes in
    let right : eqb (record_of s p).host pup_host ≡ true = rw go-row-is at passing.right in
    resume-asks s p x.there.low passing.there (eqb-true _ pup_host right)
    ∙ ap (λ (t : Bool). cond {A = ℕ} t 0 9) (still-then s r p id words buffer granted)

go-asks : (s : State) → Ready s → (p id : ℕ) (words buffer : List ℕ) → Acted s (packet p GO id words buffer) p (packet_access GO id words)
    → local_of (step s (packet p GO id words buffer)).after p ≡ on_record (go_asked id) (local_of s p)
go-asks s r p id words buffer x = packet-left s r p GO id words buffer x ∙ ap (λ (row : PacketRule). row.effect id words (local_of s p)) go-row-is

asked : (s : State) → Ready s → (p id : ℕ) (words buffer : List ℕ) → Granted s (packet p GO id words buffer) → waits_for id (go_at s p) ≡ false
    → local_of (step s (packet p GO id words buffer)).after p ≡ on_record (going (new_go id)) (local_of s p)
unfolding go_asked
asked s r p id words buffer granted e =
    go-asks s r p id words buffer (packet-acted s r p GO id words buffer granted)
    ∙ ap (λ (t : Bool). on_record (λ (q : Process). cond t q (going (new_go id) q)) (local_of s p)) e

again : (s : State) → Ready s → (p id : ℕ) → p < 8 → (words buffer : List ℕ) → waits_for id (go_at s p) ≡ true
    → local_of (step s (packet p GO id words buffer)).after p ≡ local_of s p
unfolding go_asked
again s r p id low words buffer e = go (packet-came s r p GO id words buffer)
  where
    go : Refused s (packet p GO id words buffer) ⊎ Acted s (packet p GO id words buffer) p (packet_access GO id words)
        → local_of (step s (packet p GO id words buffer)).after p ≡ local_of s p
    go (inl f) = ap (λ (t : State). local_of t p) f.same
    go (inr x) = go-asks s r p id words buffer x ∙ ap (λ (t : Bool). on_record (λ (q : Process). cond t q (going (new_go id) q)) (local_of s p)) e

-- ---- a tick

tick-granted : (s : State) → Ready s → (p : ℕ) → is_granted (step s (tick p)).answer.outcome ≡ true
unfolding step tick_step tick_number first_failing is_granted
tick-granted s r p = rw r.sound

tick-leaves : (s : State) → Ready s → (p : ℕ) → p < 8 → local_of (step s (tick p)).after p ≡ on_record ticked (local_of s p)
unfolding turn_of tick_turn tick_access Reached
tick-leaves s r p low = go (tick-came s r p)
  where
    placed : (t : Bool) → ltb p 8 ≡ t → Reached s (tick p) (turn_of s (tick p)).place → local_of (step s (tick p)).after p ≡ on_record ticked (local_of s p)
    placed true e x = let y = rw e at x in acted-left s r (tick p) _ _ y
    placed false e x = absurd (true≢false (sym (lt-ltb p 8 low) ∙ e))

    go : Refused s (tick p) ⊎ Reached s (tick p) (turn_of s (tick p)).place → local_of (step s (tick p)).after p ≡ on_record ticked (local_of s p)
    go (inl f) = absurd (true≢false (sym (tick-granted s r p) ∙ f.ungranted))
    go (inr x) = placed (ltb p 8) refl x

tick-record : (s : State) → Ready s → (p : ℕ) → p < 8 → record_of (step s (tick p)).after p ≡ ticked (record_of s p)
tick-record s r p low = ap (λ (l : Local). l.process) (tick-leaves s r p low)

-- one before the hundredth counts
tick-counts : (s : State) → Ready s → (p id n : ℕ) → p < 8 → Waits p id n s → n + 1 ≤ 99
    → record_of (step s (tick p)).after p ≡ going (waiting_go id (n + 1)) (record_of s p)
unfolding is_last_tick
tick-counts s r p id n low w few =
    tick-record s r p low
    ∙ ticked-on (record_of s p) (ap (λ (g : Go). g.waits) w) (ap (λ (g : Go). eqb g.ticks 99) w ∙ ne_eqb n 99 (λ z. omega (arith, z, few)))
    ∙ ap (λ (g : Go). going (record { waits = g.waits; ticks = g.ticks + 1; id = g.id }) (record_of s p)) w

last-ends : (s : State) → Ready s → (p id : ℕ) → p < 8 → Waits p id 99 s → local_of (step s (tick p)).after p ≡ on_record go_ended (local_of s p)
unfolding is_last_tick
last-ends s r p id low w =
    tick-leaves s r p low
    ∙ ap (λ (q : Process). local q (local_of s p).bytes) (ticked-last (record_of s p) (ap (λ (g : Go). g.waits) w) (ap (λ (g : Go). eqb g.ticks 99) w))

-- ---- lists

-- a Go of the ID that waits
waits-for : (p id n : ℕ) (s : State) → Waits p id n s → waits_for id (go_at s p) ≡ true
unfolding waits_for
waits-for p id n s w = ap (waits_for id) w ∙ eq-eqb id id refl

-- the record with the Go that it has
same-going : (p id n k : ℕ) (s : State) → Waits p id n s → n ≡ k → record_of s p ≡ going (waiting_go id k) (record_of s p)
same-going p id n k s w e = ap (λ (g : Go). going g (record_of s p)) (w ∙ ap (waiting_go id) e)

is-tick : (p : ℕ) (c : Call) → is_tick p c ≡ true → c ≡ tick p
unfolding is_tick
is-tick p (request m buffer) e = absurd (true≢false (sym e))
is-tick p (report q kind reason words buffer line) e = absurd (true≢false (sym e))
is-tick p (store q a v) e = absurd (true≢false (sym e))
is-tick p (text_line text buffer) e = absurd (true≢false (sym e))
is-tick p (packet door kind id words buffer) e = absurd (true≢false (sym e))
is-tick p (tick door) e = ap tick (eqb-true door p e)
is-tick p (query m) e = absurd (true≢false (sym e))

one-call : (s : State) → Ready s → (p id n : ℕ) → p < 8 → Waits p id n s → (c : Call) → OnlyGos p id s c → n + tick_count p c ≤ 99
    → record_of (step s c).after p ≡ going (waiting_go id (n + tick_count p c)) (record_of s p)
one-call s r p id n low w c only few = go (is_tick p c) refl
  where
    same : is_tick p c ≡ false → record_of (step s c).after p ≡ record_of s p → record_of (step s c).after p ≡ going (waiting_go id (n + tick_count p c)) (record_of s p)
    same e i = i ∙ rw e (same-going p id n (n + 0) s w (omega arith))

    others : is_tick p c ≡ false → OnlyGos p id s c → record_of (step s c).after p ≡ record_of s p
    others e (inl i) = absurd (true≢false (sym i ∙ e))
    others e (inr (inl g)) = rw g.2 (ap (λ (l : Local). l.process) (again s r p id low g.0 g.1 (waits-for p id n s w)))
    others e (inr (inr i)) = i

    go : (t : Bool) → is_tick p c ≡ t → record_of (step s c).after p ≡ going (waiting_go id (n + tick_count p c)) (record_of s p)
    go true e = rw (e, is-tick p c e) (tick-counts s r p id n low w (rw e at few))
    go false e = same e (others e only)

no-sooner : (p id : ℕ) → p < 8 → (l : List Call) (s : State) → Ready s → (n : ℕ) → Waits p id n s → AllOnlyGos p id s l → n + ticks_at p l ≤ 99
    → record_of (final s l) p ≡ going (waiting_go id (n + ticks_at p l)) (record_of s p)
unfolding final ticks_at AllOnlyGos
no-sooner p id low [] s r n w only few = same-going p id n (n + 0) s w (omega arith)
no-sooner p id low (c ∷ l) s r n w only few =
    let here = one-call s r p id n low w c only.0 (omega (arith, few)) in
    let rest = no-sooner p id low l (step s c).after (step-ready s r c) (n + tick_count p c) (ap go_of here) only.1 (omega (arith, few)) in
    rest ∙ ap (λ (q : Process). going (waiting_go id (n + tick_count p c + ticks_at p l)) q) here
    ∙ ap (λ (k : ℕ). going (waiting_go id k) (record_of s p)) (omega arith)

final-ready : (l : List Call) (s : State) → Ready s → Ready (final s l)
unfolding final
final-ready [] s r = r
final-ready (c ∷ l) s r = final-ready l (step s c).after (step-ready s r c)

-- ---- how a Go ends

runs_then : (q : Process) → stopped_or_at_break q.run ≡ true → (go_ended q).run ≡ Running
unfolding go_ended
runs_then q e = rw e

ended-go : (q : Process) → go_of (go_ended q) ≡ no_go
unfolding go_ended
ended-go q = by-test (λ (k : Process). go_of k ≡ no_go) (stopped_or_at_break q.run) (λ e. refl) (λ e. refl)

timed : (s : State) → Ready s → (p id : ℕ) → p < 8 → (words buffer : List ℕ) → Granted s (packet p GO id words buffer) → waits_for id (go_at s p) ≡ false
    → (l : List Call) → AllOnlyGos p id (step s (packet p GO id words buffer)).after l → Timed p id s (packet p GO id words buffer) l
timed s r p id low words buffer granted e l only = record {
  no-sooner = λ few. let k = counted few in (ap (λ (q : Process). q.run) k, ap go_of k);
  hundredth = λ all.
      let k = counted (omega (arith, all)) in
      let still : stopped_or_at_break (record_of last p).run ≡ true = ap (λ (q : Process). stopped_or_at_break q.run) k ∙ still-then s r p id words buffer granted in
      let ends = ap (λ (x : Local). x.process) (last-ends last (final-ready l t (step-ready s r c)) p id low (ap go_of k ∙ ap (waiting_go id) all)) in
      (ap (λ (q : Process). q.run) ends ∙ runs_then (record_of last p) still, ap go_of ends ∙ ended-go (record_of last p));
}
  where
    c : Call
    c = packet p GO id words buffer

    t : State
    t = (step s c).after

    last : State
    last = final t l

    first : record_of t p ≡ going (new_go id) (record_of s p)
    first = ap (λ (x : Local). x.process) (asked s r p id words buffer granted e)

    counted : ticks_at p l ≤ 99 → record_of last p ≡ going (waiting_go id (ticks_at p l)) (record_of s p)
    counted few =
        no-sooner p id low l t (step-ready s r c) 0 (ap go_of first) only (omega (arith, few))
        ∙ ap (λ (q : Process). going (waiting_go id (0 + ticks_at p l)) q) first
        ∙ ap (λ (k : ℕ). going (waiting_go id k) (record_of s p)) (omega arith)

-- ---- by a packet

reply-row-is : packet_row_of GO-REPLY ≡ go_reply_row
unfolding packet_row_of
reply-row-is = refl

answered : (s : State) → Ready s → (p id n : ℕ) (words buffer : List ℕ) → Waits p id n s → Granted s (packet p GO-REPLY (next_id id) words buffer)
    → local_of (step s (packet p GO-REPLY (next_id id) words buffer)).after p ≡ go_resumed p s
unfolding go_replied answers_go
answered s r p id n words buffer w granted =
    packet-leaves s r p GO-REPLY (next_id id) words buffer granted
    ∙ ap (λ (row : PacketRule). row.effect (next_id id) words (local_of s p)) reply-row-is
    ∙ ap (λ (t : Bool). on_record (λ (q : Process). cond t (go_ended q) (without_go q)) (local_of s p)) (ap (answers_go (next_id id)) w ∙ eq-eqb (next_id id) (next_id id) refl)
    ∙ ends-as-resume s r p id n (packet-acted s r p GO-REPLY (next_id id) words buffer granted).there.low w

-- what a packet that does not answer the Go leaves
record Abandons (kind id other : ℕ) (q : Process) (row : PacketRule) : Type 0 where
  go : (words : List ℕ) (l : Local) → l.process ≡ q → go_of (row.effect other words l).process ≡ cond (eqb kind GO) (new_go other) no_go
  run : (words : List ℕ) (l : Local) → l.process ≡ q → (row.effect other words l).process.run ≡ q.run

waiting-other : (other id n : ℕ) (q : Process) → go_of q ≡ waiting_go id n → (other ≡ id → ⊥) → waits_for other (go_of q) ≡ false
unfolding waits_for
waiting-other other id n q w e = ap (waits_for other) w ∙ ne_eqb id other (λ z. e (sym z))

answers-other : (other id n : ℕ) (q : Process) → go_of q ≡ waiting_go id n → (other ≡ next_id id → ⊥) → answers_go other (go_of q) ≡ false
unfolding answers_go
answers-other other id n q w e = ap (answers_go other) w ∙ ne_eqb (next_id id) other (λ z. e (sym z))

abandons-row : (kind id n other : ℕ) (q : Process) → go_of q ≡ waiting_go id n → known_type kind ≡ true
    → (kind ≡ GO → other ≡ id → ⊥) → (kind ≡ GO-REPLY → other ≡ next_id id → ⊥) → Abandons kind id other q (packet_row_of kind)
unfolding packet_row_of word_stored deposited go_asked go_replied known_type
abandons-row kind id n other q w known no-go no-reply =
    by-test (Abandons kind id other q) (eqb kind STORE)
    (λ e. let k = eqb-true kind STORE e in record { go = λ words l i. rw k; run = λ words l i. rw i })
    (λ e. by-test (Abandons kind id other q) (eqb kind FETCH)
    (λ i. let k = eqb-true kind FETCH i in record { go = λ words l j. rw k; run = λ words l j. rw j })
    (λ i. by-test (Abandons kind id other q) (eqb kind GO)
    (λ j. let different = waiting-other other id n q w (no-go (eqb-true kind GO j)) in
    record { go = λ words l k. rw (k, j, different); run = λ words l k. rw (k, different) })
    (λ j. let reply : eqb kind GO-REPLY ≡ true = rw (e, i, j) at known in
    let different = answers-other other id n q w (no-reply (eqb-true kind GO-REPLY reply)) in
    record { go = λ words l k. rw (k, j, different); run = λ words l k. rw (k, different) })))

-- ---- the theorem

ended : (s : State) → Ready s → (c : Call) (p : ℕ) → p < 8 → GrantedRequest END-DEBUG p s c ⊎ GrantedRequest DESTROY p s c → go_at (step s c).after p ≡ no_go
unfolding names rule_of end_debugged cleared fresh
ended s r c p low (inl g) = ap (λ (l : Local). go_of l.process) (named s r c END-DEBUG p refl g.op g.named g.granted).left
ended s r c p low (inr g) = ap (λ (l : Local). go_of l.process) (named s r c DESTROY p refl g.op g.named g.granted).left

pub waiting : Waiting
unfolding public
waiting = record {
  where-resume = where-resume;
  asked = asked;
  again = again;
  timed = timed;
  last-tick = λ s r p id low w. last-ends s r p id low w ∙ ends-as-resume s r p id 99 low w;
  answered = answered;
  abandoned = λ s r p id n kind other words buffer w granted no-go no-reply.
      let row = abandons-row kind id n other (record_of s p) w (packet-known s r p kind other words buffer granted) no-go no-reply in
      let is = packet-record s r p kind other words buffer granted in
      (ap go_of is ∙ row.go words (local_of s p) refl, ap (λ (q : Process). q.run) is ∙ row.run words (local_of s p) refl);
  ended = ended;
  only-while = λ s r p low w. (each-sound s r p low).waiting w;
}
