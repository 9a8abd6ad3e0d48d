-- A call is refused, or goes to its place; and how it gets at one process: with what it passed, and what it leaves there. Assumes nothing.
use mathlib.Core.Path.{◌≡◌, refl, sym, ap, ◌∙◌, subst}
use mathlib.Core.Bool.{Bool, true, false, true≢false}
use mathlib.Core.List.{List}
use mathlib.Core.Logic.{◌⊎◌, inl, inr}
use Prim.Native.Nat.{ℕ, ◌<◌}
use borrow.Author.Tests.{eqb-true, eqb-false, not-false}
use lib.ListN.{length, set}
use lib.Dec.{eqb, ltb}
use Rattle.ops.specs.Table.{ops}
use Rattle.format.specs.declared.header.Header.{Header}
use Rattle.format.specs.Outcome.{first_failing}
use Rattle.format.specs.Layout.{header_of, string_of}
use Rattle.format.proofs.OutcomeLaws.{first_passes, rest-passes, is_granted-outcome}
use Rattle.fields.specs.declared.read.Line.{Line}
use Rattle.fields.specs.Read.{line_of}
use Rattle.run_state.specs.RunState.{accepts}
use Rattle.session.specs.Session.{text_host, pup_host}
use Rattle.process.specs.Local.{Local, local}
use Rattle.process.specs.Request.{on_record}
use Rattle.process.specs.Report.{reported}
use Rattle.process.specs.Packet.{ticked}
use Rattle.rules.specs.Rule.{rule_of, names, creates}
use Rattle.rules.specs.TextRule.{text_rule_of}
use Rattle.rules.specs.PacketRule.{packet_row_of}
use Rattle.rules.specs.Tests.{State, record_of, bad_report}
use Rattle.rules.specs.Access.{nobody, by, Access, Place, nowhere, at_process, number_at, grants, refuses, reached, taken}
use Rattle.rules.specs.Step.{StepResult, local_of, put, Call, request, report, store, text_line, packet, tick, query, query_step, step}
use Rattle.rules.specs.Turn.{rule_access, message_tests, place_tests, request_place, request_turn, report_access, report_turn, store_access, store_turn, text_access, text_turn, packet_access, packet_turn, tick_access, tick_turn, turn_of, buffers_of}
use Rattle.rules.specs.Ready.{Ready}
use Rattle.rules.specs.Isolation.{asker, fields_of, is_granted}
use Rattle.rules.specs.Loops.{words_of}
use Rattle.rules.specs.Owed.{kind_of, reason_of, Granted}
use Rattle.rules.proofs.NumberLaws.{or_else-zero, first-append, Sent, layout-sent}
use Rattle.rules.proofs.AccessLaws.{outer_number}
use Rattle.rules.proofs.CallLaws.{There, Placed}
use Rattle.rules.proofs.RuleLaws.{Passing}
use Rattle.rules.proofs.RequestLaws.{rule-passing, lowest-absent}
use Rattle.rules.proofs.TextLaws.{text-passing}
use Rattle.rules.proofs.TextLaws.{Passing as TextPassing}
use Rattle.rules.proofs.PacketLaws.{packet-passing}
use Rattle.rules.proofs.PacketLaws.{Passing as PacketPassing}
use Rattle.rules.proofs.LawfulLaws.{lawful}
use Rattle.rules.proofs.StepLaws.{acts-changed}

-- ---- a call is refused, or goes to its place

-- a refused call sends no line and leaves the state
pub record Refused (s : State) (c : Call) : Type 0 where
  pub ungranted : is_granted (step s c).answer.outcome ≡ false
  pub silent : (step s c).answer.line_length ≡ 0
  pub same : (step s c).after ≡ s

-- a granted call that goes to process q
pub record Acted (s : State) (c : Call) (q : ℕ) (a : Access) : Type 0 where
  pub there : There s c q a
  pub passes : number_at a (local_of s q) ≡ 0
  pub is : step s c ≡ record { answer = grants (a.reply (local_of s q)) (buffers_of c); after = put q (a.effect (local_of s q)) s }

-- a granted call, by its place
unfoldable pub Reached : State → Call → Place → Type 0
Reached s c (nowhere output) = step s c ≡ record { answer = grants output (buffers_of c); after = s }
Reached s c (at_process q a) = Acted s c q a

module _ (s : State) (r : Ready s) (c : Call) where
  refuse : (number : ℕ) (bytes : List ℕ) → eqb number 0 ≡ false → step s c ≡ record { answer = refuses number bytes (buffers_of c); after = s } → Refused s c
  refuse number bytes n e = record { ungranted = rw e (is_granted-outcome number 0 ∙ n); silent = rw e; same = rw e }

  at_place : (place : Place) → Placed s c place → step s c ≡ reached place (buffers_of c) s → Refused s c ⊎ Reached s c place
  unfolding reached Placed Reached
  at_place (nowhere output) n e = inr e
  at_place (at_process q a) t e = go (eqb (number_at a (local_of s q)) 0) refl
    where
      go : (b : Bool) → eqb (number_at a (local_of s q)) 0 ≡ b → Refused s c ⊎ Acted s c q a
      go true z = inr (record { there = t; passes = eqb-true _ 0 z; is = e ∙ rw z })
      go false z = inl (refuse (number_at a (local_of s q)) (a.refusal (local_of s q) (number_at a (local_of s q))) z (e ∙ rw z))

  pub came : Refused s c ⊎ ((first_failing (turn_of s c).tests ≡ 0) × Reached s c (turn_of s c).place)
  unfolding taken
  came = go (eqb (first_failing (turn_of s c).tests) 0) refl
    where
      with-tests : first_failing (turn_of s c).tests ≡ 0 → Refused s c ⊎ Reached s c (turn_of s c).place → Refused s c ⊎ ((first_failing (turn_of s c).tests ≡ 0) × Reached s c (turn_of s c).place)
      with-tests z (inl f) = inl f
      with-tests z (inr g) = inr (z, g)

      go : (b : Bool) → eqb (first_failing (turn_of s c).tests) 0 ≡ b → Refused s c ⊎ ((first_failing (turn_of s c).tests ≡ 0) × Reached s c (turn_of s c).place)
      go true e = let z = eqb-true _ 0 e in with-tests z (at_place (turn_of s c).place ((lawful c).placed s r z) ((lawful c).turn s ∙ rw e))
      go false e = inl (refuse (first_failing (turn_of s c).tests) ((turn_of s c).refusal (first_failing (turn_of s c).tests)) e ((lawful c).turn s ∙ rw e))

-- ---- a granted call at process q

module _ (s : State) (r : Ready s) (c : Call) (q : ℕ) (a : Access) (x : Acted s c q a) where
  pub acted-granted : Granted s c
  unfolding is_granted
  acted-granted = rw x.is

  pub acted-line : (step s c).answer.line_length ≡ length (a.reply (local_of s q)).line
  acted-line = rw x.is

  -- what is left of the process
  pub acted-left : local_of (step s c).after q ≡ a.effect (local_of s q)
  acted-left = ap (λ (y : StepResult). local_of y.after q) x.is ∙ (acts-changed s r c q a x.there x.passes).here

  pub acted-here : record_of (step s c).after q ≡ (a.effect (local_of s q)).process
  acted-here = ap (λ (l : Local). l.process) acted-left

  -- every other one is as it was
  pub acted-else : (p : ℕ) → p < 8 → (p ≡ q → ⊥) → local_of (step s c).after p ≡ local_of s p
  acted-else p low other = ap (λ (y : StepResult). local_of y.after p) x.is ∙ (acts-changed s r c q a x.there x.passes).else p low other

-- ---- how a call gets at process p

pub data Reach (p : ℕ) (s : State) (c : Call) : Type 0 where
  -- it does not
  passes_by : local_of (step s c).after p ≡ local_of s p → Reach p s c
  -- a request that names it
  asks : (h : Header) (string : List ℕ) → fields_of c ≡ h → asker c ≡ by h.host → h.pid ≡ p → h.cmd < length ops → Granted s c
      → Passing (rule_of h.cmd) h string (record_of s p) → local_of (step s c).after p ≡ (rule_of h.cmd).effect h string (local_of s p) → Reach p s c
  -- the CREATE of it
  makes : (record_of s p).there ≡ false → Reach p s c
  -- a report about it
  tells : c ≡ report p (kind_of c) (reason_of c) (words_of c) (buffers_of c).own (buffers_of c).line → Granted s c
      → local_of (step s c).after p ≡ reported (kind_of c) (words_of c) (local_of s p) → Reach p s c
  -- a store into it
  puts : (a v : ℕ) → asker c ≡ nobody → local_of (step s c).after p ≡ local (record_of s p) (set (local_of s p).bytes a v) → Reach p s c
  -- a text line to it
  says : (x : Line) → asker c ≡ by text_host → TextPassing (text_rule_of x.letter) x (record_of s p)
      → local_of (step s c).after p ≡ (text_rule_of x.letter).effect x (local_of s p) → Reach p s c
  -- a packet to it
  sends : (kind id : ℕ) (words : List ℕ) → asker c ≡ by pup_host → PacketPassing (packet_row_of kind) words (record_of s p)
      → local_of (step s c).after p ≡ (packet_row_of kind).effect id words (local_of s p) → Reach p s c
  -- a tick at it
  ticks : asker c ≡ nobody → local_of (step s c).after p ≡ on_record ticked (local_of s p) → Reach p s c

-- a refused call does not
refused-reach : (p : ℕ) (s : State) (c : Call) → Refused s c → Reach p s c
refused-reach p s c f = passes_by (ap (λ (t : State). local_of t p) f.same)

-- and one that goes to a process gets at it alone
module _ (s : State) (r : Ready s) (c : Call) (q : ℕ) (a : Access) (x : Acted s c q a) where
  at-or-not : Reach q s c → (p : ℕ) → p < 8 → Reach p s c
  at-or-not here p low = go (eqb p q) refl
    where
      go : (t : Bool) → eqb p q ≡ t → Reach p s c
      go true e = subst (λ (n : ℕ). Reach n s c) (sym (eqb-true p q e)) here
      go false e = passes_by (acted-else s r c q a x p low (eqb-false p q e))

-- ---- requests

-- a granted request with this op code that names process p: who asked it, what it passed, and what it leaves there
pub record Named (cmd p : ℕ) (s : State) (c : Call) : Type 0 where
  pub string : List ℕ
  pub asked : asker c ≡ by (fields_of c).host
  pub acted : Acted s c p (rule_access (rule_of cmd) (fields_of c) string)
  pub passing : Passing (rule_of cmd) (fields_of c) string (record_of s p)
  pub left : local_of (step s c).after p ≡ (rule_of cmd).effect (fields_of c) string (local_of s p)

module _ (s : State) (r : Ready s) (m buffer : List ℕ) where
  abbrev h : Header
  h = header_of m

  abbrev asking : Call
  asking = request m buffer

  named-left : Acted s (request m buffer) (header_of m).pid (rule_access (rule_of (header_of m).cmd) (header_of m) (string_of m))
      → local_of (step s (request m buffer)).after (header_of m).pid ≡ (rule_of (header_of m).cmd).effect (header_of m) (string_of m) (local_of s (header_of m).pid)
  unfolding rule_access
  named-left x = acted-left s r asking _ _ x

  request-sent : first_failing (turn_of s (request m buffer)).tests ≡ 0 → Sent m
  unfolding turn_of request_turn
  request-sent z =
      let both = or_else-zero (first_failing (message_tests s m buffer)) (first_failing (place_tests h s)) (sym (first-append (message_tests s m buffer) (place_tests h s) refl) ∙ z) in
      layout-sent m (rest-passes 1 _ _ (rest-passes 0 _ _ both.0))

  request-passing : Sent m → Acted s (request m buffer) (header_of m).pid (rule_access (rule_of (header_of m).cmd) (header_of m) (string_of m))
      → Passing (rule_of (header_of m).cmd) (header_of m) (string_of m) (record_of s (header_of m).pid)
  request-passing sent x = rule-passing (rule_of h.cmd) h (string_of m) sent.asked.hosted sent.carried (local_of s h.pid) x.passes

  request-named : Granted s (request m buffer) → names (header_of m).cmd ≡ true → Named (header_of m).cmd (header_of m).pid s (request m buffer)
  unfolding turn_of request_turn request_place Reached fields_of asker
  request-named granted n = go (came s r asking)
    where
      go : Refused s asking ⊎ ((first_failing (turn_of s asking).tests ≡ 0) × Reached s asking (turn_of s asking).place) → Named h.cmd h.pid s asking
      go (inl f) = absurd (true≢false (sym granted ∙ f.ungranted))
      go (inr x) = let y = rw n at x.1 in record { string = string_of m; asked = refl; acted = y; passing = request-passing (request-sent x.0) y; left = named-left y }

  named-reach : Sent m → Acted s (request m buffer) (header_of m).pid (rule_access (rule_of (header_of m).cmd) (header_of m) (string_of m)) → Reach (header_of m).pid s (request m buffer)
  unfolding fields_of asker
  named-reach sent x =
      asks h (string_of m) refl refl refl sent.asked.known (acted-granted s r asking _ _ x) (request-passing sent x) (named-left x)

  request-reach : (p : ℕ) → p < 8 → Reach p s (request m buffer)
  unfolding turn_of request_turn request_place Reached
  request-reach p low = go (came s r asking)
    where
      placed : Sent m → (t : Bool) → names h.cmd ≡ t → (u : Bool) → creates h.cmd ≡ u → Reached s asking (request_place h (string_of m) s) → Reach p s asking
      placed sent true n u k x = let y = rw n at x in at-or-not s r asking _ _ y (named-reach sent y) p low
      placed sent false n true k x = let y = rw (n, k) at x in at-or-not s r asking _ _ y (makes (lowest-absent s r y.there.low)) p low
      placed sent false n false k x = let y = rw (n, k) at x in passes_by (ap (λ (z : StepResult). local_of z.after p) y)

      go : Refused s asking ⊎ ((first_failing (turn_of s asking).tests ≡ 0) × Reached s asking (turn_of s asking).place) → Reach p s asking
      go (inl f) = refused-reach p s asking f
      go (inr x) = placed (request-sent x.0) (names h.cmd) refl (creates h.cmd) refl x.1

-- ---- reports, stores and text lines

module _ (s : State) (r : Ready s) (q kind reason : ℕ) (words buffer line : List ℕ) where
  abbrev telling : Call
  telling = report q kind reason words buffer line

  pub report-accepted : Acted s (report q kind reason words buffer line) q (report_access q kind reason words) → accepts kind (record_of s q).run ≡ true
  unfolding number_at report_access
  report-accepted x =
      let z = or_else-zero (outer_number (report_access q kind reason words) (local_of s q)) (first_failing ((report_access q kind reason words).inner (local_of s q))) x.passes in
      not-false _ (first_passes 8 _ _ z.1)

  pub report-came : Refused s (report q kind reason words buffer line)
      ⊎ ((bad_report kind reason ≡ false) × Acted s (report q kind reason words buffer line) q (report_access q kind reason words))
  unfolding turn_of report_turn Reached
  report-came = go (came s r telling)
    where
      go : Refused s telling ⊎ ((first_failing (turn_of s telling).tests ≡ 0) × Acted s telling q (report_access q kind reason words))
          → Refused s telling ⊎ ((bad_report kind reason ≡ false) × Acted s telling q (report_access q kind reason words))
      go (inl f) = inl f
      go (inr x) = inr (first_passes 13 _ _ (rest-passes 1 _ _ (rest-passes 0 _ _ x.0)), x.1)

  told-left : Acted s (report q kind reason words buffer line) q (report_access q kind reason words)
      → local_of (step s (report q kind reason words buffer line)).after q ≡ reported kind words (local_of s q)
  unfolding report_access
  told-left x = acted-left s r telling _ _ x

  report-reach : (p : ℕ) → p < 8 → Reach p s (report q kind reason words buffer line)
  unfolding kind_of reason_of words_of buffers_of
  report-reach p low = go report-came
    where
      go : Refused s telling ⊎ ((bad_report kind reason ≡ false) × Acted s telling q (report_access q kind reason words)) → Reach p s telling
      go (inl f) = refused-reach p s telling f
      go (inr x) = at-or-not s r telling _ _ x.1 (tells refl (acted-granted s r telling _ _ x.1) (told-left x.1)) p low

module _ (s : State) (r : Ready s) (q a v : ℕ) where
  abbrev storing : Call
  storing = store q a v

  store-reach : (p : ℕ) → p < 8 → Reach p s (store q a v)
  unfolding turn_of store_turn store_access Reached asker
  store-reach p low = go (came s r storing)
    where
      placed : (t : Bool) → ltb q 8 ≡ t → Reached s storing (turn_of s storing).place → Reach p s storing
      placed true e x = let y = rw e at x in at-or-not s r storing _ _ y (puts a v refl (acted-left s r storing _ _ y)) p low
      placed false e x = let y = rw e at x in passes_by (ap (λ (z : StepResult). local_of z.after p) y)

      go : Refused s storing ⊎ ((first_failing (turn_of s storing).tests ≡ 0) × Reached s storing (turn_of s storing).place) → Reach p s storing
      go (inl f) = refused-reach p s storing f
      go (inr x) = placed (ltb q 8) refl x.1

module _ (s : State) (r : Ready s) (text buffer : List ℕ) where
  abbrev lined : Call
  lined = text_line text buffer

  said-left : Acted s (text_line text buffer) (line_of text).pid (text_access (line_of text))
      → local_of (step s (text_line text buffer)).after (line_of text).pid ≡ (text_rule_of (line_of text).letter).effect (line_of text) (local_of s (line_of text).pid)
  unfolding text_access
  said-left x = acted-left s r lined _ _ x

  text-reach : (p : ℕ) → p < 8 → Reach p s (text_line text buffer)
  unfolding turn_of text_turn Reached asker
  text-reach p low = go (came s r lined)
    where
      go : Refused s lined ⊎ ((first_failing (turn_of s lined).tests ≡ 0) × Acted s lined (line_of text).pid (text_access (line_of text))) → Reach p s lined
      go (inl f) = refused-reach p s lined f
      go (inr x) =
          at-or-not s r lined _ _ x.1 (says (line_of text) refl (text-passing (line_of text) (local_of s (line_of text).pid) x.1.passes) (said-left x.1)) p low

module _ (s : State) (r : Ready s) (door kind id : ℕ) (words buffer : List ℕ) where
  abbrev packed : Call
  packed = packet door kind id words buffer

  pub packet-came : Refused s (packet door kind id words buffer) ⊎ Acted s (packet door kind id words buffer) door (packet_access kind id words)
  unfolding turn_of packet_turn Reached
  packet-came = go (came s r packed)
    where
      go : Refused s packed ⊎ ((first_failing (turn_of s packed).tests ≡ 0) × Acted s packed door (packet_access kind id words)) → Refused s packed ⊎ Acted s packed door (packet_access kind id words)
      go (inl f) = inl f
      go (inr x) = inr x.1

  pub packet-left : Acted s (packet door kind id words buffer) door (packet_access kind id words)
      → local_of (step s (packet door kind id words buffer)).after door ≡ (packet_row_of kind).effect id words (local_of s door)
  unfolding packet_access
  packet-left x = acted-left s r packed _ _ x

  packet-reach : (p : ℕ) → p < 8 → Reach p s (packet door kind id words buffer)
  unfolding asker
  packet-reach p low = go packet-came
    where
      go : Refused s packed ⊎ Acted s packed door (packet_access kind id words) → Reach p s packed
      go (inl f) = refused-reach p s packed f
      go (inr x) = at-or-not s r packed _ _ x (sends kind id words refl (packet-passing kind id words (local_of s door) x.passes) (packet-left x)) p low

module _ (s : State) (r : Ready s) (door : ℕ) where
  -- a tick in a sound state is granted, and goes to the process of the door if there is one
  pub tick-came : Refused s (tick door) ⊎ Reached s (tick door) (turn_of s (tick door)).place
  tick-came = go (came s r (tick door))
    where
      go : Refused s (tick door) ⊎ ((first_failing (turn_of s (tick door)).tests ≡ 0) × Reached s (tick door) (turn_of s (tick door)).place)
          → Refused s (tick door) ⊎ Reached s (tick door) (turn_of s (tick door)).place
      go (inl f) = inl f
      go (inr x) = inr x.1

  tick-reach : (p : ℕ) → p < 8 → Reach p s (tick door)
  unfolding turn_of tick_turn tick_access Reached asker
  tick-reach p low = go tick-came
    where
      placed : (t : Bool) → ltb door 8 ≡ t → Reached s (tick door) (turn_of s (tick door)).place → Reach p s (tick door)
      placed true e x = let y = rw e at x in at-or-not s r (tick door) _ _ y (ticks refl (acted-left s r (tick door) _ _ y)) p low
      placed false e x = let y = rw e at x in passes_by (ap (λ (z : StepResult). local_of z.after p) y)

      go : Refused s (tick door) ⊎ Reached s (tick door) (turn_of s (tick door)).place → Reach p s (tick door)
      go (inl f) = refused-reach p s (tick door) f
      go (inr x) = placed (ltb door 8) refl x

-- a query gets at none
query-reach : (s : State) (m : List ℕ) (p : ℕ) → p < 8 → Reach p s (query m)
unfolding step query_step
query-reach s m p low = passes_by refl

-- ---- any call

pub reach : (s : State) → Ready s → (c : Call) (p : ℕ) → p < 8 → Reach p s c
reach s r (request m buffer) = request-reach s r m buffer
reach s r (report q kind reason words buffer line) = report-reach s r q kind reason words buffer line
reach s r (store q a v) = store-reach s r q a v
reach s r (text_line text buffer) = text-reach s r text buffer
reach s r (packet door kind id words buffer) = packet-reach s r door kind id words buffer
reach s r (tick door) = tick-reach s r door
reach s r (query m) = query-reach s m

-- a granted request, by its op code and the process that it names
pub named : (s : State) → Ready s → (c : Call) (cmd p : ℕ) → names cmd ≡ true → (fields_of c).cmd ≡ cmd → (fields_of c).pid ≡ p → Granted s c → Named cmd p s c
unfolding fields_of names
named s r (request m buffer) cmd p n op pid granted = rw (op, pid) at (request-named s r m buffer granted (rw op n))
named s r (report q kind reason words buffer line) cmd p n op pid granted = absurd (true≢false (sym (rw (← op) at n)))
named s r (store q a v) cmd p n op pid granted = absurd (true≢false (sym (rw (← op) at n)))
named s r (text_line text buffer) cmd p n op pid granted = absurd (true≢false (sym (rw (← op) at n)))
named s r (packet door kind id words buffer) cmd p n op pid granted = absurd (true≢false (sym (rw (← op) at n)))
named s r (tick door) cmd p n op pid granted = absurd (true≢false (sym (rw (← op) at n)))
named s r (query m) cmd p n op pid granted = absurd (true≢false (sym (rw (← op) at n)))
