-- A request that was read, at the process that it goes to. Assumes nothing.
use Rattle.std.proofs.Common.{Ok, Err}
use mathlib.Core.Path.{◌≡◌, refl, sym, ap, ◌∙◌, subst}
use mathlib.Core.Bool.{Bool, true, false, not, cond}
use mathlib.Core.List.{List, [], ◌∷◌}
use Prim.Native.Nat.{ℕ, zero, suc, ◌≤◌, ◌<◌}
use native.Mathlib.Omega.{arith}
use borrow.Author.Tests.{eqb-true, ne_eqb, lt-ltb, le-ltb, ltb-true, ltb-false, leb-true, not-true, not-false}
use lib.ListN.{length}
use lib.Dec.{eqb, ltb, leb}
use Rattle.lists.specs.Every.{every}
use Rattle.lists.proofs.Bool.{&&-left, &&-right}
use Rattle.lists.proofs.First.{first_passes as first-is}
use Rattle.format.specs.declared.header.Header.{Header}
use Rattle.format.specs.declared.outcome.Refusal.{Refusal}
use Rattle.format.specs.Outcome.{Reading, reading, Test, first_failing}
use Rattle.ops.specs.declared.table.Form.{Form}
use Rattle.ops.specs.Table.{op, asks, request_form}
use Rattle.format.specs.Layout.{header_of, string_of}
use Rattle.message.specs.Exchange.{read_number, reads}
use Rattle.message.specs.Incoming.{Incoming, incoming, received}
use Rattle.format.proofs.OutcomeLaws.{message-zero, message-header, first_passes}
use Rattle.ops.specs.Codes.{CREATE}
use Rattle.process.specs.declared.record.Process.{Process}
use Rattle.process.specs.Sizes.{memory_bytes}
use Rattle.state.specs.Records.{nobody, lowest_absent}
use Rattle.state.specs.Layout.{free_bytes}
use Rattle.rules.specs.Rule.{rule_of, names, creates, size_asked}
use Rattle.rules.specs.Tests.{State, record_of, rule_tests, no_place, asked_tests}
use Rattle.rules.specs.Ready.{Ready}
use Rattle.rules.specs.Step.{Answer, StepResult, reply_of, local_of, put, granted_named, granted_create, granted, refused}
use Rattle.rules.proofs.NumberLaws.{Sent, layout-sent}
use Rattle.rules.proofs.StateLaws.{put_same, put-over}
use Rattle.checks.specs.Decision.{process_tests}
use Rattle.service.specs.declared.target.Target.{Target}
use Rattle.service.specs.declared.target.Target.TheVariants.{Named, OutOfRange, New, Nowhere}
use Rattle.service.specs.At.{ProcessResult, cant_by, target_of, named_by, named_at, created_at}
use Rattle.gateway.specs.Stage.{asked}

-- ---- the fields of a message that was read

-- what the gateway finds is a reading, with the form of its op code
Found : Reading → Incoming → Type 0
Found r (Ok request) = (r ≡ Ok request.0) × (request.1 ≡ asks (op request.0.cmd))
Found r (Err refusal) = r ≡ Err refusal

found-by : (n : ℕ) (h : Header) → Found (reading n h) (incoming n h (asks (op h.cmd)))
unfolding Found
found-by zero h = (refl, refl)
found-by (suc n) h = refl

found : (m : List ℕ) → Found (reads request_form m) (received m)
unfolding reads received
found m = found-by (read_number (request_form (header_of m).cmd) m) (header_of m)

-- a request that is found was read, and has the form of its op code
pub request-found : (m : List ℕ) (h : Header) (form : Form) → Ok (h, form) ≡ received m → (reads request_form m ≡ Ok h) × (form ≡ asks (op h.cmd))
unfolding Found
request-found m h form e = subst (Found (reads request_form m)) (sym e) (found m)

-- and what is refused was refused when it was read
pub refused-found : (m : List ℕ) (r : Refusal) → Err r ≡ received m → reads request_form m ≡ Err r
unfolding Found
refused-found m r e = subst (Found (reads request_form m)) (sym e) (found m)

module _ (m : List ℕ) (h : Header) (e : reads request_form m ≡ Ok h) where
  sent : Sent m
  unfolding reads read_number
  sent = layout-sent m (message-zero (read_number (request_form (header_of m).cmd) m) (header_of m) h e)

  fields : header_of m ≡ h
  unfolding reads
  fields = message-header (read_number (request_form (header_of m).cmd) m) (header_of m) h e

  pub carried-short : length (string_of m) ≤ h.arg2
  carried-short = rw fields at sent.carried

  -- a CREATE asks for no more than the greatest size
  pub create-short : creates h.cmd ≡ true → size_asked h ≤ memory_bytes
  unfolding size_asked
  create-short c = by_size (eqb h.arg1 0)
    where
      most : h.arg1 ≤ memory_bytes
      most = rw fields at (sent.size (rw fields (eqb-true h.cmd CREATE c))).most

      by_size : (t : Bool) → cond t memory_bytes h.arg1 ≤ memory_bytes
      by_size true = omega arith
      by_size false = most

-- ---- the numbers from 7 on

high : Test → Bool
high t = leb 7 t.number

high-first : (ts : List Test) → every high ts ≡ true → (first_failing ts ≡ 0 → ⊥) → 7 ≤ first_failing ts
unfolding first_failing high
high-first [] e = λ z. absurd (z refl)
high-first (t ∷ ts) e = go (high-first ts (&&-right (leb 7 t.number) _ e)) t.fails
  where
    go : ((first_failing ts ≡ 0 → ⊥) → 7 ≤ first_failing ts) → (b : Bool) → (cond b t.number (first_failing ts) ≡ 0 → ⊥)
        → 7 ≤ cond b t.number (first_failing ts)
    go rest true z = leb-true 7 t.number (&&-left (leb 7 t.number) _ e)
    go rest false z = rest z

-- ---- where it goes

-- what its target says of a request
abbrev pub Goes : Header → Target → Type 0
Goes h (Named p) = (names h.cmd ≡ true) × (p ≡ h.pid) × (p < 8)
Goes h OutOfRange = (names h.cmd ≡ true) × (8 ≤ h.pid)
Goes h New = (names h.cmd ≡ false) × (creates h.cmd ≡ true)
Goes h Nowhere = (names h.cmd ≡ false) × (creates h.cmd ≡ false)

goes : (h : Header) → Goes h (target_of (asks (op h.cmd)) h)
unfolding target_of names
goes h = by_name (asks (op h.cmd)).pid refl
  where
    by_number : (t : Bool) → (asks (op h.cmd)).pid ≡ true → ltb h.pid 8 ≡ t → Goes h (cond t (Named h.pid) OutOfRange)
    by_number true n e = (n, refl, ltb-true h.pid 8 e)
    by_number false n e = (n, ltb-false h.pid 8 e)

    by-op : (t : Bool) → (asks (op h.cmd)).pid ≡ false → creates h.cmd ≡ t → Goes h (cond t New Nowhere)
    by-op true n e = (n, e)
    by-op false n e = (n, e)

    by_name : (t : Bool) → (asks (op h.cmd)).pid ≡ t → Goes h (cond t (cond (ltb h.pid 8) (Named h.pid) OutOfRange) (cond (creates h.cmd) New Nowhere))
    by_name true n = by_number (ltb h.pid 8) n refl
    by_name false n = by-op (creates h.cmd) n refl

-- a target says what it says of the request that it came from
pub target-says : (h : Header) (form : Form) (t : Target) → form ≡ asks (op h.cmd) → t ≡ target_of form h → Goes h t
target-says h form t f e = subst (Goes h) (sym (e ∙ ap (λ (x : Form). target_of x h) f)) (goes h)

-- the lowest absent process is absent
pub lowest-is-absent : (s : State) → Ready s → lowest_absent s.records < 8 → (record_of s (lowest_absent s.records)).there ≡ false
unfolding lowest_absent
lowest-is-absent s r low =
    let eight = r.processes in
    not-true _ (first-is (λ (p : Process). not p.there) s.records.processes nobody (omega (arith, low, eight)))

-- ---- at that process

-- what a call at process p answers and leaves
abbrev pub stepped : ℕ → ProcessResult → State → StepResult
stepped p x s = record { answer = x.answer; after = put p x.left s }

-- an answer that leaves the state
abbrev pub unmoved : Answer → State → StepResult
unmoved a s = record { answer = a; after = s }

module _ (h : Header) (string buffer : List ℕ) (s : State) where
  -- by the number of the tests of the process that is named
  module _ (p : ℕ) (n : names h.cmd ≡ true) (low : p < 8) (here : h.pid ≡ p) where
    unfoldable pub number : ℕ
    number = first_failing (process_tests h (record_of s p))

    pub number-asked : first_failing (asked_tests h s) ≡ number
    unfolding asked_tests number
    number-asked = rw (n, here, lt-ltb p 8 low)

    number-high : (number ≡ 0 → ⊥) → 7 ≤ number
    unfolding number high
    number-high z = high-first (process_tests h (record_of s p)) refl z

    by_number : (k : ℕ) → number ≡ k → asked h string buffer s ≡ stepped p (named_by k h string buffer (local_of s p)) s
    unfolding asked granted granted_named refused named_by cant_by number
    by_number zero e =
        let there : (record_of s h.pid).there ≡ true = rw here (not-false (record_of s p).there (first_passes 6 (not (record_of s p).there) (rule_tests (rule_of h.cmd) h (record_of s p)) e)) in
        rw (number-asked, e, n, ← here)
        (ap (λ (t : State). record { answer = reply_of ((rule_of h.cmd).header h (local_of s h.pid)) ((rule_of h.cmd).shown h (local_of s h.pid)) buffer; after = t }) (sym (put-over h.pid ((rule_of h.cmd).effect h string (local_of s h.pid)) s there)))
    by_number (suc k) e =
        let long = number-high (λ z. omega (arith, sym e ∙ z)) in
        rw (number-asked, e, ne_eqb (suc k) 0 (λ z. omega (arith, z)), le-ltb (suc k) 7 (rw e at long), put_same p s)

  pub asked-named : (p : ℕ) → Goes h (Named p) → asked h string buffer s ≡ stepped p (named_at h string buffer (local_of s p)) s
  unfolding named_at number
  asked-named p g = by_number p g.0 g.2 (sym g.1) _ refl

  pub asked-beyond : Goes h OutOfRange → asked h string buffer s ≡ unmoved (cant_by 7 h buffer) s
  unfolding cant_by asked refused asked_tests first_failing
  asked-beyond g = rw (g.0, le-ltb h.pid 8 g.1)

  module _ (g : Goes h New) where
    pub asked-new : (p : ℕ) → p ≡ lowest_absent s.records → p < 8 → size_asked h ≤ free_bytes s.records → asked h string buffer s ≡ stepped p (created_at p h buffer) s
    unfolding created_at asked granted granted_create asked_tests first_failing
    asked-new p e low room = rw (g.0, g.1, ← e, lt-ltb p 8 low, le-ltb _ _ room)

    pub asked-full : no_place h s ≡ true → asked h string buffer s ≡ unmoved (cant_by 13 h buffer) s
    unfolding cant_by asked refused asked_tests first_failing
    asked-full full = rw (g.0, g.1, full)

  pub asked-nowhere : Goes h Nowhere → asked h string buffer s ≡ unmoved (reply_of h [] buffer) s
  unfolding asked granted asked_tests first_failing
  asked-nowhere g = rw (g.0, g.1)
