-- The law of a query: it makes the tests of the request that it is about, changes nothing, and tells a stranger what is public alone. Assumes nothing.
use mathlib.Core.Path.{◌≡◌, refl, sym, ap, ◌∙◌, subst}
use mathlib.Core.Bool.{Bool, true, false, not, ◌&&◌, true≢false}
use mathlib.Core.List.{List, [], ◌∷◌, ◌++◌}
use mathlib.Core.Logic.{◌⊎◌, inl, inr}
use Prim.Native.Nat.{ℕ, ◌<◌}
use native.Mathlib.Omega.{arith}
use borrow.Author.Tests.{eq-eqb, eqb-true, ltb-true, le-leb, not-false}
use lib.ListN.{length}
use lib.Dec.{eqb, leb, ltb}
use Rattle.lists.specs.Buffer.{overlay}
use Rattle.lists.specs.Every.{every}
use Rattle.lists.proofs.Bool.{&&-left, &&-right, &&-both}
use Rattle.ops.specs.Table.{request_form}
use Rattle.format.specs.declared.header.Header.{Header}
use Rattle.format.specs.Outcome.{Test, test, first_failing}
use Rattle.format.specs.Layout.{header_of, fixed_right}
use Rattle.format.specs.Refusal.{layout_tests}
use Rattle.format.proofs.OutcomeLaws.{first_passes, rest-passes}
use Rattle.reasons.specs.declared.Reason.{Reason}
use Rattle.reasons.specs.declared.Reason.TheVariants.{Granted, Length, Debugger, RunState, Past, Full, Watcher, Setter, Other}
use Rattle.reasons.specs.Reason.{facts_of}
use Rattle.process.specs.declared.record.Process.{Process}
use Rattle.process.specs.Local.{Local}
use Rattle.rules.specs.Rule.{Rule, Public, public, rule_of, names, creates}
use Rattle.rules.specs.Tests.{State, tests_from2, record_of, unsound, no_place, asked_tests}
use Rattle.rules.specs.Why.{reason_for, reason_without_process, why_number, why_of}
use Rattle.rules.specs.Access.{by, insider, alone, Access, Place, nowhere, at_process, Turn, number_at, grants, refuses, reached, taken}
use Rattle.rules.specs.Step.{local_of, query, query_step, step}
use Rattle.rules.specs.Turn.{rule_access, create_access, place_tests, request_place, query_access, query_turn, single, turn_of, buffers_of}
use Rattle.rules.specs.Ready.{Ready}
use Rattle.rules.specs.Isolation.{Processes, names_one, deposits, without_string, asker, subject, event, passed_over, fields_of, is_granted, told_of}
use Rattle.rules.specs.Total.{tests_of, numbers_of, one_of}
use Rattle.rules.proofs.StateLaws.{fits_kept, used-shown, put_same}
use Rattle.rules.proofs.RuleLaws.{Open, Row, rule-row, turns-kept}
use Rattle.rules.proofs.RuleLaws.{Taking as RowTaking}
use Rattle.rules.proofs.NumberLaws.{or_else, by-test, same_cond, first-listed, or_else-zero, or_else-assoc, first-append, Sent, layout-sent}
use Rattle.rules.proofs.TurnLaws.{place_number, turn_number, asked-number}
use Rattle.rules.proofs.AccessLaws.{Taking, May, Discreet, Fair, outer_number}
use Rattle.rules.proofs.CallLaws.{Shown, Silent, There, Placed, Lawful}
use Rattle.rules.proofs.RequestLaws.{same-absent, over-host, over-cmd, over-pid, over-long}
use Rattle.rules.proofs.ReportLaws.{kept}

-- ---- numbers of a list

-- so it is with each of them
unfoldable pub AllOf : (ℕ → Type 0) → List ℕ → Type 0
AllOf F [] = Unit {0}
AllOf F (k ∷ ks) = F k × AllOf F ks

-- then it is so with one of them
pub one-of : (F : ℕ → Type 0) (ks : List ℕ) → AllOf F ks → (n : ℕ) → one_of ks n ≡ true → F n
unfolding AllOf
one-of F [] all n e = absurd (true≢false (sym e))
one-of F (k ∷ ks) all n e = go (eqb n k) refl (one-of F ks all.1 n)
  where
    go : (t : Bool) → eqb n k ≡ t → (one_of ks n ≡ true → F n) → F n
    go true i rest = subst F (sym (eqb-true n k i)) all.0
    go false i rest = rest (rw i at e)

-- ---- facts

-- they are the whole buffer
facts-over : (r : Reason) → overlay (facts_of r) [] ≡ facts_of r
unfolding overlay facts_of
facts-over Granted = refl
facts-over (Length n) = refl
facts-over (Debugger host) = refl
facts-over (RunState run) = refl
facts-over (Past limit excess) = refl
facts-over (Full entries) = refl
facts-over (Watcher host) = refl
facts-over (Setter host) = refl
facts-over (Other n) = refl

-- the tests that look at no process have no fact but the length
away-same : (h : Header) (count : ℕ) (p : Process) (n : ℕ) → one_of (0 ∷ 2 ∷ 3 ∷ 4 ∷ 5 ∷ 6 ∷ 7 ∷ 13 ∷ []) n ≡ true → eqb n 0 ≡ false
    → reason_for n h count p ≡ reason_without_process n count
unfolding AllOf reason_for reason_without_process
away-same h count p =
    one-of (λ (n : ℕ). eqb n 0 ≡ false → reason_for n h count p ≡ reason_without_process n count) (0 ∷ 2 ∷ 3 ∷ 4 ∷ 5 ∷ 6 ∷ 7 ∷ 13 ∷ [])
    ((λ z. absurd (true≢false z)), ((λ z. refl), ((λ z. refl), ((λ z. refl), ((λ z. refl), ((λ z. refl), ((λ z. refl), ((λ z. refl), tt))))))))

-- those by the public part have no other
outer_same : (h : Header) (count : ℕ) (p q : Process) → public p ≡ public q → (n : ℕ) → one_of (0 ∷ 7 ∷ 8 ∷ 15 ∷ []) n ≡ true
    → reason_for n h count p ≡ reason_for n h count q
unfolding AllOf reason_for public
outer_same h count p q e =
    let hosts : p.host ≡ q.host = ap (λ (u : Public). u.host) e in
    let watchers : p.session.watcher ≡ q.session.watcher = ap (λ (u : Public). u.watcher) e in
    one-of (λ (n : ℕ). reason_for n h count p ≡ reason_for n h count q) (0 ∷ 7 ∷ 8 ∷ 15 ∷ []) (refl, (refl, (cc, (cc, tt))))

-- ---- a query at the process that its request names

module _ (r : Rule) (h : Header) (count : ℕ) where
  abbrev asks : Access
  asks = query_access r h count

  -- the tests are the request's
  query-tests : (string : List ℕ) (l : Local) → number_at (query_access r h count) l ≡ number_at (rule_access r h string) l
  unfolding number_at query_access rule_access
  query-tests string l = refl

  module _ (cmd : ℕ) (row : Row cmd r) (asked : h.host ≡ 0 → ⊥) where
    open_none : Open r → (l : Local) → first_failing ((query_access r h count).inner l) ≡ 0
    unfolding query_access first_failing
    open_none o l = rw (o.runs l.process.run, o.range h l.process.size, o.room h l.process, o.found h l.process, o.his h l.process)

    query-guarded : (u : Public) → first_failing ((query_access r h count).outer u) ≡ 0 → May (by h.host) u (query_access r h count) kept
    unfolding query_access May
    query-guarded u e = go (row.guarded u h.host asked (not-false _ (first_passes 7 _ _ (rest-passes 6 _ _ e))))
      where
        go : (insider u h.host ≡ true) ⊎ RowTaking cmd r → (insider u h.host ≡ true) ⊎ Taking h.host (query_access r h count) kept
        go (inl i) = inl i
        go (inr t) = inr (record { none = open_none t.free; blind = λ l k. refl; takes = inr (λ l. refl) })

    query-fair : Fair (by h.host) (query_access r h count) kept
    unfolding query_access Discreet
    query-fair = record {
      publicly = λ l z. refl;
      keeps = λ l g z. g;
      guarded = query-guarded;
      hides = inl (λ u. refl);
      plain = λ l k e.
          ap facts_of (outer_same h count l.process k.process e (outer_number asks l) (first-listed (one_of (0 ∷ 7 ∷ 8 ∷ 15 ∷ [])) (asks.outer (public l.process)) refl refl));
      discreet = λ l g. tt;
    }

-- ---- its number and its parts

-- the numbers of the tests that look at no process
pub away-listed : (m : List ℕ) (s : State) → one_of (0 ∷ 2 ∷ 3 ∷ 4 ∷ 5 ∷ 6 ∷ 7 ∷ 13 ∷ []) (first_failing (query_turn m s).tests) ≡ true
unfolding query_turn place_tests
away-listed m s =
    by-test (λ (ts : List Test). one_of away (first_failing (head_tests ++ ts)) ≡ true) (names (header_of m).cmd) (λ n. first-listed (one_of away) (head_tests ++ (test 7 (not (ltb (header_of m).pid 8)) ∷ [])) refl refl)
    (λ n. by-test (λ (ts : List Test). one_of away (first_failing (head_tests ++ ts)) ≡ true) (creates (header_of m).cmd) (λ c. first-listed (one_of away) (head_tests ++ (test 13 (no_place (header_of m) s) ∷ [])) refl refl)
    (λ c. first-listed (one_of away) (head_tests ++ []) refl refl))
  where
    away : List ℕ
    away = 0 ∷ 2 ∷ 3 ∷ 4 ∷ 5 ∷ 6 ∷ 7 ∷ 13 ∷ []

    head_tests : List Test
    head_tests = test 2 (unsound s) ∷ layout_tests (fixed_right m) (request_form (header_of m).cmd) (header_of m) (length m)

module _ (m : List ℕ) (s : State) where
  abbrev h : Header
  h = header_of m

  abbrev head_tests : List Test
  head_tests = test 2 (unsound s) ∷ layout_tests (fixed_right m) (request_form (header_of m).cmd) (header_of m) (length m)

  abbrev place : Place
  place = (query_turn m s).place

  -- at its place the request finds the same number
  same_place : place_number (query_turn m s).place s ≡ place_number (request_place (header_of m) [] s) s
  unfolding query_turn request_place place_number number_at create_access first_failing
  same_place = go (names (header_of m).cmd) refl (creates (header_of m).cmd) refl
    where
      go : (t : Bool) → names (header_of m).cmd ≡ t → (u : Bool) → creates (header_of m).cmd ≡ u → place_number (query_turn m s).place s ≡ place_number (request_place (header_of m) [] s) s
      go true e u i = rw e (query-tests (rule_of h.cmd) h (length m) [] (local_of s h.pid))
      go false e true i = rw (e, i)
      go false e false i = rw (e, i)

  pub query-number : turn_number (query_turn m s) s ≡ why_number s m
  unfolding turn_number query_turn why_number
  query-number =
      rw (first-append head_tests (place_tests (header_of m) s) refl, first-append head_tests (asked_tests (header_of m) s) refl)
      (or_else-assoc (first_failing head_tests) (first_failing (place_tests (header_of m) s)) (place_number (query_turn m s).place s)
      ∙ ap (or_else (first_failing head_tests)) (ap (or_else (first_failing (place_tests (header_of m) s))) same_place ∙ asked-number (header_of m) [] s))

  -- the facts of the number that was found
  because : (n : ℕ) → why_number s m ≡ n → why_of s m ≡ reason_for n (header_of m) (length m) (record_of s (header_of m).pid)
  unfolding why_of
  because n e = rw e

  query-away : (n : ℕ) → why_number s m ≡ n → eqb n 0 ≡ false → one_of (0 ∷ 2 ∷ 3 ∷ 4 ∷ 5 ∷ 6 ∷ 7 ∷ 13 ∷ []) n ≡ true
      → query_step m s ≡ record { answer = refuses n (facts_of (reason_without_process n (length m))) (single []); after = s }
  unfolding query_step
  query-away n e z listed =
      rw (because n e, e, away-same (header_of m) (length m) (record_of s (header_of m).pid) n listed z, facts-over (reason_without_process n (length m)))

  abbrev asked_of : Access
  asked_of = query_access (rule_of (header_of m).cmd) (header_of m) (length m)

  -- granted
  query-granted : why_number s m ≡ 0 → query_step m s ≡ record { answer = grants (alone []) (single []); after = s }
  unfolding query_step reason_for facts_of overlay
  query-granted e = rw (because 0 e, e)

  -- refused at the process
  query-refused : (n : ℕ) → why_number s m ≡ n
      → query_step m s ≡ record { answer = refuses n (facts_of (reason_for n (header_of m) (length m) (record_of s (header_of m).pid))) (single []); after = s }
  unfolding query_step
  query-refused n e = rw (because n e, e, facts-over (reason_for n (header_of m) (length m) (record_of s (header_of m).pid)))

  query-near : why_number s m ≡ number_at asked_of (local_of s (header_of m).pid) → query_step m s ≡ reached (at_process (header_of m).pid asked_of) (single []) s
  unfolding reached query_access
  query-near n = go (eqb (number_at asked_of (local_of s (header_of m).pid)) 0) refl
    where
      go : (t : Bool) → eqb (number_at asked_of (local_of s (header_of m).pid)) 0 ≡ t → query_step m s ≡ reached (at_process (header_of m).pid asked_of) (single []) s
      go true e = query-granted (n ∙ eqb-true _ 0 e) ∙ rw (e, put_same (header_of m).pid s)
      go false e = query-refused _ n ∙ rw e

  query-idle : why_number s m ≡ 0 → query_step m s ≡ reached (nowhere (alone [])) (single []) s
  unfolding reached
  query-idle e = query-granted e

  query-reached : why_number s m ≡ place_number (query_turn m s).place s → query_step m s ≡ reached (query_turn m s).place (single []) s
  unfolding query_turn place_number
  query-reached same = go (names (header_of m).cmd) refl
    where
      go : (t : Bool) → names (header_of m).cmd ≡ t → query_step m s ≡ reached (query_turn m s).place (single []) s
      go true e = rw e (query-near (rw e at same))
      go false e = rw e (query-idle (rw e at same))

  -- what is written where a test before the place fails
  away-facts : (n : ℕ) → (query_turn m s).refusal n ≡ facts_of (reason_without_process n (length m))
  unfolding query_turn
  away-facts n = refl

  query-turn : query_step m s ≡ taken (query_turn m s) (single []) s
  unfolding taken turn_number
  query-turn = go (eqb (first_failing turn.tests) 0) refl
    where
      turn : Turn
      turn = query_turn m s

      number : why_number s m ≡ or_else (first_failing turn.tests) (place_number turn.place s)
      number = sym query-number

      go : (t : Bool) → eqb (first_failing turn.tests) 0 ≡ t → query_step m s ≡ taken (query_turn m s) (single []) s
      go true e = rw e (query-reached (rw e at number))
      go false e = rw (e, away-facts (first_failing turn.tests)) (query-away (first_failing turn.tests) (rw e at number) e (away-listed m s))

why-listed : (m : List ℕ) (s : State) → one_of (numbers_of (query m)) (first_failing (tests_from2 s m)) ≡ true
unfolding numbers_of asked_tests
why-listed m s = first-listed Listed (tests_from2 s m) refl numbers
  where
    Listed : ℕ → Bool
    Listed = one_of (numbers_of (query m))

    Each : List Test → Type 0
    Each ts = every (λ (t : Test). Listed t.number) ts ≡ true

    numbers : Each (tests_from2 s m)
    numbers = by-test Each (names (header_of m).cmd) (λ e. refl) (λ e. by-test Each (creates (header_of m).cmd) (λ i. refl) (λ i. refl))

-- ---- a query

query-silent : (m : List ℕ) → Silent (query m)
unfolding told_of fields_of names
query-silent m d a q = same_cond (is_granted a.outcome) (d q)

module _ (m : List ℕ) where
  query-there : (s : State) → Ready s → Sent m → names (header_of m).cmd ≡ true → (header_of m).pid < 8
      → There s (query m) (header_of m).pid (query_access (rule_of (header_of m).cmd) (header_of m) (length m))
  unfolding asker subject names_one fields_of query_access
  query-there s r sent n low =
      let h = header_of m in
      let known = rule-row h.cmd sent.asked.known in
      record {
        low = low;
        then = kept;
        fair = query-fair (rule_of h.cmd) h (length m) h.cmd known sent.asked.hosted;
        words = λ t l w. w;
        fits = fits_kept s r h.pid;
        narrows = λ e u. omega arith;
        named = λ P e. &&-right (names h.cmd) (P h.pid) (&&-right (leb 10 (length m)) (names h.cmd && P h.pid) e);
        reaches = inl (&&-both (leb 10 (length m)) _ (le-leb 10 (length m) sent.long) (&&-both (names h.cmd) _ n (eq-eqb h.pid h.pid refl)));
        carries = λ l e. absurd (omega (arith, e));
        anew = λ e. absurd (omega (arith, e));
        told = λ d l q. query-silent m d _ q ∙ sym (same_cond (eqb q h.pid) (d q));
        turns = λ z. turns-kept _ _ h.pid _;
      }

  pub query-placed : (s : State) → Ready s → first_failing (query_turn m s).tests ≡ 0 → Placed s (query m) (query_turn m s).place
  unfolding query_turn Placed place_tests asker
  query-placed s r z = go (names (header_of m).cmd) refl
    where
      both : (first_failing (head_tests m s) ≡ 0) × (first_failing (place_tests (header_of m) s) ≡ 0)
      both = or_else-zero (first_failing (head_tests m s)) (first_failing (place_tests (header_of m) s)) (sym (first-append (head_tests m s) (place_tests (header_of m) s) refl) ∙ z)

      go : (t : Bool) → names (header_of m).cmd ≡ t → Placed s (query m) (query_turn m s).place
      go true n =
          rw n (query-there s r (layout-sent m (rest-passes 1 _ _ both.0)) n (ltb-true _ 8 (not-false _ (first_passes 6 _ _ (rw n at both.1)))))
      go false n = rw n (record { told = λ d q. query-silent m d _ q; quiet = λ e. absurd (let z : ◌≡◌ {A = ℕ} 0 1 = cc in omega arith) })

  query-alike : (s t : State) → Ready s → Ready t → Shown s t → query_turn m s ≡ query_turn m t
  unfolding query_turn place_tests
  query-alike s t r q a = rw (r.sound, q.sound, same-absent s t r q a, used-shown s t a)

  query-over : (P : Processes) → subject P (query m) ≡ true → subject P (passed_over (query m)) ≡ true
  unfolding subject passed_over names_one
  query-over P e =
      by-test (λ (n : List ℕ). leb 10 (length n) && (names (header_of n).cmd && P (header_of n).pid) ≡ true) (deposits (header_of m).cmd)
      (λ d. rw (over-cmd m, over-pid m)
      (&&-both (leb 10 (length (without_string m))) _ (over-long m (&&-left (leb 10 (length m)) _ e)) (&&-right (leb 10 (length m)) (names (header_of m).cmd && P (header_of m).pid) e)))
      (λ d. e)

  pub query-lawful : Lawful (query m)
  unfolding step turn_of buffers_of tests_of numbers_of why_number event asker passed_over subject fields_of
  query-lawful = record {
    turn = query-turn m;
    number = query-number m;
    listed = λ s. why-listed m s;
    alike = query-alike;
    placed = query-placed;
    subject-creates = λ P e. refl;
    event-asker = λ e. absurd (true≢false (sym e));
    event-silent = λ e. query-silent m;
    over-asker = by-test (λ (n : List ℕ). by (header_of n).host ≡ by (header_of m).host) (deposits (header_of m).cmd) (λ d. ap by (over-host m)) (λ d. refl);
    over-subject = query-over;
    over-silent = inr (query-silent m, query-silent _);
  }
