-- The law of requests. Assumes nothing.
use mathlib.Core.Path.{◌≡◌, refl, sym, ap, ap₂, ◌∙◌}
use mathlib.Core.Bool.{Bool, true, false, not, cond, ◌&&◌, ◌||◌, true≢false}
use mathlib.Core.List.{List, [], ◌∷◌, ◌++◌}
use mathlib.Core.Logic.{◌⊎◌, inl, inr}
use Prim.Native.Nat.{ℕ, zero, suc, ◌≤◌, ◌<◌}
use native.Mathlib.Omega.{arith}
use borrow.Author.Tests.{eq-eqb, ne_eqb, eqb-true, eqb-false, ltb-true, ltb-false, leb-true, le-leb, not-true, not-false}
use lib.ListN.{length, take, get_or, length-append}
use lib.Dec.{eqb, leb, ltb, lit<}
use lib.Seq.{length-take-le}
use Rattle.lists.specs.Buffer.{overlay}
use Rattle.lists.proofs.Bool.{&&-left, &&-right, &&-both, ||-left, ||-right}
use Rattle.lists.proofs.First.{first_passes, first_alike}
use Rattle.format.specs.declared.header.Header.{Header}
use Rattle.lists.specs.Every.{every}
use Rattle.format.specs.Outcome.{Test, first_failing}
use Rattle.format.specs.Layout.{written, header_of, string_of}
use Rattle.format.specs.Answer.{created_of}
use Rattle.format.proofs.OutcomeLaws.{rest-passes}
use Rattle.format.proofs.TestLaws.{FittingSize}
use Rattle.format.proofs.OutcomeLaws.{first_passes as head-passes}
use Rattle.process.specs.declared.record.Process.{Process}
use Rattle.process.specs.Record.{fresh}
use Rattle.process.specs.Sound.{SizeRight}
use Rattle.process.specs.Local.{Local, Proper}
use Rattle.process.specs.Request.{created}
use Rattle.state.specs.Records.{lowest_absent, nobody as no_process}
use Rattle.state.specs.Layout.{free_bytes}
use Rattle.rules.specs.Rule.{Rule, Public, public, rule_of, names, creates, size_asked}
use Rattle.rules.specs.Tests.{State, record_of, no_place, asked_tests, request_tests, request_number}
use Rattle.rules.specs.Access.{by, insider, alone, number_at}
use Rattle.rules.specs.Step.{Call, request, step}
use Rattle.rules.specs.Turn.{rule_access, create_access, place_tests, request_place, message_tests, request_turn, turn_of, buffers_of}
use Rattle.rules.specs.Ready.{Ready}
use Rattle.rules.specs.Isolation.{Processes, names_one, deposits, without_string, asker, subject, event, passed_over, fields_of, is_granted, public_then, told_of, public_of}
use Rattle.rules.specs.Total.{tests_of, numbers_of, one_of}
use Rattle.rules.proofs.ProperLaws.{new-proper, create-size}
use Rattle.rules.proofs.StateLaws.{extent_of, Fits, each-sound, layout_of, used-shown, fits_kept}
use Rattle.rules.proofs.RuleLaws.{Passing, Open, Kept, Row, rule-row}
use Rattle.rules.proofs.RuleLaws.{Taking as RowTaking}
use Rattle.rules.proofs.NumberLaws.{by-test, same_cond, first-listed, or_else-zero, first-append, Sent, layout-sent}
use Rattle.rules.proofs.TurnLaws.{request-number, request-turn}
use Rattle.rules.proofs.AccessLaws.{Taking, May, Discreet, Fair, outer_number}
use Rattle.rules.proofs.CallLaws.{Shown, Silent, There, Nowhere, Placed, Lawful}

-- ---- an op code that names a process

-- a test that does not fail passes
passes : (t : Bool) → not t ≡ false → t ≡ true
passes t e = not-false t e

-- all that a request passed that is granted
pub rule-passing : (r : Rule) (h : Header) (string : List ℕ) → (h.host ≡ 0 → ⊥) → length string ≤ h.arg2 → (l : Local) → number_at (rule_access r h string) l ≡ 0
    → Passing r h string l.process
unfolding rule_access number_at public
rule-passing r h string asked carried l z =
    let o = or_else-zero (outer_number (rule_access r h string) l) (first_failing ((rule_access r h string).inner l)) z in
    let e8 = rest-passes 6 _ _ o.0 in
    let e9 = o.1 in
    let e10 = rest-passes 8 _ _ e9 in
    let e11 = rest-passes 9 _ _ e10 in
    let e12 = rest-passes 10 _ _ e11 in
    let e16 = rest-passes 11 _ _ e12 in
    record {
      there = passes _ (head-passes 6 _ _ o.0);
      asked = asked;
      carried = carried;
      right = passes _ (head-passes 7 _ _ e8);
      unwatched = passes _ (head-passes 14 _ _ (rest-passes 7 _ _ e8));
      runs = passes _ (head-passes 8 _ _ e9);
      range = passes _ (head-passes 9 _ _ e10);
      room = passes _ (head-passes 10 _ _ e11);
      found = passes _ (head-passes 11 _ _ e12);
      his = passes _ (head-passes 15 _ _ e16);
    }

module _ (cmd : ℕ) (r : Rule) (row : Row cmd r) (h : Header) (string : List ℕ) (asked : h.host ≡ 0 → ⊥) (carried : length string ≤ h.arg2) where
  open_none : Open r → (l : Local) → first_failing ((rule_access r h string).inner l) ≡ 0
  unfolding rule_access first_failing
  open_none o l = rw (o.runs l.process.run, o.range h l.process.size, o.room h l.process, o.found h l.process, o.his h l.process)

  rule-guarded : (u : Public) → first_failing ((rule_access r h string).outer u) ≡ 0 → May (by h.host) u (rule_access r h string) (public_then cmd h.host)
  unfolding rule_access May
  rule-guarded u e = go (row.guarded u h.host asked (not-false _ (head-passes 7 _ _ (rest-passes 6 _ _ e))))
    where
      go : (insider u h.host ≡ true) ⊎ RowTaking cmd r → (insider u h.host ≡ true) ⊎ Taking h.host (rule_access r h string) (public_then cmd h.host)
      go (inl i) = inl i
      go (inr t) = inr (record {
        none = open_none t.free;
        blind = λ l k. ap₂ (λ (header : Header) (string : List ℕ). alone (written header string)) (t.free.header h l ∙ sym (t.free.header h k)) (t.free.shown h l ∙ sym (t.free.shown h k));
        takes = inl (λ v. t.takes h.host asked v);
      })

  rule-keeps : (l : Local) → Proper l → number_at (rule_access r h string) l ≡ 0 → Proper (r.effect h string l)
  rule-keeps l g z = row.keeps h string l g (rule-passing r h string asked carried l z)

  rule-fair : Fair (by h.host) (rule_access r h string) (public_then cmd h.host)
  unfolding rule_access Kept Discreet
  rule-fair = record {
    publicly = λ l z. row.publicly h string l;
    keeps = rule-keeps;
    guarded = rule-guarded;
    hides = from row.discreet;
    plain = λ l k e. refl;
    discreet = λ l g. tt;
  }
    where
      from : Kept cmd ⊎ Open r → ((u : Public) → public_then cmd h.host u ≡ u) ⊎ ((l : Local) → first_failing ((rule_access r h string).inner l) ≡ 0)
      from (inl k) = inl (k h.host)
      from (inr o) = inr (open_none o)

-- ---- CREATE

-- no request that names a process gives it more bytes
then-narrows : (cmd asker : ℕ) (u : Public) → extent_of (public_then cmd asker u) ≤ extent_of u
unfolding public_then
then-narrows cmd asker u =
    by-test (λ (v : Public). extent_of v ≤ extent_of u) (eqb cmd 1) (λ e. omega arith)
    (λ e. by-test (λ (v : Public). extent_of v ≤ extent_of u) (eqb cmd 2) (λ i. omega arith)
    (λ i. by-test (λ (v : Public). extent_of v ≤ extent_of u) (eqb cmd 13) (λ j. omega arith)
    (λ j. by-test (λ (v : Public). extent_of v ≤ extent_of u) (eqb cmd 14) (λ k. omega arith)
    (λ k. by-test (λ (v : Public). extent_of v ≤ extent_of u) (eqb cmd 15) (λ n. omega arith) (λ n. omega arith)))))

abbrev pub created_then : Header → Public → Public
created_then h u = record { there = true; host = h.host; watcher = 0; size = size_asked h }

-- the size that a CREATE asks for is right
pub asked-right : (h : Header) → FittingSize h.arg1 → SizeRight (size_asked h)
unfolding size_asked
asked-right h f = go (eqb h.arg1 0) refl
  where
    go : (t : Bool) → eqb h.arg1 0 ≡ t → SizeRight (cond t 4096 h.arg1)
    go true e = record { even = refl; least = omega arith; most = omega arith }
    go false e = record { even = f.even; least = omega (arith, f.even, eqb-false h.arg1 0 e); most = f.most }

create-fair : (h : Header) (p : ℕ) → (h.host ≡ 0 → ⊥) → SizeRight (size_asked h) → Fair (by h.host) (create_access h p) (created_then h)
unfolding create_access May Discreet insider first_failing public created fresh
create-fair h p asked right = record {
  publicly = λ l z. refl;
  keeps = λ l g z. new-proper h.host (size_asked h) ((create_access h p).effect l).bytes right (create-size h.host (size_asked h));
  guarded = λ u z. inr (record { none = λ l. refl; blind = λ l k. refl; takes = inl (λ v. rw (ne_eqb h.host 0 asked, eq-eqb h.host h.host refl)) });
  hides = inr (λ l. refl);
  plain = λ l k e. refl;
  discreet = λ l g. tt;
}

-- the process that CREATE takes is absent
pub lowest-absent : (s : State) → Ready s → lowest_absent s.records < 8 → (record_of s (lowest_absent s.records)).there ≡ false
unfolding lowest_absent
lowest-absent s r low =
    let e = r.processes in
    not-true _ (first_passes (λ (p : Process). not p.there) s.records.processes no_process (omega (arith, low, e)))

-- and has a place
pub has-place : (h : Header) (s : State) → no_place h s ≡ false → (lowest_absent s.records < 8) × (size_asked h ≤ free_bytes s.records)
has-place h s e =
    (ltb-true _ 8 (not-false _ (||-left (not (ltb (lowest_absent s.records) 8)) _ e)), ltb-false _ _ (||-right (not (ltb (lowest_absent s.records) 8)) _ e))

pub fits-created : (s : State) → Ready s → (h : Header) → lowest_absent s.records < 8 → size_asked h ≤ free_bytes s.records
    → Fits s (lowest_absent s.records) (created_then h (public_of s (lowest_absent s.records)))
unfolding public
fits-created s r h low free = record {
  kept = λ e i. absurd (true≢false (sym e ∙ lowest-absent s r low));
  room = λ e. let all = (layout_of s r).fits in omega arith;
}

-- a request that names a process keeps its size, or ends it
fits-named : (s : State) → Ready s → (cmd asker p : ℕ) → Fits s p (public_then cmd asker (public_of s p))
unfolding public_then
fits-named s r cmd asker p =
    by-test (Fits s p) (eqb cmd 1) (λ e. same (fits_kept s r p)) (λ e. by-test (Fits s p) (eqb cmd 2) (λ i. same (fits_kept s r p))
    (λ i. by-test (Fits s p) (eqb cmd 13) (λ j. record { kept = λ b a. absurd (true≢false (sym a)); room = λ b. let all = (layout_of s r).fits in omega arith })
    (λ j. by-test (Fits s p) (eqb cmd 14) (λ k. same (fits_kept s r p)) (λ k. by-test (Fits s p) (eqb cmd 15) (λ n. same (fits_kept s r p)) (λ n. fits_kept s r p)))))
  where
    same : {host watcher : ℕ} → Fits s p (public_of s p) → Fits s p (record { there = (public_of s p).there; host = host; watcher = watcher; size = (public_of s p).size })
    same f = record { kept = f.kept; room = f.room }

-- the record that CREATE takes has no host
absent-unheld : (s : State) → Ready s → lowest_absent s.records < 8 → (public_of s (lowest_absent s.records)).host ≡ 0
unfolding public
absent-unheld s r low = ((each-sound s r (lowest_absent s.records) low).absent (lowest-absent s r low)).0

-- and so no watcher
absent-unwatched : (s : State) → Ready s → lowest_absent s.records < 8 → 0 ≡ (public_of s (lowest_absent s.records)).watcher
unfolding public
absent-unwatched s r low = go (eqb (public_of s q).watcher 0) refl
  where
    q : ℕ
    q = lowest_absent s.records

    go : (t : Bool) → eqb (public_of s q).watcher 0 ≡ t → 0 ≡ (public_of s q).watcher
    go true e = sym (eqb-true _ 0 e)
    go false e = absurd (((each-sound s r q low).watched (eqb-false _ 0 e)).0 (absent-unheld s r low))

pub same-absent : (s t : State) → Ready s → Ready t → Shown s t → lowest_absent s.records ≡ lowest_absent t.records
unfolding lowest_absent public
same-absent s t r q a =
    let e = r.processes in let i = q.processes in
    first_alike (λ (p : Process). not p.there) s.records.processes t.records.processes no_process (e ∙ sym i)
    (λ k h. ap (λ (u : Public). not u.there) (a k (omega (arith, h, e))))

-- no op code both names a process and creates one
create-unnamed : (cmd : ℕ) → names cmd ≡ true → creates cmd ≡ false
unfolding names
create-unnamed cmd n = go (eqb cmd 12) refl
  where
    go : (t : Bool) → eqb cmd 12 ≡ t → t ≡ false
    go true e = absurd (true≢false (sym n ∙ ap names (eqb-true cmd 12 e)))
    go false e = refl

-- ---- where a request goes

module _ (m buffer : List ℕ) (s : State) (r : Ready s) (sent : Sent m) where
  abbrev h : Header
  h = header_of m

  abbrev here : Call
  here = request m buffer

  known : Row (header_of m).cmd (rule_of (header_of m).cmd)
  known = rule-row (header_of m).cmd sent.asked.known

  long : leb 10 (length m) ≡ true
  long = le-leb 10 (length m) sent.long

  place-named : names (header_of m).cmd ≡ true → (header_of m).pid < 8 → There s here h.pid (rule_access (rule_of h.cmd) h (string_of m))
  unfolding asker subject names_one fields_of buffers_of told_of is_granted rule_access
  place-named n low = record {
    low = low;
    then = public_then h.cmd h.host;
    fair = rule-fair h.cmd (rule_of h.cmd) known h (string_of m) sent.asked.hosted sent.carried;
    words = λ t l n. known.words h (string_of m) l n;
    fits = fits-named s r h.cmd h.host h.pid;
    narrows = λ e u. then-narrows h.cmd h.host u;
    named = λ P e. &&-right (names h.cmd) (P h.pid) (&&-right (leb 10 (length m)) (names h.cmd && P h.pid) e);
    reaches = inl (&&-both (leb 10 (length m)) _ long (&&-both (names h.cmd) _ n (eq-eqb h.pid h.pid refl)));
    carries = λ l e. absurd (true≢false (sym (eq-eqb h.cmd 12 e) ∙ create-unnamed h.cmd n));
    anew = λ e. absurd (true≢false (sym (eq-eqb h.cmd 12 e) ∙ create-unnamed h.cmd n));
    told = λ d l q. rw (n, create-unnamed h.cmd n);
    turns = λ z.
        let e8 = rest-passes 6 _ _ z in
        known.turns h refl (public_of s h.pid) (not-false _ (head-passes 7 _ _ e8)) (not-false _ (head-passes 14 _ _ (rest-passes 7 _ _ e8)));
  }

  place-created : names (header_of m).cmd ≡ false → creates (header_of m).cmd ≡ true → (lowest_absent s.records < 8) × (size_asked (header_of m) ≤ free_bytes s.records)
      → There s here (lowest_absent s.records) (create_access h (lowest_absent s.records))
  unfolding asker subject names_one fields_of buffers_of told_of is_granted create_access overlay written created_of created fresh
  place-created n c placed = record {
    low = placed.0;
    then = created_then h;
    fair = create-fair h (lowest_absent s.records) sent.asked.hosted (asked-right h (sent.size (eqb-true h.cmd 12 c)));
    fits = fits-created s r h placed.0 placed.1;
    words = λ t l n. refl;
    narrows = λ e u. absurd (e (eqb-true h.cmd 12 c));
    named = λ P e. absurd (true≢false (sym (&&-left (names h.cmd) (P h.pid) (&&-right (leb 10 (length m)) (names h.cmd && P h.pid) e)) ∙ n));
    reaches = inr (eqb-true h.cmd 12 c);
    carries = λ l e. refl;
    anew = λ e l k. refl;
    told = λ d l q. rw (n, c);
    turns = λ z. record {
      debugs = inr (inl (record { op = inr (eqb-true h.cmd 12 c); before = absent-unheld s r placed.0; after = refl }));
      watches = inl (absent-unwatched s r placed.0);
    };
  }

  place-idle : names (header_of m).cmd ≡ false → creates (header_of m).cmd ≡ false → Nowhere here (alone (written h []))
  unfolding fields_of told_of is_granted asker
  place-idle n c = record { told = λ d q. rw (n, c); quiet = λ e. absurd (let z : ◌≡◌ {A = ℕ} 0 1 = cc in omega arith) }

  placed-request : first_failing (place_tests h s) ≡ 0 → Placed s here (request_place h (string_of m) s)
  unfolding request_place place_tests Placed
  placed-request z = go (names h.cmd) refl (creates h.cmd) refl
    where
      go : (t : Bool) → names h.cmd ≡ t → (u : Bool) → creates h.cmd ≡ u → Placed s here (request_place h (string_of m) s)
      go true n u c = rw n (place-named n (ltb-true _ 8 (not-false _ (head-passes 6 _ _ (rw n at z)))))
      go false n true c = rw (n, c) (place-created n c (has-place h s (head-passes 12 _ _ (rw (n, c) at z))))
      go false n false c = rw (n, c) (place-idle n c)

-- ---- a request without its string

-- a byte before ARG2 stays, also where the message is shorter
before : (n : ℕ) (m : List ℕ) (i : ℕ) → i < n → get_or (take n m ++ (0 ∷ 0 ∷ [])) i 0 ≡ get_or m i 0
before zero m i l = absurd (omega (arith, l))
before (suc n) [] zero l = refl
before (suc n) [] (suc zero) l = refl
before (suc n) [] (suc (suc i)) l = refl
before (suc n) (x ∷ m) zero l = refl
before (suc n) (x ∷ m) (suc i) l = before n m i (omega (arith, l))

pub over-host : (m : List ℕ) → (header_of (without_string m)).host ≡ (header_of m).host
unfolding header_of
over-host m = before 8 m 1 (lit< tt)

pub over-cmd : (m : List ℕ) → (header_of (without_string m)).cmd ≡ (header_of m).cmd
unfolding header_of
over-cmd m = before 8 m 4 (lit< tt)

pub over-pid : (m : List ℕ) → (header_of (without_string m)).pid ≡ (header_of m).pid
unfolding header_of
over-pid m = before 8 m 5 (lit< tt)

deposit-is : (cmd : ℕ) (F : ℕ → Type 0) → F 4 → F 7 → deposits cmd ≡ true → F cmd
deposit-is cmd F four seven = go (eqb cmd 4) refl
  where
    go : (t : Bool) → eqb cmd 4 ≡ t → t || eqb cmd 7 ≡ true → F cmd
    go true e i = rw (eqb-true cmd 4 e) four
    go false e i = rw (eqb-true cmd 7 i) seven

deposit-kept : (cmd : ℕ) → deposits cmd ≡ true → Kept cmd
unfolding Kept public_then
deposit-kept cmd = deposit-is cmd Kept (λ asker u. refl) (λ asker u. refl)

deposit-creates : (cmd : ℕ) → deposits cmd ≡ true → creates cmd ≡ false
deposit-creates cmd = deposit-is cmd (λ (n : ℕ). creates n ≡ false) refl refl

deposit-silent : (m buffer : List ℕ) → deposits (header_of m).cmd ≡ true → Silent (request m buffer)
unfolding told_of fields_of Kept
deposit-silent m buffer e d a q =
    rw (deposit-kept (header_of m).cmd e (header_of m).host (d q), deposit-creates (header_of m).cmd e, same_cond (names (header_of m).cmd && eqb q (header_of m).pid) (d q))
    (same_cond (is_granted a.outcome) (d q))

pub over-long : (m : List ℕ) → leb 10 (length m) ≡ true → leb 10 (length (without_string m)) ≡ true
over-long m e =
    let eight : length (take 8 m) ≡ 8 = length-take-le 8 m (omega (arith, leb-true 10 (length m) e)) in
    le-leb 10 (length (without_string m)) (omega (arith, length-append (take 8 m) (0 ∷ 0 ∷ []), eight))

-- ---- any request

module _ (m buffer : List ℕ) where
  request-alike : (s t : State) → Ready s → Ready t → Shown s t → request_turn m buffer s ≡ request_turn m buffer t
  unfolding request_turn place_tests request_place
  request-alike s t r q a = rw (r.memory, q.memory, r.sound, q.sound, same-absent s t r q a, used-shown s t a)

  request-placed : (s : State) → Ready s → first_failing (request_turn m buffer s).tests ≡ 0 → Placed s (request m buffer) (request_turn m buffer s).place
  unfolding request_turn
  request-placed s r z =
      let both = or_else-zero (first_failing (message_tests s m buffer)) (first_failing (place_tests (header_of m) s)) (sym (first-append (message_tests s m buffer) (place_tests (header_of m) s) refl) ∙ z) in
      placed-request m buffer s r (layout-sent m (rest-passes 1 _ _ (rest-passes 0 _ _ both.0))) both.1

  request-over : (P : Processes) → subject P (request m buffer) ≡ true → subject P (passed_over (request m buffer)) ≡ true
  unfolding subject passed_over names_one
  request-over P e =
      by-test (λ (n : List ℕ). leb 10 (length n) && (names (header_of n).cmd && P (header_of n).pid) ≡ true) (deposits (header_of m).cmd)
      (λ d. rw (over-cmd m, over-pid m)
      (&&-both (leb 10 (length (without_string m))) _ (over-long m (&&-left (leb 10 (length m)) _ e)) (&&-right (leb 10 (length m)) (names (header_of m).cmd && P (header_of m).pid) e)))
      (λ d. e)

  request-creates : (P : Processes) → subject P (request m buffer) ≡ true → creates (header_of m).cmd ≡ false
  unfolding subject names_one
  request-creates P e =
      create-unnamed (header_of m).cmd
      (&&-left (names (header_of m).cmd) (P (header_of m).pid) (&&-right (leb 10 (length m)) (names (header_of m).cmd && P (header_of m).pid) e))

  request-listed : (s : State) → one_of (numbers_of (request m buffer)) (first_failing (request_tests s m buffer)) ≡ true
  unfolding numbers_of asked_tests
  request-listed s = first-listed Listed (request_tests s m buffer) refl numbers
    where
      Listed : ℕ → Bool
      Listed = one_of (numbers_of (request m buffer))

      Each : List Test → Type 0
      Each ts = every (λ (t : Test). Listed t.number) ts ≡ true

      numbers : Each (request_tests s m buffer)
      numbers = by-test Each (names (header_of m).cmd) (λ e. refl) (λ e. by-test Each (creates (header_of m).cmd) (λ i. refl) (λ i. refl))

  pub request-lawful : Lawful (request m buffer)
  unfolding step turn_of buffers_of tests_of request_number event asker passed_over fields_of
  request-lawful = record {
    turn = request-turn m buffer;
    number = request-number m buffer;
    listed = request-listed;
    alike = request-alike;
    placed = request-placed;
    subject-creates = request-creates;
    event-asker = λ e. absurd (true≢false (sym e));
    event-silent = λ e. absurd (true≢false (sym e));
    over-asker = by-test (λ (n : List ℕ). by (header_of n).host ≡ by (header_of m).host) (deposits (header_of m).cmd) (λ d. ap by (over-host m)) (λ d. refl);
    over-subject = request-over;
    over-silent = by-test (λ (n : List ℕ). (request n buffer ≡ request m buffer) ⊎ (Silent (request m buffer) × Silent (request n buffer))) (deposits (header_of m).cmd)
        (λ d. inr (deposit-silent m buffer d, deposit-silent (without_string m) buffer (rw (over-cmd m) d))) (λ d. inl refl);
  }
