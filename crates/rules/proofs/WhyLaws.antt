-- The test that a query names is the request's own, and each fact is right. Assumes nothing.
use mathlib.Core.Path.{◌≡◌, refl, sym, ap, ◌∙◌, subst}
use mathlib.Core.Bool.{Bool, true, false, not, ◌&&◌, ◌||◌, true≢false}
use mathlib.Core.List.{List, [], ◌∷◌, ◌++◌}
use mathlib.Core.Logic.{◌⊎◌, inl, inr}
use Prim.Native.Nat.{ℕ, suc, ◌+◌, ◌-◌, ◌≤◌, ◌<◌, ◌%◌}
use native.Mathlib.Omega.{arith}
use borrow.Author.Tests.{eqb-true, eqb-false, not-false, eq-eqb, ne_eqb, leb-true, leb-false, le-leb, lt-leb, ltb-true, ltb-false, not-true}
use lib.ListN.{length, replicate, length-replicate, get_or-eq_default}
use lib.Dec.{eqb, leb, ltb}
use Rattle.lists.specs.Every.{every}
use Rattle.lists.proofs.Bool.{&&-left, &&-right, ||-left, ||-right}
use Rattle.format.specs.declared.header.Header.{Header}
use Rattle.format.specs.Outcome.{Test, test, number_of, first_failing}
use Rattle.format.specs.Layout.{header_of}
use Rattle.format.proofs.OutcomeLaws.{number_of-outcome}
use Rattle.run_state.specs.RunState.{run_number}
use Rattle.reasons.specs.declared.Reason.{Reason}
use Rattle.reasons.specs.declared.Reason.TheVariants.{Granted, Length, Debugger, RunState, Past, Full, Watcher, Setter, Other}
use Rattle.reasons.specs.declared.Limit.{Limit}
use Rattle.reasons.specs.declared.Limit.TheVariants.{End, Count, Last}
use Rattle.reasons.specs.Reason.{limit_number, reason_number, facts_of, fact_count}
use Rattle.process.specs.declared.record.Process.{Process}
use Rattle.breakpoints.specs.declared.entry_query.EntryQuery.TheVariants.{Free, At}
use Rattle.breakpoints.specs.Entry.{in_use}
use Rattle.breakpoints.specs.EntryQuery.{matches}
use Rattle.process.specs.Record.{entry}
use Rattle.process.specs.Find.{find}
use Rattle.process.specs.Request.{has_break, has_room, count_set_by, is_watched, may_have_more, has_room_for, is_his}
use Rattle.process.specs.Sound.{SizeRight}
use Rattle.process.proofs.FindLaws.{matches-at, find-before, find-matches}
use Rattle.process.proofs.EntryKept.{free-before}
use Rattle.ops.specs.Codes.{BREAK, DEPOSIT, DEPOSIT-VECTOR, EXAMINE}
use Rattle.ops.specs.Table.{ops, request_form}
use Rattle.breakpoints.specs.Entry.{valid_break_address}
use Rattle.format.specs.Layout.{fixed_right}
use Rattle.format.specs.Refusal.{layout_tests}
use Rattle.rules.specs.Rule.{Rule, public, up_to, examine_rule, no_rule, rules, rule_of, names, creates}
use Rattle.rules.specs.Tests.{State, lent, record_of, absent, unsound, no_place, no_room, outer_tests, rule_tests, asked_tests}
use Rattle.rules.specs.Why.{end_for, limit_passed, excess_over, full_of, who_set, reason_for, why_number, why_of}
use Rattle.rules.specs.Step.{local_of, request, query, request_step, query_step, step}
use Rattle.rules.specs.Total.{tests_of, one_of}
use Rattle.rules.specs.WhyRight.{asked_about, PastEnd, PastCount, PastLast, LimitBy, FullBy, SetBy, Shaped, told_number, told_facts, WhyRight}
use Rattle.rules.proofs.NumberLaws.{or_else, by-test, first-listed}
use Rattle.rules.proofs.RuleLaws.{Each, each-rule}
use Rattle.rules.proofs.TotalLaws.{told}
use Rattle.rules.proofs.QueryLaws.{AllOf, one-of, away-listed, query-number, query-placed}
use Rattle.rules.proofs.AccessLaws.{Taking, May, outer_number}
use Rattle.rules.proofs.CallLaws.{There, Placed}
use Rattle.rules.proofs.TurnLaws.{place_number, turn_number}
use Rattle.state.specs.Layout.{capacity}
use Rattle.state.specs.Sound.{sound_test}
use Rattle.state.proofs.SoundLaws.{state-sound}
use Rattle.process.specs.Local.{Local}
use Rattle.rules.specs.Access.{insider, Access, number_at}
use Rattle.rules.specs.Turn.{query_access, query_turn}
use Rattle.rules.specs.Isolation.{asker, sent_to, public_of}
use Rattle.rules.specs.Ready.{Ready}

-- ---- the facts of a number

-- what a reason says, of the test with this number
unfoldable pub Fact : ℕ → Header → ℕ → Process → Reason → Type 0
Fact n h count p Granted = n ≡ 0
Fact n h count p (Length k) = (n ≡ 3) × (k ≡ count)
Fact n h count p (Debugger host) = (n ≡ 8) × (host ≡ p.host)
Fact n h count p (RunState run) = (n ≡ 9) × (run ≡ run_number p.run)
Fact n h count p (Past limit excess) = (n ≡ 10) × ((limit ≡ limit_passed h p.size) × (excess ≡ excess_over limit h p.size))
Fact n h count p (Full entries) = (n ≡ 11) × (entries ≡ full_of p)
Fact n h count p (Watcher host) = (n ≡ 15) × (host ≡ p.session.watcher)
Fact n h count p (Setter host) = (n ≡ 16) × (host ≡ who_set h p)
Fact n h count p (Other k) = (n ≡ k) × (one_of (0 ∷ 3 ∷ 8 ∷ 9 ∷ 10 ∷ 11 ∷ 15 ∷ 16 ∷ []) k ≡ false)

fact : (n : ℕ) (h : Header) (count : ℕ) (p : Process) → Fact n h count p (reason_for n h count p)
unfolding Fact reason_for
fact n h count p =
    by-test F (eqb n 0) (λ e. eqb-true n 0 e)
    (λ e0. by-test F (eqb n 3) (λ e. (eqb-true n 3 e, refl))
    (λ e3. by-test F (eqb n 8) (λ e. (eqb-true n 8 e, refl))
    (λ e8. by-test F (eqb n 9) (λ e. (eqb-true n 9 e, refl))
    (λ e9. by-test F (eqb n 10) (λ e. (eqb-true n 10 e, (refl, refl)))
    (λ e10. by-test F (eqb n 11) (λ e. (eqb-true n 11 e, refl))
    (λ e11. by-test F (eqb n 15) (λ e. (eqb-true n 15 e, refl))
    (λ e15. by-test F (eqb n 16) (λ e. (eqb-true n 16 e, refl)) (λ e16. (refl, rw (e0, e3, e8, e9, e10, e11, e15, e16))))))))))
  where
    F : Reason → Type 0
    F = Fact n h count p

-- the number of a reason is that of the test
fact-number : (n : ℕ) (h : Header) (count : ℕ) (p : Process) (r : Reason) → Fact n h count p r → reason_number r ≡ n
unfolding Fact
fact-number n h count p Granted f = sym f
fact-number n h count p (Length k) f = sym f.0
fact-number n h count p (Debugger host) f = sym f.0
fact-number n h count p (RunState run) f = sym f.0
fact-number n h count p (Past limit excess) f = sym f.0
fact-number n h count p (Full entries) f = sym f.0
fact-number n h count p (Watcher host) f = sym f.0
fact-number n h count p (Setter host) f = sym f.0
fact-number n h count p (Other k) f = sym f.0

-- of the reason that a query gives
pub why-fact : (s : State) (m : List ℕ) (r : Reason) → why_of s m ≡ r → Fact (why_number s m) (header_of m) (length m) (asked_about s m) r
unfolding why_of
why-fact s m r e = subst (Fact (why_number s m) (header_of m) (length m) (asked_about s m)) e (fact (why_number s m) (header_of m) (length m) (asked_about s m))

-- as many facts as go with its number
Counts : Reason → Type 0
Counts r = length (facts_of r) ≡ fact_count (reason_number r)

facts-counted : (n : ℕ) (h : Header) (count : ℕ) (p : Process) → Counts (reason_for n h count p)
unfolding reason_for facts_of fact_count Counts
facts-counted n h count p =
    by-test Counts (eqb n 0) (λ e. refl)
    (λ e. by-test Counts (eqb n 3) (λ e. refl)
    (λ e3. by-test Counts (eqb n 8) (λ e. refl)
    (λ e8. by-test Counts (eqb n 9) (λ e. refl)
    (λ e9. by-test Counts (eqb n 10) (λ e. refl)
    (λ e10. by-test Counts (eqb n 11) (λ e. refl)
    (λ e11. by-test Counts (eqb n 15) (λ e. refl)
    (λ e15. by-test Counts (eqb n 16) (λ e. refl) (λ e16. rw (e3, e8, e9, e10, e11, e15, e16)))))))))

pub fact-count : (s : State) (m : List ℕ) → length (facts_of (why_of s m)) ≡ fact_count (reason_number (why_of s m))
unfolding why_of Counts
fact-count s m = facts-counted (why_number s m) (header_of m) (length m) (asked_about s m)

-- ---- the number

pub reason-number : (s : State) (m : List ℕ) → reason_number (why_of s m) ≡ why_number s m
reason-number s m = fact-number (why_number s m) (header_of m) (length m) (asked_about s m) (why_of s m) (why-fact s m (why_of s m) refl)

pub number_is : (s : State) (m : List ℕ) → number_of (query_step m s).answer.outcome ≡ reason_number (why_of s m)
unfolding query_step
number_is s m = number_of-outcome (why_number s m) 0 ∙ sym (reason-number s m)

-- ---- the test that fails

-- of tests with different numbers, the one whose number is found has failed
failed : (k : ℕ) (b : Bool) (us : List Test) → every (λ (t : Test). not (eqb t.number (suc k))) us ≡ true → (ts : List Test)
    → every (λ (t : Test). not (eqb t.number (suc k))) ts ≡ true → first_failing (ts ++ (test (suc k) b ∷ us)) ≡ suc k → b ≡ true
unfolding first_failing
failed k true us after [] before e = refl
failed k false us after [] before e =
    absurd (true≢false (sym (first-listed (λ (n : ℕ). not (eqb n (suc k))) us (ap not (ne_eqb 0 (suc k) (λ z. omega (arith, z)))) after) ∙ ap (λ (n : ℕ). not (eqb n (suc k))) e ∙ ap not (eq-eqb (suc k) (suc k) refl)))
failed k b us after (t ∷ ts) before e = go t.fails refl (failed k b us after ts (&&-right (not (eqb t.number (suc k))) _ before))
  where
    go : (c : Bool) → t.fails ≡ c → (first_failing (ts ++ (test (suc k) b ∷ us)) ≡ suc k → b ≡ true) → b ≡ true
    go true i rest =
        let same : t.number ≡ suc k = rw i at e in
        absurd (true≢false (sym (eq-eqb t.number (suc k) same) ∙ not-true (eqb t.number (suc k)) (&&-left (not (eqb t.number (suc k))) _ before)))
    go false i rest = rest (rw i at e)

-- ---- which op codes have a range

-- how a request is out of it
data Ranged (cmd : ℕ) (h : Header) (size : ℕ) : Type 0 where
  stores : cmd ≡ DEPOSIT → size < h.arg1 + h.arg2 → Ranged cmd h size
  shows : cmd ≡ EXAMINE → size < h.arg1 + h.arg2 → Ranged cmd h size
  counts : cmd ≡ EXAMINE → h.arg1 + h.arg2 ≤ size → 256 < h.arg2 → Ranged cmd h size
  sets : cmd ≡ DEPOSIT-VECTOR → 18 < h.arg1 + h.arg2 → Ranged cmd h size
  breaks : cmd ≡ BREAK → valid_break_address size h.arg1 ≡ false → Ranged cmd h size

abbrev RangeRow : ℕ → Rule → Type 0
RangeRow cmd r = (h : Header) (size : ℕ) → r.range h size ≡ false → Ranged cmd h size

-- a row without a range
free : (cmd : ℕ) (h : Header) (size : ℕ) → true ≡ false → Ranged cmd h size
free cmd h size e = absurd (true≢false e)

past : (end : ℕ) (h : Header) → up_to end h ≡ false → end < h.arg1 + h.arg2
past end h e = leb-false (h.arg1 + h.arg2) end e

examine-range : RangeRow 6 examine_rule
examine-range h size e = go (up_to size h) refl
  where
    go : (t : Bool) → up_to size h ≡ t → Ranged 6 h size
    go true i = counts refl (leb-true (h.arg1 + h.arg2) size i) (leb-false h.arg2 256 (rw i at e))
    go false i = shows refl (past size h i)

each-range : Each RangeRow 0 rules
each-range = (
  free 0,
  (
    free 1,
    (
      free 2,
      (
        free 3,
        (
          (λ h size e. stores refl (past size h e)),
          (
            free 5,
            (
              examine-range,
              (
                (λ h size e. sets refl (past 18 h e)),
                (
                  (λ h size e. breaks refl e),
                  (free 9, (free 10, (free 11, (free 12, (free 13, (free 14, (free 15, (free 16, tt)))))))),
                ),
              ),
            ),
          ),
        ),
      ),
    ),
  ),
)

range-row : (cmd : ℕ) → RangeRow cmd (rule_of cmd)
unfolding rule_of
range-row cmd h size e = go (ltb cmd (length ops)) refl
  where
    go : (t : Bool) → ltb cmd (length ops) ≡ t → Ranged cmd h size
    go true i = each-rule RangeRow each-range cmd (ltb-true cmd (length ops) i) h size e
    go false i =
        let none = get_or-eq_default rules no_rule (ltb-false cmd (length ops) i) in
        absurd (true≢false (rw none at e))

-- ---- by how much

-- the limits are three
differ : (a b : Limit) → a ≡ b → (limit_number a ≡ limit_number b → ⊥) → ⊥
differ a b e n = n (ap limit_number e)

valid-both : (size a : ℕ) → eqb (a % 2) 0 ≡ true → leb (a + 2) size ≡ true → valid_break_address size a ≡ true
unfolding valid_break_address
valid-both size a e i = rw (e, i)

module _ (h : Header) (size n : ℕ) where
  -- past an end that does not depend on the op code any more
  past_end : (end : ℕ) → end_for h size ≡ end → end < h.arg1 + h.arg2 → n ≡ excess_over End h size → (0 < n) × (h.arg1 + h.arg2 ≡ end + n)
  unfolding excess_over
  past_end end e lt k = let k' : n ≡ h.arg1 + h.arg2 - end = rw e at k in (omega (arith, k', lt), omega (arith, k', lt))

  by_end : Ranged h.cmd h size → End ≡ limit_passed h size → n ≡ excess_over End h size → PastEnd h size n
  unfolding PastEnd end_for limit_passed
  by_end (stores c lt) l k = let x = past_end size (rw c) lt k in (x.0, inr (inr c, x.1))
  by_end (shows c lt) l k = let x = past_end size (rw c) lt k in (x.0, inr (inl c, x.1))
  by_end (counts c le more) l k = absurd (differ End Count (rw (c, le-leb (h.arg1 + h.arg2) size le) at l) (λ z. omega (arith, z)))
  by_end (sets c lt) l k = let x = past_end 18 (rw c) lt k in (x.0, inl (c, x.1))
  by_end (breaks c bad) l k = absurd (differ End Last (rw c at l) (λ z. omega (arith, z)))

  by_count : Ranged h.cmd h size → Count ≡ limit_passed h size → n ≡ excess_over Count h size → PastCount h size n
  unfolding end_for limit_passed excess_over
  by_count (stores c lt) l k = absurd (differ Count End (rw (c, lt-leb (h.arg1 + h.arg2) size lt) at l) (λ z. omega (arith, z)))
  by_count (shows c lt) l k = absurd (differ Count End (rw (c, lt-leb (h.arg1 + h.arg2) size lt) at l) (λ z. omega (arith, z)))
  by_count (counts c le more) l k = record { op = c; inside = le; more = omega (arith, k, more); count = omega (arith, k, more) }
  by_count (sets c lt) l k = absurd (differ Count End (rw (c, lt-leb (h.arg1 + h.arg2) 18 lt) at l) (λ z. omega (arith, z)))
  by_count (breaks c bad) l k = absurd (differ Count Last (rw c at l) (λ z. omega (arith, z)))

  by_last : SizeRight size → Ranged h.cmd h size → Last ≡ limit_passed h size → n ≡ excess_over Last h size → PastLast h size n
  unfolding PastLast end_for limit_passed excess_over
  by_last right (stores c lt) l k = absurd (differ Last End (rw (c, lt-leb (h.arg1 + h.arg2) size lt) at l) (λ z. omega (arith, z)))
  by_last right (shows c lt) l k = absurd (differ Last End (rw (c, lt-leb (h.arg1 + h.arg2) size lt) at l) (λ z. omega (arith, z)))
  by_last right (counts c le more) l k = absurd (differ Last Count (rw (c, le-leb (h.arg1 + h.arg2) size le) at l) (λ z. omega (arith, z)))
  by_last right (sets c lt) l k = absurd (differ Last End (rw (c, lt-leb (h.arg1 + h.arg2) 18 lt) at l) (λ z. omega (arith, z)))
  by_last right (breaks c bad) l k = (c, go (leb (h.arg1 + 2) size) refl (eqb (h.arg1 % 2) 0) refl)
    where
      go : (t : Bool) → leb (h.arg1 + 2) size ≡ t → (u : Bool) → eqb (h.arg1 % 2) 0 ≡ u
          → ((0 < n) × (h.arg1 + 2 ≡ size + n)) ⊎ ((n ≡ 0) × ((h.arg1 % 2 ≡ 1) × (h.arg1 + 2 ≤ size)))
      go true i true j = absurd (true≢false (sym (valid-both size h.arg1 j i) ∙ bad))
      go true i false j =
          let inside = leb-true (h.arg1 + 2) size i in
          inr (omega (arith, k, inside), (omega (arith, eqb-false (h.arg1 % 2) 0 j), inside))
      go false i u j = let over = leb-false (h.arg1 + 2) size i in inl (omega (arith, k, over, right.least), omega (arith, k, over, right.least))

-- ---- breakpoints

-- which op codes ask for room
RoomRow : ℕ → Rule → Type 0
RoomRow cmd r = (h : Header) (p : Process) → r.room h p ≡ false → has_room_for h.host h.arg1 p ≡ false

room_lacks : (h : Header) (p : Process) → true ≡ false → has_room_for h.host h.arg1 p ≡ false
room_lacks h p e = absurd (true≢false e)

each-room : Each RoomRow 0 rules
unfolding RoomRow
each-room = (
  room_lacks,
  (
    room_lacks,
    (
      room_lacks,
      (
        room_lacks,
        (
          room_lacks,
          (
            room_lacks,
            (
              room_lacks,
              (
                room_lacks,
                (
                  (λ h p e. e),
                  (room_lacks, (room_lacks, (room_lacks, (room_lacks, (room_lacks, (room_lacks, (room_lacks, (room_lacks, tt)))))))),
                ),
              ),
            ),
          ),
        ),
      ),
    ),
  ),
)

room_row : (cmd : ℕ) → RoomRow cmd (rule_of cmd)
unfolding rule_of RoomRow
room_row cmd h p e = go (ltb cmd (length ops)) refl
  where
    go : (t : Bool) → ltb cmd (length ops) ≡ t → has_room_for h.host h.arg1 p ≡ false
    go true i = each-rule RoomRow each-room cmd (ltb-true cmd (length ops) i) h p e
    go false i = let none = get_or-eq_default rules no_rule (ltb-false cmd (length ops) i) in absurd (true≢false (rw none at e))

-- whose a breakpoint is
HisRow : ℕ → Rule → Type 0
HisRow cmd r = (h : Header) (p : Process) → r.his h p ≡ false → is_his h.host h.arg1 p ≡ false

not-his : (h : Header) (p : Process) → true ≡ false → is_his h.host h.arg1 p ≡ false
not-his h p e = absurd (true≢false e)

each-his : Each HisRow 0 rules
unfolding HisRow
each-his = (
  not-his,
  (
    not-his,
    (
      not-his,
      (
        not-his,
        (
          not-his,
          (
            not-his,
            (
              not-his,
              (
                not-his,
                (
                  (λ h p e. e),
                  (
                    (λ h p e. e),
                    (not-his, (not-his, (not-his, (not-his, (not-his, (not-his, (not-his, tt))))))),
                  ),
                ),
              ),
            ),
          ),
        ),
      ),
    ),
  ),
)

his-row : (cmd : ℕ) → HisRow cmd (rule_of cmd)
unfolding rule_of HisRow
his-row cmd h p e = go (ltb cmd (length ops)) refl
  where
    go : (t : Bool) → ltb cmd (length ops) ≡ t → is_his h.host h.arg1 p ≡ false
    go true i = each-rule HisRow each-his cmd (ltb-true cmd (length ops) i) h p e
    go false i = let none = get_or-eq_default rules no_rule (ltb-false cmd (length ops) i) in absurd (true≢false (rw none at e))

-- none is free where there is no room
all-used : (p : Process) → has_room p ≡ false → (k : ℕ) → k < 8 → in_use (entry p k) ≡ true
unfolding has_room matches
all-used p e k low = go (in_use (entry p k)) refl
  where
    go : (t : Bool) → in_use (entry p k) ≡ t → t ≡ true
    go true i = refl
    go false i = absurd (find-before Free p k (omega (arith, low, ltb-false (find Free p) 8 e)) (rw i))

room-low : (p : Process) → has_room p ≡ true → find Free p < 8
unfolding has_room
room-low p e = ltb-true (find Free p) 8 e

by-full : (n : ℕ) (h : Header) (p : Process) → length p.breaks ≡ 8 → has_room_for h.host h.arg1 p ≡ false → n ≡ full_of p → FullBy n h p
unfolding FullBy full_of has_room_for may_have_more
by-full n h p eight e k = go (has_room p) refl
  where
    rest : has_room p && may_have_more h.host p ≡ false
    rest = ||-right (has_break h.arg1 p) _ e

    go : (t : Bool) → has_room p ≡ t → FullBy n h p
    go true i =
        let more : not (is_watched p) || ltb (count_set_by h.host p.breaks) 4 ≡ false = rw i at rest in
        let watched = eqb-false p.session.watcher 0 (not-true _ (not-false _ (||-left (not (is_watched p)) _ more))) in
        let four = ltb-false (count_set_by h.host p.breaks) 4 (||-right (not (is_watched p)) _ more) in
        inr (rw i at k, ((watched, four), (find Free p, room-low p i, free-before p eight i)))
    go false i = inl (rw i at k, all-used p i)

-- 16: there is a breakpoint at the address, and another set it
by-setter : (host : ℕ) (h : Header) (p : Process) → length p.breaks ≡ 8 → is_his h.host h.arg1 p ≡ false → host ≡ who_set h p
    → SetBy host h p
unfolding SetBy is_his who_set has_break
by-setter host h p eight e i =
    let low = ltb-true (find (At h.arg1) p) 8 (not-false _ (||-left (not (ltb (find (At h.arg1) p) 8)) _ e)) in
    let other = eqb-false _ _ (||-right (not (ltb (find (At h.arg1) p) 8)) _ e) in
    let at = matches-at h.arg1 (entry p (find (At h.arg1) p)) (find-matches (At h.arg1) p eight low) in
    ((λ z. other (sym i ∙ z)), (find (At h.arg1) p, low, (at.0, (at.1, sym i))))

module _ (s : State) (m : List ℕ) where
  abbrev h : Header
  h = header_of m

  abbrev p : Process
  p = record_of s (header_of m).pid

  abbrev r : Rule
  r = rule_of (header_of m).cmd

  -- the tests before those of the process by its row
  abbrev before : List Test
  before =
      (test 2 (unsound s) ∷ layout_tests (fixed_right m) (request_form (header_of m).cmd) (header_of m) (length m))
      ++ (test 7 (absent s (header_of m).pid) ∷ outer_tests (rule_of (header_of m).cmd) (header_of m) (public (record_of s (header_of m).pid)))

  -- where no process is named, no number from 8 to 12 is found, and neither are 15 and 16
  unnamed : names (header_of m).cmd ≡ false → one_of (0 ∷ 2 ∷ 3 ∷ 4 ∷ 5 ∷ 6 ∷ 13 ∷ []) (why_number s m) ≡ true
  unfolding why_number asked_tests
  unnamed n = rw n
      (by-test (λ (ts : List Test). one_of few (first_failing (head ++ ts)) ≡ true) (creates (header_of m).cmd)
      (λ c. first-listed (one_of few) (head ++ (test 13 (no_place (header_of m) s) ∷ [])) refl refl) (λ c. first-listed (one_of few) (head ++ []) refl refl))
    where
      few : List ℕ
      few = 0 ∷ 2 ∷ 3 ∷ 4 ∷ 5 ∷ 6 ∷ 13 ∷ []

      head : List Test
      head = test 2 (unsound s) ∷ layout_tests (fixed_right m) (request_form (header_of m).cmd) (header_of m) (length m)

  -- 10, 11 and 16, found: their tests fail
  ten : why_number s m ≡ 10 → (rule_of (header_of m).cmd).range (header_of m) (record_of s (header_of m).pid).size ≡ false
  unfolding why_number asked_tests
  ten e = go (names (header_of m).cmd) refl
    where
      go : (t : Bool) → names (header_of m).cmd ≡ t → r.range h p.size ≡ false
      go true n =
          not-true _ (failed 9 (not (r.range h p.size)) (test 11 (not (r.room h p)) ∷ test 12 (not (r.found h p)) ∷ test 16 (not (r.his h p)) ∷ []) refl
          (before ++ (test 9 (not (r.runs p.run)) ∷ [])) refl (rw n at e))
      go false n = absurd (true≢false (sym (unnamed n) ∙ ap (one_of (0 ∷ 2 ∷ 3 ∷ 4 ∷ 5 ∷ 6 ∷ 13 ∷ [])) e))

  eleven : why_number s m ≡ 11 → (rule_of (header_of m).cmd).room (header_of m) (record_of s (header_of m).pid) ≡ false
  unfolding why_number asked_tests
  eleven e = go (names (header_of m).cmd) refl
    where
      go : (t : Bool) → names (header_of m).cmd ≡ t → r.room h p ≡ false
      go true n =
          not-true _ (failed 10 (not (r.room h p)) (test 12 (not (r.found h p)) ∷ test 16 (not (r.his h p)) ∷ []) refl
          (before ++ (test 9 (not (r.runs p.run)) ∷ test 10 (not (r.range h p.size)) ∷ [])) refl (rw n at e))
      go false n = absurd (true≢false (sym (unnamed n) ∙ ap (one_of (0 ∷ 2 ∷ 3 ∷ 4 ∷ 5 ∷ 6 ∷ 13 ∷ [])) e))

  sixteen : why_number s m ≡ 16 → (rule_of (header_of m).cmd).his (header_of m) (record_of s (header_of m).pid) ≡ false
  unfolding why_number asked_tests
  sixteen e = go (names (header_of m).cmd) refl
    where
      go : (t : Bool) → names (header_of m).cmd ≡ t → r.his h p ≡ false
      go true n =
          not-true _ (failed 15 (not (r.his h p)) [] refl
          (before ++ (test 9 (not (r.runs p.run)) ∷ test 10 (not (r.range h p.size)) ∷ test 11 (not (r.room h p)) ∷ test 12 (not (r.found h p)) ∷ [])) refl (rw n at e))
      go false n = absurd (true≢false (sym (unnamed n) ∙ ap (one_of (0 ∷ 2 ∷ 3 ∷ 4 ∷ 5 ∷ 6 ∷ 13 ∷ [])) e))

-- ---- the theorem

same_number : (s : State) (m buffer : List ℕ) → no_room s.memory buffer ≡ false
    → number_of (query_step m s).answer.outcome ≡ number_of (request_step m buffer s).answer.outcome
unfolding step tests_of query_step why_number first_failing
same_number s m buffer e = number_of-outcome (why_number s m) 0 ∙ sym ((told s (request m buffer)).is ∙ rw e)

-- ---- the process is there

-- a test before the one whose number is found has passed
passed-by : (n k : ℕ) (b : Bool) (us : List Test) → (k ≡ n → ⊥) → (ts : List Test) → every (λ (t : Test). not (eqb t.number n)) ts ≡ true
    → first_failing (ts ++ (test k b ∷ us)) ≡ n → b ≡ false
unfolding first_failing
passed-by n k true us other [] before e = absurd (other e)
passed-by n k false us other [] before e = refl
passed-by n k b us other (t ∷ ts) before e = go t.fails refl (passed-by n k b us other ts (&&-right (not (eqb t.number n)) _ before))
  where
    go : (c : Bool) → t.fails ≡ c → (first_failing (ts ++ (test k b ∷ us)) ≡ n → b ≡ false) → b ≡ false
    go true i rest =
        let same : t.number ≡ n = rw i at e in
        absurd (true≢false (sym (eq-eqb t.number n same) ∙ not-true (eqb t.number n) (&&-left (not (eqb t.number n)) _ before)))
    go false i rest = rest (rw i at e)

-- the numbers of tests that a process has to be there for
abbrev inner : List ℕ
inner = 10 ∷ 11 ∷ 16 ∷ []

head-other : (s : State) (m : List ℕ) (n : ℕ) → one_of inner n ≡ true
    → every (λ (t : Test). not (eqb t.number n)) (test 2 (unsound s) ∷ layout_tests (fixed_right m) (request_form (header_of m).cmd) (header_of m) (length m)) ≡ true
unfolding AllOf
head-other s m =
    one-of (λ (n : ℕ). every (λ (t : Test). not (eqb t.number n)) (test 2 (unsound s) ∷ layout_tests (fixed_right m) (request_form (header_of m).cmd) (header_of m) (length m)) ≡ true) inner
    (refl, (refl, (refl, tt)))

few-other : (n : ℕ) → one_of inner n ≡ true → one_of (0 ∷ 2 ∷ 3 ∷ 4 ∷ 5 ∷ 6 ∷ 13 ∷ []) n ≡ true → ⊥
unfolding AllOf
few-other =
    one-of (λ (n : ℕ). one_of (0 ∷ 2 ∷ 3 ∷ 4 ∷ 5 ∷ 6 ∷ 13 ∷ []) n ≡ true → ⊥) inner ((λ z. true≢false (sym z)), ((λ z. true≢false (sym z)), ((λ z. true≢false (sym z)), tt)))

found-there : (s : State) (m : List ℕ) (n : ℕ) → why_number s m ≡ n → one_of inner n ≡ true → (header_of m).pid < 8
unfolding why_number asked_tests
found-there s m n e i = go (names (header_of m).cmd) refl
  where
    head : List Test
    head = test 2 (unsound s) ∷ layout_tests (fixed_right m) (request_form (header_of m).cmd) (header_of m) (length m)

    other : (n : ℕ) → one_of inner n ≡ true → 7 ≡ n → ⊥
    other n i z = true≢false (sym i ∙ ap (one_of inner) (sym z))

    go : (t : Bool) → names (header_of m).cmd ≡ t → (header_of m).pid < 8
    go true named =
        let there = passed-by n 7 (absent s (header_of m).pid) (rule_tests (rule_of (header_of m).cmd) (header_of m) (record_of s (header_of m).pid)) (other n i) head (head-other s m n i) (rw named at e) in
        ltb-true (header_of m).pid 8 (&&-left (ltb (header_of m).pid 8) _ (not-false _ there))
    go false named = absurd (few-other n i (subst (λ (k : ℕ). one_of (0 ∷ 2 ∷ 3 ∷ 4 ∷ 5 ∷ 6 ∷ 13 ∷ []) k ≡ true) e (unnamed s m named)))

-- ---- a stranger

-- the numbers of the tests by the process
abbrev inside : List ℕ
inside = 9 ∷ 10 ∷ 11 ∷ 12 ∷ 16 ∷ []

away-other : (n : ℕ) → one_of inside n ≡ true → one_of (0 ∷ 2 ∷ 3 ∷ 4 ∷ 5 ∷ 6 ∷ 7 ∷ 13 ∷ []) n ≡ true → ⊥
unfolding AllOf
away-other =
    one-of (λ (n : ℕ). one_of (0 ∷ 2 ∷ 3 ∷ 4 ∷ 5 ∷ 6 ∷ 7 ∷ 13 ∷ []) n ≡ true → ⊥) inside
    ((λ z. true≢false (sym z)), ((λ z. true≢false (sym z)), ((λ z. true≢false (sym z)), ((λ z. true≢false (sym z)), ((λ z. true≢false (sym z)), tt)))))

outer-listed : (r : Rule) (h : Header) (count : ℕ) (l : Local) → one_of (0 ∷ 7 ∷ 8 ∷ 15 ∷ []) (outer_number (query_access r h count) l) ≡ true
unfolding query_access
outer-listed r h count l = first-listed (one_of (0 ∷ 7 ∷ 8 ∷ 15 ∷ [])) ((query_access r h count).outer (public l.process)) refl refl

outer-other : (n : ℕ) → one_of inside n ≡ true → one_of (0 ∷ 7 ∷ 8 ∷ 15 ∷ []) n ≡ true → ⊥
unfolding AllOf
outer-other =
    one-of (λ (n : ℕ). one_of (0 ∷ 7 ∷ 8 ∷ 15 ∷ []) n ≡ true → ⊥) inside
    ((λ z. true≢false (sym z)), ((λ z. true≢false (sym z)), ((λ z. true≢false (sym z)), ((λ z. true≢false (sym z)), ((λ z. true≢false (sym z)), tt)))))

module _ (s : State) (m : List ℕ) (r : Ready s) (out : insider (public_of s (header_of m).pid) (header_of m).host ≡ false) (told-inside : one_of inside (why_number s m) ≡ true) where
  abbrev at : Access
  at = query_access (rule_of (header_of m).cmd) (header_of m) (length m)

  abbrev l : Local
  l = local_of s (header_of m).pid

  not-zero : why_number s m ≡ 0 → ⊥
  not-zero z = true≢false (sym told-inside ∙ ap (one_of inside) z)

  not_there : There s (query m) (header_of m).pid (query_access (rule_of (header_of m).cmd) (header_of m) (length m))
      → why_number s m ≡ number_at (query_access (rule_of (header_of m).cmd) (header_of m) (length m)) (local_of s (header_of m).pid) → ⊥
  unfolding asker May number_at
  not_there t n = go (eqb (outer_number at l) 0) refl
    where
      looks : (insider (public_of s (header_of m).pid) (header_of m).host ≡ true) ⊎ Taking (header_of m).host at t.then → eqb (outer_number at l) 0 ≡ true → ⊥
      looks (inl i) z = true≢false (sym i ∙ out)
      looks (inr k) z = not-zero (n ∙ rw z (k.none l))

      go : (b : Bool) → eqb (outer_number at l) 0 ≡ b → ⊥
      go true z = looks (t.fair.guarded (public_of s (header_of m).pid) (eqb-true _ 0 z)) z
      go false z =
          outer-other (why_number s m) told-inside
          (subst (λ (k : ℕ). one_of (0 ∷ 7 ∷ 8 ∷ 15 ∷ []) k ≡ true) (sym (rw z at n)) (outer-listed (rule_of (header_of m).cmd) (header_of m) (length m) l))

  not-placed : Placed s (query m) (query_turn m s).place → why_number s m ≡ place_number (query_turn m s).place s → ⊥
  unfolding query_turn Placed place_number
  not-placed t n = go (names (header_of m).cmd) refl
    where
      go : (b : Bool) → names (header_of m).cmd ≡ b → ⊥
      go true e = not_there (rw e at t) (rw e at n)
      go false e = not-zero (rw e at n)

  stranger-told : ⊥
  unfolding turn_number
  stranger-told = go (eqb (first_failing (query_turn m s).tests) 0) refl
    where
      number : why_number s m ≡ or_else (first_failing (query_turn m s).tests) (place_number (query_turn m s).place s)
      number = sym (query-number m s)

      go : (b : Bool) → eqb (first_failing (query_turn m s).tests) 0 ≡ b → ⊥
      go true z = not-placed (query-placed m s r (eqb-true _ 0 z)) (rw z at number)
      go false z = away-other (why_number s m) told-inside (subst (λ (k : ℕ). one_of (0 ∷ 2 ∷ 3 ∷ 4 ∷ 5 ∷ 6 ∷ 7 ∷ 13 ∷ []) k ≡ true) (sym (rw z at number)) (away-listed m s))

-- ---- any state, whatever the memory

-- where another test than 2 fails, or none, the records are sound
sound-of : (s : State) (m : List ℕ) (n : ℕ) → why_number s m ≡ n → (2 ≡ n → ⊥) → sound_test s.records ≡ true
unfolding why_number
sound-of s m n e other =
    not-false _ (passed-by n 2 (unsound s) (layout_tests (fixed_right m) (request_form (header_of m).cmd) (header_of m) (length m) ++ asked_tests (header_of m) s) other [] refl e)

-- the same records with a memory of the right length
abbrev rested : State → State
rested s = lent s.records (replicate capacity 0)

rested-ready : (s : State) → Shaped s → sound_test s.records ≡ true → Ready (rested s)
rested-ready s w e = record { memory = length-replicate {A = ℕ} capacity 0; processes = w.processes; starts = w.starts; entries = w.entries; sound = e }

inside-not-2 : (n : ℕ) → one_of inside n ≡ true → 2 ≡ n → ⊥
inside-not-2 n i z = true≢false (sym i ∙ ap (one_of inside) (sym z))

stranger : (s : State) (m : List ℕ) → Shaped s → insider (public_of s (header_of m).pid) (header_of m).host ≡ false → one_of inside (told_number s m) ≡ false
unfolding query_step why_number asked_tests
stranger s m w out = rw (number_of-outcome (why_number s m) 0) (go (one_of inside (why_number s m)) refl)
  where
    go : (b : Bool) → one_of inside (why_number s m) ≡ b → b ≡ false
    go true i = absurd (stranger-told (rested s) m (rested-ready s w (sound-of s m (why_number s m) refl (inside-not-2 (why_number s m) i))) out i)
    go false i = refl

-- ---- the facts of each number

module _ (s : State) (m : List ℕ) where
  number-told : (n : ℕ) → told_number s m ≡ n → why_number s m ≡ n
  unfolding query_step
  number-told n e = sym (number_of-outcome (why_number s m) 0) ∙ e

  -- a number is told with its facts
  facts-of : (n : ℕ) → told_number s m ≡ n → told_facts s m ≡ facts_of (reason_for n (header_of m) (length m) (asked_about s m))
  unfolding query_step why_of
  facts-of n e = ap (λ (k : ℕ). facts_of (reason_for k (header_of m) (length m) (asked_about s m))) (number-told n e)

  ranged : why_number s m ≡ 10 → Ranged (header_of m).cmd (header_of m) (asked_about s m).size
  ranged e = range-row (header_of m).cmd (header_of m) (asked_about s m).size (ten s m e)

  size-right : why_number s m ≡ 10 → SizeRight (asked_about s m).size
  size-right e = ((state-sound s.records (sound-of s m 10 e (λ z. omega (arith, z)))).each (header_of m).pid (found-there s m 10 e refl)).sized

  limit-by : (limit : Limit) → limit ≡ limit_passed (header_of m) (asked_about s m).size → why_number s m ≡ 10 → told_facts s m ≡ facts_of (Past limit (excess_over limit (header_of m) (asked_about s m).size))
      → LimitBy (told_facts s m) (header_of m) (asked_about s m).size (excess_over limit (header_of m) (asked_about s m).size)
  unfolding LimitBy facts_of
  limit-by End l e f = inl (f, by_end (header_of m) (asked_about s m).size _ (ranged e) l refl)
  limit-by Count l e f = inr (inl (f, by_count (header_of m) (asked_about s m).size _ (ranged e) l refl))
  limit-by Last l e f = inr (inr (f, by_last (header_of m) (asked_about s m).size _ (size-right e) (ranged e) l refl))

  eight-of : Shaped s → (n : ℕ) → why_number s m ≡ n → one_of inner n ≡ true → length (asked_about s m).breaks ≡ 8
  eight-of w n e i = w.entries (header_of m).pid (found-there s m n e i)

  none-by : (n : ℕ) → why_number s m ≡ n → one_of (3 ∷ 8 ∷ 9 ∷ 10 ∷ 11 ∷ 15 ∷ 16 ∷ []) n ≡ false → fact_count n ≡ 0
  unfolding fact_count
  none-by n e f =
      let at3 = ||-left (eqb n 3) _ f in
      let f3 = ||-right (eqb n 3) _ f in
      let f8 = ||-right (eqb n 8) _ f3 in
      let f9 = ||-right (eqb n 9) _ f8 in
      let f10 = ||-right (eqb n 10) _ f9 in
      let f11 = ||-right (eqb n 11) _ f10 in
      let f15 = ||-right (eqb n 15) _ f11 in
      rw (at3, ||-left (eqb n 8) _ f3, ||-left (eqb n 9) _ f8, ||-left (eqb n 10) _ f9, ||-left (eqb n 11) _ f10, ||-left (eqb n 15) _ f11, ||-left (eqb n 16) _ f15)

empty : (l : List ℕ) → length l ≡ 0 → l ≡ []
empty [] e = refl
empty (x ∷ l) e = absurd (omega (arith, e))

none_told : (s : State) (m : List ℕ) → one_of (3 ∷ 8 ∷ 9 ∷ 10 ∷ 11 ∷ 15 ∷ 16 ∷ []) (told_number s m) ≡ false → told_facts s m ≡ []
unfolding query_step
none_told s m f =
    let same = number_of-outcome (why_number s m) 0 in
    empty (facts_of (why_of s m)) (fact-count s m ∙ ap fact_count (reason-number s m) ∙ none-by s m (why_number s m) refl (rw same at f))

pub why-right : WhyRight
unfolding reason_for facts_of RoomRow HisRow sent_to asker query_step
why-right = record {
  same_number = same_number;
  unchanged = λ s m. refl;
  to-sender = λ H s m. refl;
  length-told = λ s m. facts-of s m 3;
  debugger-told = λ s m. facts-of s m 8;
  run-told = λ s m. facts-of s m 9;
  limit-told = λ s m e. (_, limit-by s m (limit_passed (header_of m) (asked_about s m).size) refl (number-told s m 10 e) (facts-of s m 10 e));
  full-told = λ s m w e.
      let n = number-told s m 11 e in
      (full_of (asked_about s m), (facts-of s m 11 e, by-full _ (header_of m) (asked_about s m) (eight-of s m w 11 n refl) (room_row (header_of m).cmd (header_of m) (asked_about s m) (eleven s m n)) refl));
  watcher-told = λ s m. facts-of s m 15;
  setter-told = λ s m w e.
      let n = number-told s m 16 e in
      (who_set (header_of m) (asked_about s m), (facts-of s m 16 e, by-setter _ (header_of m) (asked_about s m) (eight-of s m w 16 n refl) (his-row (header_of m).cmd (header_of m) (asked_about s m) (sixteen s m n)) refl));
  none_told = none_told;
  stranger = stranger;
}
