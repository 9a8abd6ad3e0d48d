-- What each row of the rules makes of a breakpoint: those of the op codes, those of the letters and of the packets, a tick, and a report. Assumes nothing.
use mathlib.Core.Path.{◌≡◌, refl, sym, ap, ◌∙◌, subst}
use mathlib.Core.Bool.{Bool, true, false, ◌||◌, true≢false}
use mathlib.Core.List.{List}
use mathlib.Core.Logic.{◌⊎◌, inl, inr}
use Prim.Native.Nat.{ℕ, ◌<◌}
use native.Mathlib.Omega.{arith}
use borrow.Author.Tests.{eqb-true, eqb-false, ltb-true}
use lib.ListN.{length, get_or}
use lib.Dec.{eqb}
use Rattle.lists.proofs.Bool.{&&-left, &&-right}
use Rattle.ops.specs.Codes.{BREAK, UNBREAK, END-DEBUG, DESTROY, END-WATCH}
use Rattle.ops.specs.Table.{ops}
use Rattle.format.specs.declared.header.Header.{Header}
use Rattle.fields.specs.declared.read.Line.{Line}
use Rattle.fields.specs.Letters.{READ-CODE, READ-DATA, WRITE-CODE, WRITE-DATA, READ-REGISTER, WRITE-REGISTER, CONTINUE}
use Rattle.run_state.specs.ReportKind.{HALT, BPT}
use Rattle.run_state.specs.RunState.{goes_on}
use Rattle.breakpoints.specs.declared.entry.Breakpoint.{Breakpoint}
use Rattle.breakpoints.specs.declared.entry_query.EntryQuery.TheVariants.{At}
use Rattle.breakpoints.specs.Entry.{is_set_by, in_use}
use Rattle.process.specs.declared.record.Process.{Process}
use Rattle.process.specs.declared.report.Verdict.{Verdict}
use Rattle.process.specs.declared.report.Verdict.TheVariants.{Stops, CountsDown, GoesOn}
use Rattle.process.specs.Record.{entry}
use Rattle.process.specs.Find.{find}
use Rattle.process.specs.Local.{Local, Proper}
use Rattle.process.specs.Request.{pc, has_break, has_room, has_room_for, is_his}
use Rattle.process.specs.Report.{store_vector_and_replant, passes, verdict_of, reported}
use Rattle.process.specs.Packet.{ticked, word_stored}
use Rattle.packets.specs.Types.{STORE, FETCH, GO}
use Rattle.process.proofs.FindLaws.{matches-at, find-matches}
use Rattle.process.proofs.EntryLaws.{entry-there, entry_new}
use Rattle.process.proofs.ReportLaws.{Counts, counts, passes-found}
use Rattle.process.proofs.EntryKept.{SameBreak, SameEntry, CountedDown, same-entry, EntriesKept, stopped-kept, stepped_kept, proceeded-kept, continued-kept, stepped-from-kept, deposited-kept, reported-kept, reported-counts, break-other, break-counts, free-before, removed-other, removed-freed, end-watched-freed, end-watched-kept, end-debugged-freed, cleared-freed}
use Rattle.rules.specs.Rule.{public, Rule, rules, break_rule, unbreak_rule, end_watch_rule, rule_of}
use Rattle.rules.specs.TextRule.{TextRule, text_rule_of}
use Rattle.rules.specs.PacketRule.{PacketRule, packet_row_of}
use Rattle.rules.proofs.RuleLaws.{Passing, Each, each-rule}
use Rattle.rules.proofs.NumberLaws.{by-test}
use Rattle.rules.proofs.PacketLaws.{plain-asked, plain-replied, plain-ticked}
use Rattle.rules.proofs.LapLaws.{stored-eight, stored-pc}

-- ---- op codes

-- what a request with these fields makes of a breakpoint b of a process; c is its entry then
pub data Made (h : Header) (p : Process) (b c : Breakpoint) : Type 0 where
  kept : SameEntry c b → Made h p b c
  recounted : h.cmd ≡ BREAK → h.arg1 ≡ b.address → h.host ≡ b.setter → SameBreak c b → c.count ≡ h.arg2 → Made h p b c
  unbroken : h.cmd ≡ UNBREAK → h.arg1 ≡ b.address → h.host ≡ b.setter → in_use c ≡ false → Made h p b c
  unwatched : h.cmd ≡ END-WATCH → b.setter ≡ p.session.watcher → h.host ≡ b.setter → in_use c ≡ false → Made h p b c
  ended : (h.cmd ≡ END-DEBUG) ⊎ (h.cmd ≡ DESTROY) → h.host ≡ p.host → in_use c ≡ false → Made h p b c

-- so a granted request with this row makes of every breakpoint in use
abbrev EntryRow : ℕ → Rule → Type 0
EntryRow cmd r = (h : Header) → h.cmd ≡ cmd → (string : List ℕ) (l : Local) → Proper l → Passing r h string l.process → (k : ℕ) → k < 8
    → in_use (entry l.process k) ≡ true → Made h l.process (entry l.process k) (entry (r.effect h string l).process k)

-- a row that keeps all
keeping : (cmd : ℕ) (r : Rule) → ((h : Header) (string : List ℕ) (l : Local) → EntriesKept (r.effect h string l).process l.process) → EntryRow cmd r
keeping cmd r same h e string l g p k low u = kept (same h string l k)

-- an entry that is as it was
as_before : (h : Header) (p : Process) (b c : Breakpoint) → c ≡ b → Made h p b c
as_before h p b c e = kept (subst (λ (d : Breakpoint). SameEntry d b) (sym e) (same-entry b))

-- what a freed entry is
freed : (c d : Breakpoint) → c ≡ d → in_use d ≡ false → in_use c ≡ false
freed c d e i = ap (λ (x : Breakpoint). in_use x) e ∙ i

-- the breakpoint at an address
module _ (a : ℕ) (l : Local) (g : Proper l) (e : has_break a l.process ≡ true) where
  abbrev there : ℕ
  there = find (At a) l.process

  there-address : (entry l.process (find (At a) l.process)).address ≡ a
  unfolding has_break
  there-address = (matches-at a _ (find-matches (At a) l.process g.eight (ltb-true there 8 e))).1

  -- 16: who asks has set it
  there-his : (host : ℕ) → is_his host a l.process ≡ true → (entry l.process (find (At a) l.process)).setter ≡ host
  unfolding is_his
  there-his host i = eqb-true _ host (rw e at i)

break-entries : EntryRow 8 break_rule
unfolding has_room_for
break-entries h e string l g p k low u = go (has_break h.arg1 l.process) refl
  where
    before : Breakpoint
    before = entry l.process k

    after : Breakpoint
    after = entry (break_rule.effect h string l).process k

    at : has_break h.arg1 l.process ≡ true → (t : Bool) → eqb k (find (At h.arg1) l.process) ≡ t → Made h l.process before after
    at i true q =
        let same = eqb-true k (find (At h.arg1) l.process) q in
        let counts = break-counts h.host h.arg1 h.arg2 l g.eight i in
        rw same (recounted e (sym (there-address h.arg1 l g i)) (sym (there-his h.arg1 l g i h.host p.his))
        (record { used = rw counts; address = rw counts; setter = rw counts }) (rw counts))
    at i false q =
        as_before h l.process before after
        (break-other h.host h.arg1 h.arg2 l k (λ x. eqb-false k (find (At h.arg1) l.process) q (x ∙ entry-there h.arg1 l.process i)))

    new : has_break h.arg1 l.process ≡ false → has_room l.process ≡ true → Made h l.process before after
    new i room =
        as_before h l.process before after
        (break-other h.host h.arg1 h.arg2 l k (λ x.
        true≢false (sym u ∙ ap (λ (j : ℕ). in_use (entry l.process j)) (x ∙ entry_new h.arg1 l.process i) ∙ free-before l.process g.eight room)))

    go : (t : Bool) → has_break h.arg1 l.process ≡ t → Made h l.process before after
    go true i = at i (eqb k (find (At h.arg1) l.process)) refl
    go false i = new i (&&-left (has_room l.process) _ (rw i at p.room))

unbreak-entries : EntryRow 9 unbreak_rule
unbreak-entries h e string l g p k low u = go (eqb k (find (At h.arg1) l.process)) refl
  where
    go : (t : Bool) → eqb k (find (At h.arg1) l.process) ≡ t → Made h l.process (entry l.process k) (entry (unbreak_rule.effect h string l).process k)
    go true q =
        rw (eqb-true k (find (At h.arg1) l.process) q)
        (unbroken e (sym (there-address h.arg1 l g p.found)) (sym (there-his h.arg1 l g p.found h.host p.his))
        (freed _ _ (removed-freed h.arg1 l g.eight p.found) refl))
    go false q = as_before h l.process _ _ (removed-other h.arg1 l k (eqb-false k (find (At h.arg1) l.process) q))

end-watch-entries : EntryRow 15 end_watch_rule
unfolding is_set_by public
end-watch-entries h e string l g p k low u = go (is_set_by w (entry l.process k)) refl
  where
    w : ℕ
    w = l.process.session.watcher

    go : (t : Bool) → is_set_by w (entry l.process k) ≡ t → Made h l.process (entry l.process k) (entry (end_watch_rule.effect h string l).process k)
    go true i =
        let his : (entry l.process k).setter ≡ w = eqb-true _ w (&&-right (in_use (entry l.process k)) (eqb (entry l.process k).setter w) i) in
        unwatched e his (sym (his ∙ eqb-true w h.host p.right)) (freed _ _ (end-watched-freed l k i) refl)
    go false i = as_before h l.process _ _ (end-watched-kept l k i)

-- all of them
each_row : Each EntryRow 0 rules
unfolding public
each_row = (
  keeping 0 _ (λ h s l k. same-entry _),
  (
    keeping 1 _ (λ h s l k. same-entry _),
    (
      (λ h e s l g p k low u. ended (inl e) (sym (eqb-true _ h.host p.right)) (freed _ _ (end-debugged-freed l k) refl)),
      (
        keeping 3 _ (λ h s l. stopped-kept l),
        (
          keeping 4 _ (λ h s l. deposited-kept h.arg1 s l),
          (
            keeping 5 _ (λ h s l k. same-entry _),
            (
              keeping 6 _ (λ h s l k. same-entry _),
              (
                keeping 7 _ (λ h s l k. same-entry _),
                (
                  break-entries,
                  (
                    unbreak-entries,
                    (
                      keeping 10 _ (λ h s l. stepped_kept l),
                      (
                        keeping 11 _ (λ h s l. proceeded-kept l),
                        (
                          keeping 12 _ (λ h s l k. same-entry _),
                          (
                            (λ h e s l g p k low u. ended (inr e) (sym (eqb-true _ h.host p.right)) (freed _ _ (cleared-freed k) refl)),
                            (keeping 14 _ (λ h s l k. same-entry _), (end-watch-entries, (keeping 16 _ (λ h s l k. same-entry _), tt))),
                          ),
                        ),
                      ),
                    ),
                  ),
                ),
              ),
            ),
          ),
        ),
      ),
    ),
  ),
)

pub rule-entries : (cmd : ℕ) → cmd < length ops → EntryRow cmd (rule_of cmd)
rule-entries = each-rule EntryRow each_row

-- ---- letters

-- every letter keeps them all
pub letter-entries : (letter : ℕ) (x : Line) (l : Local) → EntriesKept ((text_rule_of letter).effect x l).process l.process
unfolding text_rule_of
letter-entries letter x l =
    by-test All (eqb letter READ-CODE || eqb letter READ-DATA) (λ e k. same-entry _)
    (λ e. by-test All (eqb letter WRITE-CODE || eqb letter WRITE-DATA) (λ i. deposited-kept x.third _ l)
    (λ i. by-test All (eqb letter READ-REGISTER) (λ j k. same-entry _)
    (λ j. by-test All (eqb letter WRITE-REGISTER) (λ n k. same-entry _)
    (λ n. by-test All (eqb letter CONTINUE) (λ c. continued-kept x.third l) (λ c. stepped-from-kept x.third l)))))
  where
    All : TextRule → Type 0
    All r = EntriesKept (r.effect x l).process l.process

-- ---- packets and ticks

-- so does every type of packet
pub packet-entries : (kind id : ℕ) (words : List ℕ) (l : Local) → EntriesKept ((packet_row_of kind).effect id words l).process l.process
unfolding packet_row_of word_stored
packet-entries kind id words l =
    by-test All (eqb kind STORE) (λ e. deposited-kept _ _ l)
    (λ e. by-test All (eqb kind FETCH) (λ i k. same-entry _)
    (λ i. by-test All (eqb kind GO) (λ j k. rw (plain-asked id l.process).breaks (same-entry _)) (λ j k. rw (plain-replied id l.process).breaks (same-entry _))))
  where
    All : PacketRule → Type 0
    All r = EntriesKept (r.effect id words l).process l.process

-- and a tick
pub ticked-entries : (l : Local) → EntriesKept (ticked l.process) l.process
ticked-entries l k = rw (plain-ticked l.process).breaks (same-entry _)

-- ---- a report

-- one that passes the breakpoint in entry k
pub record Passed (kind : ℕ) (words : List ℕ) (l : Local) (k : ℕ) : Type 0 where
  pub is : kind ≡ BPT
  pub at : get_or words 7 0 ≡ (entry l.process k).address
  pub counts : CountedDown (entry (reported kind words l).process k) (entry l.process k)

module _ (kind : ℕ) (words : List ℕ) (l : Local) (g : Proper l) (k : ℕ) where
  abbrev stored : Local
  stored = store_vector_and_replant words l

  abbrev Or : Type 0
  Or = SameEntry (entry (reported kind words l).process k) (entry l.process k) ⊎ Passed kind words l k

  -- a HALT report stores the vector, plants again what was lifted, and changes no entry besides
  pub stored_same : SameEntry (entry (store_vector_and_replant words l).process k) (entry l.process k)
  unfolding reported verdict_of goes_on passes
  stored_same = reported-kept HALT words l g.eight k (λ e. let z : ◌≡◌ {A = ℕ} 0 1 = cc in omega arith)

  passed-by : verdict_of kind (store_vector_and_replant words l).process ≡ CountsDown k → Passed kind words l k
  unfolding passes
  passed-by e = record { is = eqb-true kind BPT (&&-left (eqb kind BPT) _ c.passing); at = at-pc; counts = reported-counts kind words l g.eight k e }
    where
      c : Counts kind stored.process k
      c = counts kind stored.process k e

      eight : length stored.process.breaks ≡ 8
      eight = stored-eight 0 0 0 words l g.eight

      found : (entry stored.process (find (At (pc stored.process)) stored.process)).address ≡ pc stored.process
      found = (matches-at _ _ (find-matches (At (pc stored.process)) stored.process eight (passes-found kind stored.process c.passing))).1

      at-pc : get_or words 7 0 ≡ (entry l.process k).address
      at-pc = sym (stored-pc 0 0 0 words l g.eight) ∙ sym (rw c.entry-is at found) ∙ stored_same.break.address

  -- a report keeps the breakpoint as it is, or passes it
  pub report-entry : SameEntry (entry (reported kind words l).process k) (entry l.process k) ⊎ Passed kind words l k
  report-entry = go (verdict_of kind stored.process) refl
    where
      other : (verdict_of kind stored.process ≡ CountsDown k → ⊥) → Or
      other n = inl (reported-kept kind words l g.eight k n)

      go : (v : Verdict) → verdict_of kind stored.process ≡ v → Or
      go (Stops host) e = other (λ i. let q = sym e ∙ i in let z : ◌≡◌ {A = ℕ} 0 1 = cc in omega arith)
      go GoesOn e = other (λ i. let q = sym e ∙ i in let z : ◌≡◌ {A = ℕ} 0 1 = cc in omega arith)
      go (CountsDown j) e = at (eqb j k) refl
        where
          at : (t : Bool) → eqb j k ≡ t → Or
          at true q = inr (passed-by (e ∙ ap CountsDown (eqb-true j k q)))
          at false q = other (λ i. eqb-false j k q (let x = sym e ∙ i in cc))
