-- The life of a breakpoint, call by call and over lists, and the whole theorem on watching. Assumes nothing.
use mathlib.Core.Path.{◌≡◌, refl, sym, ap, ◌∙◌, subst}
use mathlib.Core.Bool.{Bool, true, false, true≢false}
use mathlib.Core.List.{List, [], ◌∷◌}
use mathlib.Core.Logic.{◌⊎◌, inl, inr}
use Prim.Native.Nat.{ℕ, ◌<◌}
use native.Mathlib.Omega.{arith}
use borrow.Author.Tests.{eq-eqb}
use Rattle.format.specs.declared.header.Header.{Header}
use Rattle.breakpoints.specs.declared.entry.Breakpoint.{Breakpoint}
use Rattle.breakpoints.specs.declared.entry_query.EntryQuery.TheVariants.{At}
use Rattle.breakpoints.specs.Entry.{free, is_set_by, in_use}
use Rattle.breakpoints.specs.EntryQuery.{matches}
use Rattle.ops.specs.Codes.{UNBREAK, END-DEBUG, DESTROY, END-WATCH}
use Rattle.process.specs.Record.{entry}
use Rattle.process.specs.Find.{find}
use Rattle.process.specs.Sound.{DebugsOrWatches}
use Rattle.process.specs.Local.{Local}
use Rattle.process.specs.Report.{reported}
use Rattle.process.proofs.FindLaws.{matches-at, at-matches, find-is}
use Rattle.process.proofs.EntryKept.{SameBreak, SameEntry, same-entry, removed-freed, end-watched-freed, end-debugged-freed, cleared-freed}
use Rattle.rules.specs.Rule.{public, rule_of, names}
use Rattle.rules.specs.Tests.{State, record_of}
use Rattle.rules.specs.Access.{by, insider}
use Rattle.rules.specs.Step.{Call, report, step, local_of}
use Rattle.rules.specs.Turn.{buffers_of}
use Rattle.rules.specs.Ready.{Ready}
use Rattle.rules.specs.Run.{final}
use Rattle.rules.specs.Isolation.{asker, fields_of, public_of}
use Rattle.rules.specs.Loops.{words_of}
use Rattle.rules.specs.Owed.{kind_of, reason_of, Granted}
use Rattle.rules.specs.Watch.{GrantedRequest, break_of, SameBreakpoint, CountedBy, CountOf, RemovedBy, NoneRemoves, NoneCounts, StaysUsed, Watching}
use Rattle.rules.proofs.StateLaws.{each-sound, local-proper}
use Rattle.rules.proofs.RuleLaws.{insider-in}
use Rattle.rules.proofs.StepLaws.{step-ready}
use Rattle.rules.proofs.PlaceLaws.{Reach, passes_by, asks, makes, tells, puts, says, sends, ticks, reach, Named, named}
use Rattle.rules.proofs.BreakRowLaws.{Made, kept, recounted, unbroken, unwatched, ended, rule-entries, letter-entries, packet-entries, ticked-entries, Passed, report-entry}
use Rattle.rules.proofs.WatchLaws.{turns, apart, stays-unwatched, seller}
use Rattle.rules.proofs.WatchLaws.{kept as watch-kept}
use Rattle.rules.proofs.LookLaws.{looks-only}
use Rattle.rules.proofs.ToldLaws.{told, notices, line}

-- ---- one call

-- what becomes of the breakpoint in entry k
abbrev Lives : ℕ → ℕ → State → Call → Type 0
Lives p k s c =
    (SameBreakpoint (break_of s p k) (break_of (step s c).after p k) × CountOf p (break_of s p k) s c (break_of (step s c).after p k).count)
    ⊎ ((in_use (break_of (step s c).after p k) ≡ false) × RemovedBy p (break_of s p k) s c)

module _ (s : State) (r : Ready s) (c : Call) (p k : ℕ) (low : p < 8) (in_list : k < 8) (used : in_use (break_of s p k) ≡ true) where
  abbrev before : Breakpoint
  before = break_of s p k

  abbrev after : Breakpoint
  after = break_of (step s c).after p k

  -- in the words of the theorem
  same : SameBreak (break_of (step s c).after p k) (break_of s p k) → SameBreakpoint (break_of s p k) (break_of (step s c).after p k)
  same e = record { used = e.used ∙ used; address = e.address; setter = e.setter }

  stays-so : SameEntry (break_of (step s c).after p k) (break_of s p k) → Lives p k s c
  stays-so e = inl (same e.break, inl e.count)

  -- the entry that a call leaves
  left-entry : (l : Local) → local_of (step s c).after p ≡ l → break_of (step s c).after p k ≡ entry l.process k
  left-entry l e = ap (λ (x : Local). entry x.process k) e

  same_left : (l : Local) → local_of (step s c).after p ≡ l → SameEntry (entry l.process k) (break_of s p k) → Lives p k s c
  same_left l e x = stays-so (subst (λ (b : Breakpoint). SameEntry b before) (sym (left-entry l e)) x)

  -- a request
  made-lives : (h : Header) → fields_of c ≡ h → asker c ≡ by h.host → h.pid ≡ p → Granted s c → Made h (record_of s p) (break_of s p k) (break_of (step s c).after p k)
      → Lives p k s c
  unfolding public RemovedBy
  made-lives h f w pid granted = go
    where
      asked : {cmd : ℕ} → h.cmd ≡ cmd → GrantedRequest cmd p s c
      asked e = record { op = ap (λ (x : Header). x.cmd) f ∙ e; named = ap (λ (x : Header). x.pid) f ∙ pid; granted = granted }

      at : h.arg1 ≡ before.address → (fields_of c).arg1 ≡ before.address
      at e = ap (λ (x : Header). x.arg1) f ∙ e

      ends : {d e : ℕ} → (h.cmd ≡ d) ⊎ (h.cmd ≡ e) → GrantedRequest d p s c ⊎ GrantedRequest e p s c
      ends (inl i) = inl (asked i)
      ends (inr i) = inr (asked i)

      go : Made h (record_of s p) (break_of s p k) (break_of (step s c).after p k) → Lives p k s c
      go (kept e) = stays-so e
      go (recounted op a his b count) =
          inl (same b, inr (inl (record { break = asked op; at = at a; by-setter = w ∙ ap by his; count = count ∙ ap (λ (x : Header). x.arg2) (sym f) })))
      go (unbroken op a his free) = inr (free, inl ((asked op, at a), w ∙ ap by his))
      go (unwatched op watched his free) = inr (free, inr (inl (asked op, (watched, w ∙ ap by his))))
      go (ended op his free) = inr (free, inr (inr (ends op, w ∙ ap by his)))

  -- a report
  told-lives : c ≡ report p (kind_of c) (reason_of c) (words_of c) (buffers_of c).own (buffers_of c).line → Granted s c
      → local_of (step s c).after p ≡ reported (kind_of c) (words_of c) (local_of s p)
      → SameEntry (entry (reported (kind_of c) (words_of c) (local_of s p)).process k) (break_of s p k) ⊎ Passed (kind_of c) (words_of c) (local_of s p) k → Lives p k s c
  told-lives is granted e (inl x) = same_left _ e x
  told-lives is granted e (inr x) =
      let i = left-entry _ e in
      inl (
        same (subst (λ (b : Breakpoint). SameBreak b before) (sym i) x.counts.break),
        inr (inr (record {
          is = is ∙ ap (λ (kind : ℕ). report p kind (reason_of c) (words_of c) (buffers_of c).own (buffers_of c).line) x.is;
          granted = granted;
          at = x.at;
          falls = omega (arith, ap (λ (b : Breakpoint). b.count) i, x.counts.count);
        })),
      )

  -- any call
  lives : Lives p k s c
  lives = go (reach s r c p low)
    where
      go : Reach p s c → Lives p k s c
      go (passes_by e) = same_left (local_of s p) e (same-entry before)
      go (asks h string f w pid known granted passing e) =
          made-lives h f w pid granted
          (subst (Made h (record_of s p) before) (sym (left-entry _ e)) (rule-entries h.cmd known h refl string (local_of s p) (local-proper s r p low) passing k in_list used))
      go (makes absent) = absurd (true≢false (sym used ∙ ((each-sound s r p low).absent absent).1 k in_list))
      go (tells is granted e) = told-lives is granted e (report-entry (kind_of c) (words_of c) (local_of s p) (local-proper s r p low) k)
      go (puts a v none e) = same_left _ e (same-entry before)
      go (says x w passing e) = same_left _ e (letter-entries x.letter x (local_of s p) k)
      go (sends kind id words w passing e) = same_left _ e (packet-entries kind id words (local_of s p) k)
      go (ticks none e) = same_left _ e (ticked-entries (local_of s p) k)

  -- ---- a call that removes it

  -- its entry is the one found at its address
  found_here : (a : ℕ) → a ≡ (break_of s p k).address → find (At a) (record_of s p) ≡ k
  found_here a e = find-is (At a) (record_of s p) (r.entries p low) k in_list (at-matches a before used (sym e)) none
    where
      none : (j : ℕ) → j < k → matches (At a) (entry (record_of s p) j) ≡ false
      none j h = go (matches (At a) (entry (record_of s p) j)) refl
        where
          go : (t : Bool) → matches (At a) (entry (record_of s p) j) ≡ t → t ≡ false
          go true m = let x = matches-at a _ m in absurd ((each-sound s r p low).different j k h in_list x.0 used (x.1 ∙ e))
          go false m = refl

  freed : (l : Local) → local_of (step s c).after p ≡ l → entry l.process k ≡ free → in_use (break_of (step s c).after p k) ≡ false
  freed l e i = ap (λ (b : Breakpoint). in_use b) (left-entry l e ∙ i)

  asked_of : (cmd : ℕ) → names cmd ≡ true → GrantedRequest cmd p s c → Named cmd p s c
  asked_of cmd n x = named s r c cmd p n x.op x.named x.granted

  unbreak-frees : GrantedRequest UNBREAK p s c → (fields_of c).arg1 ≡ (break_of s p k).address → in_use (break_of (step s c).after p k) ≡ false
  unfolding rule_of names
  unbreak-frees x at =
      let n = asked_of UNBREAK refl x in
      freed _ n.left (rw (found_here (fields_of c).arg1 at) at (removed-freed (fields_of c).arg1 (local_of s p) (r.entries p low) n.passing.found))

  end-watch-frees : GrantedRequest END-WATCH p s c → (break_of s p k).setter ≡ (record_of s p).session.watcher → in_use (break_of (step s c).after p k) ≡ false
  unfolding rule_of names is_set_by
  end-watch-frees x his = freed _ (asked_of END-WATCH refl x).left (end-watched-freed (local_of s p) k (rw (used, eq-eqb _ _ his)))

  end-frees : GrantedRequest END-DEBUG p s c ⊎ GrantedRequest DESTROY p s c → in_use (break_of (step s c).after p k) ≡ false
  unfolding rule_of names
  end-frees (inl x) = freed _ (asked_of END-DEBUG refl x).left (end-debugged-freed (local_of s p) k)
  end-frees (inr x) = freed _ (asked_of DESTROY refl x).left (cleared-freed k)

  removes : RemovedBy p (break_of s p k) s c → in_use (break_of (step s c).after p k) ≡ false
  unfolding RemovedBy public
  removes (inl x) = unbreak-frees x.0.0 x.0.1
  removes (inr (inl x)) = end-watch-frees x.0 x.1.0
  removes (inr (inr x)) = end-frees x.0

life : (s : State) → Ready s → (c : Call) (p k : ℕ) → p < 8 → k < 8 → in_use (break_of s p k) ≡ true → Lives p k s c
life s r c p k low in_list used = lives s r c p k low in_list used

removed : (s : State) → Ready s → (c : Call) (p k : ℕ) → p < 8 → k < 8 → in_use (break_of s p k) ≡ true → RemovedBy p (break_of s p k) s c → in_use (break_of (step s c).after p k) ≡ false
removed s r c p k low in_list used = removes s r c p k low in_list used

-- ---- lists

same-twice : (a b c : Breakpoint) → SameBreakpoint a b → SameBreakpoint b c → SameBreakpoint a c
same-twice a b c x y = record { used = y.used; address = y.address ∙ x.address; setter = y.setter ∙ x.setter }

module _ (s : State) (c : Call) (p k : ℕ) where
  one-stays : Lives p k s c → (RemovedBy p (break_of s p k) s c → ⊥) → SameBreakpoint (break_of s p k) (break_of (step s c).after p k)
  one-stays (inl x) w = x.0
  one-stays (inr x) w = absurd (w x.1)

  one-there : Lives p k s c → in_use (break_of (step s c).after p k) ≡ true → SameBreakpoint (break_of s p k) (break_of (step s c).after p k)
  one-there (inl x) w = x.0
  one-there (inr x) w = absurd (true≢false (sym w ∙ x.0))

  one-count : Lives p k s c → (RemovedBy p (break_of s p k) s c → ⊥) → (CountedBy p (break_of s p k) s c (break_of (step s c).after p k).count → ⊥)
      → (break_of (step s c).after p k).count ≡ (break_of s p k).count
  one-count (inl (x, inl e)) w n = e
  one-count (inl (x, inr y)) w n = absurd (n y)
  one-count (inr x) w n = absurd (w x.1)

stays : (s : State) → Ready s → (l : List Call) (p k : ℕ) → p < 8 → k < 8 → in_use (break_of s p k) ≡ true → NoneRemoves p k s l → SameBreakpoint (break_of s p k) (break_of (final s l) p k)
unfolding final NoneRemoves
stays s r [] p k low in_list used w = record { used = used; address = refl; setter = refl }
stays s r (c ∷ l) p k low in_list used w =
    let one = one-stays s c p k (life s r c p k low in_list used) w.0 in
    same-twice _ _ _ one (stays (step s c).after (step-ready s r c) l p k low in_list one.used w.1)

while-there : (s : State) → Ready s → (l : List Call) (p k : ℕ) → p < 8 → k < 8 → in_use (break_of s p k) ≡ true → StaysUsed p k s l → SameBreakpoint (break_of s p k) (break_of (final s l) p k)
unfolding final StaysUsed
while-there s r [] p k low in_list used w = record { used = used; address = refl; setter = refl }
while-there s r (c ∷ l) p k low in_list used w =
    same-twice _ _ _ (one-there s c p k (life s r c p k low in_list used) w.0) (while-there (step s c).after (step-ready s r c) l p k low in_list w.0 w.1)

count-stays : (s : State) → Ready s → (l : List Call) (p k : ℕ) → p < 8 → k < 8 → in_use (break_of s p k) ≡ true → NoneRemoves p k s l → NoneCounts p k s l
    → (break_of (final s l) p k).count ≡ (break_of s p k).count
unfolding final NoneRemoves NoneCounts
count-stays s r [] p k low in_list used w n = refl
count-stays s r (c ∷ l) p k low in_list used w n =
    let lived = life s r c p k low in_list used in
    count-stays (step s c).after (step-ready s r c) l p k low in_list (one-stays s c p k lived w.0).used w.1 n.1 ∙ one-count s c p k lived w.0 n.0

-- ---- who set it

set-by : (s : State) → Ready s → (p k : ℕ) → p < 8 → k < 8 → in_use (break_of s p k) ≡ true → insider (public_of s p) (break_of s p k).setter ≡ true
set-by s r p k low in_list used = insider-in (record_of s p) (break_of s p k).setter (λ z. named-host z set) set
  where
    set : DebugsOrWatches (record_of s p) (break_of s p k).setter
    set = (each-sound s r p low).set-by k in_list used

    named-host : (break_of s p k).setter ≡ 0 → DebugsOrWatches (record_of s p) (break_of s p k).setter → ⊥
    named-host z (inl e) = true≢false (sym used ∙ (each-sound s r p low).unhosted (sym e ∙ z) k in_list)
    named-host z (inr w) = w.0 z

-- ---- the theorem

pub watching : Watching
watching = record {
  turns = turns;
  kept = watch-kept;
  stays-unwatched = stays-unwatched;
  apart = apart;
  life = life;
  removed = removed;
  stays = stays;
  while-there = while-there;
  count-stays = count-stays;
  set-by = set-by;
  looks-only = looks-only;
  told = told;
  notices = notices;
  line = line;
  seller = seller;
}
