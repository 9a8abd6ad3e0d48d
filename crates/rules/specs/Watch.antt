-- 'Owner and installer together', in the words of a user: what becomes of a breakpoint, when a watch begins and ends, what a watcher can change, and
-- who is told. Words in quotation marks are the change request's (K5), but 'falls by one', which is document 01's.
use Rattle.std.specs.Prelude.{◌≡◌, Bool, true, false, cond, ◌&&◌, List, [], ◌∷◌, ◌⊎◌, ℕ, suc, ◌<◌, length, get_or, eqb}
use Rattle.lists.specs.Buffer.{overlay}
use Rattle.lists.specs.Word.{low_first}
use Rattle.ops.specs.Codes.{BREAK, UNBREAK, END-DEBUG, DESTROY, WATCH, END-WATCH}
use Rattle.format.specs.Outcome.{outcome}
use Rattle.format.specs.Layout.{written}
use Rattle.format.specs.Answer.{notice_of}
use Rattle.run_state.specs.ReportKind.{BPT}
use Rattle.run_state.specs.RunState.{moving}
use Rattle.session.specs.Session.{text_host, owes}
use Rattle.breakpoints.specs.declared.entry.Breakpoint.{Breakpoint}
use Rattle.breakpoints.specs.declared.entry_query.EntryQuery.TheVariants.{At}
use Rattle.process.specs.Sizes.{entry_count, vector_words}
use Rattle.process.specs.Record.{entry}
use Rattle.process.specs.Find.{find}
use Rattle.process.specs.Request.{has_break}
use Rattle.process.specs.Theorems.{seen_of}
use Rattle.rules.specs.Tests.{State, record_of}
use Rattle.rules.specs.Access.{by, insider}
use Rattle.rules.specs.Step.{Call, report, step, local_of}
use Rattle.rules.specs.Turn.{buffers_of}
use Rattle.rules.specs.Ready.{Ready}
use Rattle.rules.specs.Run.{final}
use Rattle.rules.specs.Isolation.{asker, fields_of, public_of}
use Rattle.rules.specs.Rights.{holder, Begins}
use Rattle.rules.specs.Loops.{words_of}
use Rattle.rules.specs.Owed.{kind_of, reason_of, Granted, owed_at, Answers}
use Rattle.breakpoints.specs.Entry.{in_use}

-- ---- who watches

-- the host that watches a process, or 0
abbrev pub watcher_of : State → ℕ → ℕ
watcher_of s p = (public_of s p).watcher

-- a granted request of this op code that names process p
pub record GrantedRequest (cmd p : ℕ) (s : State) (c : Call) : Type 0 where
  pub op : (fields_of c).cmd ≡ cmd
  pub named : (fields_of c).pid ≡ p
  pub granted : Granted s c

-- by a granted WATCH the asker watches, where nobody did
pub record WatchBegins (p : ℕ) (s : State) (c : Call) : Type 0 where
  pub watch : GrantedRequest WATCH p s c
  pub before : watcher_of s p ≡ 0
  pub after : asker c ≡ by (watcher_of (step s c).after p)

-- by the watcher's END WATCH, or by the END DEBUG or DESTROY of the host that debugs, nobody watches
pub record WatchEnds (p : ℕ) (s : State) (c : Call) : Type 0 where
  pub by-whom : (GrantedRequest END-WATCH p s c × (asker c ≡ by (watcher_of s p)))
      ⊎ ((GrantedRequest END-DEBUG p s c ⊎ GrantedRequest DESTROY p s c) × (asker c ≡ by (holder s p)))
  pub after : watcher_of (step s c).after p ≡ 0

-- no call of a list ends the watch
unfoldable pub NoneEndsWatch : ℕ → State → List Call → Type 0
NoneEndsWatch p s [] = Unit {0}
NoneEndsWatch p s (c ∷ l) = (WatchEnds p s c → ⊥) × NoneEndsWatch p (step s c).after l

-- no call of a list begins one
unfoldable pub NoneBeginsWatch : ℕ → State → List Call → Type 0
NoneBeginsWatch p s [] = Unit {0}
NoneBeginsWatch p s (c ∷ l) = (WatchBegins p s c → ⊥) × NoneBeginsWatch p (step s c).after l

-- ---- the life of a breakpoint

-- the breakpoint in entry k of process p
abbrev pub break_of : State → ℕ → ℕ → Breakpoint
break_of s p k = entry (record_of s p) k

-- the same breakpoint as another: its address, and who set it; its word is put back and planted as the process goes
pub record SameBreakpoint (a b : Breakpoint) : Type 0 where
  pub used : in_use b ≡ true
  pub address : b.address ≡ a.address
  pub setter : b.setter ≡ a.setter

-- a granted BREAK at its address, of the host that set it, gives it the count
pub record Recounted (p : ℕ) (b : Breakpoint) (s : State) (c : Call) (n : ℕ) : Type 0 where
  pub break : GrantedRequest BREAK p s c
  pub at : (fields_of c).arg1 ≡ b.address
  pub by-setter : asker c ≡ by b.setter
  pub count : n ≡ (fields_of c).arg2

-- a BPT report there: the count 'falls by one'
pub record PassedBy (p : ℕ) (b : Breakpoint) (s : State) (c : Call) (n : ℕ) : Type 0 where
  pub is : c ≡ report p BPT (reason_of c) (words_of c) (buffers_of c).own (buffers_of c).line
  pub granted : Granted s c
  pub at : get_or (words_of c) 7 0 ≡ b.address
  pub falls : suc n ≡ b.count

-- its count is n by him, or by a report
abbrev pub CountedBy : ℕ → Breakpoint → State → Call → ℕ → Type 0
CountedBy p b s c n = Recounted p b s c n ⊎ PassedBy p b s c n

-- 'only he may change .. it': the count stays, or changes so
abbrev pub CountOf : ℕ → Breakpoint → State → Call → ℕ → Type 0
CountOf p b s c n = (n ≡ b.count) ⊎ CountedBy p b s c n

-- 'only he may .. remove it': by his UNBREAK, by his END WATCH, or by the END DEBUG or DESTROY of the host that debugs
unfoldable pub RemovedBy : ℕ → Breakpoint → State → Call → Type 0
RemovedBy p b s c =
    ((GrantedRequest UNBREAK p s c × ((fields_of c).arg1 ≡ b.address)) × (asker c ≡ by b.setter))
    ⊎ ((GrantedRequest END-WATCH p s c × ((b.setter ≡ watcher_of s p) × (asker c ≡ by b.setter)))
    ⊎ ((GrantedRequest END-DEBUG p s c ⊎ GrantedRequest DESTROY p s c) × (asker c ≡ by (holder s p))))

-- no call of a list removes the breakpoint in entry k
unfoldable pub NoneRemoves : ℕ → ℕ → State → List Call → Type 0
NoneRemoves p k s [] = Unit {0}
NoneRemoves p k s (c ∷ l) = (RemovedBy p (break_of s p k) s c → ⊥) × NoneRemoves p k (step s c).after l

-- no call of a list counts it: neither a BREAK there of who set it, nor a BPT report that passes it
unfoldable pub NoneCounts : ℕ → ℕ → State → List Call → Type 0
NoneCounts p k s [] = Unit {0}
NoneCounts p k s (c ∷ l) =
    (CountedBy p (break_of s p k) s c (break_of (step s c).after p k).count → ⊥) × NoneCounts p k (step s c).after l

-- after every call of a list there is a breakpoint in entry k
unfoldable pub StaysUsed : ℕ → ℕ → State → List Call → Type 0
StaysUsed p k s [] = Unit {0}
StaysUsed p k s (c ∷ l) = (in_use (break_of (step s c).after p k) ≡ true) × StaysUsed p k (step s c).after l

-- ---- notices

-- a BPT report about process p, with nine words, is granted and stops it at a breakpoint, whose count is 0
pub record StopsAtBreakpoint (p : ℕ) (s : State) (c : Call) : Type 0 where
  pub is : c ≡ report p BPT (reason_of c) (words_of c) (buffers_of c).own (buffers_of c).line
  pub granted : Granted s c
  pub nine : length (words_of c) ≡ vector_words
  pub found : has_break (get_or (words_of c) 7 0) (record_of s p) ≡ true
  pub last : (entry (record_of s p) (find (At (get_or (words_of c) 7 0)) (record_of s p))).count ≡ 0

-- the host that set the breakpoint at PC of a report
abbrev pub setter_at : ℕ → State → Call → ℕ
setter_at p s c = (entry (record_of s p) (find (At (get_or (words_of c) 7 0)) (record_of s p))).setter

-- any granted report about process p
pub record Reports (p : ℕ) (s : State) (c : Call) : Type 0 where
  pub is : c ≡ report p (kind_of c) (reason_of c) (words_of c) (buffers_of c).own (buffers_of c).line
  pub granted : Granted s c

-- the process moves still after the call: a report did not stop or end it
abbrev pub moves_on : ℕ → State → Call → Bool
moves_on p s c = moving (record_of (step s c).after p).run

-- a BPT report 'at a breakpoint': there is one at its PC
abbrev pub at_breakpoint : ℕ → State → Call → Bool
at_breakpoint p s c = eqb (kind_of c) BPT && has_break (get_or (words_of c) 7 0) (record_of s p)

-- the one host that a report tells: nobody, 0, while the process moves on; else 'A BPT notice at a breakpoint goes to the one who set it, other
-- notices to the debugging host', or to nobody where none debugs it
abbrev pub told_host : ℕ → State → Call → ℕ
told_host p s c = cond (moves_on p s c) 0 (cond (at_breakpoint p s c) (setter_at p s c) (holder s p))

-- the notice of a report to this host; to nobody it is no bytes
abbrev pub notice_for : ℕ → ℕ → Call → List ℕ
notice_for host p c = cond (eqb host 0) [] (written (notice_of host (kind_of c) p (reason_of c)) (low_first (words_of c)))

-- ---- the seller

-- a granted DEBUG, CREATE or WATCH of this host gives it process p
unfoldable pub Comes : ℕ → ℕ → State → Call → Type 0
Comes host p s c = (asker c ≡ by host) × (Begins p s c ⊎ WatchBegins p s c)

-- no call of a list does
unfoldable pub NeverComes : ℕ → ℕ → State → List Call → Type 0
NeverComes host p s [] = Unit {0}
NeverComes host p s (c ∷ l) = (Comes host p s c → ⊥) × NeverComes host p (step s c).after l

-- a host neither debugs nor watches process p: it may not see the inside
abbrev pub IsOut : ℕ → ℕ → State → Type 0
IsOut host p s = insider (public_of s p) host ≡ false

-- ---- the theorem

-- what owner and installer may rely on
pub record Watching : Type 0 where
  -- the watcher stays, or a watch begins where there was none, or it ends
  pub turns : (s : State) → Ready s → (c : Call) (p : ℕ) → p < 8
      → (watcher_of (step s c).after p ≡ watcher_of s p) ⊎ (WatchBegins p s c ⊎ WatchEnds p s c)
  -- over lists: a watch goes on until the watcher's END WATCH, or the END DEBUG or DESTROY of the host that debugs
  pub kept : (s : State) → Ready s → (l : List Call) (p : ℕ) → p < 8 → (watcher_of s p ≡ 0 → ⊥) → NoneEndsWatch p s l
      → watcher_of (final s l) p ≡ watcher_of s p
  -- and a process that nobody watches stays so until a granted WATCH
  pub stays-unwatched : (s : State) → Ready s → (l : List Call) (p : ℕ) → p < 8 → watcher_of s p ≡ 0 → NoneBeginsWatch p s l → watcher_of (final s l) p ≡ 0
  -- a watcher is another than the host that debugs, and there is one only where a host debugs
  pub apart : (s : State) → Ready s → (p : ℕ) → p < 8 → (watcher_of s p ≡ 0 → ⊥) → (holder s p ≡ 0 → ⊥) × (watcher_of s p ≡ holder s p → ⊥)
  -- a breakpoint stays the same, with its count, or is removed, and only so
  pub life : (s : State) → Ready s → (c : Call) (p k : ℕ) → p < 8 → k < entry_count → in_use (break_of s p k) ≡ true
      → (SameBreakpoint (break_of s p k) (break_of (step s c).after p k) × CountOf p (break_of s p k) s c (break_of (step s c).after p k).count)
      ⊎ ((in_use (break_of (step s c).after p k) ≡ false) × RemovedBy p (break_of s p k) s c)
  -- and each of those calls removes it
  pub removed : (s : State) → Ready s → (c : Call) (p k : ℕ) → p < 8 → k < entry_count → in_use (break_of s p k) ≡ true → RemovedBy p (break_of s p k) s c
      → in_use (break_of (step s c).after p k) ≡ false
  -- over lists: until one of them it is there, with its address and who set it
  pub stays : (s : State) → Ready s → (l : List Call) (p k : ℕ) → p < 8 → k < entry_count → in_use (break_of s p k) ≡ true → NoneRemoves p k s l
      → SameBreakpoint (break_of s p k) (break_of (final s l) p k)
  -- so its address and who set it never change while it is there
  pub while-there : (s : State) → Ready s → (l : List Call) (p k : ℕ) → p < 8 → k < entry_count → in_use (break_of s p k) ≡ true → StaysUsed p k s l
      → SameBreakpoint (break_of s p k) (break_of (final s l) p k)
  -- nor does its count, unless he changes it or a report passes it
  pub count-stays : (s : State) → Ready s → (l : List Call) (p k : ℕ) → p < 8 → k < entry_count → in_use (break_of s p k) ≡ true
      → NoneRemoves p k s l → NoneCounts p k s l → (break_of (final s l) p k).count ≡ (break_of s p k).count
  -- 'who set a breakpoint debugs or watches its process'
  pub set-by : (s : State) → Ready s → (p k : ℕ) → p < 8 → k < entry_count → in_use (break_of s p k) ≡ true
      → insider (public_of s p) (break_of s p k).setter ≡ true
  -- by a call of his a host that watches, or does then, changes no seen byte, register or run state of the process
  pub looks-only : (s : State) → Ready s → (c : Call) (host p : ℕ) → p < 8 → (host ≡ 0 → ⊥) → asker c ≡ by host
      → (watcher_of s p ≡ host) ⊎ (watcher_of (step s c).after p ≡ host)
      → (seen_of (local_of (step s c).after p) ≡ seen_of (local_of s p))
      × (((record_of (step s c).after p).vector ≡ (record_of s p).vector) × ((record_of (step s c).after p).run ≡ (record_of s p).run))
  -- 'A BPT notice at a breakpoint goes to the one who set it'
  pub told : (s : State) → Ready s → (c : Call) (p : ℕ) → p < 8 → StopsAtBreakpoint p s c
      → ((step s c).answer.outcome ≡ outcome 0 28)
      × ((step s c).answer.buffer ≡ overlay (written (notice_of (setter_at p s c) BPT p 0) (low_first (words_of c))) (buffers_of c).own)
  -- so every granted report writes one notice at most, to that host: 'other notices to the debugging host'; none while the process moves on
  pub notices : (s : State) → Ready s → (c : Call) (p : ℕ) → Reports p s c
      → ((step s c).answer.outcome ≡ outcome 0 (length (notice_for (told_host p s c) p c)))
      × ((step s c).answer.buffer ≡ overlay (notice_for (told_host p s c) p c) (buffers_of c).own)
  -- besides it a report sends only the line owed to host 253, which debugs the process
  pub line : (s : State) → Ready s → (c : Call) (p : ℕ) → Reports p s c → 0 < (step s c).answer.line_length
      → (owes (owed_at s p) ≡ true) × ((holder s p ≡ text_host) × Answers p (owed_at s p) s c)
  -- the seller: once END DEBUG is granted he, as any other host, neither debugs nor watches, until a DEBUG, CREATE or WATCH of his own is granted
  pub seller : (s : State) → Ready s → (host p : ℕ) → p < 8 → (c : Call) → GrantedRequest END-DEBUG p s c
      → (l : List Call) → NeverComes host p (step s c).after l → IsOut host p (final (step s c).after l)
