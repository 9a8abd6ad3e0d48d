-- The statements that the contracts of theorems.rt carry.
use Rattle.std.specs.Prelude.{◌≡◌, true, false, List, [], ◌∷◌, ◌⊎◌, ℕ, ◌+◌, ◌≤◌, ◌<◌, ◌%◌, length, get_or, set}
use Rattle.std.proofs.Math.Seq.{paste}
use Rattle.lists.specs.Word.{low, high}
use Rattle.breakpoints.specs.declared.entry.Breakpoint.{Breakpoint}
use Rattle.process.specs.declared.record.Process.{Process}
use Rattle.run_state.specs.declared.Run.TheVariants.{Running}
use Rattle.process.specs.Sizes.{entry_count}
use Rattle.process.specs.Record.{entry, with_host, with_run, with_vector, watched_by}
use Rattle.process.specs.Sound.{Sound, SizeRight, NoBreakpoints, DebugsOrWatches, sound_test}
use Rattle.breakpoints.specs.Entry.{is_set_by, in_use}
use Rattle.breakpoints.specs.Seen.{is_planted, seen}
use Rattle.process.specs.Local.{Local, Proper}
use Rattle.run_state.specs.RunState.{stopped_or_at_break, at_break, accepts}
use Rattle.session.specs.Session.{text_host, pup_host}
use Rattle.process.specs.Request.{has_break, has_room, end_debugged, end_watched, stopped, stepped, proceeded, continued, stepped_from, examined, deposited, break_set, break_removed, created, cleared}
use Rattle.process.specs.Report.{reported}
use Rattle.process.specs.Packet.{without_go, go_asked, go_replied, ticked, word_stored}

-- the test passes exactly the sound records
pub record TestIsSound : Type 0 where
  pub passes-sound : (p : Process) → sound_test p ≡ true → Sound p
  pub sound-passes : (p : Process) → length p.breaks ≡ entry_count → Sound p → sound_test p ≡ true

-- what is seen of a process
abbrev pub seen_of : Local → List ℕ
seen_of l = seen l.process.breaks l.bytes

-- what is deposited is examined, and nothing else that is seen changes
pub record DepositIsSeen : Type 0 where
  pub whole : (at : ℕ) (string : List ℕ) (l : Local) → Proper l → seen_of (deposited at string l) ≡ paste (seen_of l) at string (length string)
  pub read_back : (at : ℕ) (string : List ℕ) (l : Local) → Proper l → at + length string ≤ length l.bytes
      → examined at (length string) (deposited at string l) ≡ string
  -- a word that is stored is the word that is fetched, 'low first'
  pub word : (first v : ℕ) (l : Local) → Proper l → first + 2 ≤ length l.bytes → examined first 2 (word_stored first v l) ≡ low v ∷ high v ∷ []
  pub elsewhere : (at : ℕ) (string : List ℕ) (l : Local) (i : ℕ) → Proper l → at + length string ≤ length l.bytes → (i < at) ⊎ (at + length string ≤ i)
      → get_or (seen_of (deposited at string l)) i 0 ≡ get_or (seen_of l) i 0

-- no breakpoint that is set, removed, lifted, passed or planted again changes what is seen
pub record SeenStays : Type 0 where
  pub break : (host a n : ℕ) (l : Local) → Proper l → (host ≡ 0 → ⊥) → a % 2 ≡ 0 → (has_break a l.process ≡ false → has_room l.process ≡ true) → seen_of (break_set host a n l) ≡ seen_of l
  pub unbreak : (a : ℕ) (l : Local) → Proper l → has_break a l.process ≡ true → seen_of (break_removed a l) ≡ seen_of l
  pub end-watch : (l : Local) → Proper l → seen_of (end_watched l) ≡ seen_of l
  pub stop : (l : Local) → Proper l → seen_of (stopped l) ≡ seen_of l
  pub step : (l : Local) → Proper l → seen_of (stepped l) ≡ seen_of l
  pub proceed : (l : Local) → Proper l → seen_of (proceeded l) ≡ seen_of l
  pub continue : (a : ℕ) (l : Local) → Proper l → seen_of (continued a l) ≡ seen_of l
  pub step_from : (a : ℕ) (l : Local) → Proper l → seen_of (stepped_from a l) ≡ seen_of l
  pub report : (kind : ℕ) (words : List ℕ) (l : Local) → Proper l → seen_of (reported kind words l) ≡ seen_of l

-- after END DEBUG memory is what was seen, and no breakpoint is left
pub record EndDebugRestores : Type 0 where
  pub memory : (l : Local) → (end_debugged l).bytes ≡ seen_of l
  pub none_left : (l : Local) → NoBreakpoints (end_debugged l).process

-- a breakpoint of the watcher, 'planted (not lifted)'
pub record WatchersPlanted (l : Local) (b : Breakpoint) : Type 0 where
  pub his : is_set_by l.process.session.watcher b ≡ true
  pub planted : is_planted b ≡ true

-- a byte at address i is one of the two of a breakpoint's word
abbrev pub InWord : ℕ → Breakpoint → Type 0
InWord i b = (i ≡ b.address) ⊎ (i ≡ b.address + 1)

-- 'END WATCH removes the watcher's breakpoints', and his planted words are put back
pub record EndWatchRemoves : Type 0 where
  -- none of his is left
  pub none_left : (l : Local) → Proper l → (k : ℕ) → k < entry_count → is_set_by l.process.session.watcher (entry (end_watched l).process k) ≡ false
  -- every other entry is as it was
  pub others : (l : Local) → Proper l → (k : ℕ) → k < entry_count → is_set_by l.process.session.watcher (entry l.process k) ≡ false
      → entry (end_watched l).process k ≡ entry l.process k
  -- at each planted one of his the two bytes are what was seen there
  pub put_back : (l : Local) → Proper l → (k : ℕ) → k < entry_count → WatchersPlanted l (entry l.process k) → (i : ℕ) → InWord i (entry l.process k)
      → get_or (end_watched l).bytes i 0 ≡ get_or (seen_of l) i 0
  -- all other bytes stay
  pub elsewhere : (l : Local) → Proper l → (i : ℕ) → ((k : ℕ) → k < entry_count → WatchersPlanted l (entry l.process k) → InWord i (entry l.process k) → ⊥)
      → get_or (end_watched l).bytes i 0 ≡ get_or l.bytes i 0
  -- as many as there were
  pub same_length : (l : Local) → Proper l → length (end_watched l).bytes ≡ length l.bytes

-- 'Should it store into a planted word, the saved word still is what is seen and put back.'
unfoldable pub StoreIsUnseen : Type 0
StoreIsUnseen =
    (l : Local) (k i v : ℕ) → k < length l.process.breaks → is_planted (entry l.process k) ≡ true
    → (i ≡ (entry l.process k).address) ⊎ (i ≡ (entry l.process k).address + 1) → seen l.process.breaks (set l.bytes i v) ≡ seen_of l

-- 'Breakpoints in loops never come back.' no more: while a sound process runs, every breakpoint of it is planted
unfoldable pub RunningIsPlanted : Type 0
RunningIsPlanted =
    (p : Process) → Sound p → p.run ≡ Running → (k : ℕ) → k < entry_count → in_use (entry p k) ≡ true → is_planted (entry p k) ≡ true

-- a sound record stays sound, whatever a request, a report, a packet or a tick does to it
pub record SoundStays : Type 0 where
  pub debug : (host : ℕ) (p : Process) → Sound p → p.there ≡ true → (host ≡ 0 → ⊥) → (p.host ≡ 0) ⊎ (p.host ≡ host) → Sound (with_host host p)
  pub end-debug : (l : Local) → Proper l → Sound (end_debugged l).process
  pub watch : (host : ℕ) (p : Process) → Sound p → (p.host ≡ 0 → ⊥) → (host ≡ p.host → ⊥)
      → (p.session.watcher ≡ 0) ⊎ (p.session.watcher ≡ host) → Sound (watched_by host p)
  pub end-watch : (l : Local) → Proper l → Sound (end_watched l).process
  pub stop : (l : Local) → Proper l → Sound (stopped l).process
  pub resume : (p : Process) → Sound p → stopped_or_at_break p.run ≡ true → Sound (with_run Running p)
  pub step : (l : Local) → Proper l → stopped_or_at_break l.process.run ≡ true → Sound (stepped l).process
  pub proceed : (l : Local) → Proper l → at_break l.process.run ≡ true → Sound (proceeded l).process
  pub continue : (a : ℕ) (l : Local) → Proper l → stopped_or_at_break l.process.run ≡ true → l.process.host ≡ text_host → Sound (continued a l).process
  pub step_from : (a : ℕ) (l : Local) → Proper l → stopped_or_at_break l.process.run ≡ true → l.process.host ≡ text_host → Sound (stepped_from a l).process
  pub deposit : (at : ℕ) (string : List ℕ) (l : Local) → Proper l → Sound (deposited at string l).process
  pub deposit-vector : (v : List ℕ) (p : Process) → Sound p → Sound (with_vector v p)
  pub break : (host a n : ℕ) (l : Local) → Proper l → (l.process.host ≡ 0 → ⊥)
      → DebugsOrWatches l.process host → a % 2 ≡ 0 → a + 2 ≤ l.process.size
      → (has_break a l.process ≡ false → has_room l.process ≡ true) → Sound (break_set host a n l).process
  pub unbreak : (a : ℕ) (l : Local) → Proper l → has_break a l.process ≡ true → Sound (break_removed a l).process
  pub create : (host size : ℕ) → SizeRight size → Sound (created host size).process
  pub destroy : Sound cleared
  pub report : (kind : ℕ) (words : List ℕ) (l : Local) → Proper l → accepts kind l.process.run ≡ true → Sound (reported kind words l).process
  pub abandon-go : (p : Process) → Sound p → Sound (without_go p)
  pub ask-go : (id : ℕ) (p : Process) → Sound p → p.host ≡ pup_host → Sound (go_asked id p)
  pub reply-go : (id : ℕ) (p : Process) → Sound p → Sound (go_replied id p)
  pub tick : (p : Process) → Sound p → Sound (ticked p)
  pub store : (first v : ℕ) (l : Local) → Proper l → Sound (word_stored first v l).process
