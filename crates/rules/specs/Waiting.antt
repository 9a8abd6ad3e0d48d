-- A Go that waits, in the words of a user: when the process runs, and when it does not. Words in quotation marks are the change request's (K1).
use Rattle.std.specs.Prelude.{◌≡◌, Bool, true, false, cond, List, [], ◌∷◌, ◌⊎◌, ℕ, ◌+◌, ◌≤◌, ◌<◌, eqb}
use Rattle.ops.specs.Codes.{END-DEBUG, DESTROY, RESUME}
use Rattle.format.specs.declared.header.Header.{Header}
use Rattle.format.specs.Outcome.{first_failing}
use Rattle.packets.specs.Types.{GO, GO-REPLY}
use Rattle.packets.specs.Id.{next_id}
use Rattle.run_state.specs.declared.Run.TheVariants.{Running}
use Rattle.session.specs.declared.Go.{Go}
use Rattle.session.specs.Session.{pup_host, no_go, new_go, waits_for}
use Rattle.process.specs.Record.{going}
use Rattle.process.specs.Local.{Local}
use Rattle.process.specs.Request.{on_record}
use Rattle.process.specs.Packet.{go_of}
use Rattle.rules.specs.Rule.{rule_of}
use Rattle.rules.specs.Tests.{State, record_of, asked_tests}
use Rattle.rules.specs.Step.{Call, request, report, store, text_line, packet, tick, query, step, local_of}
use Rattle.rules.specs.Ready.{Ready}
use Rattle.rules.specs.Run.{final}
use Rattle.rules.specs.Rights.{holder}
use Rattle.rules.specs.Owed.{Granted}
use Rattle.rules.specs.Watch.{GrantedRequest}

-- the Go of process p
abbrev pub go_at : State → ℕ → Go
go_at s p = go_of (record_of s p)

-- a Go of this ID that waits, with so many ticks counted
abbrev pub waiting_go : ℕ → ℕ → Go
waiting_go id n = record { waits = true; ticks = n; id = id }

-- so it is with the Go of process p
abbrev pub Waits : ℕ → ℕ → ℕ → State → Type 0
Waits p id n s = go_at s p ≡ waiting_go id n

-- ---- calls

-- a tick at process p
unfoldable pub is_tick : ℕ → Call → Bool
is_tick p (request m buffer) = false
is_tick p (report q kind reason words buffer line) = false
is_tick p (store q a v) = false
is_tick p (text_line text buffer) = false
is_tick p (packet door kind id words buffer) = false
is_tick p (tick door) = eqb door p
is_tick p (query m) = false

-- a Go of this ID to process p
abbrev pub GoOf : ℕ → ℕ → Call → Type 0
GoOf p id c = (words : List ℕ) × (buffer : List ℕ) × (c ≡ packet p GO id words buffer)

-- ---- RESUME

-- the header of a RESUME of host 254
abbrev pub resume_header : ℕ → Header
resume_header p = record { host = pup_host; cmd = RESUME; pid = p; arg1 = 0; arg2 = 0 }

-- the number that it would be refused with by the tests of the process, or 0
unfoldable pub resume_number : ℕ → State → ℕ
resume_number p s = first_failing (asked_tests (resume_header p) s)

-- process p without a Go, and after such a RESUME where it would be granted: 'If RESUME would then be refused, the Go just ends.'
unfoldable pub go_resumed : ℕ → State → Local
go_resumed p s =
    on_record (going no_go) (cond (eqb (resume_number p s) 0) ((rule_of RESUME).effect (resume_header p) [] (local_of s p)) (local_of s p))

-- ---- lists

-- the number of ticks at process p that one call is
abbrev pub tick_count : ℕ → Call → ℕ
tick_count p c = cond (is_tick p c) 1 0

-- and in a list
unfoldable pub ticks_at : ℕ → List Call → ℕ
ticks_at p [] = 0
ticks_at p (c ∷ l) = tick_count p c + ticks_at p l

-- 'only Gos of that ID come and nothing else changes the process': a tick at it, a Go of that ID to it, or a call after which its record is as it was
abbrev pub OnlyGos : ℕ → ℕ → State → Call → Type 0
OnlyGos p id s c = (is_tick p c ≡ true) ⊎ (GoOf p id c ⊎ (record_of (step s c).after p ≡ record_of s p))

-- so it is with each call of a list
unfoldable pub AllOnlyGos : ℕ → ℕ → State → List Call → Type 0
AllOnlyGos p id s [] = Unit {0}
AllOnlyGos p id s (c ∷ l) = OnlyGos p id s c × AllOnlyGos p id (step s c).after l

-- what becomes of a first Go of its ID after the calls of such a list
pub record Timed (p id : ℕ) (s : State) (c : Call) (l : List Call) : Type 0 where
  -- 'no sooner': up to 99 ticks the run state stays as it was, and the Go waits with as many ticks as came
  pub no-sooner : ticks_at p l ≤ 99
      → ((record_of (final (step s c).after l) p).run ≡ (record_of s p).run) × Waits p id (ticks_at p l) (final (step s c).after l)
  -- 'it runs at the hundredth tick', and no Go waits any more
  pub hundredth : ticks_at p l ≡ 99
      → ((record_of (step (final (step s c).after l) (tick p)).after p).run ≡ Running) × (go_at (step (final (step s c).after l) (tick p)).after p ≡ no_go)

-- ---- the theorem

-- what a user may rely on
pub record Waiting : Type 0 where
  -- 'A Go is granted only where RESUME would be.'
  pub where-resume : (s : State) → Ready s → (p id : ℕ) (words buffer : List ℕ) → Granted s (packet p GO id words buffer) → resume_number p s ≡ 0
  -- a granted Go that is the first of its ID waits, and nothing else of the process changes
  pub asked : (s : State) → Ready s → (p id : ℕ) (words buffer : List ℕ) → Granted s (packet p GO id words buffer) → waits_for id (go_at s p) ≡ false
      → local_of (step s (packet p GO id words buffer)).after p ≡ on_record (going (new_go id)) (local_of s p)
  -- another one of the ID that waits, granted or refused, changes nothing of the process: ticks count 'from the first Go of that ID'
  pub again : (s : State) → Ready s → (p id : ℕ) → p < 8 → (words buffer : List ℕ) → waits_for id (go_at s p) ≡ true
      → local_of (step s (packet p GO id words buffer)).after p ≡ local_of s p
  -- 'it runs at the hundredth tick and no sooner if only Gos of that ID come and nothing else changes the process'
  pub timed : (s : State) → Ready s → (p id : ℕ) → p < 8 → (words buffer : List ℕ) → Granted s (packet p GO id words buffer) → waits_for id (go_at s p) ≡ false
      → (l : List Call) → AllOnlyGos p id (step s (packet p GO id words buffer)).after l → Timed p id s (packet p GO id words buffer) l
  -- 'The process resumes .. at the hundredth tenth-second tick'
  pub last-tick : (s : State) → Ready s → (p id : ℕ) → p < 8 → Waits p id 99 s → local_of (step s (tick p)).after p ≡ go_resumed p s
  -- 'The process resumes on a GoReply with the next ID (wrapping at 32 bits) after the waiting Go'
  pub answered : (s : State) → Ready s → (p id n : ℕ) (words buffer : List ℕ) → Waits p id n s → Granted s (packet p GO-REPLY (next_id id) words buffer)
      → local_of (step s (packet p GO-REPLY (next_id id) words buffer)).after p ≡ go_resumed p s
  -- 'any other granted packet abandons the Go (one of another ID counts afresh)', and leaves the run state
  pub abandoned : (s : State) → Ready s → (p id n kind other : ℕ) (words buffer : List ℕ) → Waits p id n s → Granted s (packet p kind other words buffer)
      → (kind ≡ GO → other ≡ id → ⊥) → (kind ≡ GO-REPLY → other ≡ next_id id → ⊥)
      → (go_at (step s (packet p kind other words buffer)).after p ≡ cond (eqb kind GO) (new_go other) no_go)
      × ((record_of (step s (packet p kind other words buffer)).after p).run ≡ (record_of s p).run)
  -- 'and so do END DEBUG and DESTROY'
  pub ended : (s : State) → Ready s → (c : Call) (p : ℕ) → p < 8 → GrantedRequest END-DEBUG p s c ⊎ GrantedRequest DESTROY p s c → go_at (step s c).after p ≡ no_go
  -- 'A Go waits only while host 254 debugs the process, with at most 99 ticks counted'
  pub only-while : (s : State) → Ready s → (p : ℕ) → p < 8 → (go_at s p).waits ≡ true → (holder s p ≡ pup_host) × ((go_at s p).ticks ≤ 99)
