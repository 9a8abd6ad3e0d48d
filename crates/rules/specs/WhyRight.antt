-- 'Prove the test and each fact right.', in the words of a user who does not know the code. Words in quotation marks are the change request's (K8).
use Rattle.std.specs.Prelude.{◌≡◌, true, false, List, [], ◌∷◌, ◌⊎◌, ℕ, ◌+◌, ◌≤◌, ◌<◌, ◌%◌, length}
use Rattle.ops.specs.Codes.{BREAK, DEPOSIT, DEPOSIT-VECTOR, EXAMINE}
use Rattle.format.specs.declared.header.Header.{Header}
use Rattle.format.specs.Outcome.{number_of}
use Rattle.format.specs.Layout.{header_of}
use Rattle.run_state.specs.RunState.{run_number}
use Rattle.format.specs.Sizes.{string_bytes}
use Rattle.state.specs.Sound.{EightEntries}
use Rattle.breakpoints.specs.Entry.{in_use}
use Rattle.process.specs.declared.record.Process.{Process}
use Rattle.process.specs.Record.{entry}
use Rattle.process.specs.Sizes.{entry_count, vector_bytes}
use Rattle.process.specs.Request.{count_set_by}
use Rattle.rules.specs.Rule.{insider}
use Rattle.rules.specs.Tests.{State, record_of, no_room}
use Rattle.rules.specs.Step.{query, request_step, query_step}
use Rattle.rules.specs.Isolation.{Hosts, public_of, to_them}
use Rattle.rules.specs.Total.{one_of}

-- the process that a request names
abbrev pub asked_about : State → List ℕ → Process
asked_about s m = record_of s (header_of m).pid

-- 10, the end: a DEPOSIT or EXAMINE reaches that many bytes past the size, or a DEPOSIT STATE VECTOR past the vector
unfoldable pub PastEnd : Header → ℕ → ℕ → Type 0
PastEnd h size excess =
    (0 < excess)
    × (((h.cmd ≡ DEPOSIT-VECTOR) × (h.arg1 + h.arg2 ≡ vector_bytes + excess))
    ⊎ (((h.cmd ≡ EXAMINE) ⊎ (h.cmd ≡ DEPOSIT)) × (h.arg1 + h.arg2 ≡ size + excess)))

-- 10, '256': an EXAMINE that ends inside asks for that many bytes more
pub record PastCount (h : Header) (size excess : ℕ) : Type 0 where
  pub op : h.cmd ≡ EXAMINE
  pub inside : h.arg1 + h.arg2 ≤ size
  pub more : 0 < excess
  pub count : h.arg2 ≡ string_bytes + excess

-- 10, 'BREAK's last address': a BREAK is that far past it, which is size - 2, or 'only odd'
unfoldable pub PastLast : Header → ℕ → ℕ → Type 0
PastLast h size excess =
    (h.cmd ≡ BREAK) × (((0 < excess) × (h.arg1 + 2 ≡ size + excess)) ⊎ ((excess ≡ 0) × ((h.arg1 % 2 ≡ 1) × (h.arg1 + 2 ≤ size))))

-- 10: 'which limit (the first passed of the end, 256, BREAK's last address) by how much'
unfoldable pub LimitBy : List ℕ → Header → ℕ → ℕ → Type 0
LimitBy facts h size excess =
    ((facts ≡ 0 ∷ excess ∷ []) × PastEnd h size excess)
    ⊎ (((facts ≡ 1 ∷ excess ∷ []) × PastCount h size excess) ⊎ ((facts ≡ 2 ∷ excess ∷ []) × PastLast h size excess))

-- 11: 8, and all eight entries are in use; or 4, and one is not, and the asker has four or more while somebody watches
unfoldable pub FullBy : ℕ → Header → Process → Type 0
FullBy n h p =
    ((n ≡ 8) × ((k : ℕ) → k < entry_count → in_use (entry p k) ≡ true))
    ⊎ ((n ≡ 4) × (((p.session.watcher ≡ 0 → ⊥) × (4 ≤ count_set_by h.host p.breaks)) × ((k : ℕ) × (k < entry_count) × (in_use (entry p k) ≡ false))))

-- 16: there is a breakpoint at ARG1, this host set it, and it is another than the asker
unfoldable pub SetBy : ℕ → Header → Process → Type 0
SetBy host h p =
    (host ≡ h.host → ⊥) × ((k : ℕ) × (k < entry_count) × ((in_use (entry p k) ≡ true) × (((entry p k).address ≡ h.arg1) × ((entry p k).setter ≡ host))))

-- records, starts and entries have the sizes of the code's types
pub record Shaped (s : State) : Type 0 where
  pub processes : length s.records.processes ≡ 8
  pub starts : length s.records.starts ≡ 8
  pub entries : EightEntries s.records

-- the number that a query of this message is told, and the facts
abbrev pub told_number : State → List ℕ → ℕ
told_number s m = number_of (query_step m s).answer.outcome

-- the facts
abbrev pub told_facts : State → List ℕ → List ℕ
told_facts s m = (query_step m s).answer.buffer

-- what a user may rely on, of any state, whatever the memory
pub record WhyRight : Type 0 where
  -- the number is the one that the request itself would give, where memory and reply buffer are right
  pub same_number : (s : State) (m buffer : List ℕ) → no_room s.memory buffer ≡ false → told_number s m ≡ number_of (request_step m buffer s).answer.outcome
  -- it changes nothing
  pub unchanged : (s : State) (m : List ℕ) → (query_step m s).after ≡ s
  -- 'Demand 3 gives the answer to the request's sender.'
  pub to-sender : (H : Hosts) (s : State) (m : List ℕ) → to_them H (query m) (query_step m s).answer ≡ H (header_of m).host
  -- '3 the length'
  pub length-told : (s : State) (m : List ℕ) → told_number s m ≡ 3 → told_facts s m ≡ length m ∷ []
  -- '8 who debugs it'
  pub debugger-told : (s : State) (m : List ℕ) → told_number s m ≡ 8 → told_facts s m ≡ (asked_about s m).host ∷ []
  -- '9 what run state'
  pub run-told : (s : State) (m : List ℕ) → told_number s m ≡ 9 → told_facts s m ≡ run_number (asked_about s m).run ∷ []
  -- '10 which limit .. by how much'
  pub limit-told : (s : State) (m : List ℕ) → told_number s m ≡ 10 → (excess : ℕ) × LimitBy (told_facts s m) (header_of m) (asked_about s m).size excess
  -- '11 whether 8 or 4 (8 first)'
  pub full-told : (s : State) (m : List ℕ) → Shaped s → told_number s m ≡ 11 → (n : ℕ) × ((told_facts s m ≡ n ∷ []) × FullBy n (header_of m) (asked_about s m))
  -- '15 the watcher'
  pub watcher-told : (s : State) (m : List ℕ) → told_number s m ≡ 15 → told_facts s m ≡ (asked_about s m).session.watcher ∷ []
  -- '16 who set it'
  pub setter-told : (s : State) (m : List ℕ) → Shaped s → told_number s m ≡ 16 → (host : ℕ) × ((told_facts s m ≡ host ∷ []) × SetBy host (header_of m) (asked_about s m))
  -- 'others none'
  pub none_told : (s : State) (m : List ℕ) → one_of (3 ∷ 8 ∷ 9 ∷ 10 ∷ 11 ∷ 15 ∷ 16 ∷ []) (told_number s m) ≡ false → told_facts s m ≡ []
  -- no fact of 9 to 12 or 16 reaches a host that may not see inside: it is never told one of these numbers
  pub stranger : (s : State) (m : List ℕ) → Shaped s → insider (public_of s (header_of m).pid) (header_of m).host ≡ false
      → one_of (9 ∷ 10 ∷ 11 ∷ 12 ∷ 16 ∷ []) (told_number s m) ≡ false
