-- The law of a call: all that the theorems ask of one. Each call has one proof of it (RequestLaws, ReportLaws, TextLaws), and every theorem follows
-- for all calls alike. Assumes nothing.
use mathlib.Core.Path.{◌≡◌}
use mathlib.Core.Bool.{true, false, cond}
use mathlib.Core.List.{[]}
use mathlib.Core.Logic.{◌⊎◌}
use Prim.Native.Nat.{ℕ, ◌≤◌, ◌<◌}
use lib.Dec.{eqb}
use Rattle.format.specs.Outcome.{first_failing}
use lib.ListN.{get_or}
use Rattle.ops.specs.Codes.{CREATE}
use Rattle.process.specs.Local.{Local}
use Rattle.rules.specs.Outsider.{only}
use Rattle.rules.specs.Rule.{Public, creates}
use Rattle.rules.specs.Tests.{State}
use Rattle.rules.specs.Access.{nobody, Output, alone, Access, Place, nowhere, at_process, grants, taken}
use Rattle.rules.specs.Step.{Answer, Call, step}
use Rattle.rules.specs.Turn.{turn_of, buffers_of}
use Rattle.rules.specs.Ready.{Ready, NineWords, Typed}
use Rattle.rules.specs.Isolation.{Processes, asker, subject, event, passed_over, fields_of, told_of, public_of}
use Rattle.rules.specs.Total.{tests_of, numbers_of, one_of}
use Rattle.rules.proofs.StateLaws.{extent_of, Fits}
use Rattle.rules.proofs.RuleLaws.{Turns}
use Rattle.rules.proofs.TurnLaws.{turn_number}
use Rattle.rules.proofs.AccessLaws.{Fair}

-- states that show the same to everyone
abbrev pub Shown : State → State → Type 0
Shown s t = (p : ℕ) → p < 8 → public_of s p ≡ public_of t p

-- a call that tells nothing new of who is there and who debugs it
abbrev pub Silent : Call → Type 0
Silent c = (d : ℕ → Public) (a : Answer) (q : ℕ) → told_of d c a q ≡ d q

-- a call that goes to process p
pub record There (s : State) (c : Call) (p : ℕ) (a : Access) : Type 0 where
  pub low : p < 8
  pub then : Public → Public
  pub fair : Fair (asker c) a then
  -- the vector keeps its nine words
  pub words : Typed c → (l : Local) → NineWords l.process → NineWords (a.effect l).process
  -- there is a place for what is left of it
  pub fits : Fits s p (then (public_of s p))
  -- only a CREATE gives it more bytes
  pub narrows : ((fields_of c).cmd ≡ CREATE → ⊥) → (u : Public) → extent_of (then u) ≤ extent_of u
  -- it goes to the process that it names, or it is a CREATE
  pub named : (P : Processes) → subject P c ≡ true → P p ≡ true
  pub reaches : (subject (only p) c ≡ true) ⊎ ((fields_of c).cmd ≡ CREATE)
  -- the reply to a CREATE carries the number of the process
  pub carries : (l : Local) → (fields_of c).cmd ≡ CREATE → get_or (grants (a.reply l) (buffers_of c)).buffer 5 0 ≡ p
  -- and what it creates does not rest on what was there
  pub anew : (fields_of c).cmd ≡ CREATE → (l k : Local) → a.effect l ≡ a.effect k
  -- the call and its answer tell the public part after it
  pub told : (d : ℕ → Public) (l : Local) (q : ℕ) → told_of d c (grants (a.reply l) (buffers_of c)) q ≡ cond (eqb q p) (then (d q)) (d q)
  -- when the right to debug and a watch begin and end
  pub turns : first_failing (a.outer (public_of s p)) ≡ 0 → Turns (asker c) (fields_of c) p (public_of s p) (then (public_of s p))

-- a call that goes to no process
pub record Nowhere (c : Call) (output : Output) : Type 0 where
  pub told : (d : ℕ → Public) (q : ℕ) → told_of d c (grants output (buffers_of c)) q ≡ d q
  pub quiet : asker c ≡ nobody → output ≡ alone []

-- the one or the other
unfoldable pub Placed : State → Call → Place → Type 0
Placed s c (nowhere output) = Nowhere c output
Placed s c (at_process p a) = There s c p a

-- the law of a call
pub record Lawful (c : Call) : Type 0 where
  -- it is the call in its parts
  pub turn : (s : State) → step s c ≡ taken (turn_of s c) (buffers_of c) s
  pub number : (s : State) → turn_number (turn_of s c) s ≡ first_failing (tests_of s c)
  pub listed : (s : State) → one_of (numbers_of c) (first_failing (tests_of s c)) ≡ true
  -- the parts go by what everyone may know
  pub alike : (s t : State) → Ready s → Ready t → Shown s t → turn_of s c ≡ turn_of t c
  pub placed : (s : State) → Ready s → first_failing (turn_of s c).tests ≡ 0 → Placed s c (turn_of s c).place
  -- a call that names a process or is about it creates none
  pub subject-creates : (P : Processes) → subject P c ≡ true → creates (fields_of c).cmd ≡ false
  -- what is struck from a list is asked by nobody, and tells nothing of rights
  pub event-asker : event c ≡ true → asker c ≡ nobody
  pub event-silent : event c ≡ true → Silent c
  -- what is passed over of a call changes neither who asks nor what it names, and rights are not in it
  pub over-asker : asker (passed_over c) ≡ asker c
  pub over-subject : (P : Processes) → subject P c ≡ true → subject P (passed_over c) ≡ true
  pub over-silent : (passed_over c ≡ c) ⊎ (Silent c × Silent (passed_over c))
