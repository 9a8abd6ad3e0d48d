-- What may change a process, and when the right to debug it begins and ends.
use Rattle.std.specs.Prelude.{◌≡◌, true, List, [], ◌∷◌, ◌⊎◌, ℕ, ◌<◌, get_or}
use Rattle.rules.specs.Tests.{State}
use Rattle.rules.specs.Rule.{Public}
use Rattle.rules.specs.Access.{Asker, nobody, by, insider}
use Rattle.rules.specs.Step.{Answer, Call, step, local_of}
use Rattle.rules.specs.Ready.{Ready}
use Rattle.rules.specs.Run.{final}
use Rattle.rules.specs.Isolation.{asker, subject, fields_of, is_granted, public_of}
use Rattle.rules.specs.Outsider.{only}
use Rattle.ops.specs.Codes.{CREATE, DEBUG, DESTROY, END-DEBUG}

-- the host that debugs a process, or 0
abbrev pub holder : State → ℕ → ℕ
holder s p = (public_of s p).host

-- asked by a host that debugs or watches the process before the call or after it; nobody asks a report, a store or a tick
unfoldable pub Allowed : Asker → Public → Public → Type 0
Allowed nobody before after = Unit {0}
Allowed (by host) before after = (insider before host ≡ true) ⊎ (insider after host ≡ true)

-- the CREATE whose reply carries the number of the process: 'CREATED carries the new number in PID.'
abbrev pub Creates : ℕ → Call → Answer → Type 0
Creates p c a = ((fields_of c).cmd ≡ CREATE) × (get_or a.buffer 5 0 ≡ p)

-- a call that names the process or is about it, or the CREATE of it
abbrev pub Reaches : ℕ → Call → Answer → Type 0
Reaches p c a = (subject (only p) c ≡ true) ⊎ Creates p c a

-- a request or a text line that names it, a packet to it, or the CREATE of it, of a host that debugs or watches it or does then; a report
-- about it; a store into it; a tick at it
abbrev pub MayChange : ℕ → State → Call → Type 0
MayChange p s c = Reaches p c (step s c).answer × Allowed (asker c) (public_of s p) (public_of (step s c).after p)

-- by a granted DEBUG of a process that nobody debugs, or the granted CREATE of it, the asker debugs it
pub record Begins (p : ℕ) (s : State) (c : Call) : Type 0 where
  pub granted : is_granted (step s c).answer.outcome ≡ true
  pub op : (((fields_of c).cmd ≡ DEBUG) × ((fields_of c).pid ≡ p)) ⊎ Creates p c (step s c).answer
  pub before : holder s p ≡ 0
  pub after : asker c ≡ by (holder (step s c).after p)

-- by a granted END DEBUG or DESTROY of the host that debugs it, nobody debugs it
pub record Ends (p : ℕ) (s : State) (c : Call) : Type 0 where
  pub granted : is_granted (step s c).answer.outcome ≡ true
  pub op : ((fields_of c).cmd ≡ END-DEBUG) ⊎ ((fields_of c).cmd ≡ DESTROY)
  pub named : (fields_of c).pid ≡ p
  pub before : asker c ≡ by (holder s p)
  pub after : holder (step s c).after p ≡ 0

-- no call of a list ends the right to debug this process
unfoldable pub NoneEnds : ℕ → State → List Call → Type 0
NoneEnds p s [] = Unit {0}
NoneEnds p s (c ∷ l) = (Ends p s c → ⊥) × NoneEnds p (step s c).after l

-- no call of a list begins it
unfoldable pub NoneBegins : ℕ → State → List Call → Type 0
NoneBegins p s [] = Unit {0}
NoneBegins p s (c ∷ l) = (Begins p s c → ⊥) × NoneBegins p (step s c).after l

-- who may change a process, and when a right begins and ends
pub record Rights : Type 0 where
  -- nothing else changes a process
  pub changes : (s : State) → Ready s → (c : Call) (p : ℕ) → p < 8 → (MayChange p s c → ⊥) → local_of (step s c).after p ≡ local_of s p
  -- the host stays, or his right begins where nobody had one, or it ends by him: no host takes it from another, and none debugs beside another
  pub turns : (s : State) → Ready s → (c : Call) (p : ℕ) → p < 8 → (holder (step s c).after p ≡ holder s p) ⊎ (Begins p s c ⊎ Ends p s c)
  -- over lists: a host keeps his right until he ends it
  pub held : (s : State) → Ready s → (l : List Call) (p : ℕ) → p < 8 → (holder s p ≡ 0 → ⊥) → NoneEnds p s l → holder (final s l) p ≡ holder s p
  -- and a process that nobody debugs stays so until a granted DEBUG or CREATE
  pub unheld : (s : State) → Ready s → (l : List Call) (p : ℕ) → p < 8 → holder s p ≡ 0 → NoneBegins p s l → holder (final s l) p ≡ 0
