-- How many are set, in the words of a user: the stored number is true after every call, and STATUS answers it and the run state to those who may see
-- inside, and changes nothing. Words in quotation marks are the change request's (K6).
use Rattle.std.specs.Prelude.{◌≡◌, true, List, [], ℕ, ◌<◌, ◌≤◌}
use Rattle.lists.specs.Buffer.{overlay}
use Rattle.ops.specs.Codes.{STATUS}
use Rattle.format.specs.declared.header.Header.{Header}
use Rattle.format.specs.Outcome.{outcome}
use Rattle.format.specs.Layout.{written}
use Rattle.format.specs.Answer.{cant_of, with_args}
use Rattle.run_state.specs.RunState.{run_number}
use Rattle.process.specs.Record.{count_used}
use Rattle.rules.specs.Tests.{State, record_of, request_number}
use Rattle.rules.specs.Access.{by, insider}
use Rattle.rules.specs.Step.{Call, request, step, local_of}
use Rattle.rules.specs.Turn.{buffers_of}
use Rattle.rules.specs.Ready.{Ready}
use Rattle.rules.specs.Run.{final}
use Rattle.rules.specs.Isolation.{asker, fields_of, public_of}
use Rattle.rules.specs.Watch.{GrantedRequest}

-- how many breakpoints process p has: of its entries, those in use
abbrev pub breakpoints_of : State → ℕ → ℕ
breakpoints_of s p = count_used (record_of s p).breaks

-- the reply to a STATUS of process p: the number 'in ARG1, the run state in ARG2 (0 to 4 in document 01's listed order, 5 passing)'
abbrev pub status_reply : State → ℕ → Header → List ℕ
status_reply s p h = written (with_args (breakpoints_of s p) (run_number (record_of s p).run) h) []

-- the CAN'T of a STATUS, which 'has zeros'
abbrev pub status_cant : Header → List ℕ
status_cant h = written (with_args 0 0 (cant_of h)) []

-- what the desk screen may rely on
pub record HowManySet : Type 0 where
  -- 'true after every operation': after any call the stored number is the number of entries in use, in every process
  pub true-after : (s : State) → Ready s → (c : Call) (p : ℕ) → p < 8 → (record_of (step s c).after p).number ≡ breakpoints_of (step s c).after p
  -- and after lists of any length
  pub stays-true : (s : State) → Ready s → (l : List Call) (p : ℕ) → p < 8 → (record_of (final s l) p).number ≡ breakpoints_of (final s l) p
  -- a granted STATUS answers it and the run state
  pub answers : (s : State) → Ready s → (c : Call) (p : ℕ) → GrantedRequest STATUS p s c
      → ((step s c).answer.outcome ≡ outcome 0 10) × ((step s c).answer.buffer ≡ overlay (status_reply s p (fields_of c)) (buffers_of c).own)
  -- it changes no process
  pub changes-nothing : (s : State) → Ready s → (c : Call) (p : ℕ) → GrantedRequest STATUS p s c → (q : ℕ) → q < 8 → local_of (step s c).after q ≡ local_of s q
  -- 'Debugging host or watcher only.'
  pub insiders-only : (s : State) → Ready s → (c : Call) (p host : ℕ) → GrantedRequest STATUS p s c → asker c ≡ by host → insider (public_of s p) host ≡ true
  -- and they get no CAN'T, whatever the run state
  pub insiders-answered : (s : State) → Ready s → (m buffer : List ℕ) → (fields_of (request m buffer)).cmd ≡ STATUS
      → insider (public_of s (fields_of (request m buffer)).pid) (fields_of (request m buffer)).host ≡ true → request_number s m buffer < 7
  -- 'A CAN'T has zeros.': where one is written, ARG1 and ARG2 of the request, which it repeats, are zero
  pub cants-zeros : (s : State) (m buffer : List ℕ) → (fields_of (request m buffer)).cmd ≡ STATUS → 7 ≤ request_number s m buffer
      → ((fields_of (request m buffer)).arg1 ≡ 0) × ((fields_of (request m buffer)).arg2 ≡ 0)
  -- so it is written with zeros
  pub cants-bytes : (s : State) (m buffer : List ℕ) → (fields_of (request m buffer)).cmd ≡ STATUS → 7 ≤ request_number s m buffer
      → (step s (request m buffer)).answer.buffer ≡ overlay (status_cant (fields_of (request m buffer))) buffer
