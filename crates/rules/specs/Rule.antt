-- What the rules say of each op code that names a process: who may ask it, when, and what it does. One row for each op code.
use Rattle.std.specs.Prelude.{Bool, true, not, cond, ◌&&◌, ◌||◌, List, [], ◌∷◌, ℕ, ◌+◌, get_or, eqb, leb}
use Rattle.format.specs.declared.header.Header.{Header}
use Rattle.ops.specs.Table.{op, asks}
use Rattle.run_state.specs.declared.Run.{Run}
use Rattle.process.specs.declared.record.Process.{Process}
use Rattle.breakpoints.specs.Entry.{valid_break_address}
use Rattle.process.specs.Local.{Local}
use Rattle.format.specs.Answer.{with_args}
use Rattle.run_state.specs.RunState.{stopped_or_at_break, at_break, run_number}
use Rattle.process.specs.Request.{has_break, has_room_for, is_his, debugged, end_debugged, watched, end_watched, stopped, resumed, stepped, proceeded, examined, deposited, vector_deposited, break_set, break_removed, destroyed}
use Rattle.ops.specs.Codes.{CREATE}
use Rattle.process.specs.Sizes.{memory_bytes}

-- all that anyone may know of a process: 'which processes are there, who debugs each'; 'Sizes are public', and 'who watches is public'
pub record Public : Type 0 where
  pub there : Bool
  pub host : ℕ
  pub watcher : ℕ
  pub size : ℕ

-- of a process
unfoldable pub public : Process → Public
public p = record { there = p.there; host = p.host; watcher = p.session.watcher; size = p.size }

-- each field but the last three is true where a test passes
pub record Rule : Type 0 where
  -- test 8, by the public part and the asker
  pub right : Public → ℕ → Bool
  -- test 15, by the public part and the asker
  pub unwatched : Public → ℕ → Bool
  -- test 9
  pub runs : Run → Bool
  -- test 10, by the size of the process
  pub range : Header → ℕ → Bool
  -- test 11, for the asker at the address ARG1
  pub room : Header → Process → Bool
  -- test 12, at the address ARG1
  pub found : Header → Process → Bool
  -- test 16, for the asker at the address ARG1
  pub his : Header → Process → Bool
  -- what it does to the process, with the string of the request
  pub effect : Header → List ℕ → Local → Local
  -- the header of the reply
  pub header : Header → Local → Header
  -- the string of the reply
  pub shown : Header → Local → List ℕ

-- 8 fails where 'asker is not debugging it'
abbrev pub holds : Public → ℕ → Bool
holds u asker = eqb u.host asker

-- a host that may see the inside of a process with this public part: the one that debugs it, or its watcher: 'Demand 3 counts a watcher as
-- debugging'
unfoldable pub insider : Public → ℕ → Bool
insider u host = not (eqb host 0) && (eqb u.host host || eqb u.watcher host)

-- 8 fails for 'END WATCH by any other host' than the watcher
abbrev pub watches : Public → ℕ → Bool
watches u asker = eqb u.watcher asker

-- 8 fails for 'WATCH with no debugging host or by that host'
abbrev pub another_debugs : Public → ℕ → Bool
another_debugs u asker = not (eqb u.host 0) && not (eqb u.host asker)

-- 15 fails with 'another watcher present (the same is granted again)'
abbrev pub no_other_watches : Public → ℕ → Bool
no_other_watches u asker = eqb u.watcher 0 || eqb u.watcher asker

-- 8 fails, 'for DEBUG,' where 'another host is'
abbrev pub no_other : Public → ℕ → Bool
no_other u asker = eqb u.host 0 || eqb u.host asker

-- 'outside memory or vector': this many bytes from ARG1 on reach no further than the end
abbrev pub up_to : ℕ → Header → Bool
up_to end h = leb (h.arg1 + h.arg2) end

-- a rule that asks only the right
abbrev pub plain : (Header → List ℕ → Local → Local) → Rule
plain effect = record {
  right = holds;
  unwatched = λ u asker. true;
  runs = λ r. true;
  range = λ h size. true;
  room = λ h p. true;
  found = λ h p. true;
  his = λ h p. true;
  effect = effect;
  header = λ h l. h;
  shown = λ h l. [];
}

-- and a run state
abbrev pub while_run : (Run → Bool) → (Header → List ℕ → Local → Local) → Rule
while_run runs effect = record {
  right = holds;
  unwatched = λ u asker. true;
  runs = runs;
  range = λ h size. true;
  room = λ h p. true;
  found = λ h p. true;
  his = λ h p. true;
  effect = effect;
  header = λ h l. h;
  shown = λ h l. [];
}

-- and a range
abbrev pub in_range : (Header → ℕ → Bool) → (Header → List ℕ → Local → Local) → Rule
in_range range effect = record {
  right = holds;
  unwatched = λ u asker. true;
  runs = λ r. true;
  range = range;
  room = λ h p. true;
  found = λ h p. true;
  his = λ h p. true;
  effect = effect;
  header = λ h l. h;
  shown = λ h l. [];
}

-- 8 fails where another host debugs it
abbrev pub debug_rule : Rule
debug_rule = record {
  right = no_other;
  unwatched = λ u asker. true;
  runs = λ r. true;
  range = λ h size. true;
  room = λ h p. true;
  found = λ h p. true;
  his = λ h p. true;
  effect = λ h s. debugged h.host;
  header = λ h l. h;
  shown = λ h l. [];
}

-- no test but 8
abbrev pub end_debug_rule : Rule
end_debug_rule = plain (λ h s. end_debugged)

-- 'A watcher may EXAMINE'; 10 fails for 'EXAMINE over 256'
abbrev pub examine_rule : Rule
examine_rule = record {
  right = insider;
  unwatched = λ u asker. true;
  runs = λ r. true;
  range = λ h size. up_to size h && leb h.arg2 256;
  room = λ h p. true;
  found = λ h p. true;
  his = λ h p. true;
  effect = λ h s l. l;
  header = λ h l. h;
  shown = λ h. examined h.arg1 h.arg2;
}

-- 'A watcher may .. BREAK'; 10 fails for a BREAK address that is odd or over 'size − 2'; 11 fails with 'eight breakpoints and a ninth asked',
-- 'also a fifth while watched'; 16 fails where 'the breakpoint is the other's'
abbrev pub break_rule : Rule
break_rule = record {
  right = insider;
  unwatched = λ u asker. true;
  runs = λ r. true;
  range = λ h size. valid_break_address size h.arg1;
  room = λ h p. has_room_for h.host h.arg1 p;
  found = λ h p. true;
  his = λ h p. is_his h.host h.arg1 p;
  effect = λ h s. break_set h.host h.arg1 h.arg2;
  header = λ h l. h;
  shown = λ h l. [];
}

-- 'A watcher may .. UNBREAK'; 12 fails where there is 'no breakpoint at that address', 16 where it 'is the other's'
abbrev pub unbreak_rule : Rule
unbreak_rule = record {
  right = insider;
  unwatched = λ u asker. true;
  runs = λ r. true;
  range = λ h size. true;
  room = λ h p. true;
  found = λ h p. has_break h.arg1 p;
  his = λ h p. is_his h.host h.arg1 p;
  effect = λ h s. break_removed h.arg1;
  header = λ h l. h;
  shown = λ h l. [];
}

-- WATCH: 8, and 15 'after 8'
abbrev pub watch_rule : Rule
watch_rule = record {
  right = another_debugs;
  unwatched = no_other_watches;
  runs = λ r. true;
  range = λ h size. true;
  room = λ h p. true;
  found = λ h p. true;
  his = λ h p. true;
  effect = λ h s. watched h.host;
  header = λ h l. h;
  shown = λ h l. [];
}

-- END WATCH: '8 for .. END WATCH by any other host'
abbrev pub end_watch_rule : Rule
end_watch_rule = record {
  right = watches;
  unwatched = λ u asker. true;
  runs = λ r. true;
  range = λ h size. true;
  room = λ h p. true;
  found = λ h p. true;
  his = λ h p. true;
  effect = λ h s. end_watched;
  header = λ h l. h;
  shown = λ h l. [];
}

-- 8 fails for a STATUS by any other: 'Debugging host or watcher only.'
abbrev pub may_ask_status : Public → ℕ → Bool
may_ask_status = insider

-- STATUS 'answers it in ARG1, the run state in ARG2 (0 to 4 in document 01's listed order, 5 passing)'
abbrev pub status_rule : Rule
status_rule = record {
  right = may_ask_status;
  unwatched = λ u asker. true;
  runs = λ r. true;
  range = λ h size. true;
  room = λ h p. true;
  found = λ h p. true;
  his = λ h p. true;
  effect = λ h s l. l;
  header = λ h l. with_args l.process.number (run_number l.process.run) h;
  shown = λ h l. [];
}

-- NOP and CREATE name no process, and their rows are not read
abbrev pub no_rule : Rule
no_rule = plain (λ h s l. l)

-- one rule for each op code
abbrev pub rules : List Rule
rules =
    no_rule  -- 0 NOP
    ∷ debug_rule  -- 1 DEBUG
    ∷ end_debug_rule  -- 2 END DEBUG
    ∷ plain (λ h s. stopped)  -- 3 STOP
    ∷ in_range (λ h size. up_to size h) (λ h s. deposited h.arg1 s)  -- 4 DEPOSIT
    ∷ while_run stopped_or_at_break (λ h s. resumed)  -- 5 RESUME
    ∷ examine_rule  -- 6 EXAMINE
    ∷ in_range (λ h size. up_to 18 h) (λ h s. vector_deposited h.arg1 s)  -- 7 DEPOSIT STATE VECTOR
    ∷ break_rule  -- 8 BREAK
    ∷ unbreak_rule  -- 9 UNBREAK
    ∷ while_run stopped_or_at_break (λ h s. stepped)  -- 10 SINGLE STEP
    ∷ while_run at_break (λ h s. proceeded)  -- 11 PROCEED BPT
    ∷ no_rule  -- 12 CREATE PROCESS
    ∷ plain (λ h s. destroyed)  -- 13 DESTROY PROCESS
    ∷ watch_rule  -- 14 WATCH
    ∷ end_watch_rule  -- 15 END WATCH
    ∷ status_rule  -- 16 STATUS
    ∷ []

-- the rule of an op code
unfoldable pub rule_of : ℕ → Rule
rule_of cmd = get_or rules cmd no_rule

-- 'only those name a process'
unfoldable pub names : ℕ → Bool
names cmd = (asks (op cmd)).pid

-- CREATE PROCESS
abbrev pub creates : ℕ → Bool
creates cmd = eqb cmd CREATE

-- 'CREATE takes an even size in ARG1, up to 4,096, 0 meaning 4,096.'
unfoldable pub size_asked : Header → ℕ
size_asked h = cond (eqb h.arg1 0) memory_bytes h.arg1
