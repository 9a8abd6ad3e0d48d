-- What holds of every row of the rules: one law for each row, and every other proof goes by these. Assumes nothing.
use mathlib.Core.Path.{◌≡◌, refl, sym, ap, ap₂, ◌∙◌, subst}
use mathlib.Core.Bool.{Bool, true, false, not, cond, ◌||◌, or-true, true≢false}
use mathlib.Core.List.{List, [], ◌∷◌}
use mathlib.Core.Logic.{◌⊎◌, inl, inr}
use Prim.Native.Nat.{ℕ, zero, suc, ◌+◌, ◌≤◌, ◌<◌, ◌%◌}
use native.Mathlib.Omega.{arith}
use borrow.Author.Tests.{eqb-true, eqb-false, eq-eqb, ne_eqb, leb-true, not-true}
use lib.ListN.{length, get_or}
use lib.Dec.{eqb, leb}
use Rattle.lists.specs.Word.{vector_of}
use Rattle.lists.proofs.Bool.{&&-left, &&-right}
use Rattle.ops.specs.Codes.{DESTROY, END-DEBUG, END-WATCH, WATCH}
use Rattle.ops.specs.Table.{ops}
use Rattle.format.specs.declared.header.Header.{Header}
use Rattle.run_state.specs.declared.Run.{Run}
use Rattle.process.specs.declared.record.Process.{Process}
use Rattle.process.specs.Record.{fresh, with_vector}
use Rattle.breakpoints.specs.Entry.{valid_break_address}
use Rattle.run_state.specs.RunState.{stopped_or_at_break, at_break}
use Rattle.process.specs.Sound.{DebugsOrWatches}
use Rattle.process.specs.Local.{Local, Proper}
use Rattle.process.specs.Planting.{planted_in, removed_from}
use Rattle.process.specs.Request.{on_record, has_break, has_room, has_room_for, end_debugged, end_watched, stopped, resumed, stepped, proceeded, deposited, vector_after, vector_deposited, break_set, break_removed, cleared, destroyed}
use Rattle.process.specs.Report.{reported}
use Rattle.process.proofs.KeptLaws.{Shape, shape, same-words, shape-stopped, shape-stepped, shape-proceeded, shape-reported}
use Rattle.process.proofs.ProperLaws.{stopped-proper, debugged-proper, watched-proper, end-watched-proper, break-proper}
use Rattle.process.proofs.WatcherKept.{watcher_of, watcher-stopped, watcher-stepped, watcher-proceeded, watcher-reported}
use Rattle.rules.specs.Rule.{Public, public, Rule, rules, no_rule, debug_rule, end_debug_rule, examine_rule, break_rule, unbreak_rule, watch_rule, end_watch_rule, status_rule, another_debugs, no_other_watches, insider, plain, while_run, in_range, up_to, rule_of}
use Rattle.rules.specs.Access.{Asker, by}
use Rattle.rules.specs.Ready.{NineWords}
use Rattle.rules.specs.Isolation.{public_then}
use Rattle.rules.proofs.ProperLaws.{sound-of, by_cond, end-debug-proper, step-proper, proceed-proper, deposit-proper, unbreak-proper, destroy-proper, resume-proper, vector-proper}

-- all that the tests 7 to 12, 15 and 16, and those of the layout, say of a request that passes them
pub record Passing (r : Rule) (h : Header) (string : List ℕ) (p : Process) : Type 0 where
  pub there : p.there ≡ true
  pub asked : h.host ≡ 0 → ⊥
  pub carried : length string ≤ h.arg2
  pub right : r.right (public p) h.host ≡ true
  pub unwatched : r.unwatched (public p) h.host ≡ true
  pub runs : r.runs p.run ≡ true
  pub range : r.range h p.size ≡ true
  pub room : r.room h p ≡ true
  pub found : r.found h p ≡ true
  pub his : r.his h p ≡ true

-- a rule that asks no more than the public part, and shows nothing: the reply has the request's own header
pub record Open (r : Rule) : Type 0 where
  pub runs : (x : Run) → r.runs x ≡ true
  pub range : (h : Header) (size : ℕ) → r.range h size ≡ true
  pub room : (h : Header) (p : Process) → r.room h p ≡ true
  pub found : (h : Header) (p : Process) → r.found h p ≡ true
  pub his : (h : Header) (p : Process) → r.his h p ≡ true
  pub header : (h : Header) (l : Local) → r.header h l ≡ h
  pub shown : (h : Header) (l : Local) → r.shown h l ≡ []

-- what is done to a process leaves its public part
abbrev Quiet : Rule → Type 0
Quiet r = (h : Header) (string : List ℕ) (l : Local) → public (r.effect h string l).process ≡ public l.process

-- and the vector its nine words
abbrev Wordy : Rule → Type 0
Wordy r = (h : Header) (string : List ℕ) (l : Local) → NineWords l.process → NineWords (r.effect h string l).process

-- an op code that, when granted, changes nothing that is public
unfoldable pub Kept : ℕ → Type 0
Kept cmd = (asker : ℕ) (u : Public) → public_then cmd asker u ≡ u

-- an op code that, when granted, lets the asker in, and asks and shows no more
pub record Taking (cmd : ℕ) (r : Rule) : Type 0 where
  pub free : Open r
  pub takes : (asker : ℕ) → (asker ≡ 0 → ⊥) → (u : Public) → insider (public_then cmd asker u) asker ≡ true

-- by a call with these fields the right to debug process p begins; u and v are its public parts before and after
pub record BeginsBy (w : Asker) (h : Header) (p : ℕ) (u v : Public) : Type 0 where
  pub op : ((h.cmd ≡ 1) × (h.pid ≡ p)) ⊎ (h.cmd ≡ 12)
  pub before : u.host ≡ 0
  pub after : w ≡ by v.host

-- or it ends
pub record EndsBy (w : Asker) (h : Header) (p : ℕ) (u v : Public) : Type 0 where
  pub op : (h.cmd ≡ 2) ⊎ (h.cmd ≡ 13)
  pub named : h.pid ≡ p
  pub before : w ≡ by u.host
  pub after : v.host ≡ 0

-- by a call with these fields a watch of process p begins
pub record WatchedBy (w : Asker) (h : Header) (p : ℕ) (u v : Public) : Type 0 where
  pub op : h.cmd ≡ WATCH
  pub named : h.pid ≡ p
  pub before : u.watcher ≡ 0
  pub after : w ≡ by v.watcher

-- or it ends, by the watcher or by the host that debugs
pub record UnwatchedBy (w : Asker) (h : Header) (p : ℕ) (u v : Public) : Type 0 where
  pub by-whom : ((h.cmd ≡ END-WATCH) × (w ≡ by u.watcher)) ⊎ (((h.cmd ≡ END-DEBUG) ⊎ (h.cmd ≡ DESTROY)) × (w ≡ by u.host))
  pub named : h.pid ≡ p
  pub after : v.watcher ≡ 0

-- the right to debug stays, begins or ends, and so does the watch
pub record Turns (w : Asker) (h : Header) (p : ℕ) (u v : Public) : Type 0 where
  pub debugs : (v.host ≡ u.host) ⊎ (BeginsBy w h p u v ⊎ EndsBy w h p u v)
  pub watches : (v.watcher ≡ u.watcher) ⊎ (WatchedBy w h p u v ⊎ UnwatchedBy w h p u v)

-- both stay
pub turns-kept : (w : Asker) (h : Header) (p : ℕ) (u : Public) → Turns w h p u u
turns-kept w h p u = record { debugs = inl refl; watches = inl refl }

pub record Row (cmd : ℕ) (r : Rule) : Type 0 where
  -- a sound process stays sound
  pub keeps : (h : Header) (string : List ℕ) (l : Local) → Proper l → Passing r h string l.process → Proper (r.effect h string l)
  -- and its vector has nine words
  pub words : Wordy r
  -- who may ask may see the inside of the process, or will, and nothing else is asked
  pub guarded : (u : Public) (asker : ℕ) → (asker ≡ 0 → ⊥) → r.right u asker ≡ true → (insider u asker ≡ true) ⊎ Taking cmd r
  -- the public part stays, or nothing else is asked
  pub discreet : Kept cmd ⊎ Open r
  -- the public part after it
  pub publicly : (h : Header) (string : List ℕ) (l : Local) → public (r.effect h string l).process ≡ public_then cmd h.host (public l.process)
  -- the right to debug and the watch after it
  pub turns : (h : Header) → h.cmd ≡ cmd → (u : Public) → r.right u h.host ≡ true → r.unwatched u h.host ≡ true → Turns (by h.host) h h.pid u (public_then cmd h.host u)

-- ---- public parts, and the words of the vector

-- a choice between two that show the same
by-public : (t : Bool) (x y : Local) (u : Public) → public x.process ≡ u → public y.process ≡ u → public (cond t x y).process ≡ u
by-public true x y u e q = e
by-public false x y u e q = q

-- what has the shape of a process, and its watcher, shows what it shows
pub same-public : (k l : Local) → shape k ≡ shape l → watcher_of k ≡ watcher_of l → public k.process ≡ public l.process
unfolding public
same-public k l e w = ap₂ (λ (s : Shape) (watcher : ℕ). record { there = s.there; host = s.host; watcher = watcher; size = s.size }) e w

pub public-reported : (kind : ℕ) (words : List ℕ) (l : Local) → public (reported kind words l).process ≡ public l.process
unfolding public
public-reported kind words l = same-public (reported kind words l) (on_record (with_vector words) l) (shape-reported kind words l) (watcher-reported kind words l)

abbrev count : Local → ℕ
count l = length l.process.vector

pub count-reported : (kind : ℕ) (words : List ℕ) (l : Local) → count (reported kind words l) ≡ length words
count-reported kind words l = same-words (shape-reported kind words l)

-- ---- rows that ask the right, and leave the public part

quiet_row : (cmd : ℕ) (r : Rule) → Kept cmd → ((u : Public) (asker : ℕ) → (asker ≡ 0 → ⊥) → r.right u asker ≡ true → insider u asker ≡ true) → Quiet r → Wordy r
    → ((h : Header) (string : List ℕ) (l : Local) → Proper l → Passing r h string l.process → Proper (r.effect h string l)) → Row cmd r
unfolding Kept
quiet_row cmd r kept right q words keeps = record {
  keeps = keeps;
  words = words;
  guarded = λ u asker n e. inl (right u asker n e);
  discreet = inl kept;
  publicly = λ h string l. q h string l ∙ sym (kept h.host (public l.process));
  turns = λ h e u i n. subst (Turns (by h.host) h h.pid u) (sym (kept h.host u)) (turns-kept (by h.host) h h.pid u);
}

-- the op codes that leave the public part
by-others : (cmd : ℕ) → eqb cmd 1 ≡ false → eqb cmd 2 ≡ false → eqb cmd 13 ≡ false → eqb cmd 14 ≡ false → eqb cmd 15 ≡ false → Kept cmd
unfolding Kept public_then
by-others cmd e q k w x asker u = rw (e, q, k, w, x)

held : (u : Public) (asker : ℕ) → eqb u.host asker ≡ true → u.host ≡ asker
held u asker e = eqb-true u.host asker e

-- who debugs a process or watches it sees its inside
pub host-in : (u : Public) (asker : ℕ) → (asker ≡ 0 → ⊥) → eqb u.host asker ≡ true → insider u asker ≡ true
unfolding insider
host-in u asker n e = rw (ne_eqb asker 0 n, e)

pub watcher-in : (u : Public) (asker : ℕ) → (asker ≡ 0 → ⊥) → eqb u.watcher asker ≡ true → insider u asker ≡ true
unfolding insider
watcher-in u asker n e = rw (ne_eqb asker 0 n, e) (or-true (eqb u.host asker))

pub insider-in : (p : Process) (asker : ℕ) → (asker ≡ 0 → ⊥) → DebugsOrWatches p asker → insider (public p) asker ≡ true
unfolding public
insider-in p asker n (inl e) = host-in (public p) asker n (eq-eqb _ _ (sym e))
insider-in p asker n (inr w) = watcher-in (public p) asker n (eq-eqb _ _ (sym w.1))

-- and who sees it debugs it or watches it
pub insider-is : (p : Process) (asker : ℕ) → insider (public p) asker ≡ true → DebugsOrWatches p asker
unfolding insider public
insider-is p asker e = go (eqb p.host asker) refl
  where
    either : eqb p.host asker || eqb p.session.watcher asker ≡ true
    either = &&-right (not (eqb asker 0)) (eqb p.host asker || eqb p.session.watcher asker) e

    go : (t : Bool) → eqb p.host asker ≡ t → DebugsOrWatches p asker
    go true i = inl (sym (eqb-true p.host asker i))
    go false i = inr (eqb-false asker 0 (not-true _ (&&-left (not (eqb asker 0)) _ e)), sym (eqb-true p.session.watcher asker (rw i at either)))

-- a process that is there has as many bytes as its size says
pub whole : (l : Local) → Proper l → l.process.there ≡ true → length l.bytes ≡ l.process.size
whole l g t = rw t at g.tested.size

-- ---- the rows

no_row : (cmd : ℕ) → Kept cmd → Row cmd no_rule
no_row cmd kept = quiet_row cmd no_rule kept host-in (λ h s l. refl) (λ h s l n. n) (λ h s l g p. g)

debug-open : Open debug_rule
debug-open = record { runs = λ x. refl; range = λ h size. refl; room = λ h p. refl; found = λ h p. refl; his = λ h p. refl; header = λ h l. refl; shown = λ h l. refl }

pub alone : (u : Public) (asker : ℕ) → eqb u.host 0 || eqb u.host asker ≡ true → (u.host ≡ 0) ⊎ (u.host ≡ asker)
alone u asker = go (eqb u.host 0) refl
  where
    go : (t : Bool) → eqb u.host 0 ≡ t → t || eqb u.host asker ≡ true → (u.host ≡ 0) ⊎ (u.host ≡ asker)
    go true e i = inl (eqb-true u.host 0 e)
    go false e i = inr (eqb-true u.host asker i)

debug-row : Row 1 debug_rule
unfolding public public_then
debug-row = record {
  keeps = λ h s l g p. debugged-proper l g h.host p.there p.asked (alone (public l.process) h.host p.right);
  words = λ h s l n. n;
  guarded = λ u asker n e. inr (record { free = debug-open; takes = λ a i v. host-in (public_then 1 a v) a i (eq-eqb a a refl) });
  discreet = inr debug-open;
  publicly = λ h s l. refl;
  turns = λ h e u i n. begins h e u (alone u h.host i);
}
  where
    begins : (h : Header) → h.cmd ≡ 1 → (u : Public) → (u.host ≡ 0) ⊎ (u.host ≡ h.host) → Turns (by h.host) h h.pid u (public_then 1 h.host u)
    begins h e u (inl z) = record { debugs = inr (inl (record { op = inl (e, refl); before = z; after = refl })); watches = inl refl }
    begins h e u (inr i) = record { debugs = inl (sym i); watches = inl refl }

end-debug-open : Open end_debug_rule
end-debug-open = record { runs = λ x. refl; range = λ h size. refl; room = λ h p. refl; found = λ h p. refl; his = λ h p. refl; header = λ h l. refl; shown = λ h l. refl }

end-debug-row : Row 2 end_debug_rule
unfolding end_debugged public public_then
end-debug-row = record {
  keeps = λ h s l g p. end-debug-proper l g;
  words = λ h s l n. n;
  guarded = λ u asker n e. inl (host-in u asker n e);
  discreet = inr end-debug-open;
  publicly = λ h s l. refl;
  turns = λ h e u i n.
      let host = ap by (sym (held u h.host i)) in
      record {
        debugs = inr (inr (record { op = inl e; named = refl; before = host; after = refl }));
        watches = inr (inr (record { by-whom = inr (inl e, host); named = refl; after = refl }));
      };
}

stop-row : Row 3 (plain (λ h s. stopped))
stop-row =
    quiet_row 3 (plain (λ h s. stopped)) (by-others 3 refl refl refl refl refl) host-in
    (λ h s l. same-public (stopped l) l (shape-stopped l) (watcher-stopped l))
    (λ h s l n. same-words (shape-stopped l) ∙ n)
    (λ h s l g p. stopped-proper l g)

deposit-row : Row 4 (in_range (λ h size. up_to size h) (λ h s. deposited h.arg1 s))
unfolding deposited public
deposit-row =
    quiet_row 4 (in_range (λ h size. up_to size h) (λ h s. deposited h.arg1 s)) (by-others 4 refl refl refl refl refl) host-in (λ h s l. refl) (λ h s l n. n)
    (λ h s l g p. deposit-proper l g h.arg1 s (omega (arith, leb-true (h.arg1 + h.arg2) l.process.size p.range, p.carried, whole l g p.there)))

resume-row : Row 5 (while_run stopped_or_at_break (λ h s. resumed))
unfolding public
resume-row = quiet_row 5 (while_run stopped_or_at_break (λ h s. resumed)) (by-others 5 refl refl refl refl refl) host-in (λ h s l. refl) (λ h s l n. n) (λ h s l g p. resume-proper l g p.runs)

examine-row : Row 6 examine_rule
examine-row = quiet_row 6 examine_rule (by-others 6 refl refl refl refl refl) (λ u asker n e. e) (λ h s l. refl) (λ h s l n. n) (λ h s l g p. g)

status-row : Row 16 status_rule
status-row = quiet_row 16 status_rule (by-others 16 refl refl refl refl refl) (λ u asker n e. e) (λ h s l. refl) (λ h s l n. n) (λ h s l g p. g)

vector_row : Row 7 (in_range (λ h size. up_to 18 h) (λ h s. vector_deposited h.arg1 s))
unfolding public vector_after vector_of
vector_row =
    quiet_row 7 (in_range (λ h size. up_to 18 h) (λ h s. vector_deposited h.arg1 s)) (by-others 7 refl refl refl refl refl) host-in (λ h s l. refl) (λ h s l n. refl) (λ h s l g p. vector-proper _ l g)

-- where there is none at the address there is room
pub room-or : (t u : Bool) → t || u ≡ true → t ≡ false → u ≡ true
room-or true u e q = absurd (true≢false q)
room-or false u e q = e

-- a process that a host debugs or watches has a host
hosted : (l : Local) → Proper l → (asker : ℕ) → (asker ≡ 0 → ⊥) → DebugsOrWatches l.process asker → l.process.host ≡ 0 → ⊥
hosted l g asker n (inl e) z = n (e ∙ z)
hosted l g asker n (inr w) z = ((sound-of l g).watched (λ i. n (w.1 ∙ i))).0 z

break-row : Row 8 break_rule
unfolding break_set planted_in public valid_break_address has_room_for
break-row =
    quiet_row 8 break_rule (by-others 8 refl refl refl refl refl) (λ u asker n e. e)
    (λ h s l. by-public (has_break h.arg1 l.process) _ _ _ refl refl)
    (λ h s l n. by_cond count (has_break h.arg1 l.process) _ _ 9 n n)
    (λ h s l g p.
    let even = eqb-true _ _ (&&-left (eqb (h.arg1 % 2) 0) _ p.range) in
    let low = leb-true _ _ (&&-right (eqb (h.arg1 % 2) 0) (leb (h.arg1 + 2) l.process.size) p.range) in
    let setter = insider-is l.process h.host p.right in
    break-proper l g h.host h.arg1 h.arg2 (hosted l g h.host p.asked setter) setter even low
    (λ none. &&-left (has_room l.process) _ (room-or (has_break h.arg1 l.process) _ p.room none)))

unbreak-row : Row 9 unbreak_rule
unfolding break_removed removed_from public
unbreak-row = quiet_row 9 unbreak_rule (by-others 9 refl refl refl refl refl) (λ u asker n e. e) (λ h s l. refl) (λ h s l n. n) (λ h s l g p. unbreak-proper l g h.arg1 p.found)

step_row : Row 10 (while_run stopped_or_at_break (λ h s. stepped))
step_row =
    quiet_row 10 (while_run stopped_or_at_break (λ h s. stepped)) (by-others 10 refl refl refl refl refl) host-in
    (λ h s l. same-public (stepped l) l (shape-stepped l) (watcher-stepped l))
    (λ h s l n. same-words (shape-stepped l) ∙ n)
    (λ h s l g p. step-proper l g p.runs)

proceed-row : Row 11 (while_run at_break (λ h s. proceeded))
proceed-row =
    quiet_row 11 (while_run at_break (λ h s. proceeded)) (by-others 11 refl refl refl refl refl) host-in
    (λ h s l. same-public (proceeded l) l (shape-proceeded l) (watcher-proceeded l))
    (λ h s l n. same-words (shape-proceeded l) ∙ n)
    (λ h s l g p. proceed-proper l g p.runs)

destroy-open : Open (plain (λ h s. destroyed))
destroy-open = record { runs = λ x. refl; range = λ h size. refl; room = λ h p. refl; found = λ h p. refl; his = λ h p. refl; header = λ h l. refl; shown = λ h l. refl }

destroy-row : Row 13 (plain (λ h s. destroyed))
unfolding public_then public cleared fresh
destroy-row = record {
  keeps = λ h s l g p. destroy-proper;
  words = λ h s l n. refl;
  guarded = λ u asker n e. inl (host-in u asker n e);
  discreet = inr destroy-open;
  publicly = λ h s l. refl;
  turns = λ h e u i n.
      let host = ap by (sym (held u h.host i)) in
      record {
        debugs = inr (inr (record { op = inr e; named = refl; before = host; after = refl }));
        watches = inr (inr (record { by-whom = inr (inr e, host); named = refl; after = refl }));
      };
}

-- ---- WATCH and END WATCH

watch-open : Open watch_rule
watch-open = record { runs = λ x. refl; range = λ h size. refl; room = λ h p. refl; found = λ h p. refl; his = λ h p. refl; header = λ h l. refl; shown = λ h l. refl }

-- 8: a host debugs it, and it is another than the asker
debugged-by-another : (u : Public) (asker : ℕ) → another_debugs u asker ≡ true → (u.host ≡ 0 → ⊥) × (u.host ≡ asker → ⊥)
debugged-by-another u asker e = (
  eqb-false _ _ (not-true _ (&&-left (not (eqb u.host 0)) _ e)),
  eqb-false _ _ (not-true _ (&&-right (not (eqb u.host 0)) (not (eqb u.host asker)) e)),
)

-- 15: nobody watches it, or the asker does
watched-by-none : (u : Public) (asker : ℕ) → no_other_watches u asker ≡ true → (u.watcher ≡ 0) ⊎ (u.watcher ≡ asker)
watched-by-none u asker = go (eqb u.watcher 0) refl
  where
    go : (t : Bool) → eqb u.watcher 0 ≡ t → t || eqb u.watcher asker ≡ true → (u.watcher ≡ 0) ⊎ (u.watcher ≡ asker)
    go true e i = inl (eqb-true u.watcher 0 e)
    go false e i = inr (eqb-true u.watcher asker i)

watch-row : Row 14 watch_rule
unfolding public public_then
watch-row = record {
  keeps = λ h s l g p.
      let host = debugged-by-another (public l.process) h.host p.right in
      watched-proper l g h.host host.0 (λ e. host.1 (sym e)) (watched-by-none (public l.process) h.host p.unwatched);
  words = λ h s l n. n;
  guarded = λ u asker n e. inr (record { free = watch-open; takes = λ a i v. watcher-in (public_then 14 a v) a i (eq-eqb a a refl) });
  discreet = inr watch-open;
  publicly = λ h s l. refl;
  turns = λ h e u i n. begins h e u (watched-by-none u h.host n);
}
  where
    begins : (h : Header) → h.cmd ≡ 14 → (u : Public) → (u.watcher ≡ 0) ⊎ (u.watcher ≡ h.host) → Turns (by h.host) h h.pid u (public_then 14 h.host u)
    begins h e u (inl z) = record { debugs = inl refl; watches = inr (inl (record { op = e; named = refl; before = z; after = refl })) }
    begins h e u (inr i) = record { debugs = inl refl; watches = inl (sym i) }

end-watch-open : Open end_watch_rule
end-watch-open = record { runs = λ x. refl; range = λ h size. refl; room = λ h p. refl; found = λ h p. refl; his = λ h p. refl; header = λ h l. refl; shown = λ h l. refl }

end-watch-row : Row 15 end_watch_rule
unfolding end_watched public public_then
end-watch-row = record {
  keeps = λ h s l g p. end-watched-proper l g;
  words = λ h s l n. n;
  guarded = λ u asker n e. inl (watcher-in u asker n e);
  discreet = inr end-watch-open;
  publicly = λ h s l. refl;
  turns = λ h e u i n. record {
    debugs = inl refl;
    watches = inr (inr (record { by-whom = inl (e, ap by (sym (eqb-true u.watcher h.host i))); named = refl; after = refl }));
  };
}

-- ---- all of them

-- a fact of each row of a list, by its op code
abbrev pub Each : (ℕ → Rule → Type 0) → ℕ → List Rule → Type 0
Each F cmd [] = Unit {0}
Each F cmd (r ∷ rs) = F cmd r × Each F (suc cmd) rs

each-getD : (F : ℕ → Rule → Type 0) (from : ℕ) (rs : List Rule) → Each F from rs → (k : ℕ) → k < length rs → F (k + from) (get_or rs k no_rule)
each-getD F from [] e k h = absurd (omega arith)
each-getD F from (r ∷ rs) e zero h = let same : 0 + from ≡ from = omega arith in rw same e.0
each-getD F from (r ∷ rs) e (suc k) h =
    let same : k + suc from ≡ suc k + from = omega arith in
    rw (← same) (each-getD F (suc from) rs e.1 k (omega arith))

-- a fact of each row is one of the rule of any op code of the table
pub each-rule : (F : ℕ → Rule → Type 0) → Each F 0 rules → (cmd : ℕ) → cmd < length ops → F cmd (rule_of cmd)
unfolding rule_of
each-rule F e cmd h = let same : cmd + 0 ≡ cmd = omega arith in subst (λ (n : ℕ). F n (get_or rules cmd no_rule)) same (each-getD F 0 rules e cmd h)

pub rule-row : (cmd : ℕ) → cmd < length ops → Row cmd (rule_of cmd)
rule-row =
    each-rule Row
    (no_row 0 (by-others 0 refl refl refl refl refl), (debug-row, (end-debug-row, (stop-row, (deposit-row, (resume-row, (examine-row, (vector_row, (break-row, (unbreak-row, (step_row, (proceed-row, (no_row 12 (by-others 12 refl refl refl refl refl), (destroy-row, (watch-row, (end-watch-row, (status-row, tt)))))))))))))))))
