-- The rule of each op code, in the shape in which the code asks for it: one line for each op code. Assumes nothing.
use mathlib.Core.Path.{◌≡◌, refl}
use mathlib.Core.Bool.{Bool, true, false, cond, ◌&&◌, ◌||◌, true≢false}
use mathlib.Core.List.{List, [], ◌∷◌}
use Prim.Native.Nat.{ℕ, zero, suc, ◌+◌, ◌≤◌, ◌<◌}
use native.Mathlib.Omega.{arith}
use borrow.Author.Tests.{ne_eqb}
use lib.ListN.{get_or}
use lib.Dec.{eqb, leb}
use Rattle.format.specs.declared.header.Header.{Header}
use Rattle.run_state.specs.declared.Run.{Run}
use Rattle.process.specs.declared.record.Process.{Process}
use Rattle.breakpoints.specs.Entry.{valid_break_address}
use Rattle.process.specs.Local.{Local}
use Rattle.format.specs.Answer.{with_args}
use Rattle.run_state.specs.RunState.{stopped_or_at_break, at_break, run_number}
use Rattle.process.specs.Request.{has_break, has_room_for, is_his, examined}
use Rattle.rules.specs.Rule.{Public, Rule, rules, no_rule, rule_of, holds, insider, watches, another_debugs, no_other, no_other_watches}

-- the op codes that do something to the process that they name
abbrev pub acts : ℕ → Bool
acts cmd =
    eqb cmd 1 || (eqb cmd 2 || (eqb cmd 3 || (eqb cmd 4 || (eqb cmd 5 || (eqb cmd 7 || (eqb cmd 8 || (eqb cmd 9 || (eqb cmd 10 || (eqb cmd 11 || (eqb cmd 13 || (eqb cmd 14 || eqb cmd 15)))))))))))

-- a rule as the code asks for it, by its op code
pub record Coded (cmd : ℕ) (r : Rule) : Type 0 where
  pub right : (u : Public) (asker : ℕ) → r.right u asker
      ≡ cond (eqb cmd 1) (no_other u asker)
      (cond (eqb cmd 6) (insider u asker)
      (cond (eqb cmd 8) (insider u asker)
      (cond (eqb cmd 9) (insider u asker)
      (cond (eqb cmd 16) (insider u asker) (cond (eqb cmd 14) (another_debugs u asker) (cond (eqb cmd 15) (watches u asker) (holds u asker)))))))
  pub unwatched : (u : Public) (asker : ℕ) → r.unwatched u asker ≡ cond (eqb cmd 14) (no_other_watches u asker) true
  pub runs : (x : Run) → r.runs x ≡ cond (eqb cmd 5) (stopped_or_at_break x) (cond (eqb cmd 10) (stopped_or_at_break x) (cond (eqb cmd 11) (at_break x) true))
  pub range : (h : Header) (size : ℕ) → r.range h size
      ≡ cond (eqb cmd 4) (leb (h.arg1 + h.arg2) size)
      (cond (eqb cmd 6) (leb (h.arg1 + h.arg2) size && leb h.arg2 256)
      (cond (eqb cmd 7) (leb (h.arg1 + h.arg2) 18) (cond (eqb cmd 8) (valid_break_address size h.arg1) true)))
  pub room : (h : Header) (p : Process) → r.room h p ≡ cond (eqb cmd 8) (has_room_for h.host h.arg1 p) true
  pub found : (h : Header) (p : Process) → r.found h p ≡ cond (eqb cmd 9) (has_break h.arg1 p) true
  pub his : (h : Header) (p : Process) → r.his h p ≡ cond (eqb cmd 8) (is_his h.host h.arg1 p) (cond (eqb cmd 9) (is_his h.host h.arg1 p) true)
  pub header : (h : Header) (l : Local) → r.header h l ≡ cond (eqb cmd 16) (with_args l.process.number (run_number l.process.run) h) h
  pub shown : (h : Header) (l : Local) → r.shown h l ≡ cond (eqb cmd 6) (examined h.arg1 h.arg2 l) []
  pub idle : acts cmd ≡ false → (h : Header) (string : List ℕ) (l : Local) → r.effect h string l ≡ l

abbrev Each : ℕ → List Rule → Type 0
Each from [] = (n : ℕ) → from ≤ n → Coded n no_rule
Each from (r ∷ rs) = Coded from r × Each (suc from) rs

each_at : (from : ℕ) (rs : List Rule) → Each from rs → (k n : ℕ) → n ≡ k + from → Coded n (get_or rs k no_rule)
each_at from [] e k n i = e n (omega (arith, i))
each_at from (r ∷ rs) e zero n i = let same : n ≡ from = omega (arith, i) in rw same e.0
each_at from (r ∷ rs) e (suc k) n i = each_at (suc from) rs e.1 k n (omega (arith, i))

past : (n : ℕ) → 17 ≤ n → Coded n no_rule
past n h = record {
  right = λ u asker. rw (other 1 (omega arith), other 6 (omega arith), other 8 (omega arith), other 9 (omega arith), other 16 (omega arith), other 14 (omega arith), other 15 (omega arith));
  unwatched = λ u asker. rw (other 14 (omega arith));
  runs = λ x. rw (other 5 (omega arith), other 10 (omega arith), other 11 (omega arith));
  range = λ k size. rw (other 4 (omega arith), other 6 (omega arith), other 7 (omega arith), other 8 (omega arith));
  room = λ k p. rw (other 8 (omega arith));
  found = λ k p. rw (other 9 (omega arith));
  his = λ k p. rw (other 8 (omega arith), other 9 (omega arith));
  header = λ k l. rw (other 16 (omega arith));
  shown = λ k l. rw (other 6 (omega arith));
  idle = λ e k s l. refl;
}
  where
    other : (k : ℕ) → k < 17 → eqb n k ≡ false
    other k i = ne_eqb n k (λ e. omega (arith, h, i, e))

-- the rule of any op code
pub coded : (cmd : ℕ) → Coded cmd (rule_of cmd)
unfolding rule_of
coded cmd =
    each_at 0 rules
    (record { right = λ u asker. refl; unwatched = λ u asker. refl; runs = λ x. refl; range = λ h size. refl; room = λ h p. refl; found = λ h p. refl; his = λ h p. refl; header = λ h l. refl; shown = λ h l. refl; idle = λ e h s l. refl }, (record { right = λ u asker. refl; unwatched = λ u asker. refl; runs = λ x. refl; range = λ h size. refl; room = λ h p. refl; found = λ h p. refl; his = λ h p. refl; header = λ h l. refl; shown = λ h l. refl; idle = λ e. absurd (true≢false e) }, (record { right = λ u asker. refl; unwatched = λ u asker. refl; runs = λ x. refl; range = λ h size. refl; room = λ h p. refl; found = λ h p. refl; his = λ h p. refl; header = λ h l. refl; shown = λ h l. refl; idle = λ e. absurd (true≢false e) }, (record { right = λ u asker. refl; unwatched = λ u asker. refl; runs = λ x. refl; range = λ h size. refl; room = λ h p. refl; found = λ h p. refl; his = λ h p. refl; header = λ h l. refl; shown = λ h l. refl; idle = λ e. absurd (true≢false e) }, (record { right = λ u asker. refl; unwatched = λ u asker. refl; runs = λ x. refl; range = λ h size. refl; room = λ h p. refl; found = λ h p. refl; his = λ h p. refl; header = λ h l. refl; shown = λ h l. refl; idle = λ e. absurd (true≢false e) }, (record { right = λ u asker. refl; unwatched = λ u asker. refl; runs = λ x. refl; range = λ h size. refl; room = λ h p. refl; found = λ h p. refl; his = λ h p. refl; header = λ h l. refl; shown = λ h l. refl; idle = λ e. absurd (true≢false e) }, (record { right = λ u asker. refl; unwatched = λ u asker. refl; runs = λ x. refl; range = λ h size. refl; room = λ h p. refl; found = λ h p. refl; his = λ h p. refl; header = λ h l. refl; shown = λ h l. refl; idle = λ e h s l. refl }, (record { right = λ u asker. refl; unwatched = λ u asker. refl; runs = λ x. refl; range = λ h size. refl; room = λ h p. refl; found = λ h p. refl; his = λ h p. refl; header = λ h l. refl; shown = λ h l. refl; idle = λ e. absurd (true≢false e) }, (record { right = λ u asker. refl; unwatched = λ u asker. refl; runs = λ x. refl; range = λ h size. refl; room = λ h p. refl; found = λ h p. refl; his = λ h p. refl; header = λ h l. refl; shown = λ h l. refl; idle = λ e. absurd (true≢false e) }, (record { right = λ u asker. refl; unwatched = λ u asker. refl; runs = λ x. refl; range = λ h size. refl; room = λ h p. refl; found = λ h p. refl; his = λ h p. refl; header = λ h l. refl; shown = λ h l. refl; idle = λ e. absurd (true≢false e) }, (record { right = λ u asker. refl; unwatched = λ u asker. refl; runs = λ x. refl; range = λ h size. refl; room = λ h p. refl; found = λ h p. refl; his = λ h p. refl; header = λ h l. refl; shown = λ h l. refl; idle = λ e. absurd (true≢false e) }, (record { right = λ u asker. refl; unwatched = λ u asker. refl; runs = λ x. refl; range = λ h size. refl; room = λ h p. refl; found = λ h p. refl; his = λ h p. refl; header = λ h l. refl; shown = λ h l. refl; idle = λ e. absurd (true≢false e) }, (record { right = λ u asker. refl; unwatched = λ u asker. refl; runs = λ x. refl; range = λ h size. refl; room = λ h p. refl; found = λ h p. refl; his = λ h p. refl; header = λ h l. refl; shown = λ h l. refl; idle = λ e h s l. refl }, (record { right = λ u asker. refl; unwatched = λ u asker. refl; runs = λ x. refl; range = λ h size. refl; room = λ h p. refl; found = λ h p. refl; his = λ h p. refl; header = λ h l. refl; shown = λ h l. refl; idle = λ e. absurd (true≢false e) }, (record { right = λ u asker. refl; unwatched = λ u asker. refl; runs = λ x. refl; range = λ h size. refl; room = λ h p. refl; found = λ h p. refl; his = λ h p. refl; header = λ h l. refl; shown = λ h l. refl; idle = λ e. absurd (true≢false e) }, (record { right = λ u asker. refl; unwatched = λ u asker. refl; runs = λ x. refl; range = λ h size. refl; room = λ h p. refl; found = λ h p. refl; his = λ h p. refl; header = λ h l. refl; shown = λ h l. refl; idle = λ e. absurd (true≢false e) }, (record { right = λ u asker. refl; unwatched = λ u asker. refl; runs = λ x. refl; range = λ h size. refl; room = λ h p. refl; found = λ h p. refl; his = λ h p. refl; header = λ h l. refl; shown = λ h l. refl; idle = λ e h s l. refl }, past)))))))))))))))))
    cmd cmd (omega arith)
