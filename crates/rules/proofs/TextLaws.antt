-- The law of text lines: one law for each letter's row, and all else goes by these. Assumes nothing.
use mathlib.Core.Path.{◌≡◌, refl, sym, ◌∙◌}
use mathlib.Core.Bool.{true, ◌||◌, true≢false}
use mathlib.Core.List.{List}
use mathlib.Core.Logic.{inl, inr}
use native.Mathlib.Omega.{arith}
use Prim.Native.Nat.{ℕ, ◌+◌, ◌<◌, ◌%◌}
use borrow.Author.Tests.{eq-eqb, eqb-true, leb-true, ltb-true, not-false}
use lib.Dec.{eqb, leb}
use Rattle.lists.specs.Word.{vector_of}
use Rattle.lists.proofs.Bool.{&&-right, &&-both}
use Rattle.fields.specs.declared.read.Line.{Line}
use Rattle.fields.specs.declared.write.Fields.{Fields}
use Rattle.fields.specs.Letters.{READ-CODE, READ-DATA, WRITE-CODE, WRITE-DATA, READ-REGISTER, WRITE-REGISTER, CONTINUE, STEP}
use Rattle.fields.specs.Written.{Sayable}
use Rattle.fields.specs.Read.{line_of, fields_of as read_fields}
use Rattle.fields.proofs.LineLaws.{written-is-read, read-is-written}
use Rattle.format.specs.Outcome.{first_failing}
use Rattle.format.proofs.OutcomeLaws.{first_passes, rest-passes}
use Rattle.run_state.specs.RunState.{stopped_or_at_break}
use Rattle.session.specs.Session.{text_host}
use Rattle.process.specs.declared.record.Process.{Process}
use Rattle.process.specs.Local.{Local, Proper}
use Rattle.process.specs.Request.{deposited, vector_after, continued, stepped_from}
use Rattle.process.proofs.KeptLaws.{shape, same-words, shape-continued, shape-stepped_from}
use Rattle.process.proofs.ProperLaws.{continued-proper, stepped-from-proper}
use Rattle.process.proofs.WatcherKept.{watcher_of, watcher-continued, watcher-stepped_from}
use Rattle.rules.specs.Rule.{Public, public, names}
use Rattle.rules.specs.TextRule.{TextRule, word_bytes, word_range, read_word_rule, write_word_rule, read_register_rule, write_register_rule, go_rule, text_rule_of}
use Rattle.rules.specs.Tests.{State, text_tests, text_number}
use Rattle.rules.specs.Access.{by, insider, number_at}
use Rattle.rules.specs.Step.{Call, text_line, step}
use Rattle.rules.specs.Turn.{text_access, text_turn, turn_of, buffers_of}
use Rattle.rules.specs.Ready.{Ready, NineWords}
use Rattle.rules.specs.Isolation.{Processes, line_names_one, without_written, without_value, asker, subject, event, passed_over, fields_of, is_granted, told_of}
use Rattle.rules.specs.Total.{tests_of, numbers_of, one_of}
use Rattle.rules.proofs.ProperLaws.{deposit-proper, vector-proper}
use Rattle.rules.proofs.StateLaws.{fits_kept}
use Rattle.rules.proofs.RuleLaws.{same-public, host-in, turns-kept, whole}
use Rattle.rules.proofs.NumberLaws.{by-test, same_cond, first-listed, or_else-zero}
use Rattle.rules.proofs.TurnLaws.{text-number, text-turn}
use Rattle.rules.proofs.AccessLaws.{May, Discreet, Fair, outer_number}
use Rattle.rules.proofs.CallLaws.{Silent, There, Placed, Lawful}
use Rattle.rules.proofs.ReportLaws.{kept}

-- ---- the law of a row

-- all that the tests of a process say of a line that passes them
pub record Passing (r : TextRule) (x : Line) (p : Process) : Type 0 where
  pub there : p.there ≡ true
  pub right : r.right (public p) ≡ true
  pub state : r.state x p ≡ true
  pub range : r.range x p.size ≡ true

record TextRow (r : TextRule) : Type 0 where
  -- a sound process stays sound
  keeps : (x : Line) (l : Local) → Proper l → Passing r x l.process → Proper (r.effect x l)
  -- and its vector has nine words
  words : (x : Line) (l : Local) → NineWords l.process → NineWords (r.effect x l).process
  -- host 253 debugs the process, or watches it, where it may ask
  guarded : (u : Public) → r.right u ≡ true → insider u text_host ≡ true
  -- the public part stays
  publicly : (x : Line) (l : Local) → public (r.effect x l).process ≡ public l.process

holds-in : (u : Public) → eqb u.host text_host ≡ true → insider u text_host ≡ true
holds-in u e = host-in u text_host (λ z. omega (arith, z)) e

-- ---- the rows

read-word-row : TextRow read_word_rule
read-word-row = record { keeps = λ x l g p. g; words = λ x l n. n; guarded = λ u e. e; publicly = λ x l. refl }

write-word-row : TextRow write_word_rule
unfolding deposited public word_range word_bytes
write-word-row = record {
  keeps = λ x l g p.
      let low = leb-true (x.third + 4) l.process.size (&&-right (eqb (x.third % 4) 0) (leb (x.third + 4) l.process.size) p.range) in
      deposit-proper l g x.third (word_bytes x.fourth) (omega (arith, low, whole l g p.there));
  words = λ x l n. n;
  guarded = holds-in;
  publicly = λ x l. refl;
}

read-register-row : TextRow read_register_rule
read-register-row = record { keeps = λ x l g p. g; words = λ x l n. n; guarded = holds-in; publicly = λ x l. refl }

write-register-row : TextRow write_register_rule
unfolding public vector_after vector_of
write-register-row = record { keeps = λ x l g p. vector-proper _ l g; words = λ x l n. refl; guarded = holds-in; publicly = λ x l. refl }

-- `c` and `s`, by what they leave
go-row : (effect : ℕ → Local → Local) → ((a : ℕ) (l : Local) → shape (effect a l) ≡ shape l) → ((a : ℕ) (l : Local) → watcher_of (effect a l) ≡ watcher_of l)
    → ((l : Local) → Proper l → (a : ℕ) → stopped_or_at_break l.process.run ≡ true → l.process.host ≡ text_host → Proper (effect a l)) → TextRow (go_rule effect)
unfolding public
go-row effect same watched proper = record {
  keeps = λ x l g p. proper l g x.third p.state (eqb-true l.process.host text_host p.right);
  words = λ x l n. same-words (same x.third l) ∙ n;
  guarded = holds-in;
  publicly = λ x l. same-public (effect x.third l) l (same x.third l) (watched x.third l);
}

text-row : (letter : ℕ) → TextRow (text_rule_of letter)
unfolding text_rule_of
text-row letter =
    by-test TextRow (eqb letter READ-CODE || eqb letter READ-DATA) (λ e. read-word-row)
    (λ e. by-test TextRow (eqb letter WRITE-CODE || eqb letter WRITE-DATA) (λ i. write-word-row)
    (λ i. by-test TextRow (eqb letter READ-REGISTER) (λ j. read-register-row)
    (λ j. by-test TextRow (eqb letter WRITE-REGISTER) (λ k. write-register-row)
    (λ k. by-test TextRow (eqb letter CONTINUE) (λ c. go-row continued shape-continued watcher-continued continued-proper) (λ c. go-row stepped_from shape-stepped_from watcher-stepped_from stepped-from-proper)))))

-- ---- at the process that a line names

module _ (x : Line) where
  pub text-passing : (l : Local) → number_at (text_access x) l ≡ 0 → Passing (text_rule_of x.letter) x l.process
  unfolding text_access number_at public
  text-passing l z =
      let o = or_else-zero (outer_number (text_access x) l) (first_failing ((text_access x).inner l)) z in
      let owed = rest-passes 115 _ _ o.1 in
      record {
        there = not-false _ (first_passes 102 _ _ o.0);
        right = not-false _ (first_passes 100 _ _ (rest-passes 102 _ _ o.0));
        state = not-false _ (first_passes 121 _ _ owed);
        range = not-false _ (first_passes 113 _ _ (rest-passes 121 _ _ owed));
      }

  text-keeps : (l : Local) → Proper l → number_at (text_access x) l ≡ 0 → Proper ((text_rule_of x.letter).effect x l)
  text-keeps l g z = (text-row x.letter).keeps x l g (text-passing l z)

  text-fair : Fair (by text_host) (text_access x) kept
  unfolding text_access May Discreet
  text-fair = record {
    publicly = λ l z. (text-row x.letter).publicly x l;
    keeps = text-keeps;
    guarded = λ u z. inl ((text-row x.letter).guarded u (not-false _ (first_passes 100 _ _ (rest-passes 102 _ _ z))));
    hides = inl (λ u. refl);
    plain = λ l k e. refl;
    discreet = λ l g. tt;
  }

-- ---- a line without what it writes

-- it can be said if the line can
says-without : (x : Line) → Sayable (read_fields x) → Sayable (without_written x)
unfolding without_written
says-without x s =
    by-test Sayable (eqb x.letter CONTINUE || eqb x.letter STEP)
    (λ e. record { letter-known = s.letter-known; pid-fits = s.pid-fits; third-fits = omega arith; fourth-fits = s.fourth-fits })
    (λ e. by-test Sayable (eqb x.letter WRITE-CODE || (eqb x.letter WRITE-DATA || eqb x.letter WRITE-REGISTER))
    (λ i. record { letter-known = s.letter-known; pid-fits = s.pid-fits; third-fits = s.third-fits; fourth-fits = omega arith }) (λ i. s))

-- and names the same process
names-without : (x : Line) → (without_written x).pid ≡ x.pid
unfolding without_written
names-without x =
    by-test (λ (f : Fields). f.pid ≡ x.pid) (eqb x.letter CONTINUE || eqb x.letter STEP) (λ e. refl)
    (λ e. by-test (λ (f : Fields). f.pid ≡ x.pid) (eqb x.letter WRITE-CODE || (eqb x.letter WRITE-DATA || eqb x.letter WRITE-REGISTER)) (λ i. refl) (λ i. refl))

text-over : (P : Processes) (text : List ℕ) → line_names_one P (line_of text) ≡ true → line_names_one P (line_of (without_value text)) ≡ true
unfolding line_names_one without_value
text-over P text e =
    by-test (λ (other : List ℕ). line_names_one P (line_of other) ≡ true) (line_of text).whole
    (λ w. rw (written-is-read (without_written (line_of text)) (says-without (line_of text) (read-is-written text w).1), names-without (line_of text))
    (&&-right (line_of text).headed (P (line_of text).pid) e))
    (λ w. e)

-- ---- a text line

text-silent : (text buffer : List ℕ) → Silent (text_line text buffer)
unfolding told_of fields_of names
text-silent text buffer d a q = same_cond (is_granted a.outcome) (d q)

module _ (text buffer : List ℕ) where
  abbrev here : Call
  here = text_line text buffer

  text-there : (s : State) → Ready s → (line_of text).headed ≡ true → (line_of text).pid < 8 → There s here (line_of text).pid (text_access (line_of text))
  unfolding asker subject line_names_one fields_of text_access
  text-there s r headed low = record {
    low = low;
    then = kept;
    fair = text-fair (line_of text);
    words = λ t l n. (text-row (line_of text).letter).words (line_of text) l n;
    fits = fits_kept s r (line_of text).pid;
    narrows = λ e u. omega arith;
    named = λ P e. &&-right (line_of text).headed (P (line_of text).pid) e;
    reaches = inl (&&-both (line_of text).headed _ headed (eq-eqb (line_of text).pid (line_of text).pid refl));
    carries = λ l e. absurd (omega (arith, e));
    anew = λ e. absurd (omega (arith, e));
    told = λ d l q. text-silent text buffer d _ q ∙ sym (same_cond (eqb q (line_of text).pid) (d q));
    turns = λ z. turns-kept _ _ (line_of text).pid _;
  }

  text-placed : (s : State) → Ready s → first_failing (text_turn text buffer s).tests ≡ 0 → Placed s here (text_turn text buffer s).place
  unfolding text_turn Placed
  text-placed s r z =
      let headed = rest-passes 1 _ _ (rest-passes 0 _ _ z) in
      text-there s r (not-false _ (first_passes 5 _ _ headed)) (ltb-true (line_of text).pid 8 (not-false _ (first_passes 102 _ _ (rest-passes 121 _ _ (rest-passes 5 _ _ headed)))))

  pub text-lawful : Lawful here
  unfolding step turn_of buffers_of tests_of numbers_of text_number event asker passed_over subject fields_of text_turn
  text-lawful = record {
    turn = text-turn text buffer;
    number = text-number text buffer;
    listed = λ s. first-listed (one_of (numbers_of here)) (text_tests s text buffer) refl refl;
    alike = λ s t r q a. rw (r.memory, q.memory, r.sound, q.sound);
    placed = text-placed;
    subject-creates = λ P e. refl;
    event-asker = λ e. absurd (true≢false (sym e));
    event-silent = λ e. text-silent text buffer;
    over-asker = refl;
    over-subject = λ P. text-over P text;
    over-silent = inr (text-silent text buffer, text-silent (without_value text) buffer);
  }
