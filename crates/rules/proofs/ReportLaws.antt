-- The laws of machine reports and of stores by the machine. Assumes nothing.
use mathlib.Core.Path.{◌≡◌, refl, sym, ap, ◌∙◌}
use mathlib.Core.Bool.{true}
use mathlib.Core.List.{List, []}
use mathlib.Core.Logic.{◌⊎◌, inl, inr}
use native.Mathlib.Omega.{arith}
use Prim.Native.Nat.{ℕ, ◌<◌}
use borrow.Author.Tests.{eq-eqb, eqb-false, ltb-true, not-true, not-false}
use lib.Dec.{eqb, ltb}
use Rattle.lists.specs.Word.{low_first}
use Rattle.format.specs.Outcome.{first_failing}
use Rattle.format.specs.Answer.{notice_of}
use Rattle.format.proofs.OutcomeLaws.{first_passes, rest-passes}
use Rattle.session.specs.Session.{text_host, owes}
use Rattle.process.specs.Local.{Local, Proper}
use Rattle.process.specs.Report.{reported, recipient_of, answer_of}
use Rattle.process.proofs.ReportLaws.{recipient-insider}
use Rattle.process.proofs.AnswerLaws.{answer-owed}
use Rattle.rules.specs.Rule.{Public, public, names}
use Rattle.rules.specs.TextRule.{owed_line}
use Rattle.rules.specs.Tests.{State, report_tests, report_number}
use Rattle.rules.specs.Access.{nobody, insider, number_at}
use Rattle.rules.specs.Step.{told, Call, report, store, step}
use Rattle.rules.specs.Turn.{report_access, report_turn, store_access, store_turn, turn_of, buffers_of}
use Rattle.rules.specs.Ready.{Ready, Typed}
use Rattle.rules.specs.Isolation.{asker, subject, event, passed_over, fields_of, is_granted, told_of}
use Rattle.rules.specs.Total.{tests_of, numbers_of, one_of}
use Rattle.rules.proofs.ProperLaws.{sound-of, report-proper, store-proper}
use Rattle.rules.proofs.StateLaws.{fits_kept}
use Rattle.rules.proofs.RuleLaws.{host-in, insider-in, turns-kept, public-reported, count-reported}
use Rattle.rules.proofs.NumberLaws.{by-test, same_cond, first-listed, or_else-zero}
use Rattle.rules.proofs.TurnLaws.{report-number, report-turn, store-number, store-turn}
use Rattle.rules.proofs.AccessLaws.{May, Sends, Discreet, Fair, outer_number}
use Rattle.rules.proofs.CallLaws.{Silent, There, Placed, Lawful}

-- the public part stays
abbrev pub kept : Public → Public
kept u = u

-- ---- reports

module _ (p kind reason : ℕ) (words : List ℕ) where
  -- who is told debugs the process or watches it
  told-sees : (l : Local) → Proper l → told kind words l ≡ true → insider (public l.process) (recipient_of kind words l) ≡ true
  told-sees l g e = insider-in l.process (recipient_of kind words l) (eqb-false _ 0 (not-true _ e)) (recipient-insider kind words l g e)

  -- an answer is owed to host 253 alone, which debugs the process
  owed-sees : (l : Local) → Proper l → owes (answer_of kind words l) ≡ true → insider (public l.process) text_host ≡ true
  unfolding public
  owed-sees l g e = host-in (public l.process) text_host (λ z. omega (arith, z)) (eq-eqb l.process.host text_host ((sound-of l g).owed (ap owes (sym (answer-owed kind words l e)) ∙ e)))

  report-discreet : (l : Local) → Proper l → Discreet nobody (public l.process) ((report_access p kind reason words).reply l)
  unfolding Discreet report_access notice_of owed_line
  report-discreet l g = record {
    notice = by-test (λ (bytes : List ℕ). (bytes ≡ []) ⊎ Sends (public l.process) bytes) (told kind words l)
        (λ e. inr (record { header = notice_of (recipient_of kind words l) kind p reason; string = low_first words; is = refl; sees = told-sees l g e }))
        (λ e. inl refl);
    line = by-test (λ (bytes : List ℕ). (bytes ≡ []) ⊎ (insider (public l.process) text_host ≡ true)) (owes (answer_of kind words l))
        (λ e. inr (owed-sees l g e)) (λ e. inl refl);
  }

  report-keeps : (l : Local) → Proper l → number_at (report_access p kind reason words) l ≡ 0 → Proper (reported kind words l)
  unfolding number_at report_access
  report-keeps l g z =
      let o = or_else-zero (outer_number (report_access p kind reason words) l) (first_failing ((report_access p kind reason words).inner l)) z in
      report-proper l g kind words (not-false _ (first_passes 8 _ _ o.1))

  report-fair : Fair nobody (report_access p kind reason words) kept
  unfolding report_access May
  report-fair = record {
    publicly = λ l z. public-reported kind words l;
    keeps = report-keeps;
    guarded = λ u z. tt;
    hides = inl (λ u. refl);
    plain = λ l k e. refl;
    discreet = report-discreet;
  }

  module _ (buffer line : List ℕ) where
    abbrev here : Call
    here = report p kind reason words buffer line

    report-silent : Silent here
    unfolding told_of fields_of names
    report-silent d a q = same_cond (is_granted a.outcome) (d q)

    report-there : (s : State) → Ready s → p < 8 → There s here p (report_access p kind reason words)
    unfolding asker subject fields_of report_access Typed
    report-there s r low = record {
      low = low;
      then = kept;
      fair = report-fair;
      words = λ t l n. count-reported kind words l ∙ t;
      fits = fits_kept s r p;
      narrows = λ e u. omega arith;
      named = λ P e. e;
      reaches = inl (eq-eqb p p refl);
      carries = λ l e. absurd (omega (arith, e));
      anew = λ e. absurd (omega (arith, e));
      told = λ d l q. report-silent d _ q ∙ sym (same_cond (eqb q p) (d q));
      turns = λ z. turns-kept _ _ p _;
    }

    pub report-lawful : Lawful here
    unfolding step turn_of buffers_of tests_of numbers_of report_number event asker passed_over subject fields_of report_turn Placed
    report-lawful = record {
      turn = report-turn p kind reason words buffer line;
      number = report-number p kind reason words buffer line;
      listed = λ s. first-listed (one_of (numbers_of here)) (report_tests s p kind reason buffer line) refl refl;
      alike = λ s t r q a. rw (r.memory, q.memory, r.sound, q.sound);
      placed = λ s r z.
          report-there s r (ltb-true p 8 (not-false _ (first_passes 6 _ _ (rest-passes 13 _ _ (rest-passes 1 _ _ (rest-passes 0 _ _ z))))));
      subject-creates = λ P e. refl;
      event-asker = λ e. refl;
      event-silent = λ e. report-silent;
      over-asker = refl;
      over-subject = λ P e. e;
      over-silent = inl refl;
    }

-- ---- stores

module _ (p x v : ℕ) where
  store-fair : Fair nobody (store_access x v) kept
  unfolding store_access May Discreet
  store-fair = record {
    publicly = λ l z. refl;
    keeps = λ l g z. store-proper x v l g;
    guarded = λ u z. tt;
    hides = inl (λ u. refl);
    plain = λ l k e. refl;
    discreet = λ l g. record { notice = inl refl; line = inl refl };
  }

  store-silent : Silent (store p x v)
  unfolding told_of fields_of names
  store-silent d a q = same_cond (is_granted a.outcome) (d q)

  store-there : (s : State) → Ready s → p < 8 → There s (store p x v) p (store_access x v)
  unfolding asker subject fields_of store_access
  store-there s r low = record {
    low = low;
    then = kept;
    fair = store-fair;
    words = λ t l n. n;
    fits = fits_kept s r p;
    narrows = λ e u. omega arith;
    named = λ P e. e;
    reaches = inl (eq-eqb p p refl);
    carries = λ l e. absurd (omega (arith, e));
    anew = λ e. absurd (omega (arith, e));
    told = λ d l q. store-silent d _ q ∙ sym (same_cond (eqb q p) (d q));
    turns = λ z. turns-kept _ _ p _;
  }

  pub store-lawful : Lawful (store p x v)
  unfolding step turn_of buffers_of tests_of numbers_of event asker passed_over subject fields_of store_turn Placed first_failing
  store-lawful = record {
    turn = store-turn p x v;
    number = store-number p x v;
    listed = λ s. refl;
    alike = λ s t r q a. refl;
    placed = λ s r z.
        by-test (Placed s (store p x v)) (ltb p 8) (λ e. store-there s r (ltb-true p 8 e)) (λ e. record { told = λ d q. store-silent d _ q; quiet = λ i. refl });
    subject-creates = λ P e. refl;
    event-asker = λ e. refl;
    event-silent = λ e. store-silent;
    over-asker = refl;
    over-subject = λ P e. e;
    over-silent = inl refl;
  }
