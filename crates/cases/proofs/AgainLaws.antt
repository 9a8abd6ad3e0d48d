-- Two laptops and a process that is created again: the premises of isolation met, and what is received, computed. Assumes nothing.
use mathlib.Core.Path.{◌≡◌, refl, sym, ap, ◌∙◌}
use mathlib.Core.Bool.{Bool, true, false, not, ◌&&◌, ◌||◌, true≢false}
use mathlib.Core.List.{List, [], ◌∷◌}
use Prim.Native.Nat.{ℕ, ◌<◌}
use native.Mathlib.Omega.{arith}
use borrow.Author.Tests.{eqb-true, not-true}
use lib.ListN.{replicate}
use lib.Dec.{eqb}
use Rattle.lists.specs.Every.{every, below}
use Rattle.lists.proofs.Bool.{&&-left, &&-right}
use Rattle.lists.proofs.Every.{below_at}
use Rattle.process.specs.Sizes.{valid_size}
use Rattle.lists.specs.Sum.{total}
use Rattle.state.specs.Records.{lowest_absent}
use Rattle.state.specs.Fresh.{fresh_process, fresh_processes, fresh_starts, fresh_start}
use Rattle.state.specs.Sound.{records_sound, sound_test as sound_state}
use Rattle.lists.specs.Buffer.{overlay}
use Rattle.lists.specs.Word.{low_first}
use Rattle.format.specs.Answer.{cant_of, created_of, notice_of}
use Rattle.format.specs.Layout.{written, header_of, string_of, fixed_right}
use Rattle.format.specs.Outcome.{number_of, first_failing, length_of}
use Rattle.format.specs.Refusal.{fields_right, carried_length, wrong_length, wrong_header, misfits}
use Rattle.ops.specs.Table.{row_of, request_form}
use Rattle.breakpoints.specs.EntryQuery.{matches}
use Rattle.process.specs.Find.{find}
use Rattle.process.specs.Planting.{planted_in, lifted_in, removed_from, replanted, lifted_at}
use Rattle.process.specs.Record.{fresh, count_used}
use Rattle.run_state.specs.RunState.{accepts, goes_on, run_after}
use Rattle.process.specs.Report.{store_vector_and_replant, passes, notice_host, verdict_of, recipient_of, answer_of, passed, reported}
use Rattle.process.specs.Request.{has_break, has_room, count_set_by, may_have_more, has_room_for, is_his, examined, deposited, vector_after, break_set, break_removed, created, cleared}
use Rattle.breakpoints.specs.Seen.{restored, seen, saved_from, overlay_saved_byte, overlay_saved_word}
use Rattle.process.specs.Request.{sheltered}
use Rattle.breakpoints.specs.Entry.{is_set_by, valid_break_address}
use Rattle.process.specs.Sound.{absent_has_no_host, lift_sound, setter_sound, used_sound, entry_sound, sound_test, keeps_rules}
use Rattle.state.specs.Layout.{used, used_before, start_is_unique, placed, laid_out, slot, with_slot, closed, start_without, starts_without}
use Rattle.rules.specs.Rule.{public, rule_of, names, size_asked}
use Rattle.rules.specs.Window.{put_in_place, put_last, taken_out}
use Rattle.rules.specs.TextRule.{owed_line}
use Rattle.session.specs.Session.{owed_sound, watcher_sound, go_sound, session_sound}
use Rattle.rules.specs.Step.{put, granted_named, granted_create, granted, refused, request_step, notice_to, notified, report_step, step}
use Rattle.rules.specs.Tests.{asked_tests, request_number, report_number}
use Rattle.rules.specs.Access.{insider}
use Rattle.rules.specs.Tests.{State}
use Rattle.rules.specs.Step.{local_of, stored}
use Rattle.rules.specs.Ready.{Ready}
use Rattle.rules.specs.Run.{TraceItem, run}
use Rattle.rules.specs.Total.{one_of}
use Rattle.rules.specs.Isolation.{Processes, names_one, asker, subject, event, passed_over, fields_of, is_one, is_granted, noticed, line_sent, sent_to, part, heard, struck, without_data, public_of, NoneDebugs, theirs}
use Rattle.rules.specs.Outsider.{only}
use Rattle.rules.specs.Together.{created_for, hidden_after, Away, strike_run, AlikeRuns, without_theirs, calls_of}
use Rattle.cases.proofs.PairLaws.{each, eight, first_byte}
use Rattle.cases.specs.Again.{laptops, sellers, one, other, one_calls, other_calls, one_rest, received, CreatedAgain}

-- ---- tests that can be computed, and what they say

one-of : (f : ℕ → Bool) (ks : List ℕ) (n : ℕ) → one_of ks n ≡ true → every f ks ≡ true → f n ≡ true
one-of f [] n e i = absurd (true≢false (sym e))
one-of f (k ∷ ks) n e i = go (one-of f ks n) (eqb n k) refl e
  where
    go : (one_of ks n ≡ true → every f ks ≡ true → f n ≡ true) → (t : Bool) → eqb n k ≡ t → t || one_of ks n ≡ true → f n ≡ true
    go next true q j = ap f (eqb-true n k q) ∙ &&-left (f k) (every f ks) i
    go next false q j = next j (&&-right (f k) (every f ks) i)

module _ (hosts : List ℕ) where
  -- none of the hosts may see inside one of the processes
  abbrev outside_test : Processes → State → ℕ → Bool
  outside_test P s p = not (P p) || every (λ (host : ℕ). not (insider (public_of s p) host)) hosts

  none-debugs : (P : Processes) (s : State) → below (outside_test P s) 8 ≡ true → NoneDebugs (one_of hosts) P s
  none-debugs P s e p low i host h =
      not-true _ (one-of (λ (k : ℕ). not (insider (public_of s p) k)) hosts host h (rw i at (below_at (outside_test P s) 8 p low e)))

  -- at the start and after every call
  abbrev away_test : Processes → State → List TraceItem → Bool
  away_test P s [] = below (outside_test P s) 8
  away_test P s (e ∷ es) = below (outside_test P s) 8 && away_test (hidden_after (one_of hosts) P e) e.after es

  away_of : (es : List TraceItem) (P : Processes) (s : State) → away_test P s es ≡ true → Away (one_of hosts) P s es
  unfolding Away
  away_of [] P s e = none-debugs P s e
  away_of (x ∷ es) P s e =
      let rest = away_test (hidden_after (one_of hosts) P x) x.after es in (
        none-debugs P s (&&-left (below (outside_test P s) 8) rest e),
        away_of es (hidden_after (one_of hosts) P x) x.after (&&-right (below (outside_test P s) 8) rest e),
      )

-- ---- the two gateways

-- all that is computed
record Computed : Type 0 where
  one-ready : Ready one
  other-ready : Ready other
  shown : (p : ℕ) → p < 8 → public_of one p ≡ public_of other p
  others : (p : ℕ) → p < 8 → sellers p ≡ false → local_of one p ≡ local_of other p
  alike : AlikeRuns laptops sellers (run one one_calls) (run other other_calls)
  away : away_test (5 ∷ 6 ∷ []) sellers one (run one one_calls) ≡ true
  one-heard : heard laptops (run one one_calls) ≡ received
  other-heard : heard laptops (run other other_calls) ≡ received
  left : calls_of (without_theirs laptops sellers (replicate 30 true) (run one one_calls)) ≡ one_rest
  unlike : heard (only 9) (run one one_calls) ≡ heard (only 9) (run other other_calls) → ⊥

computed : Computed
unfolding strike_run hidden_after created_for without_theirs names_one subject event passed_over fields_of is_one is_granted struck without_data theirs insider heard part asker sent_to noticed line_sent stored overlay low_first cant_of created_of notice_of written header_of string_of fixed_right number_of length_of first_failing fields_right carried_length wrong_length wrong_header misfits row_of request_form matches find planted_in lifted_in removed_from replanted lifted_at fresh accepts goes_on store_vector_and_replant passes notice_host verdict_of recipient_of answer_of owed_line passed run_after reported has_break has_room count_set_by is_set_by may_have_more has_room_for is_his examined deposited vector_after break_set break_removed created cleared restored seen saved_from sheltered overlay_saved_byte overlay_saved_word valid_break_address absent_has_no_host lift_sound setter_sound used_sound entry_sound sound_test valid_size count_used keeps_rules owed_sound watcher_sound go_sound session_sound fresh_process fresh_processes fresh_starts fresh_start total used used_before start_is_unique placed laid_out records_sound sound_state slot with_slot closed start_without starts_without public rule_of names size_asked run put_in_place put_last taken_out put granted_named granted_create granted refused request_step notice_to notified report_step step lowest_absent asked_tests request_number report_number
computed = record {
  one-ready = record { memory = refl; processes = refl; starts = refl; entries = eight one refl; sound = refl };
  other-ready = record { memory = refl; processes = refl; starts = refl; entries = eight other refl; sound = refl };
  shown = each (λ (p : ℕ). public_of one p ≡ public_of other p) refl refl refl refl refl refl refl refl;
  others = each (λ (p : ℕ). sellers p ≡ false → local_of one p ≡ local_of other p) (λ n. refl) (λ n. refl) (λ n. absurd (true≢false n)) (λ n. refl)
      (λ n. absurd (true≢false n)) (λ n. refl) (λ n. refl) (λ n. refl);
  alike = refl;
  away = refl;
  one-heard = refl;
  other-heard = refl;
  left = refl;
  unlike = λ e. let z : ◌≡◌ {A = ℕ} 0 7 = ap first_byte e in omega arith;
}

pub created-again : CreatedAgain
created-again = record {
  runs = record {
    ready₁ = computed.one-ready;
    ready₂ = computed.other-ready;
    apart = record { shown = computed.shown; others = computed.others };
    alike = computed.alike;
    away = away_of (5 ∷ 6 ∷ []) (run one one_calls) sellers one computed.away;
  };
  one-heard = computed.one-heard;
  other-heard = computed.other-heard;
  unlike = computed.unlike;
  left = computed.left;
}
