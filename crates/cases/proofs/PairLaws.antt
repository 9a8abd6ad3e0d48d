-- The premises of isolation, met by two gateways. Assumes nothing.
use mathlib.Core.Path.{◌≡◌, refl, ap}
use mathlib.Core.Bool.{Bool, true}
use mathlib.Core.List.{List, [], ◌∷◌}
use Prim.Native.Nat.{ℕ, zero, suc, ◌<◌}
use native.Mathlib.Omega.{arith}
use borrow.Author.Tests.{eqb-true}
use lib.ListN.{length, get_or}
use lib.Dec.{eqb}
use Rattle.lists.specs.Every.{below}
use Rattle.lists.proofs.Every.{below_at}
use Rattle.process.specs.Sizes.{valid_size}
use Rattle.lists.specs.Sum.{total}
use Rattle.state.specs.Records.{process_at, lowest_absent}
use Rattle.state.specs.Fresh.{fresh_process, fresh_processes, fresh_starts, fresh_start}
use Rattle.state.specs.Sound.{records_sound, sound_test as sound_state}
use Rattle.lists.specs.Buffer.{overlay}
use Rattle.lists.specs.Word.{low_first}
use Rattle.format.specs.Answer.{cant_of, created_of, notice_of}
use Rattle.format.specs.Layout.{written, header_of, string_of, fixed_right}
use Rattle.format.specs.Outcome.{number_of, length_of, first_failing}
use Rattle.format.specs.Refusal.{fields_right, carried_length, wrong_length, wrong_header, misfits}
use Rattle.ops.specs.Table.{row_of, request_form}
use Rattle.breakpoints.specs.EntryQuery.{matches}
use Rattle.process.specs.Find.{find}
use Rattle.process.specs.Planting.{planted_in, lifted_in, removed_from, replanted, lifted_at}
use Rattle.process.specs.Record.{fresh, count_used}
use Rattle.run_state.specs.RunState.{accepts, goes_on, run_after}
use Rattle.process.specs.Report.{store_vector_and_replant, passes, notice_host, verdict_of, recipient_of, answer_of, passed, reported}
use Rattle.process.specs.Request.{has_break, has_room, count_set_by, may_have_more, has_room_for, is_his, examined, deposited, vector_after, break_set, break_removed, created, cleared}
use Rattle.breakpoints.specs.Seen.{restored, seen, saved_from, overlay_saved_byte, overlay_saved_word}
use Rattle.process.specs.Request.{sheltered}
use Rattle.breakpoints.specs.Entry.{is_set_by, valid_break_address}
use Rattle.process.specs.Sound.{absent_has_no_host, lift_sound, setter_sound, used_sound, entry_sound, sound_test, keeps_rules}
use Rattle.state.specs.Layout.{used, used_before, start_is_unique, placed, laid_out, slot, with_slot, closed, start_without, starts_without}
use Rattle.rules.specs.Rule.{public, rule_of, names, size_asked}
use Rattle.rules.specs.Window.{put_in_place, put_last, taken_out}
use Rattle.rules.specs.Run.{run}
use Rattle.rules.specs.TextRule.{owed_line}
use Rattle.session.specs.Session.{owed_sound, watcher_sound, go_sound, session_sound}
use Rattle.rules.specs.Step.{put, granted_named, granted_create, granted, refused, request_step, notice_to, notified, report_step, step}
use Rattle.rules.specs.Tests.{asked_tests, request_number, report_number}
use Rattle.rules.specs.Tests.{State}
use Rattle.rules.specs.Step.{Answer, local_of, stored}
use Rattle.rules.specs.Access.{insider}
use Rattle.rules.specs.Isolation.{names_one, asker, subject, event, passed_over, fields_of, is_one, is_granted, public_then, told_of, noticed, line_sent, sent_to, part, heard, struck, without_data, strike}
use Rattle.rules.specs.Outsider.{Never}
use Rattle.cases.specs.Pair.{one, other, PremisesMet}

abbrev pub eight_test : State → Bool
eight_test s = below (λ (p : ℕ). eqb (length (process_at s.records p).breaks) 8) 8

pub eight : (s : State) → eight_test s ≡ true → (p : ℕ) → p < 8 → length (process_at s.records p).breaks ≡ 8
eight s e p h = eqb-true _ 8 (below_at (λ (q : ℕ). eqb (length (process_at s.records q).breaks) 8) 8 p h e)

-- the byte of the first answer, to an EXAMINE
abbrev pub first_byte : List Answer → ℕ
first_byte [] = 0
first_byte (a ∷ rest) = get_or a.buffer 10 0

-- what holds of 0 to 7
pub each : (F : ℕ → Type 0) → F 0 → F 1 → F 2 → F 3 → F 4 → F 5 → F 6 → F 7 → (p : ℕ) → p < 8 → F p
each F a b c d e f g h zero l = a
each F a b c d e f g h (suc zero) l = b
each F a b c d e f g h (suc (suc zero)) l = c
each F a b c d e f g h (suc (suc (suc zero))) l = d
each F a b c d e f g h (suc (suc (suc (suc zero)))) l = e
each F a b c d e f g h (suc (suc (suc (suc (suc zero))))) l = f
each F a b c d e f g h (suc (suc (suc (suc (suc (suc zero)))))) l = g
each F a b c d e f g h (suc (suc (suc (suc (suc (suc (suc zero))))))) l = h
each F a b c d e f g h (suc (suc (suc (suc (suc (suc (suc (suc p)))))))) l = absurd (omega arith)

pub premises-met : PremisesMet
unfolding names_one asker subject event passed_over is_one struck without_data strike fields_of insider is_granted public_then told_of Never stored heard part sent_to noticed line_sent length_of overlay low_first cant_of created_of notice_of written header_of string_of fixed_right number_of first_failing fields_right carried_length wrong_length wrong_header misfits row_of request_form matches find planted_in lifted_in removed_from replanted lifted_at fresh accepts goes_on store_vector_and_replant passes notice_host verdict_of recipient_of answer_of owed_line passed run_after reported has_break has_room count_set_by is_set_by may_have_more has_room_for is_his examined deposited vector_after break_set break_removed created cleared restored seen saved_from sheltered overlay_saved_byte overlay_saved_word valid_break_address absent_has_no_host lift_sound setter_sound used_sound entry_sound sound_test valid_size count_used keeps_rules owed_sound watcher_sound go_sound session_sound fresh_process fresh_processes fresh_starts fresh_start total used used_before start_is_unique placed laid_out records_sound sound_state slot with_slot closed start_without starts_without public rule_of names size_asked run put_in_place put_last taken_out put granted_named granted_create granted refused request_step notice_to notified report_step step lowest_absent asked_tests request_number report_number
premises-met = record {
  one-ready = record { memory = refl; processes = refl; starts = refl; entries = eight one refl; sound = refl };
  other-ready = record { memory = refl; processes = refl; starts = refl; entries = eight other refl; sound = refl };
  differ = record {
    there = refl;
    host = refl;
    watcher = refl;
    size = refl;
    others = each (λ (q : ℕ). (q ≡ 2 → ⊥) → local_of one q ≡ local_of other q) (λ n. refl) (λ n. refl) (λ n. absurd (n refl)) (λ n. refl)
        (λ n. refl) (λ n. refl) (λ n. refl) (λ n. refl);
  };
  alike = refl;
  outside = (refl, (refl, (refl, (refl, (refl, (refl, (refl, (refl, (refl, refl)))))))));
  unlike = λ e. let z : ◌≡◌ {A = ℕ} 0 7 = ap first_byte e in omega arith;
}
