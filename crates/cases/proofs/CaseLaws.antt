-- The cases but for those of the text lines, computed. Assumes nothing.
use mathlib.Core.Path.{refl}
use Rattle.lists.specs.Buffer.{overlay}
use Rattle.lists.specs.Word.{low_first, vector_of}
use Rattle.format.specs.Answer.{cant_of, created_of, notice_of}
use Rattle.format.specs.Layout.{written, header_of, string_of, fixed_right}
use Rattle.format.specs.Outcome.{first_failing}
use Rattle.format.specs.Refusal.{fields_right, carried_length, wrong_length, wrong_header, misfits}
use Rattle.ops.specs.Table.{row_of, request_form}
use Rattle.breakpoints.specs.EntryQuery.{matches}
use Rattle.process.specs.Find.{find}
use Rattle.process.specs.Planting.{planted_in, lifted_in, removed_from, replanted, lifted_at}
use Rattle.process.specs.Record.{fresh, count_used}
use Rattle.run_state.specs.RunState.{accepts, goes_on, run_after}
use Rattle.process.specs.Report.{store_vector_and_replant, passes, notice_host, verdict_of, passed, reported, recipient_of, answer_of}
use Rattle.process.specs.Request.{has_break, has_room, count_set_by, may_have_more, has_room_for, is_his, examined, deposited, vector_after, break_set, break_removed, created, cleared, without_his, only_his, end_watched}
use Rattle.breakpoints.specs.Seen.{restored, seen, saved_from, overlay_saved_byte, overlay_saved_word}
use Rattle.process.specs.Request.{sheltered}
use Rattle.breakpoints.specs.Entry.{is_set_by, valid_break_address}
use Rattle.process.specs.Sound.{absent_has_no_host, lift_sound, setter_sound, used_sound, entry_sound, sound_test, keeps_rules}
use Rattle.process.specs.Sizes.{valid_size}
use Rattle.lists.specs.Sum.{total}
use Rattle.state.specs.Records.{lowest_absent}
use Rattle.state.specs.Fresh.{fresh_process, fresh_processes, fresh_starts, fresh_start}
use Rattle.state.specs.Sound.{records_sound, sound_test as sound_state}
use Rattle.state.specs.Layout.{used, used_before, start_is_unique, placed, laid_out, slot, with_slot, closed, start_without, starts_without}
use Rattle.rules.specs.Rule.{public, insider, rule_of, names, size_asked}
use Rattle.rules.specs.Window.{put_in_place, put_last, taken_out}
use Rattle.rules.specs.Run.{run}
use Rattle.rules.specs.TextRule.{owed_line}
use Rattle.session.specs.Session.{owed_sound, watcher_sound, go_sound, session_sound}
use Rattle.rules.specs.Step.{stored, put, granted_named, granted_create, granted, refused, request_step, notice_to, notified, report_step, step}
use Rattle.rules.specs.Tests.{asked_tests, request_number, report_number}
use Rattle.cases.proofs.LineCaseLaws.{lines-hold}
use Rattle.cases.specs.Cases.{cases}
use Rattle.cases.specs.WatchCases.{watch_cases}
use Rattle.cases.specs.Table.{Hold, CasesHold}

record Computed : Type 0 where
  first : Hold cases
  watches : Hold watch_cases

computed : Computed
unfolding Hold overlay low_first vector_of cant_of created_of notice_of written header_of string_of fixed_right first_failing fields_right carried_length wrong_length wrong_header misfits row_of request_form matches find planted_in lifted_in removed_from replanted lifted_at fresh accepts goes_on store_vector_and_replant passes notice_host verdict_of recipient_of answer_of owed_line passed run_after reported has_break has_room count_set_by is_set_by may_have_more has_room_for is_his examined deposited vector_after break_set break_removed created cleared without_his only_his end_watched restored seen saved_from sheltered overlay_saved_byte overlay_saved_word valid_break_address absent_has_no_host lift_sound setter_sound used_sound entry_sound sound_test valid_size count_used keeps_rules owed_sound watcher_sound go_sound session_sound fresh_process fresh_processes fresh_starts fresh_start total used used_before start_is_unique placed laid_out records_sound sound_state slot with_slot closed start_without starts_without public insider rule_of names size_asked run put_in_place put_last taken_out stored put granted_named granted_create granted refused request_step notice_to notified report_step step lowest_absent asked_tests request_number report_number
computed = record { first = refl; watches = refl }

pub cases-hold : CasesHold
cases-hold = record { first = computed.first; lines = lines-hold; watches = computed.watches }
