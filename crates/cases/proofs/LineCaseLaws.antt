-- The cases of the text lines. What is answered is computed up to the fields of each line; the digits of those follow by laws, since the
-- definition of digits counts down from the number, and computing it for one of 32 bits takes too long. Assumes nothing.
use mathlib.Core.Path.{◌≡◌, refl, ap, ◌∙◌}
use mathlib.Core.Bool.{Bool, true, false, cond}
use mathlib.Core.List.{List, [], ◌∷◌, ◌++◌}
use Prim.Native.Nat.{ℕ, suc, ◌*◌, ◌/◌, ◌%◌, ◌<◌}
use native.Mathlib.Omega.{arith}
use borrow.Author.Tests.{ltb-true, ltb-false, lt-ltb}
use lib.Dec.{ltb}
use Rattle.fields.specs.declared.write.Fields.{Fields}
use Rattle.fields.specs.Answer.{failed_flag}
use Rattle.fields.specs.Hex.{hex_digit, digits_in, hex_digits, hex_numeral, hex_value, digits_of, value_from, plain, digits_at, number_at, number_after}
use Rattle.fields.specs.Letters.{known}
use Rattle.fields.specs.Read.{separates, head_after, head_of, ends_at, line_after, line_from, line_of}
use Rattle.fields.specs.Written.{blank_numeral, written as written_line}
use Rattle.fields.proofs.HexLaws.{digits-small, digits-large}
use Rattle.lists.specs.Buffer.{overlay}
use Rattle.lists.specs.Word.{low_first}
use Rattle.format.specs.Answer.{notice_of}
use Rattle.format.specs.Layout.{written, header_of, string_of, fixed_right}
use Rattle.format.specs.Outcome.{first_failing}
use Rattle.format.specs.Refusal.{fields_right, carried_length, wrong_length, wrong_header, misfits}
use Rattle.ops.specs.Table.{row_of, request_form}
use Rattle.breakpoints.specs.EntryQuery.{matches}
use Rattle.process.specs.Find.{find}
use Rattle.process.specs.Planting.{replanted}
use Rattle.process.specs.Record.{fresh, count_used}
use Rattle.run_state.specs.RunState.{accepts, goes_on, run_after}
use Rattle.process.specs.Report.{store_vector_and_replant, passes, notice_host, verdict_of, reported, recipient_of, answer_of}
use Rattle.process.specs.Request.{has_break, examined, deposited, cleared, brought_to_stop, stopped, vector_from, went_on, continued}
use Rattle.breakpoints.specs.Seen.{restored, seen, saved_from, overlay_saved_byte, overlay_saved_word}
use Rattle.process.specs.Request.{sheltered}
use Rattle.breakpoints.specs.Entry.{valid_break_address}
use Rattle.process.specs.Sound.{absent_has_no_host, lift_sound, setter_sound, used_sound, entry_sound, sound_test, keeps_rules}
use Rattle.process.specs.Sizes.{valid_size}
use Rattle.lists.specs.Sum.{total}
use Rattle.state.specs.Fresh.{fresh_process, fresh_processes, fresh_starts, fresh_start}
use Rattle.state.specs.Sound.{records_sound, sound_test as sound_state}
use Rattle.state.specs.Layout.{used, used_before, start_is_unique, placed, laid_out, slot, with_slot}
use Rattle.rules.specs.Rule.{public, insider, rule_of, names}
use Rattle.rules.specs.Window.{put_in_place}
use Rattle.rules.specs.Run.{run}
use Rattle.rules.specs.TextRule.{word_of, word_bytes, word_at, word_range, pc_range, text_rule_of, failure, status_of, owed_line}
use Rattle.session.specs.Session.{owed_sound, watcher_sound, go_sound, session_sound}
use Rattle.rules.specs.Step.{put, granted_named, granted, request_step, notice_to, notified, report_step, text_step, step}
use Rattle.rules.specs.Tests.{asked_tests, request_number, report_number, text_number}
use Rattle.cases.specs.Case.{Seen, outcomes, answer, answer_line, noticed_beside}
use Rattle.cases.specs.LineCases.{debug, stop, notice, word_before, word_then, not_aligned, still_owed, at_breakpoint, word_read, line_case, owed_case, line_cases}
use Rattle.cases.specs.Table.{Hold}

-- ---- a line, written with at most eight digits a number

one-digit : (n : ℕ) → n < 16 → hex_digits n ≡ digits_in 1 n
unfolding digits_in
one-digit n h = rw (lt-ltb n 16 h) (digits-small n h)

-- one digit more
more : (k b : ℕ) → ((m : ℕ) → m < b → hex_digits m ≡ digits_in k m) → (n : ℕ) → n < 16 * b → hex_digits n ≡ digits_in (suc k) n
unfolding digits_in
more k b rest n h = go (ltb n 16) refl
  where
    go : (t : Bool) → ltb n 16 ≡ t
        → hex_digits n ≡ cond (ltb n 16) (hex_digit n ∷ []) (digits_in k (n / 16) ++ (hex_digit (n % 16) ∷ []))
    go true e = rw e (digits-small n (ltb-true n 16 e))
    go false e =
        rw e (digits-large n (ltb-false n 16 e) ∙ ap (λ (l : List ℕ). l ++ (hex_digit (n % 16) ∷ [])) (rest (n / 16) (omega (arith, h))))

eight-digits : (n : ℕ) → n < 4294967296 → hex_digits n ≡ digits_in 8 n
eight-digits = more 7 268435456 (more 6 16777216 (more 5 1048576 (more 4 65536 (more 3 4096 (more 2 256 (more 1 16 one-digit))))))

-- the line, with these digits for its numbers
abbrev line_with : List ℕ → ℕ → List ℕ → List ℕ → List ℕ
line_with pid letter third fourth =
    48 ∷ 120 ∷ (pid ++ (32 ∷ letter ∷ (32 ∷ 48 ∷ 120 ∷ (third ++ (32 ∷ 48 ∷ 120 ∷ (fourth ++ (10 ∷ [])))))))

written-short : (f : Fields) → f.pid < 4294967296 → f.third < 4294967296 → f.fourth < 4294967296
    → written_line f ≡ line_with (digits_in 8 f.pid) f.letter (digits_in 8 f.third) (digits_in 8 f.fourth)
unfolding written_line blank_numeral hex_numeral
written-short f h i j = rw (eight-digits f.pid h) (rw (eight-digits f.third i) (rw (eight-digits f.fourth j)))

-- ---- the answers

-- an answer about process 2
abbrev about : ℕ → ℕ → ℕ → List ℕ
about letter third fourth = written_line (record { pid = 2; letter = letter; third = third; fourth = fourth })

about-short : (letter third fourth : ℕ) → third < 4294967296 → fourth < 4294967296
    → about letter third fourth ≡ line_with (digits_in 8 2) letter (digits_in 8 third) (digits_in 8 fourth)
about-short letter third fourth i j = written-short (record { pid = 2; letter = letter; third = third; fourth = fourth }) (omega arith) i j

-- each line, byte for byte
record Texts : Type 0 where
  before : about 68 0 13330 ≡ word_before
  then : about 100 0 1144201745 ≡ word_then
  unaligned : about 100 failed_flag 14 ≡ not_aligned
  owed : about 100 failed_flag 16 ≡ still_owed
  stopped : about 99 0 1407 ≡ at_breakpoint
  read : about 100 0 13330 ≡ word_read

texts : Texts
unfolding hex_digit digits_in
texts = record {
  before = about-short 68 0 13330 (omega arith) (omega arith);
  then = about-short 100 0 1144201745 (omega arith) (omega arith);
  unaligned = about-short 100 failed_flag 14 (omega arith) (omega arith);
  owed = about-short 100 failed_flag 16 (omega arith) (omega arith);
  stopped = about-short 99 0 1407 (omega arith) (omega arith);
  read = about-short 100 0 13330 (omega arith) (omega arith);
}

-- ---- the cases

-- what is seen of the first, with these lines
abbrev line_seen : List ℕ → List ℕ → List ℕ → List Seen
line_seen before then unaligned =
    answer 0 debug (18 ∷ 52 ∷ 0 ∷ 0 ∷ []) []
    ∷ answer_line 0 before (17 ∷ 34 ∷ 51 ∷ 68 ∷ []) []
    ∷ answer_line 0 then (17 ∷ 34 ∷ 51 ∷ 68 ∷ []) []
    ∷ answer_line 114 unaligned (17 ∷ 34 ∷ 51 ∷ 68 ∷ []) []
    ∷ []

-- and of the second
abbrev owed_seen : List ℕ → List ℕ → List ℕ → List Seen
owed_seen owed stopped read =
    answer 0 debug [] (0 ∷ 0 ∷ [])
    ∷ answer 0 stop [] (2 ∷ 0 ∷ [])
    ∷ answer_line 0 [] [] (0 ∷ 1 ∷ [])
    ∷ answer_line 116 owed [] (0 ∷ 1 ∷ [])
    ∷ noticed_beside stopped notice [] (3 ∷ 0 ∷ [])
    ∷ answer_line 0 read [] (3 ∷ 0 ∷ [])
    ∷ []

record Computed : Type 0 where
  lines : outcomes line_case ≡ line_seen (about 68 0 13330) (about 100 0 1144201745) (about 100 failed_flag 14)
  owed : outcomes owed_case ≡ owed_seen (about 100 failed_flag 16) (about 99 0 1407) (about 100 0 13330)

computed : Computed
unfolding overlay low_first notice_of written header_of string_of fixed_right first_failing fields_right carried_length wrong_length wrong_header misfits row_of request_form matches find replanted fresh accepts goes_on store_vector_and_replant passes notice_host verdict_of recipient_of answer_of owed_line run_after reported has_break examined deposited cleared restored seen saved_from sheltered overlay_saved_byte overlay_saved_word valid_break_address absent_has_no_host lift_sound setter_sound used_sound entry_sound sound_test valid_size count_used keeps_rules owed_sound watcher_sound go_sound session_sound fresh_process fresh_processes fresh_starts fresh_start total used used_before start_is_unique placed laid_out records_sound sound_state slot with_slot public insider rule_of names run put_in_place put granted_named granted request_step notice_to notified report_step step asked_tests request_number report_number text_number text_step word_of word_bytes word_at word_range pc_range text_rule_of failure status_of separates head_after head_of ends_at line_after line_from line_of known hex_value digits_of value_from plain digits_at number_at number_after brought_to_stop stopped vector_from went_on continued
computed = record { lines = refl; owed = refl }

line-holds : outcomes line_case ≡ line_case.seen
line-holds = computed.lines ∙ rw texts.before (rw texts.then (rw texts.unaligned))

owed-holds : outcomes owed_case ≡ owed_case.seen
owed-holds = computed.owed ∙ rw texts.owed (rw texts.stopped (rw texts.read))

pub lines-hold : Hold line_cases
unfolding Hold
lines-hold = rw line-holds (rw owed-holds)
