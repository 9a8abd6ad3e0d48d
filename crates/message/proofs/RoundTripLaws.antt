-- Writing and then reading, and reading and then writing, over any table of forms. Both ends use the same tests: what a writer
-- leaves has the length and the fields that the reader tests, and what a reader accepts is the written form of what it finds.
-- Assumes nothing.
use mathlib.Core.Path.{◌≡◌, sym, ap, ◌∙◌}
use mathlib.Core.Bool.{true}
use mathlib.Core.List.{List}
use Prim.Native.Nat.{ℕ, ◌+◌, ◌≤◌}
use borrow.Author.Tests.{le-ltb}
use lib.ListN.{length, take}
use Rattle.lists.specs.Buffer.{Bytes}
use Rattle.lists.proofs.Buffer.{take-overlay}
use Rattle.format.specs.declared.header.Header.{Header}
use Rattle.std.proofs.Common.{Ok}
use Rattle.format.specs.Outcome.{first_failing}
use Rattle.format.specs.Layout.{written, header_of, string_of, fixed_right}
use Rattle.format.specs.Refusal.{layout_tests}
use Rattle.message.specs.Exchange.{Forms, write_number, answered, read_number, writes, reads}
use Rattle.message.specs.RoundTrip.{ReadAs, WrittenAs, RoundTrip}
use Rattle.format.proofs.OutcomeLaws.{granted-zero, granted-length, reading-zero, message-zero, message-header, rest-passes}
use Rattle.format.proofs.TestLaws.{zero-passed, sized-between, headed-fixed}
use Rattle.format.proofs.LayoutLaws.{header_of-written, string_of-written, fixed_right-written, length-written, written-header_of, length-string_of}
use Rattle.message.proofs.ExchangeLaws.{answered-granted}

module _ (forms : Forms) where
  -- the written form of fields and a string whose number is 0 is read as they are
  written_read : (h : Header) (string : List ℕ) → first_failing (layout_tests true (forms h.cmd) h (10 + length string)) ≡ 0
      → ReadAs forms (written h string) h string
  unfolding reads read_number
  written_read h string e =
      record {
        fields =
            rw (header_of-written h string, fixed_right-written h string, length-written h string)
            (sym (reading-zero _ h e));
        behind = string_of-written h string;
      }

  written-is-read : (h : Header) (string buffer : List ℕ) (n : ℕ) → (writes forms h string buffer).outcome ≡ Ok n
      → ReadAs forms (take n (writes forms h string buffer).buffer) h string
  unfolding writes write_number answered
  written-is-read h string buffer n e =
      let number = write_number (forms h.cmd) h (length string) buffer in
      let zero = granted-zero number (10 + length string) n e in
      let long : length (written h string) ≡ n = length-written h string ∙ granted-length number (10 + length string) n e in
      let laid = (answered-granted _ (length string) (written h string) buffer zero).1 in
      let left : take n (writes forms h string buffer).buffer ≡ written h string = rw (← laid, ← long) (take-overlay (written h string) buffer) in
      rw left (written_read h string (rest-passes 0 _ _ zero))

  -- bytes whose number is 0 are the written form of their fields and string, and writing those is granted
  read-written : (m buffer : List ℕ) → Bytes m → 266 ≤ length buffer → read_number (forms (header_of m).cmd) m ≡ 0
      → WrittenAs forms (header_of m) (string_of m) buffer m
  unfolding read_number writes write_number first_failing
  read-written m buffer bytes room e =
      let p = zero-passed (fixed_right m) (forms (header_of m).cmd) (header_of m) (length m) e in
      let long = (sized-between (length m) p.sized).0 in
      let fixed = headed-fixed (fixed_right m) (header_of m).host p.headed in
      let whole = written-header_of m bytes long fixed in
      let size = length-string_of m long in
      let zero : write_number (forms (header_of m).cmd) (header_of m) (length (string_of m)) buffer ≡ 0 =
      rw (le-ltb (length buffer) 266 room, size, ← fixed) e in
      let given = answered-granted _ (length (string_of m)) (written (header_of m) (string_of m)) buffer zero in
      record {
        granted = sym given.0 ∙ ap Ok size;
        bytes = rw (← given.1, whole) (take-overlay m buffer);
      }

  read-is-written : (m : List ℕ) (h : Header) (buffer : List ℕ) → Bytes m → 266 ≤ length buffer → reads forms m ≡ Ok h
      → WrittenAs forms h (string_of m) buffer m
  unfolding reads
  read-is-written m h buffer bytes room e =
      let number = read_number (forms (header_of m).cmd) m in
      rw (← message-header number (header_of m) h e) (read-written m buffer bytes room (message-zero number (header_of m) h e))

  pub round_trip : RoundTrip forms
  round_trip =
      record { written-is-read = written-is-read; read-is-written = read-is-written }
