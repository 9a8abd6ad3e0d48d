-- Laws of the bytes of a process. Assumes nothing.
use mathlib.Core.Path.{◌≡◌, refl, sym, ap, ◌∙◌}
use mathlib.Core.Bool.{Bool, true, false, ◌&&◌, ◌||◌}
use mathlib.Core.List.{List, ◌++◌, append_assoc}
use Prim.Native.Nat.{ℕ, zero, suc, ◌+◌}
use native.Mathlib.Omega.{arith}
use borrow.Author.Tests.{eqb-true, lt-leb, ne_eqb}
use lib.ListN.{length, take, drop, get_or, length-append, length-drop, take-append-drop}
use lib.Seq.{take_at, drop_at, length-take-le, drop-drop}
use lib.Dec.{eqb, leb}
use Rattle.lists.specs.Buffer.{Bytes}
use Rattle.lists.specs.Elements.{elements}
use Rattle.lists.specs.Every.{below}
use Rattle.lists.specs.Joined.{joined}
use Rattle.lists.specs.Word.{low_first, vector_of}
use Rattle.lists.proofs.Bool.{&&-left, &&-right, &&-pairs}
use Rattle.lists.proofs.Elements.{take-elements}
use Rattle.lists.proofs.Word.{word-high-low, high_word, low_word, length-low_first}
use Rattle.process.specs.declared.record.Process.{Process}
use Rattle.run_state.specs.RunState.{is_run_number}
use Rattle.run_state.proofs.RunLaws.{run-back, run-formed, run-forth}
use Rattle.session.specs.Session.{is_owed_number, session_sound}
use Rattle.session.proofs.SessionLaws.{owed_back, owed-formed, owed-forth}
use Rattle.process.specs.Record.{no_breaks, count_used}
use Rattle.process.specs.Sizes.{valid_size}
use Rattle.process.specs.Sound.{absent_has_no_host, entry_sound, keeps_rules}
use Rattle.process.specs.Sound.{sound_test as sound_process}
use Rattle.process.proofs.CountLaws.{count_none}
use Rattle.breakpoints.specs.Entry.{free}
use Rattle.state_bytes.specs.Chunk.{chunks, every_chunk}
use Rattle.state_bytes.specs.Entry.{entry_bytes, entry_of, entry_formed, entries_bits, flags_formed}
use Rattle.state_bytes.specs.Number.{flag_of}
use Rattle.state_bytes.specs.Process.{head_bytes, size_of, process_bytes, process_of, head_formed, process_formed, head_sound, process_plain, process_sound}
use Rattle.state_bytes.specs.Session.{session_of, session_formed, session_fits}
use Rattle.state_bytes.specs.Widths.{entry_count, entry_width, there_at, host_at, run_at, size_at, number_at, owed_at, waits_at, id_at, head_width, vector_at, vector_width, entries_at, entries_width, process_width}
use Rattle.state_bytes.proofs.ChunkLaws.{bytes_take, bytes_drop, length-joined, chunks-joined, every-joined, joined-chunks, chunks-same, every-weaker}
use Rattle.state_bytes.proofs.EntryLaws.{&&-true, &&-false, &&-assoc, length-entry_bytes, entry-back, entry-formed, entry-forth, entry_zero, zero_bits, flags-bits, zero-free, zero-formed}
use Rattle.state_bytes.proofs.NumberLaws.{flag-back, flag-formed, flag-forth, by-elements, u32-back, four-0, four-1, four-2, four-3}

-- ---- lengths

pub length-process_bytes : (p : Process) → length (low_first p.vector) ≡ vector_width → length p.breaks ≡ entry_count → length (process_bytes p) ≡ process_width
unfolding process_bytes
length-process_bytes p v b =
    length-append (head_bytes p) (low_first p.vector ++ joined entry_bytes p.breaks)
    ∙ ap (λ (n : ℕ). head_width + n) (length-append (low_first p.vector) (joined entry_bytes p.breaks))
    ∙ omega (arith, v, b, length-joined entry_bytes entry_width p.breaks free (λ k h. length-entry_bytes _))

pub process-parts : (p : Process) → (head_bytes p ++ low_first p.vector) ++ joined entry_bytes p.breaks ≡ process_bytes p
unfolding process_bytes
process-parts p = append_assoc (head_bytes p) (low_first p.vector) (joined entry_bytes p.breaks)

-- ---- run states and words

vector-back : (v : List ℕ) → length v ≡ 9 → vector_of (low_first v) ≡ v
unfolding vector_of low_first
vector-back v nine =
    let whole = by-elements 9 v nine in
    ap (λ (l : List ℕ). vector_of (low_first l)) whole ∙ rw (word-high-low (get_or v 0 0), word-high-low (get_or v 1 0), word-high-low (get_or v 2 0), word-high-low (get_or v 3 0), word-high-low (get_or v 4 0), word-high-low (get_or v 5 0), word-high-low (get_or v 6 0), word-high-low (get_or v 7 0), word-high-low (get_or v 8 0)) (sym whole)

vector-forth : (m : List ℕ) → length m ≡ vector_width → Bytes m → low_first (vector_of m) ≡ m
unfolding vector_of low_first
vector-forth m size b = rw (low_word (get_or m 1 0) (get_or m 0 0) (b 0), high_word (get_or m 1 0) (get_or m 0 0) (b 0), low_word (get_or m 3 0) (get_or m 2 0) (b 2), high_word (get_or m 3 0) (get_or m 2 0) (b 2), low_word (get_or m 5 0) (get_or m 4 0) (b 4), high_word (get_or m 5 0) (get_or m 4 0) (b 4), low_word (get_or m 7 0) (get_or m 6 0) (b 6), high_word (get_or m 7 0) (get_or m 6 0) (b 6), low_word (get_or m 9 0) (get_or m 8 0) (b 8), high_word (get_or m 9 0) (get_or m 8 0) (b 8), low_word (get_or m 11 0) (get_or m 10 0) (b 10), high_word (get_or m 11 0) (get_or m 10 0) (b 10), low_word (get_or m 13 0) (get_or m 12 0) (b 12), high_word (get_or m 13 0) (get_or m 12 0) (b 12), low_word (get_or m 15 0) (get_or m 14 0) (b 14), high_word (get_or m 15 0) (get_or m 14 0) (b 14), low_word (get_or m 17 0) (get_or m 16 0) (b 16), high_word (get_or m 17 0) (get_or m 16 0) (b 16)) (sym (by-elements vector_width m size))

-- ---- there and back

module _ (p : Process) (nine : length p.vector ≡ 9) (eight : length p.breaks ≡ entry_count) where
  words_long : length (low_first p.vector) ≡ vector_width
  words_long = length-low_first p.vector ∙ omega (arith, nine)

  entries-after : drop vector_width (low_first p.vector ++ joined entry_bytes p.breaks) ≡ joined entry_bytes p.breaks
  entries-after = drop_at (low_first p.vector) (joined entry_bytes p.breaks) vector_width words_long

  entries-back : chunks entry_width entry_of entry_count (joined entry_bytes p.breaks) ≡ p.breaks
  entries-back =
      ap (λ (n : ℕ). chunks entry_width entry_of n (joined entry_bytes p.breaks)) (sym eight)
      ∙ chunks-joined entry_width entry_of entry_bytes p.breaks free (λ k h. length-entry_bytes _) (λ k h. entry-back _)

  entries-formed : every_chunk entry_width entry_formed entry_count (joined entry_bytes p.breaks) ≡ true
  entries-formed =
      ap (λ (n : ℕ). every_chunk entry_width entry_formed n (joined entry_bytes p.breaks)) (sym eight)
      ∙ every-joined entry_width entry_of entry_bytes entry_formed p.breaks free (λ k h. length-entry_bytes _) (λ k h. entry-formed _)

  pub process-back : process_of (process_bytes p) ≡ p
  unfolding process_of process_bytes
  process-back =
      rw (flag-back p.there, run-back p.run, word-high-low p.size, owed_back p.session.owed, flag-back p.session.go.waits, u32-back p.session.go.id, take_at (low_first p.vector) (joined entry_bytes p.breaks) vector_width words_long, vector-back p.vector nine, entries-after, entries-back)

  pub process-formed : process_formed (process_bytes p) ≡ true
  unfolding process_formed head_formed process_bytes
  process-formed = rw (flag-formed p.there, run-formed p.run, owed-formed p.session.owed, flag-formed p.session.go.waits, entries-after) entries-formed

pub process-forth : (m : List ℕ) → length m ≡ process_width → Bytes m → process_formed m ≡ true → process_bytes (process_of m) ≡ m
unfolding process_bytes process_of process_formed head_formed
process-forth m size b e =
    let there = leb (get_or m there_at 0) 1 in
    let run = is_run_number (get_or m run_at 0) in
    let owed = is_owed_number (get_or m owed_at 0) in
    let waits = leb (get_or m waits_at 0) 1 in
    let head = &&-left (there && (run && (owed && waits))) _ e in
    let rest = &&-right there (run && (owed && waits)) head in
    let session = &&-right run (owed && waits) rest in
    let entries = &&-right (there && (run && (owed && waits))) (every_chunk entry_width entry_formed entry_count (drop entries_at m)) e in
    let after : length (drop vector_at m) ≡ vector_width + entries_width = simp length-drop (omega (arith, size)) in
    let long : length (take vector_width (drop vector_at m)) ≡ vector_width = length-take-le vector_width (drop vector_at m) (omega (arith, after)) in
    let last : length (drop entries_at m) ≡ entries_width = simp length-drop (omega (arith, size)) in
    let further : drop entries_at m ≡ drop vector_width (drop vector_at m) = sym (drop-drop vector_width vector_at m) in
    let front : take head_width m ≡ elements (λ (i : ℕ). get_or m i 0) head_width = take-elements head_width m (omega (arith, size)) in
    rw (
      flag-forth (get_or m there_at 0) (&&-left there _ head),
      run-forth (get_or m run_at 0) (&&-left run _ rest),
      owed-forth (get_or m owed_at 0) (&&-left owed _ session),
      flag-forth (get_or m waits_at 0) (&&-right owed waits session),
      four-0 id_at m b,
      four-1 id_at m b,
      four-2 id_at m b,
      four-3 id_at m b,
      low_word (get_or m (size_at + 1) 0) (get_or m size_at 0) (b size_at),
      high_word (get_or m (size_at + 1) 0) (get_or m size_at 0) (b size_at),
      vector-forth (take vector_width (drop vector_at m)) long (bytes_take vector_width (drop vector_at m) (bytes_drop vector_at m b)),
      joined-chunks entry_width entry_of entry_bytes entry_formed entry-forth entry_count (drop entries_at m) last (bytes_drop entries_at m b) entries,
      further,
      take-append-drop vector_width (drop vector_at m),
    )
    (ap (λ (l : List ℕ). l ++ drop head_width m) (sym front) ∙ take-append-drop head_width m)

-- ---- soundness

-- five tests in two orders
head-tests : (run size owed fits host : Bool) → run && (size && ((owed && fits) && host)) ≡ (run && owed) && (size && (host && fits))
head-tests false size owed fits host = refl
head-tests true size false fits host = &&-false size
head-tests true size true true true = refl
head-tests true size true true false = refl
head-tests true size true false true = refl
head-tests true size true false false = refl

-- a head is sound where it is formed, the size is valid, an absent process has no host and the host may be owed the answer
head-both : (there host : ℕ) (run size owed fits : Bool)
    → run && (size && ((owed && fits) && (eqb there 1 || (eqb there 0 && eqb host 0)))) ≡ (leb there 1 && (run && owed)) && (size && ((flag_of there || eqb host 0) && fits))
head-both zero host run size owed fits = head-tests run size owed fits (eqb host 0)
head-both (suc zero) host run size owed fits = head-tests run size owed fits true
head-both (suc (suc there)) host run size owed fits =
    rw (lt-leb (suc (suc there)) 1 (omega arith), ne_eqb (suc (suc there)) 1 (λ e. omega (arith, e)), ne_eqb (suc (suc there)) 0 (λ e. omega (arith, e)), &&-false (owed && fits), &&-false size) (&&-false run)

no-breaks-sound : (p : Process) → p.breaks ≡ no_breaks → below (entry_sound p) entry_count ≡ true
unfolding entry_sound
no-breaks-sound p e = rw e

module _ (m : List ℕ) where
  abbrev flags : Bool
  flags = every_chunk entry_width entry_formed entry_count (drop entries_at m)

  abbrev bits : ℕ
  bits = entries_bits (drop entries_at m)

  abbrev sized : Bool
  sized = valid_size (process_of m).size

  -- what the rules ask of a head
  abbrev rules : Bool
  rules = absent_has_no_host (process_of m) && session_sound (process_of m).host (process_of m).session

  head-sound : head_sound m ≡ head_formed m && (sized && rules)
  unfolding head_sound head_formed session_fits absent_has_no_host process_of
  head-sound =
      head-both (get_or m there_at 0) (get_or m host_at 0) (is_run_number (get_or m run_at 0)) (valid_size (size_of m)) (session_formed m) (session_sound (get_or m host_at 0) (session_of m))

  -- the number of breakpoints is right
  abbrev counted : Bool
  counted = eqb (process_of m).number (count_used (process_of m).breaks)

  -- head, flags, number and entries, each by itself
  by_parts : process_sound m ≡ head_sound m && (flags && (counted && below (entry_sound (process_of m)) entry_count))
  unfolding process_sound process_formed sound_process keeps_rules
  by_parts =
      let entries = counted && below (entry_sound (process_of m)) entry_count in
      let session = session_sound (process_of m).host (process_of m).session in
      rw (head-sound, ← &&-assoc (absent_has_no_host (process_of m)) session entries, ← &&-assoc sized rules entries) (&&-pairs (head_formed m) flags (sized && rules) entries)

  pub head-fails : head_sound m ≡ false → process_sound m ≡ false
  head-fails h = rw (by_parts, h)

  -- no breakpoints: head and number tell
  pub bare-sound : bits ≡ 0 → process_sound m ≡ head_sound m && eqb (get_or m number_at 0) 0
  unfolding process_of
  bare-sound e =
      let zeros : every_chunk entry_width entry_zero entry_count (drop entries_at m) ≡ true = sym (zero_bits (drop entries_at m)) ∙ rw e in
      let formed : flags ≡ true = every-weaker entry_width entry_zero entry_formed zero-formed entry_count (drop entries_at m) zeros in
      let breaks : chunks entry_width entry_of entry_count (drop entries_at m) ≡ no_breaks = chunks-same entry_width entry_of entry_zero free zero-free entry_count (drop entries_at m) zeros in
      let right : counted ≡ eqb (get_or m number_at 0) 0 = ap (eqb (get_or m number_at 0)) (ap count_used breaks ∙ count_none) in
      rw (by_parts, formed, no-breaks-sound (process_of m) breaks, right, &&-true (eqb (get_or m number_at 0) 0))

  pub plain-sound : process_plain m ≡ true → process_sound m ≡ true
  unfolding process_plain
  plain-sound e =
      let rest = &&-right (head_sound m) (eqb bits 0 && eqb (get_or m number_at 0) 0) e in
      bare-sound (eqb-true bits 0 (&&-left (eqb bits 0) _ rest)) ∙ rw (&&-left (head_sound m) _ e) (&&-right (eqb bits 0) (eqb (get_or m number_at 0) 0) rest)

  pub flags-fail : Bytes m → head_sound m ≡ true → flags_formed bits ≡ false → process_sound m ≡ false
  flags-fail b h f = rw (by_parts, h, ← flags-bits (drop entries_at m) (bytes_drop entries_at m b), f)

  -- breakpoints: the record tells
  pub full-sound : Bytes m → head_sound m ≡ true → flags_formed bits ≡ true → process_sound m ≡ sound_process (process_of m)
  unfolding process_sound process_formed
  full-sound b h f =
      let head : head_formed m ≡ true = &&-left (head_formed m) _ (sym head-sound ∙ h) in
      rw (head, ← flags-bits (drop entries_at m) (bytes_drop entries_at m b), f)
