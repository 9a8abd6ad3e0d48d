-- Laws of the bytes of a state. Assumes nothing.
use mathlib.Core.Path.{◌≡◌, refl, sym, ap, ◌∙◌}
use mathlib.Core.Bool.{Bool, true, false, not, ◌&&◌}
use mathlib.Core.List.{List, [], ◌∷◌, ◌++◌, append_assoc}
use Prim.Native.Nat.{ℕ, suc, ◌+◌, ◌-◌, ◌*◌, ◌/◌, ◌%◌, ◌≤◌, ◌<◌}
use native.Mathlib.Omega.{arith}
use borrow.Author.Tests.{eqb-true, eq-eqb, ne_eqb}
use lib.ListN.{length, take, drop, get_or, set, length-append, length-drop, take-append-drop}
use lib.Seq.{length-take-le, take_at, drop_at, take-append-le, drop-append-le, get_or-take, get_or-drop}
use lib.Dec.{eqb}
use Rattle.lists.specs.Buffer.{Bytes, overlay}
use Rattle.lists.specs.Elements.{elements}
use Rattle.lists.specs.Joined.{joined}
use Rattle.lists.specs.Word.{high, low, word}
use Rattle.lists.proofs.Bool.{&&-left, &&-right, &&-both}
use Rattle.lists.proofs.Buffer.{overlay-all}
use Rattle.lists.proofs.Elements.{getD-elements}
use Rattle.lists.proofs.Every.{every-below}
use Rattle.lists.proofs.Part.{length-replaced}
use Rattle.lists.proofs.Short.{take_short}
use Rattle.lists.proofs.Word.{word-high-low, length-low_first}
use Rattle.process.specs.declared.record.Process.{Process}
use Rattle.process.specs.Local.{extent}
use Rattle.process.specs.Sound.{sound_test as sound_process}
use Rattle.state.specs.Records.{Records, nobody, process_at, with_process, with_start}
use Rattle.state.specs.Layout.{extent_at, laid_out}
use Rattle.state.specs.Fresh.{fresh_processes, fresh_starts, fresh_start}
use Rattle.state.specs.Sound.{records_sound, sound_test}
use Rattle.state.proofs.FreshLaws.{length-fresh_starts}
use Rattle.state_bytes.specs.Chunk.{chunks, every_chunk}
use Rattle.state_bytes.specs.Number.{flag_of}
use Rattle.state_bytes.specs.Process.{process_bytes, process_of, process_formed, process_sound}
use Rattle.state_bytes.specs.State.{starts_bytes, state_bytes, with_process_bytes, with_start_bytes, with_starts_bytes, state_of, door_of, state_formed, state_sound, SoundBefore}
use Rattle.state_bytes.specs.Theorems.{Sized, Inverse}
use Rattle.state_bytes.specs.Widths.{there_at, process_count, process_width, starts_at, starts_width, door_at, state_width}
use Rattle.state_bytes.proofs.ChunkLaws.{bytes_take, length-joined, length-chunks, getD-chunks, chunks-front, chunks-joined, every_front, every-joined, joined-chunks, joined-with, every-read, every-both, every-snoc}
use Rattle.state_bytes.proofs.DoorLaws.{door-last, door-back, door-put}
use Rattle.state_bytes.proofs.EntryLaws.{&&-assoc}
use Rattle.state_bytes.proofs.ProcessLaws.{length-process_bytes, process-back, process-formed, process-forth}
use Rattle.state_bytes.proofs.StartLaws.{length-starts_bytes, starts-back, eight-starts, same-starts, put-with-starts}

-- ---- one process

-- byte p of a table of the bytes of the records' places is that byte of the place
pub record-place : (p r : ℕ) → p < process_count
    → r ≡ word (get_or (elements (λ (k : ℕ). high (process_width * k)) process_count) p 0) (get_or (elements (λ (k : ℕ). low (process_width * k)) process_count) p 0) → r ≡ process_width * p
record-place p r h e =
    let highs = getD-elements (λ (k : ℕ). high (process_width * k)) process_count p h in
    let lows = getD-elements (λ (k : ℕ). low (process_width * k)) process_count p h in
    rw (highs, lows) at e ∙ word-high-low (process_width * p)

one_piece : (at : ℕ) → at + process_width - at ≡ process_width
one_piece at = omega arith

-- the record that is read from a process's bytes is that of the state
pub read_at : (m : List ℕ) (p at : ℕ) (r : Process) → p < process_count → at ≡ process_width * p → r ≡ process_of (take (at + process_width - at) (drop at m)) → r ≡ process_at (state_of m) p
unfolding state_of
read_at m p at r h start e =
    e
    ∙ ap (λ (n : ℕ). process_of (take n (drop at m))) (one_piece at)
    ∙ ap (λ (n : ℕ). process_of (take process_width (drop n m))) start
    ∙ sym (getD-chunks process_width process_of process_count p m nobody h)

-- and so is the number of its bytes
pub extent-at : (m : List ℕ) (p at r : ℕ) → p < process_count → at ≡ process_width * p → r ≡ extent (process_of (take (at + process_width - at) (drop at m))) → r ≡ extent_at (state_of m) p
extent-at m p at r h place e = e ∙ ap extent (read_at m p at _ h place refl)

-- a record written over a process's bytes, in the shape in which the part comes back
pub put-at : (m last : List ℕ) (p at : ℕ) (q : Process) → at ≡ process_width * p → length (process_bytes q) ≡ process_width
    → last ≡ overlay (process_bytes q) (take (at + process_width - at) (drop at m))
    → take at m ++ (last ++ drop (at + process_width - at) (drop at m)) ≡ with_process_bytes p q m
unfolding with_process_bytes
put-at m last p at q start size e =
    let short = (take_short (at + process_width - at) (drop at m)).0 in
    let all : last ≡ process_bytes q = e ∙ overlay-all (process_bytes q) (take (at + process_width - at) (drop at m)) (omega (arith, short, size)) in
    rw (all, one_piece at, start)

-- there are as many bytes as before
pub length-with : (m : List ℕ) (p : ℕ) (q : Process) → p < process_count → length m ≡ state_width → length (process_bytes q) ≡ process_width → length (with_process_bytes p q m) ≡ state_width
unfolding with_process_bytes
length-with m p q h size long = length-replaced (process_width * p) process_width m (omega (arith, h, size)) (process_bytes q) long ∙ size

pub eight-at : (m : List ℕ) → length (state_of m).processes ≡ process_count
unfolding state_of
eight-at m = length-chunks process_width process_of process_count m

-- whether process p is there, by one byte
module _ (m : List ℕ) (p at : ℕ) (h : p < process_count) (e : at ≡ process_width * p + there_at) where
  there-at : (get_or (chunks process_width process_of process_count m) p nobody).there ≡ flag_of (get_or m at 0)
  unfolding process_of
  there-at =
      ap (λ (q : Process). q.there) (getD-chunks process_width process_of process_count p m nobody h)
      ∙ ap flag_of (get_or-take process_width (drop (process_width * p) m) there_at 0 (omega arith) ∙ get_or-drop (process_width * p) m there_at 0 ∙ ap (λ (n : ℕ). get_or m n 0) (sym e))

  pub is-there-at : flag_of (get_or m at 0) ≡ (process_at (state_of m) p).there
  unfolding state_of
  is-there-at = sym there-at

  pub absent-at : get_or m at 0 % 2 ≡ 0 → not (get_or (state_of m).processes p nobody).there ≡ true
  unfolding state_of
  absent-at z =
      let even : flag_of (get_or m at 0) ≡ false = ne_eqb (get_or m at 0 % 2) 1 (λ o. omega (arith, z, o)) in
      ap not (there-at ∙ even)

  pub present-at : (get_or m at 0 % 2 ≡ 0 → ⊥) → not (get_or (state_of m).processes p nobody).there ≡ false
  unfolding state_of
  present-at n =
      let odd : flag_of (get_or m at 0) ≡ true = eq-eqb (get_or m at 0 % 2) 1 (omega (arith, n)) in
      ap not (there-at ∙ odd)

-- ---- soundness

-- the bytes of every process are formed, and its record is sound
each-process : (m : List ℕ) → every_chunk process_width process_sound process_count m ≡ every_chunk process_width process_formed process_count m && records_sound (state_of m)
unfolding records_sound state_of process_sound chunks
each-process m =
    let all = every-both process_width (λ (c : List ℕ). sound_process (process_of c)) process_formed process_sound (λ c. refl) process_count m in
    let reads = every-read process_width process_of sound_process process_count m in
    let count = every-below sound_process (chunks process_width process_of process_count m) nobody in
    all ∙ ap (λ (b : Bool). every_chunk process_width process_formed process_count m && b) (reads ∙ count)

pub each-record : (m : List ℕ) → every_chunk process_width process_sound process_count m ≡ true → records_sound (state_of m) ≡ true
each-record m e = &&-right (every_chunk process_width process_formed process_count m) (records_sound (state_of m)) (sym (each-process m) ∙ e)

-- every process by itself, and the layout
pub each-sound : (m : List ℕ) → length m ≡ state_width → state_sound m ≡ every_chunk process_width process_sound process_count m && laid_out (state_of m)
unfolding state_sound state_formed sound_test
each-sound m size =
    rw (eq-eqb _ _ size, each-process m) (sym (&&-assoc (every_chunk process_width process_formed process_count m) (records_sound (state_of m)) (laid_out (state_of m))))

-- one more, at an index
pub sound-next : (at : ℕ) (m : List ℕ) → SoundBefore at m → at < starts_at → process_sound (take process_width (drop (process_width * (at / process_width)) m)) ≡ true → SoundBefore (at + process_width) m
sound-next at m s h e =
    let n = at / process_width in
    let more : (at + process_width) / process_width ≡ suc n = omega arith in
    (omega (arith, more, s.0), omega (arith, h, s.0), s.2, rw more (every-snoc process_width process_sound n m s.3 e))

-- ---- there and back

module _ (door : ℕ) (g : Records) (s : Sized g) where
  wide : (k : ℕ) → k < length g.processes → length (process_bytes (get_or g.processes k nobody)) ≡ process_width
  wide k h = let i : k < process_count = omega (arith, s.processes) in length-process_bytes _ (length-low_first _ ∙ omega (arith, s.vectors k i)) (s.entries k i)

  records-long : length (joined process_bytes g.processes) ≡ starts_at
  records-long = length-joined process_bytes process_width g.processes nobody wide ∙ omega (arith, s.processes)

  state-back : state_of (state_bytes door g) ≡ g
  unfolding state_of state_bytes
  state-back =
      let records = joined process_bytes g.processes in
      let after = starts_bytes g.starts ++ (door ∷ []) in
      let processes : chunks process_width process_of process_count (records ++ after) ≡ g.processes =
      chunks-front process_width process_of process_count records after (omega (arith, records-long))
      ∙ ap (λ (n : ℕ). chunks process_width process_of n records) (sym s.processes)
      ∙ chunks-joined process_width process_of process_bytes g.processes nobody wide
      (λ k h. process-back _ (s.vectors k (omega (arith, s.processes))) (s.entries k (omega (arith, s.processes)))) in
      rw (processes, drop_at records after starts_at records-long, starts-back g.starts (door ∷ []) s.starts)

  state-door : door_of (state_bytes door g) ≡ door
  unfolding state_bytes
  state-door = door-back (joined process_bytes g.processes) (starts_bytes g.starts) door records-long (length-starts_bytes g.starts s.starts)

  state-formed : state_formed (state_bytes door g) ≡ true
  unfolding state_formed state_bytes
  state-formed =
      let records = joined process_bytes g.processes in
      let after = starts_bytes g.starts ++ (door ∷ []) in
      let rest : length after ≡ length (starts_bytes g.starts) + 1 = length-append (starts_bytes g.starts) (door ∷ []) in
      let long : length (records ++ after) ≡ state_width = length-append records after ∙ omega (arith, records-long, rest, length-starts_bytes g.starts s.starts) in
      &&-both (eqb (length (records ++ after)) state_width) _ (eq-eqb _ state_width long)
      (every_front process_width process_formed process_count records after (omega (arith, records-long))
      ∙ ap (λ (n : ℕ). every_chunk process_width process_formed n records) (sym s.processes)
      ∙ every-joined process_width process_of process_bytes process_formed g.processes nobody wide
      (λ k h. process-formed _ (s.vectors k (omega (arith, s.processes))) (s.entries k (omega (arith, s.processes)))))

-- a record in the bytes before others
with-before : (p : ℕ) (q : Process) (a b : List ℕ) → p < process_count → length a ≡ starts_at → with_process_bytes p q (a ++ b) ≡ with_process_bytes p q a ++ b
unfolding with_process_bytes
with-before p q a b h long =
    let at = process_width * p in
    let rest : process_width ≤ length (drop at a) = simp length-drop (omega arith) in
    rw (take-append-le at a b (omega arith), drop-append-le at a b (omega arith), drop-append-le process_width (drop at a) b rest)
    (simp append_assoc)

module _ (m : List ℕ) (b : Bytes m) (e : state_formed m ≡ true) where
  abbrev records : List ℕ
  records = take starts_at m

  abbrev formed : Bool
  formed = every_chunk process_width process_formed process_count m

  long : length m ≡ state_width
  unfolding state_formed
  long = eqb-true (length m) state_width (&&-left (eqb (length m) state_width) _ e)

  front : length records ≡ starts_at
  front = length-take-le starts_at m (omega (arith, long))

  each : every_chunk process_width process_formed process_count records ≡ true
  unfolding state_formed
  each =
      sym (every_front process_width process_formed process_count records (drop starts_at m) (omega (arith, front)))
      ∙ ap (every_chunk process_width process_formed process_count) (take-append-drop starts_at m)
      ∙ &&-right (eqb (length m) state_width) formed e

  same-processes : chunks process_width process_of process_count m ≡ chunks process_width process_of process_count records
  same-processes =
      ap (chunks process_width process_of process_count) (sym (take-append-drop starts_at m))
      ∙ chunks-front process_width process_of process_count records (drop starts_at m) (omega (arith, front))

  -- the door is what follows the starts
  door-follows : (starts : List ℕ) → records ++ (starts_bytes starts ++ (door_of m ∷ [])) ≡ with_starts_bytes starts m
  unfolding with_starts_bytes
  door-follows starts = rw (door-last m long)

  -- other starts
  pub state-starts : (starts : List ℕ) → state_bytes (door_of m) (record { processes = (state_of m).processes; starts = starts }) ≡ with_starts_bytes starts m
  unfolding state_bytes state_of
  state-starts starts =
      ap (λ (l : List ℕ). l ++ (starts_bytes starts ++ (door_of m ∷ [])))
      (ap (joined process_bytes) same-processes
      ∙ joined-chunks process_width process_of process_bytes process_formed process-forth process_count records front (bytes_take starts_at m b) each)
      ∙ door-follows starts

  state-forth : state_bytes (door_of m) (state_of m) ≡ m
  state-forth = state-starts (state_of m).starts ∙ same-starts m b long

  state-start : (p start : ℕ) → p < process_count → state_bytes (door_of m) (with_start p start (state_of m)) ≡ with_start_bytes p start m
  state-start p start h =
      state-starts (set (state_of m).starts p start)
      ∙ sym (put-with-starts (state_of m).starts (eight-starts m) m long p start h)
      ∙ ap (with_start_bytes p start) (same-starts m b long)

  with-records : (p : ℕ) (q : Process) → p < process_count → joined process_bytes (set (chunks process_width process_of process_count records) p q) ≡ with_process_bytes p q records
  unfolding with_process_bytes
  with-records p q h = joined-with process_width process_of process_bytes process_formed process-forth process_count records front (bytes_take starts_at m b) each p q h

  -- another record of process p, and other starts: the starts are written first
  pub state-both : (starts : List ℕ) (p : ℕ) (q : Process) → p < process_count
      → state_bytes (door_of m) (record { processes = set (state_of m).processes p q; starts = starts }) ≡ with_process_bytes p q (with_starts_bytes starts m)
  unfolding state_bytes state_of
  state-both starts p q h =
      let after = starts_bytes starts ++ (door_of m ∷ []) in
      ap (λ (l : List ℕ). l ++ after)
      (ap (λ (l : List Process). joined process_bytes (set l p q)) same-processes ∙ with-records p q h)
      ∙ sym (with-before p q records after h front)
      ∙ ap (with_process_bytes p q) (door-follows starts)

  state-with : (p : ℕ) (q : Process) → p < process_count → state_bytes (door_of m) (with_process p q (state_of m)) ≡ with_process_bytes p q m
  state-with p q h = state-both (state_of m).starts p q h ∙ ap (with_process_bytes p q) (same-starts m b long)

  -- a new record of process p, and its start: the start is written first
  pub state-new : (start p : ℕ) (q : Process) → p < process_count → state_bytes (door_of m) (with_start p start (with_process p q (state_of m))) ≡ with_process_bytes p q (with_start_bytes p start m)
  state-new start p q h =
      state-both (set (state_of m).starts p start) p q h
      ∙ ap (with_process_bytes p q) (sym (put-with-starts (state_of m).starts (eight-starts m) m long p start h) ∙ ap (with_start_bytes p start) (same-starts m b long))

-- the records, then the starts, then the door, written at a fresh start
pub fresh-bytes : (ts : List Bool) (ns m now last : List ℕ) (door : ℕ) → length ts ≡ process_count → length now ≡ state_width
    → length (joined process_bytes (fresh_processes ts ns)) ≡ starts_at → now ≡ overlay (joined process_bytes (fresh_processes ts ns)) m
    → last ≡ with_starts_bytes (fresh_starts 0 ts ns) now → set last door_at door ≡ state_bytes door (fresh_start ts ns)
unfolding with_starts_bytes state_bytes fresh_start overlay
fresh-bytes ts ns m now last door eight long size e l =
    let records = joined process_bytes (fresh_processes ts ns) in
    let starts = fresh_starts 0 ts ns in
    let front : take starts_at now ≡ records = ap (take starts_at) e ∙ take_at records (drop (length records) m) starts_at size in
    let wide : length (starts_bytes starts) ≡ starts_width = length-starts_bytes starts (length-fresh_starts 0 ts ns ∙ eight) in
    rw (l, front, door-last now long) (door-put records (starts_bytes starts) door size wide (door_of now))

pub inverse : Inverse
inverse = record {
  written-is-read = state-back;
  door-is-read = state-door;
  written-is-formed = state-formed;
  read-is-written = state-forth;
  put-is-with = state-with;
  put-start = state-start;
  put-starts = state-starts;
}
