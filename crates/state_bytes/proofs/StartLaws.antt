-- Laws of the starts in the bytes of a state: eight words after the processes. Assumes nothing.
use mathlib.Core.Path.{◌≡◌, refl, sym, ap, ◌∙◌}
use mathlib.Core.Bool.{Bool, true, false, cond}
use mathlib.Core.List.{List, ◌++◌, append_assoc}
use Prim.Native.Nat.{ℕ, ◌+◌, ◌*◌, ◌≤◌, ◌<◌}
use native.Mathlib.Numerals.{add-one}
use native.Mathlib.Omega.{arith}
use borrow.Author.Tests.{leb-true}
use lib.ListN.{length, take, drop, get_or, set, length-drop, take-append-drop}
use lib.Seq.{drop_at, length-take-le, take-append-le, drop-append-le, take-append-add, drop-append-add, get_or-append-add, get_or-take, get_or-drop, drop-drop, sets-eq}
use lib.Dec.{leb}
use Rattle.lists.specs.Buffer.{Bytes, overlay}
use Rattle.lists.specs.Elements.{elements}
use Rattle.lists.specs.Joined.{joined}
use Rattle.lists.specs.Sum.{total}
use Rattle.lists.specs.Word.{high, low, word}
use Rattle.lists.proofs.Bool.{&&-right}
use Rattle.lists.proofs.Buffer.{length-overlay, overlay-all}
use Rattle.lists.proofs.Elements.{length-elements, elements-step, set-elements}
use Rattle.lists.proofs.Part.{length-replaced}
use Rattle.lists.proofs.Sum.{total-front-at}
use Rattle.lists.proofs.Word.{word-high-low, high_word, low_word}
use Rattle.state.specs.Records.{Records, process_at, start_of}
use Rattle.state.specs.Layout.{capacity, extent_at, start_without, starts_without}
use Rattle.state.specs.Fresh.{needed, each_right, sizes_right}
use Rattle.state_bytes.specs.Chunk.{chunks}
use Rattle.state_bytes.specs.Layout.{start_lowered}
use Rattle.state_bytes.specs.Number.{u16_le, u16_le_bytes}
use Rattle.state_bytes.specs.Process.{process_of}
use Rattle.state_bytes.specs.State.{starts_bytes, starts_of, state_of, with_start_bytes, with_starts_bytes}
use Rattle.state_bytes.specs.Widths.{process_count, process_width, start_width, starts_at, starts_width, state_width}
use Rattle.state_bytes.proofs.ChunkLaws.{bytes_take, bytes_drop, length-chunks, getD-chunks, chunks-front, chunks-joined, joined-chunks, every_any, length-joined, joined-set}
use Rattle.state_bytes.proofs.NumberLaws.{by-elements}

-- ---- there and back

pub length-starts_bytes : (starts : List ℕ) → length starts ≡ process_count → length (starts_bytes starts) ≡ starts_width
unfolding starts_bytes
length-starts_bytes starts eight = length-joined u16_le_bytes start_width starts 0 (λ k h. refl) ∙ omega (arith, eight)

-- whatever follows them
pub starts-back : (starts after : List ℕ) → length starts ≡ process_count → starts_of (starts_bytes starts ++ after) ≡ starts
unfolding starts_of starts_bytes
starts-back starts after eight =
    let long : length (joined u16_le_bytes starts) ≡ starts_width = length-joined u16_le_bytes start_width starts 0 (λ k h. refl) ∙ omega (arith, eight) in
    chunks-front start_width u16_le process_count (joined u16_le_bytes starts) after (omega (arith, long))
    ∙ ap (λ (n : ℕ). chunks start_width u16_le n (joined u16_le_bytes starts)) (sym eight)
    ∙ chunks-joined start_width u16_le u16_le_bytes starts 0 (λ k h. refl) (λ k h. word-high-low (get_or starts k 0))

-- any two bytes are a start's
abbrev any : List ℕ → Bool
any c = true

start-forth : (c : List ℕ) → length c ≡ start_width → Bytes c → any c ≡ true → u16_le_bytes (u16_le c) ≡ c
start-forth c two b e = rw (low_word (get_or c 1 0) (get_or c 0 0) (b 0), high_word (get_or c 1 0) (get_or c 0 0) (b 0)) (sym (by-elements 2 c two))

pub starts-forth : (m : List ℕ) → starts_width ≤ length m → Bytes m → starts_bytes (starts_of m) ≡ take starts_width m
unfolding starts_of starts_bytes
starts-forth m fits b =
    let front = take starts_width m in
    let long : length front ≡ starts_width = length-take-le starts_width m fits in
    let same : chunks start_width u16_le process_count m ≡ chunks start_width u16_le process_count front =
    ap (chunks start_width u16_le process_count) (sym (take-append-drop starts_width m))
    ∙ chunks-front start_width u16_le process_count front (drop starts_width m) (omega (arith, long)) in
    ap (joined u16_le_bytes) same
    ∙ joined-chunks start_width u16_le u16_le_bytes any start-forth process_count front long (bytes_take starts_width m b) (every_any start_width any (λ c. refl) process_count front)

-- ---- one start

pub eight-starts : (m : List ℕ) → length (state_of m).starts ≡ process_count
unfolding state_of starts_of
eight-starts m = length-chunks start_width u16_le process_count (drop starts_at m)

module _ (m : List ℕ) (p at : ℕ) (h : p < process_count) (place : at ≡ starts_at + start_width * p) where
  byte : (i n : ℕ) → i < start_width → n ≡ at + i → get_or (take start_width (drop (start_width * p) (drop starts_at m))) i 0 ≡ get_or m n 0
  byte i n l e =
      let there : starts_at + (start_width * p + i) ≡ n = omega arith in
      get_or-take start_width (drop (start_width * p) (drop starts_at m)) i 0 l
      ∙ get_or-drop (start_width * p) (drop starts_at m) i 0
      ∙ get_or-drop starts_at m (start_width * p + i) 0
      ∙ ap (λ (k : ℕ). get_or m k 0) there

  -- it is read from its two bytes
  pub read-start-at : word (get_or m (at + 1) 0) (get_or m at 0) ≡ start_of (state_of m) p
  unfolding state_of starts_of
  read-start-at =
      sym (getD-chunks start_width u16_le process_count p (drop starts_at m) 0 h ∙ rw (byte 1 (at + 1) (omega arith) (omega arith), byte 0 at (omega arith) (omega arith)))

  -- and written to them
  pub put-start-at : (start : ℕ) → length m ≡ state_width → set (set m at (low start)) (at + 1) (high start) ≡ with_start_bytes p start m
  unfolding with_start_bytes
  put-start-at start long =
      rw (← place, add-one at, drop-drop start_width at m)
      (sets-eq (u16_le_bytes start) m at (omega (arith, long)) ∙ append_assoc (take at m) (u16_le_bytes start) (drop (at + start_width) m))

-- ---- all starts

-- others in place of a part of the second of three lists
in-the-middle : (a b c s : List ℕ) (k n : ℕ) → k + n ≤ length b
    → take (length a + k) (a ++ (b ++ c)) ++ (s ++ drop n (drop (length a + k) (a ++ (b ++ c)))) ≡ a ++ ((take k b ++ (s ++ drop n (drop k b))) ++ c)
in-the-middle a b c s k n h =
    let rest : n ≤ length (drop k b) = simp length-drop (omega arith) in
    rw (
      take-append-add a (b ++ c) k,
      drop-append-add a (b ++ c) k,
      take-append-le k b c (omega arith),
      drop-append-le k b c (omega arith),
      drop-append-le n (drop k b) c rest,
    )
    (simp append_assoc)

module _ (starts : List ℕ) (eight : length starts ≡ process_count) (m : List ℕ) (long : length m ≡ state_width) where
  front : length (take starts_at m) ≡ starts_at
  front = length-take-le starts_at m (omega (arith, long))

  pub length-with-starts : length (with_starts_bytes starts m) ≡ state_width
  unfolding with_starts_bytes
  length-with-starts = length-replaced starts_at starts_width m (omega (arith, long)) (starts_bytes starts) (length-starts_bytes starts eight) ∙ long

  -- the processes are read as before, and these starts
  pub read-with-starts : state_of (with_starts_bytes starts m) ≡ record { processes = (state_of m).processes; starts = starts }
  unfolding state_of with_starts_bytes
  read-with-starts =
      let after = starts_bytes starts ++ drop starts_width (drop starts_at m) in
      let processes : chunks process_width process_of process_count (take starts_at m ++ after) ≡ chunks process_width process_of process_count m =
      chunks-front process_width process_of process_count (take starts_at m) after (omega (arith, front))
      ∙ sym (chunks-front process_width process_of process_count (take starts_at m) (drop starts_at m) (omega (arith, front)))
      ∙ ap (chunks process_width process_of process_count) (take-append-drop starts_at m) in
      rw (processes, drop_at (take starts_at m) after starts_at front, starts-back starts (drop starts_width (drop starts_at m)) eight)

  -- another in place of one
  pub put-with-starts : (p start : ℕ) → p < process_count → with_start_bytes p start (with_starts_bytes starts m) ≡ with_starts_bytes (set starts p start) m
  unfolding with_start_bytes with_starts_bytes starts_bytes
  put-with-starts p start h =
      let place : starts_at + start_width * p ≡ length (take starts_at m) + start_width * p = omega (arith, front) in
      let words = joined u16_le_bytes starts in
      let size : length words ≡ starts_width = length-joined u16_le_bytes start_width starts 0 (λ k i. refl) ∙ omega (arith, eight) in
      rw (place, joined-set u16_le_bytes start_width (λ x. refl) starts p start (omega (arith, h, eight)))
      (in-the-middle (take starts_at m) words (drop starts_width (drop starts_at m)) (u16_le_bytes start) (start_width * p) start_width (omega (arith, size)))

-- the bytes of a state with its own starts
pub same-starts : (m : List ℕ) → Bytes m → length m ≡ state_width → with_starts_bytes (state_of m).starts m ≡ m
unfolding with_starts_bytes state_of
same-starts m b long =
    rw (starts-forth (drop starts_at m) (simp length-drop (omega (arith, long))) (bytes_drop starts_at m b), take-append-drop starts_width (drop starts_at m))
    (take-append-drop starts_at m)

-- ---- a turn of the loops that write one start after the other

module _ (f : ℕ → ℕ) (m : List ℕ) (long : length m ≡ state_width) where
  -- the bytes once k starts are written
  abbrev pub written : ℕ → List ℕ
  written k = with_starts_bytes (overlay (elements f k) (state_of m).starts) m

  pub eight-written : (k : ℕ) → k ≤ process_count → length (overlay (elements f k) (state_of m).starts) ≡ process_count
  eight-written k h = length-overlay (elements f k) (state_of m).starts (omega (arith, length-elements f k, eight-starts m)) ∙ eight-starts m

  pub written-more : (k : ℕ) → k < process_count → with_start_bytes k (f k) (written k) ≡ written (k + 1)
  written-more k h =
      put-with-starts (overlay (elements f k) (state_of m).starts) (eight-written k (omega arith)) m long k (f k) h
      ∙ ap (λ (s : List ℕ). with_starts_bytes s m) (elements-step f (state_of m).starts k (omega (arith, eight-starts m)))

  -- meanwhile every process is read as before, and every start that is not written yet
  pub unwritten : (k : ℕ) → k < process_count
      → (process_at (state_of (written k)) k ≡ process_at (state_of m) k) × (start_of (state_of (written k)) k ≡ start_of (state_of m) k)
  unfolding overlay
  unwritten k h =
      let read = read-with-starts (overlay (elements f k) (state_of m).starts) (eight-written k (omega arith)) m long in
      let here : k ≡ length (elements f k) + 0 = omega (arith, length-elements f k) in
      let rest : drop (length (elements f k)) (state_of m).starts ≡ drop k (state_of m).starts = rw (length-elements f k) in (
        ap (λ (g : Records). process_at g k) read,
        ap (λ (g : Records). start_of g k) read
            ∙ ap (λ (n : ℕ). get_or (elements f k ++ drop (length (elements f k)) (state_of m).starts) n 0) here
            ∙ get_or-append-add (elements f k) (drop (length (elements f k)) (state_of m).starts) 0 0
            ∙ ap (λ (l : List ℕ). get_or l 0 0) rest
            ∙ get_or-drop k (state_of m).starts 0 0
            ∙ ap (λ (n : ℕ). get_or (state_of m).starts n 0) (plus-zero k),
      )
    where
      plus-zero : (k : ℕ) → k + 0 ≡ k
      plus-zero k = omega arith

  -- all are written
  pub written_all : written process_count ≡ with_starts_bytes (elements f process_count) m
  written_all = ap (λ (s : List ℕ). with_starts_bytes s m) (overlay-all (elements f process_count) (state_of m).starts (omega (arith, length-elements f process_count, eight-starts m)))

-- ---- the starts once p is gone

module _ (m : List ℕ) (long : length m ≡ state_width) (start count : ℕ) where
  abbrev lowered : ℕ → ℕ
  lowered q = start_lowered (state_of m) start count q

  lowered-same : (k : ℕ) → k < process_count → start_lowered (state_of (written lowered m long k)) start count k ≡ lowered k
  unfolding start_lowered
  lowered-same k h = let same = unwritten lowered m long k h in rw (same.0, same.1)

  -- a turn of the loop
  pub lowered-more : (k r : ℕ) (now last : List ℕ) → k < process_count → now ≡ written lowered m long k → r ≡ start_lowered (state_of now) start count k
      → last ≡ with_start_bytes k r now → last ≡ written lowered m long (k + 1)
  lowered-more k r now last h e i l =
      let one : r ≡ lowered k = (rw e at i) ∙ lowered-same k h in
      l ∙ rw (one, e) (written-more lowered m long k h)

  pub length-lowered : (k : ℕ) → k ≤ process_count → length (written lowered m long k) ≡ state_width
  length-lowered k h = length-with-starts (overlay (elements lowered k) (state_of m).starts) (eight-written lowered m long k h) m long

  -- once all are written
  pub lowered-all : (p : ℕ) → p < process_count → start ≡ start_of (state_of m) p → count ≡ extent_at (state_of m) p
      → with_start_bytes p 0 (written lowered m long process_count) ≡ with_starts_bytes (starts_without p (state_of m)) m
  unfolding starts_without start_without start_lowered
  lowered-all p low e i =
      ap (with_start_bytes p 0) (written_all lowered m long)
      ∙ put-with-starts (elements lowered process_count) (length-elements lowered process_count) m long p 0 low
      ∙ ap (λ (s : List ℕ). with_starts_bytes s m) (set-elements lowered process_count p 0 low)
      ∙ rw (e, i)

pub length_without : (m : List ℕ) → length m ≡ state_width → (p : ℕ) → length (with_starts_bytes (starts_without p (state_of m)) m) ≡ state_width
unfolding starts_without
length_without m long p = length-with-starts (elements (start_without (state_of m) p) process_count) (length-elements (start_without (state_of m) p) process_count) m long

-- ---- the starts at a fresh start

-- the size of process k if it is to be there
abbrev pub size_if : List Bool → List ℕ → ℕ → ℕ
size_if there sizes k = cond (get_or there k false) (get_or sizes k 0) 0

-- with right sizes each ends within the memory
pub fresh-fits : (there : List Bool) (sizes : List ℕ) → sizes_right there sizes ≡ true → (k : ℕ) → k < process_count
    → total (size_if there sizes) k + size_if there sizes k ≤ capacity
unfolding sizes_right needed
fresh-fits there sizes e k h =
    let all = total (size_if there sizes) process_count in
    omega (arith, total-front-at (size_if there sizes) k process_count h, leb-true all capacity (&&-right (each_right there sizes) (leb all capacity) e))
