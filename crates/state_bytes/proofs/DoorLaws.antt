-- Laws of the process of the Pup door in the bytes of a state: the byte after the starts. Assumes nothing.
use mathlib.Core.Path.{◌≡◌, refl, sym, ap, ◌∙◌}
use mathlib.Core.List.{List, [], ◌∷◌, ◌++◌, append_assoc}
use mathlib.Core.Logic.{inr}
use Prim.Native.Nat.{ℕ, ◌+◌, ◌*◌, ◌<◌}
use native.Mathlib.Omega.{arith}
use lib.ListN.{length, take, drop, get_or, set, length-append, length-drop}
use lib.Seq.{get_or-take, get_or-drop, get_or_at, set_at, drop-drop}
use Rattle.lists.proofs.Part.{part-other}
use Rattle.lists.proofs.Word.{length-low_first}
use Rattle.process.specs.declared.record.Process.{Process}
use Rattle.state_bytes.specs.Process.{process_bytes}
use Rattle.state_bytes.specs.State.{starts_bytes, door_of, with_process_bytes, with_start_bytes, with_starts_bytes}
use Rattle.state_bytes.specs.Theorems.{DoorKept}
use Rattle.state_bytes.specs.Number.{u16_le_bytes}
use Rattle.state_bytes.specs.Widths.{entry_count, process_count, process_width, start_width, starts_at, starts_width, door_at, state_width}
use Rattle.state_bytes.proofs.NumberLaws.{by-elements}
use Rattle.state_bytes.proofs.ProcessLaws.{length-process_bytes}
use Rattle.state_bytes.proofs.StartLaws.{length-starts_bytes}

-- ---- it is the last byte

pub door-last : (m : List ℕ) → length m ≡ state_width → drop starts_width (drop starts_at m) ≡ door_of m ∷ []
unfolding door_of
door-last m long =
    let one : length (drop door_at m) ≡ 1 = simp length-drop (omega (arith, long)) in
    drop-drop starts_width starts_at m ∙ by-elements 1 (drop door_at m) one ∙ ap (λ (n : ℕ). n ∷ []) (get_or-drop door_at m 0 0)

module _ (records starts : List ℕ) (door : ℕ) (front : length records ≡ starts_at) (back : length starts ≡ starts_width) where
  long : length (records ++ starts) ≡ door_at
  long = length-append records starts ∙ omega (arith, front, back)

  -- after records and starts it is read
  pub door-back : door_of (records ++ (starts ++ (door ∷ []))) ≡ door
  unfolding door_of
  door-back = rw (← append_assoc records starts (door ∷ [])) (get_or_at (records ++ starts) door [] 0 door_at long)

  -- and written over another
  pub door-put : (other : ℕ) → set (records ++ (starts ++ (other ∷ []))) door_at door ≡ records ++ (starts ++ (door ∷ []))
  door-put other =
      rw (← append_assoc records starts (other ∷ []), ← append_assoc records starts (door ∷ [])) (set_at (records ++ starts) other [] door door_at long)

-- ---- what is put before it leaves it

module _ (m : List ℕ) (long : length m ≡ state_width) where
  last-part : (l : List ℕ) → door_of l ≡ get_or (take 1 (drop door_at l)) 0 0
  unfolding door_of
  last-part l = sym (get_or-take 1 (drop door_at l) 0 0 (omega arith) ∙ get_or-drop door_at l 0 0)

  -- a part that ends before it
  before-door : (at n : ℕ) (s : List ℕ) → at + n < state_width → length s ≡ n → door_of (take at m ++ (s ++ drop n (drop at m))) ≡ door_of m
  before-door at n s h size =
      last-part (take at m ++ (s ++ drop n (drop at m)))
      ∙ ap (λ (l : List ℕ). get_or l 0 0) (part-other at n m (omega (arith, long)) s size door_at 1 (inr (omega arith)))
      ∙ sym (last-part m)

  by-process : (p : ℕ) (q : Process) → p < process_count → length q.vector ≡ 9 → length q.breaks ≡ entry_count → door_of (with_process_bytes p q m) ≡ door_of m
  unfolding with_process_bytes
  by-process p q h nine eight =
      before-door (process_width * p) process_width (process_bytes q) (omega (arith, h)) (length-process_bytes q (length-low_first q.vector ∙ omega (arith, nine)) eight)

  by-start : (p start : ℕ) → p < process_count → door_of (with_start_bytes p start m) ≡ door_of m
  unfolding with_start_bytes
  by-start p start h = before-door (starts_at + start_width * p) start_width (u16_le_bytes start) (omega (arith, h)) refl

  by-starts : (starts : List ℕ) → length starts ≡ process_count → door_of (with_starts_bytes starts m) ≡ door_of m
  unfolding with_starts_bytes
  by-starts starts eight = before-door starts_at starts_width (starts_bytes starts) (omega arith) (length-starts_bytes starts eight)

pub door-kept : DoorKept
door-kept = record { by-process = by-process; by-start = by-start; by-starts = by-starts }
