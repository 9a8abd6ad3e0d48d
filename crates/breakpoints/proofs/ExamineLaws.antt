-- EXAMINE lays the saved words over a part of memory; that is the same part of the seen memory. Assumes nothing.
use mathlib.Core.Path.{◌≡◌, refl, sym, ap, ◌∙◌}
use mathlib.Core.Bool.{Bool, true, false, cond}
use mathlib.Core.List.{List, [], ◌∷◌}
use Prim.Native.Nat.{ℕ, ◌+◌, ◌-◌, ◌≤◌}
use native.Mathlib.Omega.{arith}
use borrow.Author.Tests.{leb-true, leb-false, ltb-true, ltb-false}
use lib.ListN.{length, take, drop, set, length-take}
use lib.Seq.{drop-set-lt, drop-set-add, take-set-lt, take-set-le, set_out}
use lib.Dec.{leb, ltb}
use Rattle.breakpoints.specs.declared.entry.Breakpoint.{Breakpoint}
use Rattle.breakpoints.specs.Seen.{put_word, is_planted, restored, seen, overlay_saved_byte, overlay_saved_word, overlay_saved_words}

module _ (at n : ℕ) where
  abbrev part : List ℕ → List ℕ
  part m = take n (drop at m)

  take-set : (j v : ℕ) (xs : List ℕ) → take n (set xs j v) ≡ set (take n xs) j v
  take-set j v xs = go (ltb j n) refl
    where
      go : (t : Bool) → ltb j n ≡ t → take n (set xs j v) ≡ set (take n xs) j v
      go true e = take-set-lt n xs j v (ltb-true j n e)
      go false e =
          let h : n ≤ j = ltb-false j n e in
          let out : length (take n xs) ≤ j = simp length-take (omega arith) in
          take-set-le n xs j v h ∙ sym (set_out (take n xs) j v out)

  part-byte : (i v : ℕ) (m : List ℕ) → overlay_saved_byte at i v (part m) ≡ part (set m i v)
  unfolding overlay_saved_byte
  part-byte i v m = go (leb at i) refl
    where
      go : (t : Bool) → leb at i ≡ t → cond t (set (part m) (i - at) v) (part m) ≡ part (set m i v)
      go true e =
          let same : at + (i - at) ≡ i = omega (arith, leb-true at i e) in
          sym (take-set (i - at) v (drop at m)) ∙ ap (take n) (sym (drop-set-add at m (i - at) v) ∙ ap (λ (k : ℕ). drop at (set m k v)) same)
      go false e = ap (take n) (sym (drop-set-lt at m i v (leb-false at i e)))

  part-word : (b : Breakpoint) (m : List ℕ) → overlay_saved_word at b (part m) ≡ part (restored b m)
  unfolding overlay_saved_word restored
  part-word b m = go (is_planted b)
    where
      go : (t : Bool) → cond t (overlay_saved_byte at (b.address + 1) b.high (overlay_saved_byte at b.address b.low (part m))) (part m)
          ≡ part (cond t (put_word b.address b.low b.high m) m)
      go true =
          ap (overlay_saved_byte at (b.address + 1) b.high) (part-byte b.address b.low m)
          ∙ part-byte (b.address + 1) b.high (set m b.address b.low)
      go false = refl

  pub part-words : (bs : List Breakpoint) (m : List ℕ) → overlay_saved_words at bs (part m) ≡ part (seen bs m)
  unfolding overlay_saved_words seen
  part-words [] m = refl
  part-words (b ∷ bs) m = ap (overlay_saved_words at bs) (part-word b m) ∙ part-words bs (restored b m)
