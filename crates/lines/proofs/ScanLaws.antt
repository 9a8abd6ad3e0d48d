-- Laws of reading pairs in parts, and of what is kept of them. Assumes nothing.
use mathlib.Core.Path.{◌≡◌, refl, sym, ap, ◌∙◌}
use mathlib.Core.Bool.{Bool, true, false, cond}
use mathlib.Core.List.{List, [], ◌∷◌, ◌++◌, append_assoc}
use Prim.Native.Nat.{ℕ, ◌+◌, ◌≤◌, ◌<◌}
use native.Mathlib.Numerals.{add-one}
use native.Mathlib.Omega.{arith}
use borrow.Author.Tests.{le-ltb, ltb-true, ltb-false}
use lib.ListN.{length, drop, get_or, set, length-set, drop_of_length-le}
use lib.Seq.{set_out, drop-cons}
use lib.Dec.{ltb}
use Rattle.lines.specs.declared.scan.Phase.{Phase}
use Rattle.lines.specs.Scan.{next, made, after, bytes_of, kept, filled}

pub in_parts : (p : Phase) (xs ys : List ℕ) → after p (xs ++ ys) ≡ after (after p xs) ys
unfolding after
in_parts p [] ys = refl
in_parts p (x ∷ xs) ys = in_parts (next p x) xs ys

pub parts-read : (p : Phase) (xs ys : List ℕ) → bytes_of p (xs ++ ys) ≡ bytes_of p xs ++ bytes_of (after p xs) ys
unfolding after bytes_of
parts-read p [] ys = refl
parts-read p (x ∷ xs) ys = ap (λ (bs : List ℕ). made p x ++ bs) (parts-read (next p x) xs ys) ∙ sym (append_assoc (made p x) _ _)

-- ---- what is kept

pub length-kept : (at : ℕ) (bs buffer : List ℕ) → length (kept at bs buffer) ≡ length buffer
unfolding kept
length-kept at [] buffer = refl
length-kept at (b ∷ bs) buffer = length-kept (at + 1) bs (set buffer at b) ∙ length-set buffer at b

-- bytes past the end are not kept
pub kept_full : (at : ℕ) (bs buffer : List ℕ) → length buffer ≤ at → kept at bs buffer ≡ buffer
unfolding kept
kept_full at [] buffer h = refl
kept_full at (b ∷ bs) buffer h =
    ap (kept (at + 1) bs) (set_out buffer at b h) ∙ kept_full (at + 1) bs buffer (omega (arith, h))

pub filled-full : (room at : ℕ) (bs : List ℕ) → room ≤ at → filled room at bs ≡ at
unfolding filled
filled-full room at [] h = refl
filled-full room at (b ∷ bs) h = rw (le-ltb at room h) (filled-full room at bs h)

-- two lists of bytes one after another
pub kept-filled : (at : ℕ) (xs ys buffer : List ℕ) → kept at (xs ++ ys) buffer ≡ kept (filled (length buffer) at xs) ys (kept at xs buffer)
unfolding kept filled
kept-filled at [] ys buffer = refl
kept-filled at (x ∷ xs) ys buffer = go (ltb at (length buffer)) refl (kept-filled (at + 1) xs ys (set buffer at x))
  where
    go : (t : Bool) → ltb at (length buffer) ≡ t
        → kept (at + 1) (xs ++ ys) (set buffer at x) ≡ kept (filled (length (set buffer at x)) (at + 1) xs) ys (kept (at + 1) xs (set buffer at x))
        → kept (at + 1) (xs ++ ys) (set buffer at x)
        ≡ kept (filled (length buffer) (cond (ltb at (length buffer)) (at + 1) at) xs) ys (kept (at + 1) xs (set buffer at x))
    go true e rest = rw e (rw (length-set buffer at x) at rest)
    go false e rest =
        let past = ltb-false at (length buffer) e in
        let out = set_out buffer at x past in
        rw (e, out, kept_full (at + 1) (xs ++ ys) buffer (omega (arith, past)), kept_full (at + 1) xs buffer (omega (arith, past)), filled-full (length buffer) at xs past, kept_full at ys buffer past)

pub filled-filled : (room at : ℕ) (xs ys : List ℕ) → filled room at (xs ++ ys) ≡ filled room (filled room at xs) ys
unfolding filled
filled-filled room at [] ys = refl
filled-filled room at (x ∷ xs) ys = filled-filled room (cond (ltb at room) (at + 1) at) xs ys

pub filled-≤ : (room at : ℕ) (bs : List ℕ) → at ≤ room → filled room at bs ≤ room
unfolding filled
filled-≤ room at [] h = h
filled-≤ room at (b ∷ bs) h = filled-≤ room (cond (ltb at room) (at + 1) at) bs (go (ltb at room) refl)
  where
    go : (t : Bool) → ltb at room ≡ t → cond (ltb at room) (at + 1) at ≤ room
    go true e = rw e (omega (arith, ltb-true at room e))
    go false e = rw e h

-- ---- one character more

module _ (p : Phase) (text : List ℕ) (i : ℕ) (h : i < length text) where
  here : drop i text ≡ get_or text i 0 ∷ drop (i + 1) text
  here = drop-cons text i 0 h ∙ ap (λ (n : ℕ). get_or text i 0 ∷ drop n text) (sym (add-one i))

  pub step-phase : after p (drop i text) ≡ after (next p (get_or text i 0)) (drop (i + 1) text)
  unfolding after
  step-phase = rw here

  step-bytes : bytes_of p (drop i text) ≡ made p (get_or text i 0) ++ bytes_of (next p (get_or text i 0)) (drop (i + 1) text)
  unfolding bytes_of
  step-bytes = rw here

  pub step-filled : (room at : ℕ) → filled room at (bytes_of p (drop i text))
      ≡ filled room (filled room at (made p (get_or text i 0))) (bytes_of (next p (get_or text i 0)) (drop (i + 1) text))
  step-filled room at = ap (filled room at) step-bytes ∙ filled-filled room at (made p (get_or text i 0)) _

  pub step_kept : (at : ℕ) (buffer : List ℕ) → kept at (bytes_of p (drop i text)) buffer
      ≡ kept (filled (length buffer) at (made p (get_or text i 0))) (bytes_of (next p (get_or text i 0)) (drop (i + 1) text)) (kept at (made p (get_or text i 0)) buffer)
  step_kept at buffer = ap (λ (bs : List ℕ). kept at bs buffer) step-bytes ∙ kept-filled at (made p (get_or text i 0)) _ buffer

-- nothing is left at the end
module _ (p : Phase) (text : List ℕ) (i : ℕ) (h : length text ≤ i) where
  none : drop i text ≡ []
  none = drop_of_length-le text h

  pub end-phase : after p (drop i text) ≡ p
  unfolding after
  end-phase = rw none

  pub end-filled : (room at : ℕ) → filled room at (bytes_of p (drop i text)) ≡ at
  unfolding bytes_of filled
  end-filled room at = rw none

  pub end_kept : (at : ℕ) (buffer : List ℕ) → kept at (bytes_of p (drop i text)) buffer ≡ buffer
  unfolding bytes_of kept
  end_kept at buffer = rw none
