-- Laws of text that is put into a buffer, and of pairs as a line. Assumes nothing.
use mathlib.Core.Path.{◌≡◌, refl, sym, ap, ◌∙◌}
use mathlib.Core.List.{List, [], ◌∷◌, ◌++◌}
use Prim.Native.Nat.{ℕ, suc, ◌+◌, ◌-◌, ◌*◌, ◌≤◌, ◌<◌}
use native.Mathlib.Nat.{add-zero}
use native.Mathlib.Numerals.{add-one}
use native.Mathlib.Omega.{arith}
use lib.ListN.{length, take, drop, get_or, set, length-append}
use lib.Seq.{sets, sets-eq, paste, take-length, take_all}
use Rattle.lists.specs.Buffer.{overlay}
use Rattle.lists.specs.Joined.{joined}
use Rattle.lists.proofs.Joined.{joined-none, joined-more}
use Rattle.lists.proofs.Buffer.{overlay-snoc, sets-overlay, paste-lent}
use Rattle.lines.specs.Hex.{pair, pairs, spaced, pairs_line}
use Rattle.lines.specs.Scan.{kept, Put}
use Rattle.lines.proofs.PrintLaws.{length-spaced}

-- two texts one after the other
pub kept_append : (at : ℕ) (xs ys buffer : List ℕ) → kept (at + length xs) ys (kept at xs buffer) ≡ kept at (xs ++ ys) buffer
unfolding kept
kept_append at [] ys buffer = ap (λ (n : ℕ). kept n ys buffer) (add-zero at)
kept_append at (x ∷ xs) ys buffer =
    let e : at + suc (length xs) ≡ at + 1 + length xs = omega arith in
    ap (λ (n : ℕ). kept n ys (kept (at + 1) xs (set buffer at x))) e ∙ kept_append (at + 1) xs ys (set buffer at x)

-- stores one after another
pub kept_sets : (at : ℕ) (xs buffer : List ℕ) → kept at xs buffer ≡ sets buffer at xs
unfolding kept
kept_sets at [] buffer = refl
kept_sets at (x ∷ xs) buffer = ap (λ (n : ℕ). kept n xs (set buffer at x)) (add-one at) ∙ kept_sets (suc at) xs (set buffer at x)

-- text from the start on is laid over the buffer
pub kept-overlay : (xs buffer : List ℕ) → length xs ≤ length buffer → kept 0 xs buffer ≡ overlay xs buffer
kept-overlay xs buffer h = kept_sets 0 xs buffer ∙ sets-overlay xs buffer h

-- nothing was put yet
pub put-none : (at : ℕ) (buffer : List ℕ) → Put at [] buffer at buffer
unfolding kept
put-none at buffer = (sym (add-zero at), refl)

-- one character
pub put_one : (at : ℕ) (mark : ℕ) (buffer last : List ℕ) → last ≡ kept at (mark ∷ []) buffer → Put at (mark ∷ []) buffer (at + 1) last
put_one at mark buffer last e = (refl, e)

-- a text after another
pub put_then : (at mid next : ℕ) (xs ys buffer whole last : List ℕ) → Put at xs buffer mid whole → Put mid ys whole next last → Put at (xs ++ ys) buffer next last
put_then at mid next xs ys buffer whole last p q = (
  q.0 ∙ omega (arith, p.0, length-append xs ys),
  q.1 ∙ ap (λ (k : ℕ). kept k ys whole) p.0 ∙ ap (kept (at + length xs) ys) p.1 ∙ kept_append at xs ys buffer,
)

-- a text that is the same
pub put_as : (at next : ℕ) (xs ys buffer last : List ℕ) → xs ≡ ys → Put at xs buffer next last → Put at ys buffer next last
put_as at next xs ys buffer last e p = (p.0 ∙ ap (λ (l : List ℕ). at + length l) e, p.1 ∙ ap (λ (l : List ℕ). kept at l buffer) e)

-- one element more of those that are put one after the other
pub put-more : {A : Type 0} (f : A → List ℕ) (d : A) (xs : List A) (i at mid next : ℕ) (buffer whole last : List ℕ) → i < length xs
    → Put at (joined f (take i xs)) buffer mid whole → Put mid (f (get_or xs i d)) whole next last → Put at (joined f (take (i + 1) xs)) buffer next last
put-more f d xs i at mid next buffer whole last h p q =
    put_as at next (joined f (take i xs) ++ f (get_or xs i d)) (joined f (take (i + 1) xs)) buffer last (joined-more f xs i d h)
    (put_then at mid next (joined f (take i xs)) (f (get_or xs i d)) buffer whole last p q)

-- none of them, and all
pub put-joined-none : {A : Type 0} (f : A → List ℕ) (at : ℕ) (buffer : List ℕ) → Put at (joined f []) buffer at buffer
put-joined-none f at buffer = put_as at at [] (joined f []) buffer buffer (sym (joined-none f)) (put-none at buffer)

pub put-joined-all : {A : Type 0} (f : A → List ℕ) (xs : List A) (i at next : ℕ) (buffer last : List ℕ) → length xs ≤ i
    → Put at (joined f (take i xs)) buffer next last → Put at (joined f xs) buffer next last
put-joined-all f xs i at next buffer last h = put_as at next (joined f (take i xs)) (joined f xs) buffer last (ap (joined f) (take_all i xs h))

-- all of it, from the start on
pub put_whole : (next : ℕ) (xs buffer last : List ℕ) → length xs ≤ length buffer → Put 0 xs buffer next last → (next ≡ length xs) × (last ≡ overlay xs buffer)
put_whole next xs buffer last h p = (p.0 ∙ omega arith, p.1 ∙ kept-overlay xs buffer h)

-- a text copied to its place, in the shape in which the part comes back
pub kept-copied : (at : ℕ) (text buffer : List ℕ) → at + length text ≤ length buffer
    → take at buffer ++ (text ++ drop (at + length text - at) (drop at buffer)) ≡ kept at text buffer
kept-copied at text buffer h =
    let pasted : paste buffer at text (length text) ≡ sets buffer at text = rw (take-length text) (sym (sets-eq text buffer at h)) in
    paste-lent at text buffer ∙ pasted ∙ sym (kept_sets at text buffer)

-- ---- pairs as a line

pairs-spaced : (b : ℕ) (bs : List ℕ) → pairs (b ∷ bs) ≡ pair b ++ spaced bs
unfolding pairs spaced
pairs-spaced b [] = refl
pairs-spaced b (c ∷ bs) = ap (λ (l : List ℕ). pair b ++ (32 ∷ l)) (pairs-spaced c bs)

-- the first pair, and each other byte after a blank
pub pairs-parted : (bs : List ℕ) → 1 ≤ length bs → pair (get_or bs 0 0) ++ spaced (take (length bs - 1) (drop 1 bs)) ≡ pairs bs
pairs-parted [] h = absurd (omega (arith, h))
pairs-parted (b ∷ bs) h =
    let all : take (suc (length bs) - 1) bs ≡ bs = take_all (suc (length bs) - 1) bs (omega arith) in
    rw all (sym (pairs-spaced b bs))

pub length_pairs : (bs : List ℕ) → 1 ≤ length bs → length (pairs bs) ≡ 3 * length bs - 1
length_pairs [] h = absurd (omega (arith, h))
length_pairs (b ∷ bs) h = ap (λ (l : List ℕ). length l) (pairs-spaced b bs) ∙ omega (arith, length-spaced bs)

pub line-none : (bs : List ℕ) → length bs ≡ 0 → pairs_line bs ≡ 10 ∷ []
unfolding pairs_line pairs
line-none [] e = refl
line-none (b ∷ bs) e = absurd (omega (arith, e))

module _ (bs out whole : List ℕ) (some : 1 ≤ length bs) (laid : whole ≡ overlay (pairs bs) out) (room : 3 * length bs + 1 ≤ length out) where
  pub length-line : 3 * length bs - 1 + 1 ≡ length (pairs_line bs)
  unfolding pairs_line
  length-line = omega (arith, length-append (pairs bs) (10 ∷ []), length_pairs bs some)

  pub line-laid : set whole (3 * length bs - 1) 10 ≡ overlay (pairs_line bs) out
  unfolding pairs_line
  line-laid =
      let size = length_pairs bs some in
      ap (λ (l : List ℕ). set l (3 * length bs - 1) 10) laid
      ∙ ap (λ (n : ℕ). set (overlay (pairs bs) out) n 10) (sym size)
      ∙ overlay-snoc (pairs bs) out 10 (omega (arith, size, room))
