-- Laws of printing pairs. Assumes nothing.
use mathlib.Core.Path.{◌≡◌, refl, sym, ap, ◌∙◌}
use mathlib.Core.List.{List, [], ◌∷◌, ◌++◌, append_assoc}
use Prim.Native.Nat.{ℕ, ◌+◌, ◌*◌, ◌/◌, ◌%◌, ◌≤◌, ◌<◌}
use native.Mathlib.Numerals.{add-one}
use native.Mathlib.Omega.{arith}
use lib.ListN.{length, take, get_or, length-append}
use lib.Seq.{length-take-le, take-suc}
use Rattle.lists.specs.Buffer.{overlay}
use Rattle.lists.proofs.Buffer.{overlay-snoc}
use Rattle.lines.specs.Hex.{digit, pair, pair_at, spaced, spaced_or_dash}

pub length-spaced : (bs : List ℕ) → length (spaced bs) ≡ 3 * length bs
unfolding spaced
length-spaced [] = refl
length-spaced (b ∷ bs) = omega (arith, length-spaced bs)

pub spaced-snoc : (bs : List ℕ) (b : ℕ) → spaced (bs ++ (b ∷ [])) ≡ spaced bs ++ (32 ∷ pair b)
unfolding spaced
spaced-snoc [] b = refl
spaced-snoc (x ∷ bs) b = ap (λ (cs : List ℕ). 32 ∷ pair x ++ cs) (spaced-snoc bs b)

-- one byte more
pub pair-overlay : (xs buffer : List ℕ) (b : ℕ) → length xs + 3 ≤ length buffer
    → pair_at b (length xs) (overlay xs buffer) ≡ overlay (xs ++ (32 ∷ pair b)) buffer
unfolding pair_at
pair-overlay xs buffer b h =
    let ys = xs ++ (32 ∷ []) in
    let zs = ys ++ (digit (b / 16) ∷ []) in
    let long : length ys ≡ length xs + 1 = length-append xs (32 ∷ []) in
    let longer : length zs ≡ length xs + 2 = length-append ys (digit (b / 16) ∷ []) ∙ omega (arith, long) in
    rw (overlay-snoc xs buffer 32 (omega (arith, h)), ← long, overlay-snoc ys buffer (digit (b / 16)) (omega (arith, long, h)), ← longer, overlay-snoc zs buffer (digit (b % 16)) (omega (arith, longer, h)))
    (ap (λ (l : List ℕ). overlay l buffer) (ap (λ (l : List ℕ). l ++ (digit (b % 16) ∷ [])) (append_assoc xs (32 ∷ []) (digit (b / 16) ∷ [])) ∙ append_assoc xs (32 ∷ digit (b / 16) ∷ []) (digit (b % 16) ∷ [])))

-- one byte more of a list
pub spaced-step : (bytes buffer out : List ℕ) (i : ℕ) → i < length bytes → 3 * length bytes ≤ length buffer → out ≡ overlay (spaced (take i bytes)) buffer
    → pair_at (get_or bytes i 0) (3 * i) out ≡ overlay (spaced (take (i + 1) bytes)) buffer
spaced-step bytes buffer out i h room e =
    let xs = spaced (take i bytes) in
    let size : length xs ≡ 3 * i = length-spaced (take i bytes) ∙ ap (λ (n : ℕ). 3 * n) (length-take-le i bytes (omega (arith, h))) in
    ap (λ (n : ℕ). pair_at (get_or bytes i 0) n out) (sym size)
    ∙ ap (pair_at (get_or bytes i 0) (length xs)) e
    ∙ pair-overlay xs buffer (get_or bytes i 0) (omega (arith, size, h, room))
    ∙ ap (λ (l : List ℕ). overlay l buffer)
    (sym (spaced-snoc (take i bytes) (get_or bytes i 0)) ∙ ap spaced (sym (take-suc bytes i 0 h) ∙ ap (λ (n : ℕ). take n bytes) (sym (add-one i))))

-- ---- bytes, or a dash

pub body-short : (bs : List ℕ) → length (spaced_or_dash bs) ≤ 2 + 3 * length bs
unfolding spaced_or_dash
body-short [] = omega arith
body-short (b ∷ bs) = omega (arith, length-spaced (b ∷ bs))

pub none-dash : (bs : List ℕ) → length bs ≡ 0 → spaced_or_dash bs ≡ 32 ∷ 45 ∷ []
unfolding spaced_or_dash
none-dash [] e = refl
none-dash (b ∷ bs) e = absurd (omega (arith, e))

pub some-spaced : (bs : List ℕ) → (length bs ≡ 0 → ⊥) → spaced_or_dash bs ≡ spaced bs
unfolding spaced_or_dash
some-spaced [] n = absurd (n refl)
some-spaced (b ∷ bs) n = refl
