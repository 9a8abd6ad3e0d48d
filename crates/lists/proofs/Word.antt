-- Laws of a word and its two bytes, and of words as bytes. Assumes nothing.
use mathlib.Core.Path.{◌≡◌, refl, sym, ap, ◌∙◌}
use mathlib.Core.List.{List, [], ◌∷◌, ◌++◌}
use Prim.Native.Nat.{ℕ, ◌+◌, ◌*◌, ◌≤◌, ◌<◌}
use native.Mathlib.Numerals.{add-one}
use native.Mathlib.Omega.{arith}
use lib.ListN.{length, take, get_or, set, length-append}
use lib.Seq.{length-take-le, take-suc}
use Rattle.lists.specs.Buffer.{overlay}
use Rattle.lists.specs.Word.{high, low, word, low_first}
use Rattle.lists.proofs.Buffer.{overlay-snoc}

-- a word is made of its own two bytes
pub word-high-low : (w : ℕ) → word (high w) (low w) ≡ w
word-high-low w = omega arith

-- the high byte of a word made of two bytes
pub high_word : (h l : ℕ) → l < 256 → high (word h l) ≡ h
high_word h l b = omega arith

-- the low byte of a word made of two bytes
pub low_word : (h l : ℕ) → l < 256 → low (word h l) ≡ l
low_word h l b = omega arith

-- two bytes a word
pub length-low_first : (ws : List ℕ) → length (low_first ws) ≡ 2 * length ws
unfolding low_first
length-low_first [] = refl
length-low_first (w ∷ ws) = let e = length-low_first ws in omega arith

-- one more word
pub low_first-snoc : (ws : List ℕ) (w : ℕ) → low_first (ws ++ (w ∷ [])) ≡ (low_first ws ++ (low w ∷ [])) ++ (high w ∷ [])
unfolding low_first
low_first-snoc [] w = refl
low_first-snoc (v ∷ ws) w = rw (low_first-snoc ws w)

-- a turn of the loop that writes words as bytes: the next word's two bytes after those of the words before it
pub low_first-step : (ws buffer : List ℕ) (i : ℕ) → i < length ws → 2 * length ws ≤ length buffer
    → set (set (overlay (low_first (take i ws)) buffer) (2 * i) (low (get_or ws i 0))) (2 * i + 1) (high (get_or ws i 0))
    ≡ overlay (low_first (take (i + 1) ws)) buffer
low_first-step ws buffer i h room =
    let w = get_or ws i 0 in
    let done : List ℕ = low_first (take i ws) in
    let at : length done ≡ 2 * i = length-low_first (take i ws) ∙ ap (λ (n : ℕ). 2 * n) (length-take-le i ws (omega arith)) in
    let next : length (done ++ (low w ∷ [])) ≡ 2 * i + 1 = length-append done (low w ∷ []) ∙ ap (λ (n : ℕ). n + 1) at in
    ap (λ (n : ℕ). set (set (overlay done buffer) n (low w)) (2 * i + 1) (high w)) (sym at)
    ∙ ap (λ (b : List ℕ). set b (2 * i + 1) (high w)) (overlay-snoc done buffer (low w) (omega arith))
    ∙ ap (λ (n : ℕ). set (overlay (done ++ (low w ∷ [])) buffer) n (high w)) (sym next)
    ∙ overlay-snoc (done ++ (low w ∷ [])) buffer (high w) (omega arith)
    ∙ ap (λ (b : List ℕ). overlay b buffer) (sym (low_first-snoc (take i ws) w) ∙ ap low_first (sym (take-suc ws i 0 h) ∙ ap (λ (n : ℕ). take n ws) (sym (add-one i))))
