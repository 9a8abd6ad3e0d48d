-- Laws of the words of a report: one word more, and none left. Assumes nothing.
use mathlib.Core.Path.{◌≡◌, sym, ap, ◌∙◌}
use mathlib.Core.List.{List, [], ◌∷◌, ◌++◌, append_assoc, append-nil}
use Prim.Native.Nat.{ℕ, suc, ◌+◌, ◌-◌, ◌≤◌, ◌<◌}
use native.Mathlib.Numerals.{add-one}
use native.Mathlib.Omega.{arith}
use lib.ListN.{length, take, set}
use lib.Seq.{take-suc-set, take_all}
use Rattle.decimal.specs.declared.number.Number.{Number}
use Rattle.decimal.specs.Read.{behind}
use Rattle.calls.specs.Words.{last_of, words_of}

-- one word more
module _ (n : ℕ) (line : List ℕ) (last next : Number) (i : ℕ) (low : i < n) (is : next ≡ behind 65535 line last) where
  less : n - i ≡ suc (n - (i + 1))
  less = omega arith

  pub last_turn : last_of (n - (i + 1)) line next ≡ last_of (n - i) line last
  unfolding last_of
  last_turn = ap (last_of (n - (i + 1)) line) is ∙ ap (λ (k : ℕ). last_of k line last) (sym less)

  words-head : next.value ∷ words_of (n - (i + 1)) line next ≡ words_of (n - i) line last
  unfolding words_of
  words-head = ap (λ (m : Number). m.value ∷ words_of (n - (i + 1)) line m) is ∙ ap (λ (k : ℕ). words_of k line last) (sym less)

  pub words-turn : (words : List ℕ) → length words ≡ n → take (i + 1) (set words i next.value) ++ words_of (n - (i + 1)) line next ≡ take i words ++ words_of (n - i) line last
  words-turn words size =
      ap (λ (k : ℕ). take k (set words i next.value) ++ words_of (n - (i + 1)) line next) (add-one i)
      ∙ ap (λ (l : List ℕ). l ++ words_of (n - (i + 1)) line next) (take-suc-set words i next.value (omega (arith, size, low)))
      ∙ append_assoc (take i words) (next.value ∷ []) (words_of (n - (i + 1)) line next)
      ∙ ap (λ (l : List ℕ). take i words ++ l) words-head

-- no word is left
module _ (n : ℕ) (line : List ℕ) (last : Number) (i : ℕ) (end : n ≤ i) where
  none : n - i ≡ 0
  none = omega arith

  pub last_end : last_of (n - i) line last ≡ last
  unfolding last_of
  last_end = ap (λ (k : ℕ). last_of k line last) none

  pub words-end : (words : List ℕ) → length words ≡ n → take i words ++ words_of (n - i) line last ≡ words
  unfolding words_of
  words-end words size =
      ap (λ (k : ℕ). take i words ++ words_of k line last) none ∙ append-nil (take i words) ∙ take_all i words (omega (arith, size, end))
