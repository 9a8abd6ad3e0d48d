-- `calls::number::words_behind` meets its contract. The loop's invariant: the words passed, and those that are left, are all. Assumes nothing.
use mathlib.Core.Path.{◌≡◌}
use mathlib.Core.List.{◌++◌}
use Prim.Native.Nat.{◌-◌}
use lib.ListN.{length, take}
use Rattle.calls.specs.Words.{last_of, words_of}
use Rattle.calls.proofs.number.words_behind.Given as goal

abbrev pub invariant-loop-word : goal.invariant-loop-word
invariant-loop-word l = (length l.word-items ≡ 9) × (last_of (9 - l.word-index) l.line l.last ≡ last_of 9 l.line l.initial.last) × (take l.word-index l.word-items ++ words_of (9 - l.word-index) l.line l.last ≡ words_of 9 l.line l.initial.last)
