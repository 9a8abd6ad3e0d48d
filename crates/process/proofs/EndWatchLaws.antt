-- After END WATCH: the watcher's breakpoints are gone, his planted words are what was seen, and all else is as it was. Assumes nothing.
use mathlib.Core.Path.{◌≡◌, refl, sym, ap, ◌∙◌}
use mathlib.Core.Bool.{Bool, true, false, true≢false}
use mathlib.Core.List.{List, map}
use mathlib.Core.Logic.{inl, inr, ⊎_elim}
use Prim.Native.Nat.{ℕ, ◌<◌}
use native.Mathlib.Nat.{eq-or-lt_of_le}
use native.Mathlib.Omega.{arith}
use borrow.Author.Tests.{ltb-true, ltb-false}
use lib.ListN.{length, get_or, length-map}
use lib.Dec.{ltb}
use Rattle.breakpoints.specs.declared.entry.Breakpoint.{Breakpoint}
use Rattle.breakpoints.specs.Entry.{free, is_set_by}
use Rattle.breakpoints.specs.Seen.{is_planted}
use Rattle.process.specs.Record.{entry}
use Rattle.process.specs.Local.{Local, Proper}
use Rattle.process.specs.Request.{without_his, only_his, end_watched}
use Rattle.process.specs.Theorems.{seen_of, WatchersPlanted, InWord, EndWatchRemoves}
use Rattle.breakpoints.proofs.SeenLaws.{Spaced, length_seen, planted-used}
use Rattle.process.proofs.DepositLaws.{Beside, getD-seen-beside, spaced-flip}
use Rattle.process.proofs.TestedLaws.{tested-spaced}
use Rattle.process.proofs.WatchLaws.{without_other, only-his, only-other, still-used, getD-without, getD-only, end-watch-seen}
use Rattle.process.proofs.EntryKept.{end-watched-freed, end-watched-kept}

module _ (l : Local) (g : Proper l) where
  abbrev watcher : ℕ
  watcher = l.process.session.watcher

  abbrev breaks : List Breakpoint
  breaks = l.process.breaks

  -- ---- entries

  none_left : (k : ℕ) → k < 8 → is_set_by l.process.session.watcher (entry (end_watched l).process k) ≡ false
  unfolding is_set_by
  none_left k h = go (is_set_by watcher (entry l.process k)) refl
    where
      go : (t : Bool) → is_set_by watcher (entry l.process k) ≡ t → is_set_by watcher (entry (end_watched l).process k) ≡ false
      go true e = ap (is_set_by watcher) (end-watched-freed l k e)
      go false e = ap (is_set_by watcher) (end-watched-kept l k e) ∙ e

  -- ---- words put back

  -- words of two entries do not meet
  apart : (j k : ℕ) → j < 8 → k < 8 → (j ≡ k → ⊥) → Spaced (entry l.process j) (entry l.process k)
  apart j k i h n = go (ltb j k) refl
    where
      spaced : (a b : ℕ) → a < b → b < 8 → Spaced (entry l.process a) (entry l.process b)
      spaced a b x y = let e = g.eight in tested-spaced l.process l.bytes g.tested g.eight a b x (omega arith)

      go : (t : Bool) → ltb j k ≡ t → Spaced (entry l.process j) (entry l.process k)
      go true e = spaced j k (ltb-true j k e) h
      go false e =
          ⊎_elim (λ q. absurd (n (sym q))) (λ q. spaced-flip (entry l.process k) (entry l.process j) (spaced k j q i)) (eq-or-lt_of_le (ltb-false j k e))

  -- a byte of a word is beside any word that does not meet it
  beside : (i : ℕ) (b c : Breakpoint) → Spaced b c → is_planted b ≡ true → is_planted c ≡ true → InWord i c → Beside i b
  beside i b c d p q (inl e) = let x = d p q in record { low = λ z. x.different (sym z ∙ e); high = λ z. absurd (omega (arith, x.even, x.even-too)) }
  beside i b c d p q (inr e) = let x = d p q in record { low = λ z. absurd (omega (arith, x.even, x.even-too)); high = λ z. x.different (omega arith) }

  put_back : (k : ℕ) → k < 8 → WatchersPlanted l (entry l.process k) → (i : ℕ) → InWord i (entry l.process k) → get_or (end_watched l).bytes i 0 ≡ get_or (seen_of l) i 0
  unfolding end_watched
  put_back k h x i w = sym (getD-seen-beside (map (without_his watcher) breaks) (end_watched l).bytes i near) ∙ ap (λ (m : List ℕ). get_or m i 0) (end-watch-seen l g)
    where
      near : (j : ℕ) → j < length (map (without_his watcher) breaks) → is_planted (get_or (map (without_his watcher) breaks) j free) ≡ true
          → Beside i (get_or (map (without_his watcher) breaks) j free)
      near j m p =
          let low : j < 8 = omega (arith, m, length-map breaks (without_his watcher), g.eight) in
          let left = getD-without watcher breaks j in
          let other = still-used watcher (entry l.process j) (planted-used (without_his watcher (entry l.process j)) (rw left at p)) in
          let same = left ∙ without_other watcher (entry l.process j) other in
          rw same (beside i (entry l.process j) (entry l.process k)
          (apart j k low h (λ e. true≢false (sym x.his ∙ sym (ap (λ (n : ℕ). is_set_by watcher (entry l.process n)) e) ∙ other)))
          (rw same at p) x.planted w)

  -- ---- all other bytes

  elsewhere : (i : ℕ) → ((k : ℕ) → k < 8 → WatchersPlanted l (entry l.process k) → InWord i (entry l.process k) → ⊥) → get_or (end_watched l).bytes i 0 ≡ get_or l.bytes i 0
  unfolding end_watched
  elsewhere i out = getD-seen-beside (map (only_his watcher) breaks) l.bytes i near
    where
      near : (j : ℕ) → j < length (map (only_his watcher) breaks) → is_planted (get_or (map (only_his watcher) breaks) j free) ≡ true
          → Beside i (get_or (map (only_his watcher) breaks) j free)
      near j m = rw (getD-only watcher breaks j) (go (is_set_by watcher (entry l.process j)) refl)
        where
          low : j < 8
          low = omega (arith, m, length-map breaks (only_his watcher), g.eight)

          mine : is_set_by watcher (entry l.process j) ≡ true → is_planted (entry l.process j) ≡ true → Beside i (entry l.process j)
          mine e p =
              let x : WatchersPlanted l (entry l.process j) = record { his = e; planted = p } in
              record { low = λ z. out j low x (inl z); high = λ z. out j low x (inr z) }

          go : (t : Bool) → is_set_by watcher (entry l.process j) ≡ t → is_planted (only_his watcher (entry l.process j)) ≡ true
              → Beside i (only_his watcher (entry l.process j))
          go true e = rw (only-his watcher (entry l.process j) e) (mine e)
          go false e = rw (only-other watcher (entry l.process j) e) (λ p. absurd (true≢false (sym p)))

  same_length : length (end_watched l).bytes ≡ length l.bytes
  unfolding end_watched
  same_length = length_seen (map (only_his watcher) breaks) l.bytes

pub end-watch-removes : EndWatchRemoves
end-watch-removes = record {
  none_left = none_left;
  others = λ l g k h. end-watched-kept l k;
  put_back = put_back;
  elsewhere = elsewhere;
  same_length = same_length;
}
