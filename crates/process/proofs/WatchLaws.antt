-- Laws of END WATCH: a breakpoint goes or stays as it is, and what is seen stays. Assumes nothing.
use mathlib.Core.Path.{◌≡◌, refl, sym, ap, ◌∙◌}
use mathlib.Core.Bool.{Bool, true, false, true≢false}
use mathlib.Core.List.{List, [], ◌∷◌, map}
use mathlib.Core.Logic.{inl, inr}
use Prim.Native.Nat.{ℕ, suc, ◌+◌, ◌<◌}
use native.Mathlib.Numerals.{add-one}
use native.Mathlib.Omega.{arith}
use borrow.Author.Tests.{eq-eqb}
use lib.Seq.{drop-cons}
use lib.ListN.{length, drop, get_or, get_or-map, length-map}
use Rattle.breakpoints.specs.declared.entry.Breakpoint.{Breakpoint}
use Rattle.breakpoints.specs.Entry.{free, is_set_by, in_use}
use Rattle.breakpoints.specs.Seen.{restored, seen}
use Rattle.process.specs.Record.{recounted, entry, with_breaks}
use Rattle.process.specs.Sound.{Sound, DebugsOrWatches}
use Rattle.process.specs.Local.{Local, Proper}
use Rattle.process.specs.Request.{count_set_by, without_his, only_his, end_watched}
use Rattle.process.specs.Theorems.{seen_of}
use Rattle.breakpoints.proofs.SeenLaws.{Spaced, seen-restored}
use Rattle.process.proofs.DepositLaws.{AllSpaced, spaced-flip}
use Rattle.process.proofs.SoundLaws.{sound-fewer, sound-unwatched}
use Rattle.process.proofs.TestedLaws.{tested-sound, tested-spaced}

-- ---- one entry

module _ (host : ℕ) (b : Breakpoint) where
  pub without-his : is_set_by host b ≡ true → without_his host b ≡ free
  unfolding without_his
  without-his e = rw e

  pub without_other : is_set_by host b ≡ false → without_his host b ≡ b
  unfolding without_his
  without_other e = rw e

  pub only-his : is_set_by host b ≡ true → only_his host b ≡ b
  unfolding only_his
  only-his e = rw e

  pub only-other : is_set_by host b ≡ false → only_his host b ≡ free
  unfolding only_his
  only-other e = rw e

  -- one that is still in use is as it was, and not his
  pub still-used : in_use (without_his host b) ≡ true → is_set_by host b ≡ false
  still-used u = go (is_set_by host b) refl
    where
      go : (t : Bool) → is_set_by host b ≡ t → t ≡ false
      go true e = absurd (true≢false (sym (sym (ap (λ (c : Breakpoint). in_use c) (without-his e)) ∙ u)))
      go false e = refl

-- and of the entries of a list
pub getD-without : (host : ℕ) (bs : List Breakpoint) (k : ℕ) → get_or (map (without_his host) bs) k free ≡ without_his host (get_or bs k free)
unfolding without_his is_set_by
getD-without host bs k = get_or-map (without_his host) bs k free

pub getD-only : (host : ℕ) (bs : List Breakpoint) (k : ℕ) → get_or (map (only_his host) bs) k free ≡ only_his host (get_or bs k free)
unfolding only_his is_set_by
getD-only host bs k = get_or-map (only_his host) bs k free

-- ---- how many a host has set

-- as a loop counts them
module _ (host : ℕ) (bs : List Breakpoint) (k : ℕ) (h : k < length bs) where
  pub count-his : is_set_by host (get_or bs k free) ≡ true → count_set_by host (drop k bs) ≡ suc (count_set_by host (drop (k + 1) bs))
  unfolding count_set_by
  count-his e = rw (drop-cons bs k free h, add-one k, e)

  pub count-other : is_set_by host (get_or bs k free) ≡ false → count_set_by host (drop k bs) ≡ count_set_by host (drop (k + 1) bs)
  unfolding count_set_by
  count-other e = rw (drop-cons bs k free h, add-one k, e)

-- ---- what is seen

-- a breakpoint that is his alone meets no other
only-spaced : (host : ℕ) (b c : Breakpoint) → Spaced b c → Spaced (only_his host b) c
only-spaced host b c d = go (is_set_by host b) refl
  where
    go : (t : Bool) → is_set_by host b ≡ t → Spaced (only_his host b) c
    go true e = rw (only-his host b e) d
    go false e = rw (only-other host b e) (λ p q. absurd (true≢false (sym p)))

-- his words put back, and then the others', are all put back
pub seen-split : (host : ℕ) (bs : List Breakpoint) (m : List ℕ) → AllSpaced bs → seen (map (without_his host) bs) (seen (map (only_his host) bs) m) ≡ seen bs m
unfolding seen restored
seen-split host [] m d = refl
seen-split host (b ∷ bs) m d = go (is_set_by host b) refl ∙ seen-split host bs (restored b m) (λ j k l h. d (suc j) (suc k) (omega arith) (omega arith))
  where
    near : (j : ℕ) → j < length (map (only_his host) bs) → Spaced (get_or (map (only_his host) bs) j free) b
    near j h =
        let i : j < length bs = rw (length-map bs (only_his host)) at h in
        rw (getD-only host bs j) (only-spaced host (get_or bs j free) b (spaced-flip b (get_or bs j free) (d 0 (suc j) (omega arith) (omega arith))))

    go : (t : Bool) → is_set_by host b ≡ t
        → seen (map (without_his host) bs) (restored (without_his host b) (seen (map (only_his host) bs) (restored (only_his host b) m)))
        ≡ seen (map (without_his host) bs) (seen (map (only_his host) bs) (restored b m))
    go true e = rw (without-his host b e, only-his host b e)
    go false e = rw (without_other host b e, only-other host b e) (ap (seen (map (without_his host) bs)) (sym (seen-restored (map (only_his host) bs) b m near)))

module _ (l : Local) (g : Proper l) where
  pub end-watch-seen : seen_of (end_watched l) ≡ seen_of l
  unfolding end_watched
  end-watch-seen =
      seen-split l.process.session.watcher l.process.breaks l.bytes (tested-spaced l.process l.bytes g.tested g.eight)

  -- ---- a sound record stays sound

  abbrev watcher : ℕ
  watcher = l.process.session.watcher

  abbrev left : List Breakpoint
  left = map (without_his watcher) l.process.breaks

  sound : Sound l.process
  sound = tested-sound l.process l.bytes g.tested

  -- an entry that is not the watcher's is the host's
  host-set : (k : ℕ) → k < 8 → in_use (entry l.process k) ≡ true → is_set_by watcher (entry l.process k) ≡ false → (entry l.process k).setter ≡ l.process.host
  unfolding is_set_by
  host-set k h u e = go (sound.set-by k h u)
    where
      go : DebugsOrWatches l.process (entry l.process k).setter → (entry l.process k).setter ≡ l.process.host
      go (inl d) = d
      go (inr w) = absurd (true≢false (sym (eq-eqb _ _ w.1) ∙ rw u at e))

  other : (k : ℕ) → in_use (get_or left k free) ≡ true → is_set_by watcher (entry l.process k) ≡ false
  other k u = still-used watcher (entry l.process k) (rw (getD-without watcher l.process.breaks k) at u)

  same : (k : ℕ) → k < 8 → in_use (get_or left k free) ≡ true → get_or left k free ≡ entry l.process k
  same k h u = getD-without watcher l.process.breaks k ∙ without_other watcher (entry l.process k) (other k u)

  his : (k : ℕ) → k < 8 → in_use (get_or left k free) ≡ true → (get_or left k free).setter ≡ l.process.host
  his k h u = let e = same k h u in ap (λ (b : Breakpoint). b.setter) e ∙ host-set k h (rw e at u) (other k u)

  pub end-watch-sound : Sound (end_watched l).process
  unfolding end_watched
  end-watch-sound = sound-unwatched (recounted (with_breaks left l.process)) (sound-fewer left l.process same sound) his
