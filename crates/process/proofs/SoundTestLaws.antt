-- The test of soundness passes exactly the sound records. The test asks that each entry in use is the first at its address and,
-- if lifted, the first that is lifted; the rule speaks of any two. Assumes nothing.
use mathlib.Core.Path.{◌≡◌, refl, sym, ◌∙◌}
use mathlib.Core.Bool.{Bool, true, false, not, ◌&&◌, ◌||◌, or-true, true≢false}
use mathlib.Core.Logic.{inl, inr}
use Prim.Native.Nat.{ℕ, ◌+◌, ◌≤◌, ◌<◌, ◌%◌}
use borrow.Author.Tests.{eqb-true, eqb-false, leb-true, eq-eqb, ne_eqb, le-leb, not-true}
use lib.ListN.{length}
use lib.Dec.{eqb, leb}
use Rattle.lists.specs.Every.{below}
use Rattle.lists.proofs.Bool.{&&-left, &&-right, &&-both}
use Rattle.lists.proofs.Every.{below_at, below_all}
use Rattle.session.specs.Session.{session_sound}
use Rattle.session.proofs.SessionLaws.{owed-host, watcher-other, go-waits, session-passes}
use Rattle.process.specs.declared.record.Process.{Process}
use Rattle.breakpoints.specs.declared.entry_query.EntryQuery.TheVariants.{Lifted, At}
use Rattle.process.specs.Sizes.{valid_size}
use Rattle.process.specs.Record.{entry, count_used}
use Rattle.breakpoints.specs.EntryQuery.{matches}
use Rattle.process.specs.Find.{find}
use Rattle.breakpoints.specs.Entry.{valid_break_address, in_use}
use Rattle.process.specs.Sound.{Sound, SizeRight, NoBreakpoints, DebugsOrWatches, absent_has_no_host, lift_sound, setter_sound, used_sound, entry_sound, keeps_rules, sound_test}
use Rattle.run_state.specs.RunState.{stepping_or_passing}
use Rattle.process.specs.Theorems.{TestIsSound}
use Rattle.process.proofs.FindLaws.{lifted-matches, at-matches, find-before, find-is}

-- ---- from the test to the rule

module _ (p : Process) (s : sound_test p ≡ true) where
  sized : SizeRight p.size
  unfolding sound_test valid_size
  sized =
      let n = p.size in
      let whole = &&-left (valid_size n) _ s in
      let both = &&-right (eqb (n % 2) 0) (leb 2 n && leb n 4096) whole in
      record { even = eqb-true _ _ (&&-left (eqb (n % 2) 0) _ whole); least = leb-true _ _ (&&-left (leb 2 n) _ both); most = leb-true _ _ (&&-right (leb 2 n) (leb n 4096) both) }

  others : absent_has_no_host p && (session_sound p.host p.session && (eqb p.number (count_used p.breaks) && below (entry_sound p) 8)) ≡ true
  unfolding sound_test keeps_rules
  others = &&-right (valid_size p.size) _ s

  session-and-breaks : session_sound p.host p.session && (eqb p.number (count_used p.breaks) && below (entry_sound p) 8) ≡ true
  session-and-breaks = &&-right (absent_has_no_host p) _ others

  session-sound : session_sound p.host p.session ≡ true
  session-sound = &&-left (session_sound p.host p.session) _ session-and-breaks

  number-and-entries : eqb p.number (count_used p.breaks) && below (entry_sound p) 8 ≡ true
  number-and-entries = &&-right (session_sound p.host p.session) _ session-and-breaks

  module _ (k : ℕ) (h : k < 8) (u : in_use (entry p k) ≡ true) where
    kept : used_sound p k ≡ true
    unfolding sound_test entry_sound
    kept = rw u at (below_at (entry_sound p) 8 k h (&&-right (eqb p.number (count_used p.breaks)) (below (entry_sound p) 8) number-and-entries))

    there-is-host : p.host ≡ 0 → ⊥
    unfolding used_sound
    there-is-host = eqb-false p.host 0 (not-true (eqb p.host 0) (&&-left (not (eqb p.host 0)) _ kept))

    hosted : setter_sound p k && (valid_break_address p.size (entry p k).address && (eqb (find (At (entry p k).address) p) k && lift_sound p k)) ≡ true
    unfolding used_sound
    hosted = &&-right (not (eqb p.host 0)) _ kept

    set-by : DebugsOrWatches p (entry p k).setter
    unfolding setter_sound
    set-by = go (eqb (entry p k).setter p.host) refl (&&-left (setter_sound p k) _ hosted)
      where
        go : (t : Bool) → eqb (entry p k).setter p.host ≡ t → t || (not (eqb (entry p k).setter 0) && eqb (entry p k).setter p.session.watcher) ≡ true → DebugsOrWatches p (entry p k).setter
        go true e o = inl (eqb-true _ _ e)
        go false e o =
            inr (
              eqb-false _ _ (not-true (eqb (entry p k).setter 0) (&&-left (not (eqb (entry p k).setter 0)) _ o)),
              eqb-true _ _ (&&-right (not (eqb (entry p k).setter 0)) (eqb (entry p k).setter p.session.watcher) o),
            )

    rest : valid_break_address p.size (entry p k).address && (eqb (find (At (entry p k).address) p) k && lift_sound p k) ≡ true
    rest = &&-right (setter_sound p k) _ hosted

    even : (entry p k).address % 2 ≡ 0
    unfolding valid_break_address
    even = eqb-true _ _ (&&-left (eqb ((entry p k).address % 2) 0) _ (&&-left (valid_break_address p.size (entry p k).address) _ rest))

    within : (entry p k).address + 2 ≤ p.size
    unfolding valid_break_address
    within = leb-true _ _ (&&-right (eqb ((entry p k).address % 2) 0) _ (&&-left (valid_break_address p.size (entry p k).address) _ rest))

    firsts : eqb (find (At (entry p k).address) p) k && lift_sound p k ≡ true
    firsts = &&-right (valid_break_address p.size (entry p k).address) _ rest

    first-there : find (At (entry p k).address) p ≡ k
    first-there = eqb-true _ _ (&&-left (eqb (find (At (entry p k).address) p) k) _ firsts)

    module _ (l : (entry p k).lifted ≡ true) where
      lift : stepping_or_passing p.run && eqb (find Lifted p) k ≡ true
      unfolding lift_sound
      lift = rw l at (&&-right (eqb (find (At (entry p k).address) p) k) _ firsts)

      lifted-while : stepping_or_passing p.run ≡ true
      lifted-while = &&-left (stepping_or_passing p.run) _ lift

      first-lifted : find Lifted p ≡ k
      first-lifted = eqb-true _ _ (&&-right (stepping_or_passing p.run) _ lift)

  unused : p.host ≡ 0 → NoBreakpoints p
  unused e k h = go (in_use (entry p k)) refl
    where
      go : (t : Bool) → in_use (entry p k) ≡ t → t ≡ false
      go true u = absurd (there-is-host k h u e)
      go false u = refl

  absent : p.there ≡ false → p.host ≡ 0
  unfolding absent_has_no_host
  absent e = eqb-true _ _ (rw e at (&&-left (absent_has_no_host p) _ others))

  pub passes-sound : Sound p
  passes-sound = record {
    sized = sized;
    absent = λ e. (absent e, unused (absent e));
    unhosted = unused;
    different = λ j k l h v u e. find-before (At (entry p k).address) p j (rw (first-there k h u) l) (at-matches (entry p k).address (entry p j) v e);
    even = even;
    within = within;
    one-lifted = λ j k l h v u a b. find-before Lifted p j (rw (first-lifted k h u b) l) (lifted-matches (entry p j) v a);
    lifted-while = lifted-while;
    owed = owed-host p.host p.session session-sound;
    watched = watcher-other p.host p.session session-sound;
    waiting = go-waits p.host p.session session-sound;
    set-by = set-by;
    counted = eqb-true _ _ (&&-left (eqb p.number (count_used p.breaks)) _ number-and-entries);
  }

-- ---- from the rule to the test

module _ (p : Process) (eight : length p.breaks ≡ 8) (s : Sound p) where
  -- no earlier entry has the address
  none-there : (k : ℕ) → k < 8 → in_use (entry p k) ≡ true → (j : ℕ) → j < k → matches (At (entry p k).address) (entry p j) ≡ false
  unfolding matches
  none-there k h u j l = go (in_use (entry p j)) refl
    where
      go : (t : Bool) → in_use (entry p j) ≡ t → t && eqb (entry p j).address (entry p k).address ≡ false
      go true v = ne_eqb _ _ (s.different j k l h v u)
      go false v = refl

  -- and none is lifted before one that is
  none-lifted : (k : ℕ) → k < 8 → in_use (entry p k) ≡ true → (entry p k).lifted ≡ true → (j : ℕ) → j < k → matches Lifted (entry p j) ≡ false
  unfolding matches
  none-lifted k h u m j l = go (in_use (entry p j)) refl (entry p j).lifted refl
    where
      go : (t : Bool) → in_use (entry p j) ≡ t → (v : Bool) → (entry p j).lifted ≡ v → t && v ≡ false
      go true e true f = absurd (s.one-lifted j k l h e u f m)
      go true e false f = refl
      go false e v f = refl

  module _ (k : ℕ) (h : k < 8) (u : in_use (entry p k) ≡ true) where
    lift-sound : lift_sound p k ≡ true
    unfolding lift_sound
    lift-sound = go (entry p k).lifted refl
      where
        go : (t : Bool) → (entry p k).lifted ≡ t → not t || (stepping_or_passing p.run && eqb (find Lifted p) k) ≡ true
        go true e =
            &&-both (stepping_or_passing p.run) (eqb (find Lifted p) k) (s.lifted-while k h u e)
            (eq-eqb _ _ (find-is Lifted p eight k h (lifted-matches (entry p k) u e) (none-lifted k h u e)))
        go false e = refl

    host-there : p.host ≡ 0 → ⊥
    host-there e = true≢false (sym u ∙ s.unhosted e k h)

    setter-sound : setter_sound p k ≡ true
    unfolding setter_sound
    setter-sound = go (s.set-by k h u)
      where
        go : DebugsOrWatches p (entry p k).setter
            → eqb (entry p k).setter p.host || (not (eqb (entry p k).setter 0) && eqb (entry p k).setter p.session.watcher) ≡ true
        go (inl d) = rw (eq-eqb _ _ d)
        go (inr w) = rw (ne_eqb _ _ w.0, eq-eqb _ _ w.1) (or-true (eqb (entry p k).setter p.host))

    sound_used : used_sound p k ≡ true
    unfolding used_sound valid_break_address
    sound_used =
        rw (
          ne_eqb _ _ host-there,
          setter-sound,
          eq-eqb _ _ (s.even k h u),
          le-leb _ _ (s.within k h u),
          eq-eqb _ _ (find-is (At (entry p k).address) p eight k h (at-matches _ (entry p k) u refl) (none-there k h u)),
        )
        lift-sound

  entry-sound : (k : ℕ) → k < 8 → entry_sound p k ≡ true
  unfolding entry_sound
  entry-sound k h = go (in_use (entry p k)) refl
    where
      go : (t : Bool) → in_use (entry p k) ≡ t → not t || used_sound p k ≡ true
      go true u = sound_used k h u
      go false u = refl

  pub sound-passes : sound_test p ≡ true
  unfolding sound_test keeps_rules absent_has_no_host valid_size
  sound-passes =
      let n = s.sized in
      rw (eq-eqb _ _ n.even, le-leb _ _ n.least, le-leb _ _ n.most, session-passes p.host p.session s.owed s.watched s.waiting, eq-eqb _ _ s.counted, below_all (entry_sound p) 8 entry-sound) (go p.there refl)
    where
      go : (t : Bool) → p.there ≡ t → (t || eqb p.host 0) && true ≡ true
      go true e = refl
      go false e = rw (eq-eqb _ _ (s.absent e).0)

pub test-is-sound : TestIsSound
test-is-sound = record { passes-sound = passes-sound; sound-passes = sound-passes }
