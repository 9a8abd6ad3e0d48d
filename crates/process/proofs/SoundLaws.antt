-- What keeps a record sound. Assumes nothing.
use mathlib.Core.Path.{◌≡◌, refl, sym, ap, ◌∙◌}
use mathlib.Core.Bool.{Bool, true, false, true≢false}
use mathlib.Core.List.{List}
use mathlib.Core.Logic.{◌⊎◌, inl, inr, ⊎_elim}
use Prim.Native.Nat.{ℕ, ◌+◌, ◌≤◌, ◌<◌, ◌%◌}
use native.Mathlib.Nat.{lt_irrefl}
use native.Mathlib.Omega.{arith}
use borrow.Author.Tests.{eqb-true, eqb-false, ltb-true, ltb-false}
use lib.ListN.{length, get_or, set, get_or-replicate}
use lib.Seq.{get_or-set_same, get_or-set_other}
use lib.Dec.{eqb, ltb}
use Rattle.run_state.specs.declared.Run.{Run}
use Rattle.session.specs.declared.Owed.{Owed}
use Rattle.session.specs.declared.Go.{Go}
use Rattle.session.specs.Session.{text_host, pup_host, owes}
use Rattle.breakpoints.specs.declared.entry.Breakpoint.{Breakpoint}
use Rattle.process.specs.declared.record.Process.{Process}
use Rattle.breakpoints.specs.Entry.{free, in_use}
use Rattle.process.specs.Record.{no_breaks, entry, count_used, with_host, with_run, with_vector, with_breaks, with_number, recounted, with_entry, owing, watched_by, going}
use Rattle.process.specs.Sound.{Sound, SizeRight, NoBreakpoints, DebugsOrWatches}
use Rattle.run_state.specs.RunState.{stepping_or_passing}
use Rattle.process.proofs.CountLaws.{count_none}

-- ---- fields other than the entries

pub sound-vector : (v : List ℕ) (p : Process) → Sound p → Sound (with_vector v p)
sound-vector v p s = record {
  sized = s.sized;
  absent = s.absent;
  unhosted = s.unhosted;
  different = s.different;
  even = s.even;
  within = s.within;
  one-lifted = s.one-lifted;
  lifted-while = s.lifted-while;
  owed = s.owed;
  watched = s.watched;
  waiting = s.waiting;
  set-by = s.set-by;
  counted = s.counted;
}

-- a run state in which what is lifted may be
pub sound-run : (r : Run) (p : Process) → ((k : ℕ) → k < 8 → in_use (entry p k) ≡ true → (entry p k).lifted ≡ true → stepping_or_passing r ≡ true) → Sound p → Sound (with_run r p)
sound-run r p m s = record {
  sized = s.sized;
  absent = s.absent;
  unhosted = s.unhosted;
  different = s.different;
  even = s.even;
  within = s.within;
  one-lifted = s.one-lifted;
  lifted-while = m;
  owed = s.owed;
  watched = s.watched;
  waiting = s.waiting;
  set-by = s.set-by;
  counted = s.counted;
}

-- an owed answer that may be owed to the host
pub sound-owing : (o : Owed) (p : Process) → (owes o ≡ true → p.host ≡ text_host) → Sound p → Sound (owing o p)
sound-owing o p e s = record {
  sized = s.sized;
  absent = s.absent;
  unhosted = s.unhosted;
  different = s.different;
  even = s.even;
  within = s.within;
  one-lifted = s.one-lifted;
  lifted-while = s.lifted-while;
  owed = e;
  watched = s.watched;
  waiting = s.waiting;
  set-by = s.set-by;
  counted = s.counted;
}

-- a Go that may wait
pub sound-going : (g : Go) (p : Process) → (g.waits ≡ true → (p.host ≡ pup_host) × (g.ticks ≤ 99)) → Sound p → Sound (going g p)
sound-going g p e s = record {
  sized = s.sized;
  absent = s.absent;
  unhosted = s.unhosted;
  different = s.different;
  even = s.even;
  within = s.within;
  one-lifted = s.one-lifted;
  lifted-while = s.lifted-while;
  owed = s.owed;
  watched = s.watched;
  waiting = e;
  set-by = s.set-by;
  counted = s.counted;
}

-- a watcher of a process that another host debugs, where nobody or the same watched before
pub sound-watched : (host : ℕ) (p : Process) → Sound p → (p.host ≡ 0 → ⊥) → (host ≡ p.host → ⊥) → (p.session.watcher ≡ 0) ⊎ (p.session.watcher ≡ host) → Sound (watched_by host p)
sound-watched host p s n m b = record {
  sized = s.sized;
  absent = s.absent;
  unhosted = s.unhosted;
  different = s.different;
  even = s.even;
  within = s.within;
  one-lifted = s.one-lifted;
  lifted-while = s.lifted-while;
  owed = s.owed;
  watched = λ w. (n, m);
  waiting = s.waiting;
  set-by = λ k h u. go (s.set-by k h u) b;
  counted = s.counted;
}
  where
    go : {x : ℕ} → DebugsOrWatches p x → (p.session.watcher ≡ 0) ⊎ (p.session.watcher ≡ host) → DebugsOrWatches (watched_by host p) x
    go (inl d) b = inl d
    go (inr w) (inl z) = absurd (w.0 (w.1 ∙ z))
    go (inr w) (inr q) = inr (w.0, w.1 ∙ q)

-- nobody watches any more, where the host set every breakpoint
pub sound-unwatched : (p : Process) → Sound p → ((k : ℕ) → k < 8 → in_use (entry p k) ≡ true → (entry p k).setter ≡ p.host) → Sound (watched_by 0 p)
sound-unwatched p s his = record {
  sized = s.sized;
  absent = s.absent;
  unhosted = s.unhosted;
  different = s.different;
  even = s.even;
  within = s.within;
  one-lifted = s.one-lifted;
  lifted-while = s.lifted-while;
  owed = s.owed;
  watched = λ w. absurd (w refl);
  waiting = s.waiting;
  set-by = λ k h u. inl (his k h u);
  counted = s.counted;
}

-- what is owed to nobody, or to the same host as before, may be owed to the host
owed-to : (h : ℕ) (p : Process) → (p.host ≡ 0) ⊎ (p.host ≡ h) → Sound p → owes p.session.owed ≡ true → h ≡ text_host
owed-to h p (inl z) s o = let e = s.owed o in absurd (omega (arith, z, e))
owed-to h p (inr q) s o = sym q ∙ s.owed o

-- and who watched, or set a breakpoint, of one that nobody or the same host debugged
watched-beside : (h : ℕ) (p : Process) → (h ≡ 0 → ⊥) → (p.host ≡ 0) ⊎ (p.host ≡ h) → Sound p → (p.session.watcher ≡ 0 → ⊥) → (h ≡ 0 → ⊥) × (p.session.watcher ≡ h → ⊥)
watched-beside h p n (inl z) s w = absurd ((s.watched w).0 z)
watched-beside h p n (inr q) s w = (n, λ e. (s.watched w).1 (e ∙ sym q))

-- a Go waits only where host 254 debugs, so that he is the same
waiting-still : (h : ℕ) (p : Process) → (p.host ≡ 0) ⊎ (p.host ≡ h) → Sound p → p.session.go.waits ≡ true → (h ≡ pup_host) × (p.session.go.ticks ≤ 99)
waiting-still h p (inl z) s w = let e = (s.waiting w).0 in absurd (omega (arith, z, e))
waiting-still h p (inr q) s w = (sym q ∙ (s.waiting w).0, (s.waiting w).1)

set-by-same : (h : ℕ) (p : Process) → (p.host ≡ 0) ⊎ (p.host ≡ h) → Sound p → (k : ℕ) → k < 8 → in_use (entry p k) ≡ true → DebugsOrWatches (with_host h p) (entry p k).setter
set-by-same h p (inl z) s k l u = absurd (true≢false (sym u ∙ s.unhosted z k l))
set-by-same h p (inr q) s k l u = ⊎_elim (λ e. inl (e ∙ q)) (λ w. inr w) (s.set-by k l u)

-- a host for a process that is there, which nobody or the same host debugged before
pub sound-host : (h : ℕ) (p : Process) → p.there ≡ true → (h ≡ 0 → ⊥) → (p.host ≡ 0) ⊎ (p.host ≡ h) → Sound p → Sound (with_host h p)
sound-host h p t n b s = record {
  sized = s.sized;
  absent = λ e. absurd (true≢false (sym t ∙ e));
  unhosted = λ e. absurd (n e);
  different = s.different;
  even = s.even;
  within = s.within;
  one-lifted = s.one-lifted;
  lifted-while = s.lifted-while;
  owed = owed-to h p b s;
  watched = watched-beside h p n b s;
  waiting = waiting-still h p b s;
  set-by = set-by-same h p b s;
  counted = s.counted;
}

-- ---- no breakpoints at all

no-entry : (k : ℕ) → k < 8 → in_use (get_or no_breaks k free) ≡ false
no-entry k h = ap (λ (b : Breakpoint). in_use b) (get_or-replicate 8 k free free h)

-- a record with free entries, their number, nothing owed, no watcher and no Go that waits is sound, if an absent one has no host
pub sound-free : (p : Process) → SizeRight p.size → p.breaks ≡ no_breaks → p.number ≡ 0 → owes p.session.owed ≡ false → p.session.watcher ≡ 0
    → p.session.go.waits ≡ false → (p.there ≡ false → p.host ≡ 0) → Sound p
sound-free p n e z o w g a =
    let none : NoBreakpoints p = λ k h. rw e (no-entry k h) in
    let never : (k : ℕ) → k < 8 → in_use (entry p k) ≡ true → ⊥ = λ k h u. true≢false (sym u ∙ none k h) in
    record {
      sized = n;
      absent = λ t. (a t, none);
      unhosted = λ q. none;
      different = λ j k l h v u q. never k h u;
      even = λ k h u. absurd (never k h u);
      within = λ k h u. absurd (never k h u);
      one-lifted = λ j k l h v u x y. never k h u;
      lifted-while = λ k h u x. absurd (never k h u);
      owed = λ i. absurd (true≢false (sym i ∙ o));
      watched = λ i. absurd (i w);
      waiting = λ i. absurd (true≢false (sym i ∙ g));
      set-by = λ k h u. absurd (never k h u);
      counted = rw (z, e) (sym count_none);
    }

-- ---- entries that are alike

-- two entries that differ in count and saved word at the most
pub record Alike (b c : Breakpoint) : Type 0 where
  pub used : in_use b ≡ in_use c
  pub lifted : b.lifted ≡ c.lifted
  pub address : b.address ≡ c.address
  pub setter : b.setter ≡ c.setter

-- a record whose entries are alike, with as many in use, is as sound
pub sound-alike : (bs : List Breakpoint) (p : Process) → ((k : ℕ) → k < 8 → Alike (get_or bs k free) (entry p k)) → count_used bs ≡ count_used p.breaks → Sound p → Sound (with_breaks bs p)
sound-alike bs p a n s = record {
  sized = s.sized;
  absent = λ t. ((s.absent t).0, λ k h. (a k h).used ∙ (s.absent t).1 k h);
  unhosted = λ z k h. (a k h).used ∙ s.unhosted z k h;
  different = λ j k l h v u e.
      let b = a j (omega arith) in
      let c = a k h in
      s.different j k l h (sym b.used ∙ v) (sym c.used ∙ u) (sym b.address ∙ e ∙ c.address);
  even = λ k h u. rw (a k h).address (s.even k h (sym (a k h).used ∙ u));
  within = λ k h u. rw (a k h).address (s.within k h (sym (a k h).used ∙ u));
  one-lifted = λ j k l h v u x y.
      let b = a j (omega arith) in
      let c = a k h in
      s.one-lifted j k l h (sym b.used ∙ v) (sym c.used ∙ u) (sym b.lifted ∙ x) (sym c.lifted ∙ y);
  lifted-while = λ k h u x. s.lifted-while k h (sym (a k h).used ∙ u) (sym (a k h).lifted ∙ x);
  owed = s.owed;
  watched = s.watched;
  waiting = s.waiting;
  set-by = λ k h u. rw (a k h).setter (s.set-by k h (sym (a k h).used ∙ u));
  counted = s.counted ∙ sym n;
}

-- ---- fewer breakpoints

-- a record is as sound with each breakpoint as it was, or gone, and their number
module _ (bs : List Breakpoint) (p : Process) (same : (k : ℕ) → k < 8 → in_use (get_or bs k free) ≡ true → get_or bs k free ≡ entry p k) (s : Sound p) where
  was-used : (k : ℕ) → k < 8 → in_use (get_or bs k free) ≡ true → in_use (entry p k) ≡ true
  was-used k h u = sym (ap (λ (b : Breakpoint). in_use b) (same k h u)) ∙ u

  none-fewer : p.host ≡ 0 → NoBreakpoints (with_breaks bs p)
  none-fewer z k h = go (in_use (get_or bs k free)) refl
    where
      go : (t : Bool) → in_use (get_or bs k free) ≡ t → t ≡ false
      go true u = absurd (true≢false (sym (was-used k h u) ∙ s.unhosted z k h))
      go false u = refl

  pub sound-fewer : Sound (recounted (with_breaks bs p))
  sound-fewer = record {
    sized = s.sized;
    absent = λ t. ((s.absent t).0, none-fewer (s.absent t).0);
    unhosted = none-fewer;
    different = λ j k l h v u.
        let i : j < 8 = omega arith in
        rw (same j i v, same k h u) (s.different j k l h (was-used j i v) (was-used k h u));
    even = λ k h u. rw (same k h u) (s.even k h (was-used k h u));
    within = λ k h u. rw (same k h u) (s.within k h (was-used k h u));
    one-lifted = λ j k l h v u.
        let i : j < 8 = omega arith in
        rw (same j i v, same k h u) (s.one-lifted j k l h (was-used j i v) (was-used k h u));
    lifted-while = λ k h u. rw (same k h u) (s.lifted-while k h (was-used k h u));
    owed = s.owed;
    watched = s.watched;
    waiting = s.waiting;
    set-by = λ k h u. rw (same k h u) (s.set-by k h (was-used k h u));
    counted = refl;
  }

-- ---- another breakpoint in one entry

-- what the rules ask of a breakpoint by itself
pub record Kept (p : Process) (b : Breakpoint) : Type 0 where
  pub hosted : p.host ≡ 0 → ⊥
  pub even : b.address % 2 ≡ 0
  pub within : b.address + 2 ≤ p.size
  pub lifted-while : b.lifted ≡ true → stepping_or_passing p.run ≡ true
  pub set-by : DebugsOrWatches p b.setter

-- and of two
pub record Apart (b c : Breakpoint) : Type 0 where
  pub different : b.address ≡ c.address → ⊥
  pub one-lifted : b.lifted ≡ true → c.lifted ≡ true → ⊥

flip : {b c : Breakpoint} → Apart b c → Apart c b
flip a = record { different = λ e. a.different (sym e); one-lifted = λ x y. a.one-lifted y x }

-- what a sound record says of them
pub sound-kept : (p : Process) → Sound p → (k : ℕ) → k < 8 → in_use (entry p k) ≡ true → Kept p (entry p k)
sound-kept p s k h u = record {
  hosted = λ e. true≢false (sym u ∙ s.unhosted e k h);
  even = s.even k h u;
  within = s.within k h u;
  lifted-while = s.lifted-while k h u;
  set-by = s.set-by k h u;
}

pub sound-apart : (p : Process) → Sound p → (j k : ℕ) → j < 8 → k < 8 → (j ≡ k → ⊥) → in_use (entry p j) ≡ true → in_use (entry p k) ≡ true → Apart (entry p j) (entry p k)
sound-apart p s j k i h n v u = go (ltb j k) refl
  where
    go : (t : Bool) → ltb j k ≡ t → Apart (entry p j) (entry p k)
    go true e =
        let l = ltb-true j k e in
        record { different = s.different j k l h v u; one-lifted = s.one-lifted j k l h v u }
    go false e =
        let l : k < j = omega (arith, ltb-false j k e) in
        flip (record { different = s.different k j l i u v; one-lifted = s.one-lifted k j l i u v })

module _ (p : Process) (s : Sound p) (eight : length p.breaks ≡ 8) (k : ℕ) (h : k < 8) (b : Breakpoint)
    (kept : in_use b ≡ true → Kept p b) (apart : (j : ℕ) → j < 8 → (j ≡ k → ⊥) → in_use (entry p j) ≡ true → in_use b ≡ true → Apart (entry p j) b) where
  abbrev changed : Process
  changed = with_entry k b p

  same : entry changed k ≡ b
  same = get_or-set_same p.breaks k b free (omega arith)

  other : (j : ℕ) → (j ≡ k → ⊥) → entry changed j ≡ entry p j
  other j n = get_or-set_other p.breaks k j b free n

  kept_at : (j : ℕ) → j < 8 → in_use (entry changed j) ≡ true → Kept changed (entry changed j)
  kept_at j l u = go (eqb j k) refl
    where
      to : (c : Breakpoint) → Kept p c → Kept changed c
      to c x = record { hosted = x.hosted; even = x.even; within = x.within; lifted-while = x.lifted-while; set-by = x.set-by }

      go : (t : Bool) → eqb j k ≡ t → Kept changed (entry changed j)
      go true e = let q : entry changed j ≡ b = rw (eqb-true j k e) same in rw q (to b (kept (rw q at u)))
      go false e = let q = other j (eqb-false j k e) in rw q (to (entry p j) (sound-kept p s j l (rw q at u)))

  apart-at : (i j : ℕ) → i < j → j < 8 → in_use (entry changed i) ≡ true → in_use (entry changed j) ≡ true → Apart (entry changed i) (entry changed j)
  apart-at i j l m u v = go (eqb i k) refl (eqb j k) refl
    where
      go : (t : Bool) → eqb i k ≡ t → (r : Bool) → eqb j k ≡ r → Apart (entry changed i) (entry changed j)
      go true e true f = absurd (lt_irrefl k (rw (eqb-true i k e, eqb-true j k f) at l))
      go true e false f =
          let q : entry changed i ≡ b = rw (eqb-true i k e) same in
          let n = eqb-false j k f in
          let r = other j n in
          rw (q, r) (flip (apart j m n (rw r at v) (rw q at u)))
      go false e true f =
          let q : entry changed j ≡ b = rw (eqb-true j k f) same in
          let n = eqb-false i k e in
          let r = other i n in
          rw (r, q) (apart i (omega arith) n (rw r at u) (rw q at v))
      go false e false f =
          let q = other i (eqb-false i k e) in
          let r = other j (eqb-false j k f) in
          rw (q, r) (sound-apart p s i j (omega arith) m (λ z. lt_irrefl j (rw z at l)) (rw q at u) (rw r at v))

  none-at : p.host ≡ 0 → NoBreakpoints changed
  none-at z j l = go (in_use (entry changed j)) refl
    where
      go : (t : Bool) → in_use (entry changed j) ≡ t → t ≡ false
      go true u = absurd ((kept_at j l u).hosted z)
      go false u = refl

  -- with the number of breakpoints that there are then
  pub sound-entry : (n : ℕ) → n ≡ count_used (set p.breaks k b) → Sound (with_number n (with_entry k b p))
  sound-entry n q = record {
    sized = s.sized;
    absent = λ t. ((s.absent t).0, none-at (s.absent t).0);
    unhosted = none-at;
    different = λ i j l m u v. (apart-at i j l m u v).different;
    even = λ j l u. (kept_at j l u).even;
    within = λ j l u. (kept_at j l u).within;
    one-lifted = λ i j l m u v. (apart-at i j l m u v).one-lifted;
    lifted-while = λ j l u. (kept_at j l u).lifted-while;
    owed = s.owed;
    watched = s.watched;
    waiting = s.waiting;
    set-by = λ j l u. (kept_at j l u).set-by;
    counted = q;
  }
