-- Laws of sessions: a number and its owed answer are each other's inverse, when one may be owed, who may watch, and when a Go may wait. Assumes nothing.
use mathlib.Core.Path.{◌≡◌, refl}
use mathlib.Core.Bool.{Bool, true, false, not, ◌&&◌, ◌||◌}
use Prim.Native.Nat.{ℕ, zero, suc, ◌≤◌}
use native.Mathlib.Omega.{arith}
use borrow.Author.Tests.{leb-true, le-leb, eqb-true, eqb-false, eq-eqb, ne_eqb, not-true}
use lib.Dec.{eqb, leb}
use Rattle.lists.proofs.Bool.{&&-left, &&-right, &&-both}
use Rattle.session.specs.declared.Owed.{Owed}
use Rattle.session.specs.declared.Owed.TheVariants.{Nothing, Continue, Step}
use Rattle.session.specs.declared.Session.{Session}
use Rattle.session.specs.Session.{text_host, pup_host, owed_number, is_owed_number, owed_of, owes, no_session, owed_sound, watcher_sound, go_sound, session_sound}

-- ---- numbers

pub owed_back : (o : Owed) → owed_of (owed_number o) ≡ o
unfolding owed_of
owed_back Nothing = refl
owed_back Continue = refl
owed_back Step = refl

pub owed-formed : (o : Owed) → is_owed_number (owed_number o) ≡ true
owed-formed Nothing = refl
owed-formed Continue = refl
owed-formed Step = refl

pub owed-forth : (x : ℕ) → is_owed_number x ≡ true → owed_number (owed_of x) ≡ x
unfolding owed_of
owed-forth zero e = refl
owed-forth (suc zero) e = refl
owed-forth (suc (suc zero)) e = refl
owed-forth (suc (suc (suc x))) e = absurd (omega (arith, leb-true (suc (suc (suc x))) 2 e))

-- ---- when one may be owed, and who may watch

module _ (host : ℕ) (s : Session) where
  -- 'none is owed unless host 253 debugs it', from the test
  pub owed-host : session_sound host s ≡ true → owes s.owed ≡ true → host ≡ text_host
  unfolding session_sound owed_sound
  owed-host e o = eqb-true host text_host (rw o at (&&-left (not (owes s.owed) || eqb host text_host) (watcher_sound host s && go_sound host s) e))

  -- and the test from it
  owed-passes : (owes s.owed ≡ true → host ≡ text_host) → owed_sound host s ≡ true
  unfolding owed_sound
  owed-passes f = go (owes s.owed) refl
    where
      go : (t : Bool) → owes s.owed ≡ t → (not t || eqb host text_host) ≡ true
      go true e = eq-eqb host text_host (f e)
      go false e = refl

  -- 'the one watcher of a process another host debugs', from the test
  pub watcher-other : session_sound host s ≡ true → (s.watcher ≡ 0 → ⊥) → (host ≡ 0 → ⊥) × (s.watcher ≡ host → ⊥)
  unfolding session_sound watcher_sound
  watcher-other e n =
      let both = rw (ne_eqb s.watcher 0 n) at (&&-left (watcher_sound host s) (go_sound host s) (&&-right (owed_sound host s) (watcher_sound host s && go_sound host s) e)) in (
        eqb-false host 0 (not-true (eqb host 0) (&&-left (not (eqb host 0)) (not (eqb s.watcher host)) both)),
        eqb-false s.watcher host (not-true (eqb s.watcher host) (&&-right (not (eqb host 0)) (not (eqb s.watcher host)) both)),
      )

  -- and the test from it
  watcher-passes : ((s.watcher ≡ 0 → ⊥) → (host ≡ 0 → ⊥) × (s.watcher ≡ host → ⊥)) → watcher_sound host s ≡ true
  unfolding watcher_sound
  watcher-passes f = go (eqb s.watcher 0) refl
    where
      go : (t : Bool) → eqb s.watcher 0 ≡ t → t || (not (eqb host 0) && not (eqb s.watcher host)) ≡ true
      go true e = refl
      go false e = let o = f (eqb-false s.watcher 0 e) in rw (ne_eqb host 0 o.0, ne_eqb s.watcher host o.1)

  -- 'A Go waits only while host 254 debugs the process, with at most 99 ticks counted', from the test
  pub go-waits : session_sound host s ≡ true → s.go.waits ≡ true → (host ≡ pup_host) × (s.go.ticks ≤ 99)
  unfolding session_sound go_sound
  go-waits e w =
      let both = rw w at (&&-right (watcher_sound host s) (go_sound host s) (&&-right (owed_sound host s) (watcher_sound host s && go_sound host s) e)) in
      (eqb-true host pup_host (&&-left (eqb host pup_host) (leb s.go.ticks 99) both), leb-true s.go.ticks 99 (&&-right (eqb host pup_host) (leb s.go.ticks 99) both))

  -- and the test from it
  go-passes : (s.go.waits ≡ true → (host ≡ pup_host) × (s.go.ticks ≤ 99)) → go_sound host s ≡ true
  unfolding go_sound
  go-passes f = go s.go.waits refl
    where
      go : (t : Bool) → s.go.waits ≡ t → not t || (eqb host pup_host && leb s.go.ticks 99) ≡ true
      go true e = let o = f e in rw (eq-eqb host pup_host o.0, le-leb s.go.ticks 99 o.1)
      go false e = refl

  -- all three tests, from what they ask
  pub session-passes : (owes s.owed ≡ true → host ≡ text_host) → ((s.watcher ≡ 0 → ⊥) → (host ≡ 0 → ⊥) × (s.watcher ≡ host → ⊥))
      → (s.go.waits ≡ true → (host ≡ pup_host) × (s.go.ticks ≤ 99)) → session_sound host s ≡ true
  unfolding session_sound
  session-passes f g h =
      &&-both (owed_sound host s) (watcher_sound host s && go_sound host s) (owed-passes f) (&&-both (watcher_sound host s) (go_sound host s) (watcher-passes g) (go-passes h))

  -- where another host debugs it, or none, nothing is owed
  pub none-owed : session_sound host s ≡ true → (host ≡ text_host → ⊥) → owes s.owed ≡ false
  none-owed e n = go (owes s.owed) refl
    where
      go : (t : Bool) → owes s.owed ≡ t → t ≡ false
      go true i = absurd (n (owed-host e i))
      go false i = refl

-- a process without a session may have any host
pub none-sound : (host : ℕ) → session_sound host no_session ≡ true
unfolding session_sound owed_sound watcher_sound go_sound
none-sound host = refl
