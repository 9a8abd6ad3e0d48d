-- Who is there and who debugs it, after any call: by the call and its answer alone. Assumes nothing.
use mathlib.Core.Path.{◌≡◌, refl, sym, ap, ◌∙◌}
use mathlib.Core.Bool.{Bool, true, false}
use Prim.Native.Nat.{ℕ}
use borrow.Author.Tests.{eqb-true, eqb-false, ltb-true, ltb-false}
use lib.Dec.{eqb, ltb}
use Rattle.process.specs.Local.{Local}
use Rattle.rules.specs.Rule.{public}
use Rattle.rules.specs.Tests.{State}
use Rattle.rules.specs.Access.{Access, number_at, grants}
use Rattle.rules.specs.Step.{local_of, put, Call, step}
use Rattle.rules.specs.Turn.{buffers_of}
use Rattle.rules.specs.Ready.{Ready}
use Rattle.rules.specs.Isolation.{is_granted, told_of, public_of, Debuggers}
use Rattle.rules.proofs.StateLaws.{public-past}
use Rattle.rules.proofs.CallLaws.{There}
use Rattle.rules.proofs.StepLaws.{Done, stays, idles, acts, done, acts-changed, acts-ready}

-- where a process changed
module _ (s : State) (r : Ready s) (c : Call) (p : ℕ) (a : Access) (t : There s c p a) (z : number_at a (local_of s p) ≡ 0) where
  pub acts-public : public_of (put p (a.effect (local_of s p)) s) p ≡ t.then (public_of s p)
  acts-public = ap (λ (l : Local). public l.process) (acts-changed s r c p a t z).here ∙ t.fair.publicly (local_of s p) z

  pub acts-else : (q : ℕ) → (q ≡ p → ⊥) → public_of (put p (a.effect (local_of s p)) s) q ≡ public_of s q
  acts-else q n = go (ltb q 8) refl
    where
      go : (b : Bool) → ltb q 8 ≡ b → public_of (put p (a.effect (local_of s p)) s) q ≡ public_of s q
      go true e = ap (λ (l : Local). public l.process) ((acts-changed s r c p a t z).else q (ltb-true q 8 e) n)
      go false e =
          let far = ltb-false q 8 e in
          public-past (put p (a.effect (local_of s p)) s) (acts-ready s r c p a t z) q far ∙ sym (public-past s r q far)

  acts-told : (q : ℕ) → public_of (put p (a.effect (local_of s p)) s) q ≡ told_of (public_of s) c (grants (a.reply (local_of s p)) (buffers_of c)) q
  acts-told q = go (eqb q p) refl
    where
      go : (b : Bool) → eqb q p ≡ b → public_of (put p (a.effect (local_of s p)) s) q ≡ told_of (public_of s) c (grants (a.reply (local_of s p)) (buffers_of c)) q
      go true e =
          let same = eqb-true q p e in
          ap (public_of (put p (a.effect (local_of s p)) s)) same
          ∙ acts-public
          ∙ ap (λ (k : ℕ). t.then (public_of s k)) (sym same)
          ∙ sym (t.told (public_of s) (local_of s p) q ∙ rw e)
      go false e = acts-else q (eqb-false q p e) ∙ sym (t.told (public_of s) (local_of s p) q ∙ rw e)

pub debuggers : Debuggers
unfolding Debuggers told_of is_granted
debuggers s r c q = go (done s r c)
  where
    go : Done s c (step s c) → public_of (step s c).after q ≡ told_of (public_of s) c (step s c).answer q
    go (stays number bytes e) = rw e
    go (idles bytes n e) = rw e (sym (n.told (public_of s) q))
    go (acts p a t z e) = rw e (acts-told s r c p a t z q)
