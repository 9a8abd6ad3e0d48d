-- One call on a sound state: it is refused, goes to no process, or changes one process; the state after it is sound. Assumes nothing.
use mathlib.Core.Path.{◌≡◌, refl, sym, ap, ◌∙◌, subst}
use mathlib.Core.Bool.{Bool, true, false, true≢false}
use mathlib.Core.List.{List}
use Prim.Native.Nat.{ℕ, zero, suc}
use borrow.Author.Tests.{eqb-true, eqb-false}
use lib.Dec.{eqb}
use Rattle.format.specs.Outcome.{first_failing}
use Rattle.process.specs.Local.{Local, Proper}
use Rattle.rules.specs.Rule.{public}
use Rattle.rules.specs.Tests.{State}
use Rattle.rules.specs.Access.{Output, Access, Place, nowhere, at_process, number_at, grants, refuses, reached, taken}
use Rattle.rules.specs.Step.{StepResult, local_of, put, Call, step}
use Rattle.rules.specs.Turn.{turn_of, buffers_of}
use Rattle.rules.specs.Ready.{Ready, NineWords, Worded, Typed}
use Rattle.rules.proofs.StateLaws.{local-proper, Changed, Fits, put-changed, put-ready}
pub use Rattle.rules.proofs.NumberLaws.{by-test}
use Rattle.rules.proofs.CallLaws.{There, Nowhere, Placed}
use Rattle.rules.proofs.LawfulLaws.{lawful}

-- what came of a call
pub data Done (s : State) (c : Call) (x : StepResult) : Type 0 where
  stays : (n : ℕ) (bytes : List ℕ) → x ≡ record { answer = refuses (suc n) bytes (buffers_of c); after = s } → Done s c x
  idles : (output : Output) → Nowhere c output → x ≡ record { answer = grants output (buffers_of c); after = s } → Done s c x
  acts : (p : ℕ) (a : Access) → There s c p a → number_at a (local_of s p) ≡ 0
      → x ≡ record { answer = grants (a.reply (local_of s p)) (buffers_of c); after = put p (a.effect (local_of s p)) s } → Done s c x

refused-done : (s : State) (c : Call) (number : ℕ) → eqb number 0 ≡ false → (bytes : List ℕ)
    → Done s c (record { answer = refuses number bytes (buffers_of c); after = s })
refused-done s c zero e bytes = absurd (true≢false e)
refused-done s c (suc n) e bytes = stays n bytes refl

place-done : (s : State) (c : Call) (place : Place) → Placed s c place → Done s c (reached place (buffers_of c) s)
unfolding reached Placed
place-done s c (nowhere output) n = idles output n refl
place-done s c (at_process p a) t =
    by-test (Done s c) (eqb (number_at a (local_of s p)) 0) (λ e. acts p a t (eqb-true _ 0 e) refl)
    (λ e. refused-done s c (number_at a (local_of s p)) e (a.refusal (local_of s p) (number_at a (local_of s p))))

pub done : (s : State) → Ready s → (c : Call) → Done s c (step s c)
unfolding taken
done s r c =
    let number = first_failing (turn_of s c).tests in
    subst (Done s c) (sym ((lawful c).turn s))
    (by-test (Done s c) (eqb number 0) (λ e. place-done s c (turn_of s c).place ((lawful c).placed s r (eqb-true number 0 e)))
    (λ e. refused-done s c number e ((turn_of s c).refusal number)))

-- what is left of the process is sound, and the other processes are as they were
module _ (s : State) (r : Ready s) (c : Call) (p : ℕ) (a : Access) (t : There s c p a) (z : number_at a (local_of s p) ≡ 0) where
  pub left-proper : Proper (a.effect (local_of s p))
  left-proper = t.fair.keeps (local_of s p) (local-proper s r p t.low) z

  left-fits : Fits s p (public (a.effect (local_of s p)).process)
  left-fits = subst (Fits s p) (sym (t.fair.publicly (local_of s p) z)) t.fits

  pub acts-changed : Changed s (put p (a.effect (local_of s p)) s) p (a.effect (local_of s p))
  acts-changed = put-changed s r p t.low (a.effect (local_of s p)) left-proper left-fits

  pub acts-ready : Ready (put p (a.effect (local_of s p)) s)
  acts-ready = put-ready s r p t.low (a.effect (local_of s p)) left-proper left-fits

pub step-ready : (s : State) → Ready s → (c : Call) → Ready (step s c).after
step-ready s r c = go (done s r c)
  where
    go : Done s c (step s c) → Ready (step s c).after
    go (stays number bytes e) = rw e r
    go (idles output n e) = rw e r
    go (acts p a t z e) = rw e (acts-ready s r c p a t z)

-- every vector keeps its nine words
module _ (s : State) (r : Ready s) (w : Worded s) (c : Call) (typed : Typed c) where
  acts-worded : (p : ℕ) (a : Access) → There s c p a → number_at a (local_of s p) ≡ 0 → Worded (put p (a.effect (local_of s p)) s)
  acts-worded p a t z q h = go (eqb q p) refl
    where
      after : State
      after = put p (a.effect (local_of s p)) s

      changed : Changed s after p (a.effect (local_of s p))
      changed = acts-changed s r c p a t z

      go : (b : Bool) → eqb q p ≡ b → NineWords (local_of after q).process
      go true e =
          subst (λ (l : Local). NineWords l.process) (sym (ap (local_of after) (eqb-true q p e) ∙ changed.here)) (t.words typed (local_of s p) (w p t.low))
      go false e = subst (λ (l : Local). NineWords l.process) (sym (changed.else q h (eqb-false q p e))) (w q h)

  pub step-worded : Worded (step s c).after
  step-worded = go (done s r c)
    where
      go : Done s c (step s c) → Worded (step s c).after
      go (stays number bytes e) = rw e w
      go (idles output n e) = rw e w
      go (acts p a t z e) = rw e (acts-worded p a t z)
