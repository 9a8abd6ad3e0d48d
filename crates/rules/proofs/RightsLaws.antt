-- What changes a process, and when a right begins and ends. Assumes nothing.
use mathlib.Core.Path.{◌≡◌, refl, sym, ap, ◌∙◌, subst}
use mathlib.Core.Bool.{Bool, true, false}
use mathlib.Core.List.{List, [], ◌∷◌}
use mathlib.Core.Logic.{◌⊎◌, inl, inr}
use Prim.Native.Nat.{ℕ, ◌<◌}
use borrow.Author.Tests.{eqb-true, eqb-false}
use lib.Dec.{eqb}
use Rattle.process.specs.Local.{Local}
use Rattle.rules.specs.Rule.{Public}
use Rattle.rules.specs.Tests.{State}
use lib.ListN.{get_or}
use Rattle.ops.specs.Codes.{CREATE, DEBUG}
use Rattle.rules.specs.Access.{Asker, nobody, by, insider, Access, grants, number_at}
use Rattle.rules.specs.Turn.{buffers_of}
use Rattle.rules.specs.Outsider.{only}
use Rattle.rules.specs.Step.{StepResult, local_of, put, Call, step}
use Rattle.rules.specs.Ready.{Ready}
use Rattle.rules.specs.Run.{final}
use Rattle.rules.specs.Isolation.{asker, subject, fields_of, is_granted, public_of}
use Rattle.rules.specs.Rights.{holder, Allowed, Creates, Reaches, MayChange, Begins, Ends, NoneEnds, NoneBegins, Rights}
use Rattle.rules.proofs.RuleLaws.{BeginsBy, EndsBy, Turns}
use Rattle.rules.proofs.AccessLaws.{May, outer-zero}
use Rattle.rules.proofs.CallLaws.{There}
use Rattle.rules.proofs.StepLaws.{Done, stays, idles, acts, done, acts-changed, step-ready}
use Rattle.rules.proofs.DebuggerLaws.{acts-public, acts-else}

-- who passes the tests may change the process, or leaves it as it is
may-allowed : (w : Asker) (u : Public) (a : Access) (then : Public → Public) → May w u a then → Allowed w u (then u) ⊎ ((l : Local) → a.effect l ≡ l)
unfolding May Allowed
may-allowed nobody u a then m = inl tt
may-allowed (by host) u a then (inl i) = inl (inl i)
may-allowed (by host) u a then (inr t) = go t.takes
  where
    go : ((v : Public) → insider (then v) host ≡ true) ⊎ ((l : Local) → a.effect l ≡ l)
        → ((insider u host ≡ true) ⊎ (insider (then u) host ≡ true)) ⊎ ((l : Local) → a.effect l ≡ l)
    go (inl f) = inl (inr (f u))
    go (inr same) = inr same

module _ (s : State) (r : Ready s) (c : Call) (p : ℕ) (a : Access) (t : There s c p a) (z : number_at a (local_of s p) ≡ 0) where
  acts-allowed : Allowed (asker c) (public_of s p) (public_of (put p (a.effect (local_of s p)) s) p) ⊎ ((l : Local) → a.effect l ≡ l)
  acts-allowed = rw (acts-public s r c p a t z) (may-allowed (asker c) (public_of s p) a t.then (t.fair.guarded (public_of s p) (outer-zero a (local_of s p) z)))

  acts-turns : Turns (asker c) (fields_of c) p (public_of s p) (public_of (put p (a.effect (local_of s p)) s) p)
  acts-turns = rw (acts-public s r c p a t z) (t.turns (outer-zero a (local_of s p) z))

-- the call reaches the process, as its answer tells
acts-reaches : (s : State) (c : Call) (p : ℕ) (a : Access) (t : There s c p a) → Reaches p c (grants (a.reply (local_of s p)) (buffers_of c))
acts-reaches s c p a t = go t.reaches
  where
    go : (subject (only p) c ≡ true) ⊎ ((fields_of c).cmd ≡ CREATE) → Reaches p c (grants (a.reply (local_of s p)) (buffers_of c))
    go (inl i) = inl i
    go (inr e) = inr (e, t.carries (local_of s p) e)

changes : (s : State) → Ready s → (c : Call) (p : ℕ) → p < 8 → (MayChange p s c → ⊥) → local_of (step s c).after p ≡ local_of s p
changes s r c p low out = go (done s r c)
  where
    go : Done s c (step s c) → local_of (step s c).after p ≡ local_of s p
    go (stays number bytes e) = rw e
    go (idles bytes n e) = rw e
    go (acts q a t z e) = at (eqb p q) refl
      where
        kept : Allowed (asker c) (public_of s q) (public_of (put q (a.effect (local_of s q)) s) q) ⊎ ((l : Local) → a.effect l ≡ l) → p ≡ q
            → local_of (step s c).after q ≡ local_of s q
        kept (inl may) same = absurd (out (subst (λ (k : ℕ). MayChange k s c) (sym same) rw e (acts-reaches s c q a t, may)))
        kept (inr idle) same = rw e ((acts-changed s r c q a t z).here ∙ idle (local_of s q))

        at : (b : Bool) → eqb p q ≡ b → local_of (step s c).after p ≡ local_of s p
        at true i =
            let same = eqb-true p q i in
            subst (λ (k : ℕ). local_of (step s c).after k ≡ local_of s k) (sym same) (kept (acts-allowed s r c q a t z) same)
        at false i = rw e ((acts-changed s r c q a t z).else p low (eqb-false p q i))

-- what a granted call turned at process p: the right to debug it, and the watch
pub record Turned (p : ℕ) (s : State) (c : Call) : Type 0 where
  pub granted : is_granted (step s c).answer.outcome ≡ true
  pub carries : (fields_of c).cmd ≡ CREATE → get_or (step s c).answer.buffer 5 0 ≡ p
  pub turns : Turns (asker c) (fields_of c) p (public_of s p) (public_of (step s c).after p)

-- the public part stays, or a granted call turned it
pub turned : (s : State) → Ready s → (c : Call) (p : ℕ) → p < 8 → (public_of (step s c).after p ≡ public_of s p) ⊎ Turned p s c
unfolding is_granted
turned s r c p low = go (done s r c)
  where
    go : Done s c (step s c) → (public_of (step s c).after p ≡ public_of s p) ⊎ Turned p s c
    go (stays number bytes e) = inl (rw e)
    go (idles bytes n e) = inl (rw e)
    go (acts q a t z e) = at (eqb p q) refl
      where
        at : (b : Bool) → eqb p q ≡ b → (public_of (step s c).after p ≡ public_of s p) ⊎ Turned p s c
        at true i =
            let same = eqb-true p q i in
            inr (record {
              granted = ap (λ (x : StepResult). is_granted x.answer.outcome) e;
              carries = λ i. rw (e, same) (t.carries (local_of s q) i);
              turns = subst (λ (k : ℕ). Turns (asker c) (fields_of c) k (public_of s k) (public_of (step s c).after k)) (sym same) (rw e (acts-turns s r c q a t z));
            })
        at false i = inl (rw e (acts-else s r c q a t z p (eqb-false p q i)))

turns : (s : State) → Ready s → (c : Call) (p : ℕ) → p < 8 → (holder (step s c).after p ≡ holder s p) ⊎ (Begins p s c ⊎ Ends p s c)
turns s r c p low = go (turned s r c p low)
  where
    op : ((fields_of c).cmd ≡ CREATE → get_or (step s c).answer.buffer 5 0 ≡ p) → (((fields_of c).cmd ≡ DEBUG) × ((fields_of c).pid ≡ p)) ⊎ ((fields_of c).cmd ≡ CREATE)
        → (((fields_of c).cmd ≡ DEBUG) × ((fields_of c).pid ≡ p)) ⊎ Creates p c (step s c).answer
    op n (inl d) = inl d
    op n (inr e) = inr (e, n e)

    begun : Turned p s c
        → (holder (step s c).after p ≡ holder s p)
        ⊎ (BeginsBy (asker c) (fields_of c) p (public_of s p) (public_of (step s c).after p) ⊎ EndsBy (asker c) (fields_of c) p (public_of s p) (public_of (step s c).after p))
        → (holder (step s c).after p ≡ holder s p) ⊎ (Begins p s c ⊎ Ends p s c)
    begun t (inl e) = inl e
    begun t (inr (inl b)) = inr (inl (record { granted = t.granted; op = op t.carries b.op; before = b.before; after = b.after }))
    begun t (inr (inr b)) = inr (inr (record { granted = t.granted; op = b.op; named = b.named; before = b.before; after = b.after }))

    go : (public_of (step s c).after p ≡ public_of s p) ⊎ Turned p s c → (holder (step s c).after p ≡ holder s p) ⊎ (Begins p s c ⊎ Ends p s c)
    go (inl e) = inl (ap (λ (u : Public). u.host) e)
    go (inr t) = begun t t.turns.debugs

-- ---- lists

held_one : (s : State) (c : Call) (p : ℕ) → (holder s p ≡ 0 → ⊥) → (Ends p s c → ⊥)
    → (holder (step s c).after p ≡ holder s p) ⊎ (Begins p s c ⊎ Ends p s c) → holder (step s c).after p ≡ holder s p
held_one s c p n out (inl e) = e
held_one s c p n out (inr (inl b)) = absurd (n b.before)
held_one s c p n out (inr (inr b)) = absurd (out b)

unheld-one : (s : State) (c : Call) (p : ℕ) → holder s p ≡ 0 → (Begins p s c → ⊥)
    → (holder (step s c).after p ≡ holder s p) ⊎ (Begins p s c ⊎ Ends p s c) → holder (step s c).after p ≡ 0
unheld-one s c p z out (inl e) = e ∙ z
unheld-one s c p z out (inr (inl b)) = absurd (out b)
unheld-one s c p z out (inr (inr b)) = b.after

held : (s : State) → Ready s → (l : List Call) (p : ℕ) → p < 8 → (holder s p ≡ 0 → ⊥) → NoneEnds p s l → holder (final s l) p ≡ holder s p
unfolding final NoneEnds
held s r [] p low n w = refl
held s r (c ∷ l) p low n w =
    let e = held_one s c p n w.0 (turns s r c p low) in
    held (step s c).after (step-ready s r c) l p low (λ z. n (sym e ∙ z)) w.1 ∙ e

unheld : (s : State) → Ready s → (l : List Call) (p : ℕ) → p < 8 → holder s p ≡ 0 → NoneBegins p s l → holder (final s l) p ≡ 0
unfolding final NoneBegins
unheld s r [] p low z w = z
unheld s r (c ∷ l) p low z w = unheld (step s c).after (step-ready s r c) l p low (unheld-one s c p z w.0 (turns s r c p low)) w.1

pub rights : Rights
rights = record { changes = changes; turns = turns; held = held; unheld = unheld }
