-- Who watches a process: when a watch begins and ends, and that who ended his debugging is out. Assumes nothing.
use mathlib.Core.Path.{◌≡◌, refl, sym, ap, ◌∙◌}
use mathlib.Core.Bool.{Bool, true, false}
use mathlib.Core.List.{List, [], ◌∷◌}
use mathlib.Core.Logic.{◌⊎◌, inl, inr}
use Prim.Native.Nat.{ℕ, ◌<◌}
use borrow.Author.Tests.{eq-eqb, ne_eqb, eqb-false}
use lib.Dec.{eqb}
use Rattle.ops.specs.Codes.{END-DEBUG}
use Rattle.rules.specs.Rule.{Public, public, names}
use Rattle.rules.specs.Tests.{State}
use Rattle.rules.specs.Access.{by, insider}
use Rattle.rules.specs.Step.{Call, step}
use Rattle.rules.specs.Ready.{Ready}
use Rattle.rules.specs.Run.{final}
use Rattle.rules.specs.Isolation.{asker, fields_of, public_then, told_of, public_of, Debuggers}
use Rattle.rules.specs.Rights.{holder, Begins, Ends}
use Rattle.rules.specs.Watch.{watcher_of, GrantedRequest, WatchBegins, WatchEnds, NoneEndsWatch, NoneBeginsWatch, Comes, NeverComes, IsOut}
use Rattle.rules.proofs.StateLaws.{each-sound}
use Rattle.rules.proofs.RuleLaws.{WatchedBy, UnwatchedBy}
use Rattle.rules.proofs.StepLaws.{step-ready}
use Rattle.rules.proofs.DebuggerLaws.{debuggers}
use Rattle.rules.proofs.RightsLaws.{Turned, turned, rights}

-- ---- one call

pub turns : (s : State) → Ready s → (c : Call) (p : ℕ) → p < 8 → (watcher_of (step s c).after p ≡ watcher_of s p) ⊎ (WatchBegins p s c ⊎ WatchEnds p s c)
turns s r c p low = go (turned s r c p low)
  where
    watch : Turned p s c
        → (watcher_of (step s c).after p ≡ watcher_of s p)
        ⊎ (WatchedBy (asker c) (fields_of c) p (public_of s p) (public_of (step s c).after p) ⊎ UnwatchedBy (asker c) (fields_of c) p (public_of s p) (public_of (step s c).after p))
        → (watcher_of (step s c).after p ≡ watcher_of s p) ⊎ (WatchBegins p s c ⊎ WatchEnds p s c)
    watch t (inl e) = inl e
    watch t (inr (inl b)) = inr (inl (record { watch = record { op = b.op; named = b.named; granted = t.granted }; before = b.before; after = b.after }))
    watch t (inr (inr b)) = inr (inr (record { by-whom = whom b.by-whom; after = b.after }))
      where
        asked : {cmd : ℕ} → (fields_of c).cmd ≡ cmd → GrantedRequest cmd p s c
        asked e = record { op = e; named = b.named; granted = t.granted }

        ended : {d e : ℕ} → ((fields_of c).cmd ≡ d) ⊎ ((fields_of c).cmd ≡ e) → GrantedRequest d p s c ⊎ GrantedRequest e p s c
        ended (inl i) = inl (asked i)
        ended (inr i) = inr (asked i)

        whom : {d e f v w : ℕ} → (((fields_of c).cmd ≡ d) × (asker c ≡ by v)) ⊎ ((((fields_of c).cmd ≡ e) ⊎ ((fields_of c).cmd ≡ f)) × (asker c ≡ by w))
            → (GrantedRequest d p s c × (asker c ≡ by v)) ⊎ ((GrantedRequest e p s c ⊎ GrantedRequest f p s c) × (asker c ≡ by w))
        whom (inl x) = inl (asked x.0, x.1)
        whom (inr x) = inr (ended x.0, x.1)

    go : (public_of (step s c).after p ≡ public_of s p) ⊎ Turned p s c → (watcher_of (step s c).after p ≡ watcher_of s p) ⊎ (WatchBegins p s c ⊎ WatchEnds p s c)
    go (inl e) = inl (ap (λ (u : Public). u.watcher) e)
    go (inr t) = watch t t.turns.watches

pub apart : (s : State) → Ready s → (p : ℕ) → p < 8 → (watcher_of s p ≡ 0 → ⊥) → (holder s p ≡ 0 → ⊥) × (watcher_of s p ≡ holder s p → ⊥)
unfolding public
apart s r p low = (each-sound s r p low).watched

-- ---- lists

pub kept : (s : State) → Ready s → (l : List Call) (p : ℕ) → p < 8 → (watcher_of s p ≡ 0 → ⊥) → NoneEndsWatch p s l → watcher_of (final s l) p ≡ watcher_of s p
unfolding final NoneEndsWatch
kept s r [] p low n w = refl
kept s r (c ∷ l) p low n w =
    let e = one (turns s r c p low) in
    kept (step s c).after (step-ready s r c) l p low (λ z. n (sym e ∙ z)) w.1 ∙ e
  where
    one : (watcher_of (step s c).after p ≡ watcher_of s p) ⊎ (WatchBegins p s c ⊎ WatchEnds p s c) → watcher_of (step s c).after p ≡ watcher_of s p
    one (inl e) = e
    one (inr (inl b)) = absurd (n b.before)
    one (inr (inr b)) = absurd (w.0 b)

pub stays-unwatched : (s : State) → Ready s → (l : List Call) (p : ℕ) → p < 8 → watcher_of s p ≡ 0 → NoneBeginsWatch p s l → watcher_of (final s l) p ≡ 0
unfolding final NoneBeginsWatch
stays-unwatched s r [] p low z w = z
stays-unwatched s r (c ∷ l) p low z w = stays-unwatched (step s c).after (step-ready s r c) l p low (one (turns s r c p low)) w.1
  where
    one : (watcher_of (step s c).after p ≡ watcher_of s p) ⊎ (WatchBegins p s c ⊎ WatchEnds p s c) → watcher_of (step s c).after p ≡ 0
    one (inl e) = e ∙ z
    one (inr (inl b)) = absurd (w.0 b)
    one (inr (inr b)) = b.after

-- ---- the seller

-- a host neither debugs nor watches process p
abbrev Neither : ℕ → ℕ → State → Type 0
Neither host p s = (holder s p ≡ host → ⊥) × (watcher_of s p ≡ host → ⊥)

-- so it may not see the inside, and 0 is no host
neither-out : (host p : ℕ) (s : State) → ((host ≡ 0 → ⊥) → Neither host p s) → IsOut host p s
unfolding insider
neither-out host p s n = go (eqb host 0) refl
  where
    go : (t : Bool) → eqb host 0 ≡ t → insider (public_of s p) host ≡ false
    go true e = rw e
    go false e = let x = n (eqb-false host 0 e) in rw (e, ne_eqb (holder s p) host x.0, ne_eqb (watcher_of s p) host x.1)

module _ (host p : ℕ) (low : p < 8) (named : host ≡ 0 → ⊥) where
  -- who is out stays out until he comes
  out_one : (s : State) → Ready s → (c : Call) → (Comes host p s c → ⊥) → Neither host p s → Neither host p (step s c).after
  unfolding Comes
  out_one s r c never out = (debugs (rights.turns s r c p low), watches (turns s r c p low))
    where
      debugs : (holder (step s c).after p ≡ holder s p) ⊎ (Begins p s c ⊎ Ends p s c) → holder (step s c).after p ≡ host → ⊥
      debugs (inl e) i = out.0 (sym e ∙ i)
      debugs (inr (inl b)) i = never (b.after ∙ ap by i, inl b)
      debugs (inr (inr b)) i = named (sym i ∙ b.after)

      watches : (watcher_of (step s c).after p ≡ watcher_of s p) ⊎ (WatchBegins p s c ⊎ WatchEnds p s c) → watcher_of (step s c).after p ≡ host → ⊥
      watches (inl e) i = out.1 (sym e ∙ i)
      watches (inr (inl b)) i = never (b.after ∙ ap by i, inr b)
      watches (inr (inr b)) i = named (sym i ∙ b.after)

  out-all : (l : List Call) (s : State) → Ready s → Neither host p s → NeverComes host p s l → Neither host p (final s l)
  unfolding final NeverComes
  out-all [] s r out w = out
  out-all (c ∷ l) s r out w = out-all l (step s c).after (step-ready s r c) (out_one s r c w.0 out) w.1

-- after a granted END DEBUG nobody debugs the process, and nobody watches it
ended-public : (s : State) → Ready s → (p : ℕ) → (c : Call) → GrantedRequest END-DEBUG p s c → public_of (step s c).after p ≡ public_then END-DEBUG (fields_of c).host (public_of s p)
unfolding Debuggers told_of names
ended-public s r p c x = debuggers s r c p ∙ rw (x.granted, x.op, x.named, eq-eqb p p refl)

pub seller : (s : State) → Ready s → (host p : ℕ) → p < 8 → (c : Call) → GrantedRequest END-DEBUG p s c
    → (l : List Call) → NeverComes host p (step s c).after l → IsOut host p (final (step s c).after l)
unfolding public_then
seller s r host p low c x l never =
    let after = ended-public s r p c x in
    neither-out host p (final (step s c).after l)
    (λ named. out-all host p low named l (step s c).after (step-ready s r c)
    ((λ e. named (sym e ∙ ap (λ (u : Public). u.host) after)), (λ e. named (sym e ∙ ap (λ (u : Public). u.watcher) after))) never)
