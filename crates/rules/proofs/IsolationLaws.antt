-- One call, seen by hosts that debug none of some processes: what is struck or passed over they do not notice, what stays they are answered
-- alike on two states that differ in these processes alone, and their own calls that name one of them leave no trace. Assumes nothing.
use mathlib.Core.Path.{◌≡◌, refl, sym, ap, ◌∙◌, subst}
use mathlib.Core.Bool.{Bool, true, false, not, cond, ◌&&◌, true≢false}
use mathlib.Core.List.{List, [], ◌∷◌}
use mathlib.Core.Logic.{◌⊎◌, inl, inr}
use Prim.Native.Nat.{ℕ, suc, ◌<◌}
use borrow.Author.Tests.{eqb-true, eqb-false, not-true}
use lib.Dec.{eqb}
use Rattle.lists.proofs.Bool.{&&-left, &&-right}
use Rattle.format.specs.Outcome.{length_of, first_failing}
use Rattle.process.specs.Local.{Local, Proper}
use Rattle.rules.specs.Rule.{Public, public}
use Rattle.rules.specs.Tests.{State}
use Rattle.rules.specs.Access.{Asker, nobody, by, insider, Access, Place, nowhere, at_process, Turn, number_at, reached, taken}
use Rattle.rules.specs.Window.{Buffers}
use Rattle.rules.specs.Step.{Answer, StepResult, local_of, put, Call, step}
use Rattle.rules.specs.Turn.{turn_of, buffers_of}
use Rattle.rules.specs.Ready.{Ready}
use Rattle.rules.specs.Run.{trace_item}
use Rattle.rules.specs.Isolation.{Hosts, Processes, noticed, line_sent, asker, subject, event, passed_over, is_one, public_of, Debuggers, sent_to, part, struck, without_data, Apart, NoneDebugs, theirs}
use Rattle.rules.proofs.StateLaws.{local-proper, Changed, Fits, unchanged, fits-shown, put-changed, put_same}
use Rattle.rules.proofs.AccessLaws.{said_at, left_at, Taking, May, Discreet, Fair, outer-zero, said-stranger, left-alike, quiet, refusal-quiet}
use Rattle.rules.proofs.CallLaws.{Silent, There, Placed}
use Rattle.rules.proofs.LawfulLaws.{lawful}
use Rattle.rules.proofs.StepLaws.{by-test, Done, stays, idles, acts, done, acts-changed}
use Rattle.rules.proofs.DebuggerLaws.{acts-public, debuggers}

-- ---- states

pub apart-same : (P : Processes) (s : State) → Apart P s s
apart-same P s = record { shown = λ p h. refl; others = λ p h n. refl }

pub apart-back : (P : Processes) (s t : State) → Apart P s t → Apart P t s
apart-back P s t a = record { shown = λ p h. sym (a.shown p h); others = λ p h n. sym (a.others p h n) }

pub free-apart : (H : Hosts) (P : Processes) (s t : State) → Apart P s t → NoneDebugs H P s → NoneDebugs H P t
free-apart H P s t a f p h e host i = ap (λ (u : Public). insider u host) (sym (a.shown p h)) ∙ f p h e host i

-- two states that changed at one process
apart-changed : (P : Processes) (s₁ t₁ s₂ t₂ : State) (p : ℕ) (l₁ l₂ : Local) → p < 8 → Changed s₁ t₁ p l₁ → Changed s₂ t₂ p l₂ → Apart P s₁ s₂
    → public l₁.process ≡ public l₂.process → (P p ≡ false → l₁ ≡ l₂) → Apart P t₁ t₂
apart-changed P s₁ t₁ s₂ t₂ p l₁ l₂ low c₁ c₂ a shown same = record {
  shown = λ k h. shown-at k h (eqb k p) refl;
  others = λ k h n. others-at k h n (eqb k p) refl;
}
  where
    show : Local → Public
    show l = public l.process

    shown-at : (k : ℕ) → k < 8 → (t : Bool) → eqb k p ≡ t → public_of t₁ k ≡ public_of t₂ k
    shown-at k h true e = rw (eqb-true k p e) (ap show c₁.here ∙ shown ∙ sym (ap show c₂.here))
    shown-at k h false e = let n = eqb-false k p e in ap show (c₁.else k h n) ∙ a.shown k h ∙ sym (ap show (c₂.else k h n))

    others-at : (k : ℕ) → k < 8 → P k ≡ false → (t : Bool) → eqb k p ≡ t → local_of t₁ k ≡ local_of t₂ k
    others-at k h n true e = let i = eqb-true k p e in rw i (c₁.here ∙ same (rw i at n) ∙ sym c₂.here)
    others-at k h n false e = let i = eqb-false k p e in c₁.else k h i ∙ a.others k h n ∙ sym (c₂.else k h i)

-- ---- a call about one of these processes

-- every other process stays as it was
others_same : (P : Processes) (s : State) → Ready s → (c : Call) → subject P c ≡ true → (p : ℕ) → p < 8 → P p ≡ false → local_of (step s c).after p ≡ local_of s p
others_same P s r c i p low n = go (done s r c)
  where
    go : Done s c (step s c) → local_of (step s c).after p ≡ local_of s p
    go (stays number bytes e) = rw e
    go (idles output w e) = rw e
    go (acts q a t z e) = rw e ((acts-changed s r c q a t z).else p low (λ k. true≢false (sym (t.named P i) ∙ ap P (sym k) ∙ n)))

-- and where it tells nothing of rights, nothing is to be seen of it
pub hidden-apart : (P : Processes) (s t : State) → Ready s → (c : Call) → subject P c ≡ true → Silent c → Apart P s t → Apart P (step s c).after t
unfolding Debuggers
hidden-apart P s t r c i silent a = record {
  shown = λ p low. debuggers s r c p ∙ silent (public_of s) (step s c).answer p ∙ a.shown p low;
  others = λ p low n. others_same P s r c i p low n ∙ a.others p low n;
}

module _ (H : Hosts) (P : Processes) where
  -- hosts who do not ask it hear nothing of it
  unheard-by : (w : Asker) (s : State) (c : Call) → Ready s → NoneDebugs H P s → subject P c ≡ true → asker c ≡ w → is_one H w ≡ false → sent_to H w (step s c).answer ≡ false
  unfolding sent_to is_one noticed line_sent length_of
  unheard-by (by host) s c r f i e n = n
  unheard-by nobody s c r f i e n = go (done s r c)
    where
      go : Done s c (step s c) → sent_to H nobody (step s c).answer ≡ false
      go (stays number bytes q) = rw q (refusal-quiet H (suc number) bytes (buffers_of c))
      go (idles output w q) = rw (q, w.quiet e)
      go (acts p a t z q) =
          rw q
          (quiet H (public_of s p) (f p t.low (t.named P i)) (a.reply (local_of s p)) (buffers_of c)
          (subst (λ (w : Asker). Discreet w (public_of s p) (a.reply (local_of s p))) e (t.fair.discreet (local_of s p) (local-proper s r p t.low))))

  unheard : (s : State) (c : Call) → Ready s → NoneDebugs H P s → subject P c ≡ true → is_one H (asker c) ≡ false → part H (trace_item s c) ≡ []
  unfolding part
  unheard s c r f i n = rw (unheard-by (asker c) s c r f i refl n)

  -- ---- a call that is struck

  pub struck-apart : (s t : State) → Ready s → Apart P s t → (c : Call) → struck P c ≡ true → Apart P (step s c).after t
  unfolding struck
  struck-apart s t r a c e =
      hidden-apart P s t r c (&&-right (event c) (subject P c) e) ((lawful c).event-silent (&&-left (event c) (subject P c) e)) a

  pub struck-part : (s : State) → Ready s → NoneDebugs H P s → (c : Call) → struck P c ≡ true → part H (trace_item s c) ≡ []
  unfolding struck is_one
  struck-part s r f c e =
      unheard s c r f (&&-right (event c) (subject P c) e) (ap (is_one H) ((lawful c).event-asker (&&-left (event c) (subject P c) e)))

  -- ---- their own calls that name one of the processes

  -- such a call, granted at one of the processes, lets them in, or it leaves a process as it is
  pub lets-in : (host : ℕ) (s : State) (c : Call) (r : Ready s) → asker c ≡ by host → H host ≡ true → (p : ℕ) (a : Access) (t : There s c p a) → number_at a (local_of s p) ≡ 0
      → (step s c).after ≡ put p (a.effect (local_of s p)) s → P p ≡ true → NoneDebugs H P s → NoneDebugs H P (step s c).after
      → (l : Local) → a.effect l ≡ l
  unfolding May
  lets-in host s c r e h p a t z q i before after =
      may (subst (λ (w : Asker). May w (public_of s p) a t.then) e (t.fair.guarded (public_of s p) (outer-zero a (local_of s p) z)))
    where
      after-public : public_of (step s c).after p ≡ t.then (public_of s p)
      after-public = rw q (acts-public s r c p a t z)

      idle : ((u : Public) → insider (t.then u) host ≡ true) ⊎ ((l : Local) → a.effect l ≡ l) → (l : Local) → a.effect l ≡ l
      idle (inl f) = absurd (true≢false (sym (f (public_of s p)) ∙ sym (ap (λ (u : Public). insider u host) after-public) ∙ after p t.low i host h))
      idle (inr same) = same

      may : (insider (public_of s p) host ≡ true) ⊎ Taking host a t.then → (l : Local) → a.effect l ≡ l
      may (inl k) = absurd (true≢false (sym k ∙ before p t.low i host h))
      may (inr k) = idle k.takes

  idle-by : (w : Asker) (s : State) (c : Call) → Ready s → asker c ≡ w → is_one H w ≡ true → subject P c ≡ true → NoneDebugs H P s → NoneDebugs H P (step s c).after → (step s c).after ≡ s
  unfolding is_one
  idle-by nobody s c r e h i before after = absurd (true≢false (sym h))
  idle-by (by host) s c r e h i before after = go (done s r c)
    where
      go : Done s c (step s c) → (step s c).after ≡ s
      go (stays number bytes q) = rw q
      go (idles output w q) = rw q
      go (acts p a t z q) =
          let left = ap (λ (x : StepResult). x.after) q in
          left ∙ ap (λ (l : Local). put p l s) (lets-in host s c r e h p a t z left (t.named P i) before after (local_of s p)) ∙ put_same p s

  pub theirs-idle : (s : State) → Ready s → (c : Call) → theirs H P c ≡ true → NoneDebugs H P s → NoneDebugs H P (step s c).after → (step s c).after ≡ s
  unfolding theirs
  theirs-idle s r c e = idle-by (asker c) s c r refl (&&-left (is_one H (asker c)) (subject P c) e) (&&-right (is_one H (asker c)) (subject P c) e)

-- ---- one call on two states

-- the answer to a call, if it goes to them
abbrev pub heard_of : Hosts → Asker → Answer → List Answer
heard_of H w x = cond (sent_to H w x) (x ∷ []) []

quiet-said : (H : Hosts) (a : Access) (then : Public → Public) → Fair nobody a then → (b : Buffers) (l : Local) → Proper l
    → ((host : ℕ) → H host ≡ true → insider (public l.process) host ≡ false) → sent_to H nobody (said_at a b l) ≡ false
unfolding said_at
quiet-said H a then f b l g out =
    by-test (λ (x : Answer). sent_to H nobody x ≡ false) (eqb (number_at a l) 0)
    (λ e. quiet H (public l.process) out (a.reply l) b (f.discreet l g)) (λ e. refusal-quiet H (number_at a l) (a.refusal l (number_at a l)) b)

pub reached-answer : (p : ℕ) (a : Access) (b : Buffers) (s : State) → (reached (at_process p a) b s).answer ≡ said_at a b (local_of s p)
unfolding reached said_at
reached-answer p a b s = go (eqb (number_at a (local_of s p)) 0) refl
  where
    go : (t : Bool) → eqb (number_at a (local_of s p)) 0 ≡ t → (reached (at_process p a) b s).answer ≡ said_at a b (local_of s p)
    go true e = rw e
    go false e = rw e

pub reached-changed : (w : Asker) (p : ℕ) → p < 8 → (a : Access) (then : Public → Public) → Fair w a then → (b : Buffers) (s : State) → Ready s
    → Fits s p (then (public_of s p)) → Changed s (reached (at_process p a) b s).after p (left_at a (local_of s p))
unfolding reached left_at
reached-changed w p low a then f b s r fits = go (eqb (number_at a (local_of s p)) 0) refl
  where
    go : (t : Bool) → eqb (number_at a (local_of s p)) 0 ≡ t → Changed s (reached (at_process p a) b s).after p (left_at a (local_of s p))
    go true e =
        let z = eqb-true _ 0 e in
        rw e
        (put-changed s r p low (a.effect (local_of s p)) (f.keeps (local_of s p) (local-proper s r p low) z)
        (subst (Fits s p) (sym (f.publicly (local_of s p) z)) fits))
    go false e = rw e (unchanged s p)

module _ (H : Hosts) (P : Processes) (s₁ s₂ : State) (r₁ : Ready s₁) (r₂ : Ready s₂) (a : Apart P s₁ s₂) where
  -- two runs of one call
  pub record Both (w : Asker) (x y : StepResult) : Type 0 where
    pub apart : Apart P x.after y.after
    pub same : NoneDebugs H P s₁ → is_one H w ≡ true → x.answer ≡ y.answer
    pub parts : NoneDebugs H P s₁ → heard_of H w x.answer ≡ heard_of H w y.answer

  both-there : (w : Asker) (p : ℕ) (low : p < 8) (i : Access) (then : Public → Public) → Fair w i then → Fits s₁ p (then (public_of s₁ p)) → (b : Buffers)
      → Both w (reached (at_process p i) b s₁) (reached (at_process p i) b s₂)
  unfolding is_one sent_to
  both-there w p low i then f fits b = record {
    apart = apart-changed P s₁ _ s₂ _ p (left_at i l₁) (left_at i l₂) low (reached-changed w p low i then f b s₁ r₁ fits) (reached-changed w p low i then f b s₂ r₂ other_fits) a
        (left-alike w i then f l₁ l₂ (a.shown p low)) (λ n. ap (left_at i) (a.others p low n));
    same = λ free h. reached-answer p i b s₁ ∙ same w f free h (P p) refl ∙ sym (reached-answer p i b s₂);
    parts = λ free. rw (reached-answer p i b s₁, reached-answer p i b s₂) (parts w f free (P p) refl);
  }
    where
      other_fits : Fits s₂ p (then (public_of s₂ p))
      other_fits = subst (λ (u : Public). Fits s₂ p (then u)) (a.shown p low) (fits-shown s₁ s₂ a.shown p low (then (public_of s₁ p)) fits)

      l₁ : Local
      l₁ = local_of s₁ p

      l₂ : Local
      l₂ = local_of s₂ p

      same : (w : Asker) → Fair w i then → NoneDebugs H P s₁ → is_one H w ≡ true → (t : Bool) → P p ≡ t → said_at i b (local_of s₁ p) ≡ said_at i b (local_of s₂ p)
      same w f free h false n = ap (said_at i b) (a.others p low n)
      same nobody f free h true n = absurd (true≢false (sym h))
      same (by host) f free h true n = said-stranger host i then f b (local_of s₁ p) (local_of s₂ p) (a.shown p low) (free p low n host h)

      asked : (host : ℕ) → Fair (by host) i then → NoneDebugs H P s₁ → (t : Bool) → H host ≡ t → heard_of H (by host) (said_at i b (local_of s₁ p)) ≡ heard_of H (by host) (said_at i b (local_of s₂ p))
      asked host f free true h = ap (heard_of H (by host)) (same (by host) f free h (P p) refl)
      asked host f free false h = rw h

      parts : (w : Asker) → Fair w i then → NoneDebugs H P s₁ → (t : Bool) → P p ≡ t → heard_of H w (said_at i b (local_of s₁ p)) ≡ heard_of H w (said_at i b (local_of s₂ p))
      parts w f free false n = ap (λ (l : Local). heard_of H w (said_at i b l)) (a.others p low n)
      parts nobody f free true n =
          rw (quiet-said H i then f b l₁ (local-proper s₁ r₁ p low) (free p low n), quiet-said H i then f b l₂ (local-proper s₂ r₂ p low) (free-apart H P s₁ s₂ a free p low n))
      parts (by host) f free true n = asked host f free (H host) refl

  both-placed : (c : Call) (place : Place) → Placed s₁ c place → Both (asker c) (reached place (buffers_of c) s₁) (reached place (buffers_of c) s₂)
  unfolding Placed reached
  both-placed c (nowhere output) n = record { apart = a; same = λ f h. refl; parts = λ f. refl }
  both-placed c (at_process p i) t = both-there (asker c) p t.low i t.then t.fair t.fits (buffers_of c)

  pub both : (c : Call) → Both (asker c) (step s₁ c) (step s₂ c)
  unfolding asker taken
  both c = rw ((lawful c).turn s₁, (lawful c).turn s₂ ∙ ap (λ (t : Turn). taken t (buffers_of c) s₂) (sym ((lawful c).alike s₁ s₂ r₁ r₂ a.shown))) taken-both
    where
      taken-both : Both (asker c) (taken (turn_of s₁ c) (buffers_of c) s₁) (taken (turn_of s₁ c) (buffers_of c) s₂)
      taken-both = go (eqb (first_failing (turn_of s₁ c).tests) 0) refl
        where
          go : (t : Bool) → eqb (first_failing (turn_of s₁ c).tests) 0 ≡ t → Both (asker c) (taken (turn_of s₁ c) (buffers_of c) s₁) (taken (turn_of s₁ c) (buffers_of c) s₂)
          go true e = rw e (both-placed c (turn_of s₁ c).place ((lawful c).placed s₁ r₁ (eqb-true _ 0 e)))
          go false e = rw e (record { apart = a; same = λ f h. refl; parts = λ f. refl })

  -- ---- a call that stays, perhaps without what it deposits

  pub record Stays (c d : Call) : Type 0 where
    pub apart : Apart P (step s₁ c).after (step s₂ d).after
    pub parts : NoneDebugs H P s₁ → part H (trace_item s₁ c) ≡ part H (trace_item s₂ d)

  stays_same : (c : Call) → Stays c c
  unfolding part
  stays_same c = record { apart = (both c).apart; parts = (both c).parts }

  stays-over : (c : Call) → is_one H (asker c) ≡ false → subject P c ≡ true → (passed_over c ≡ c) ⊎ (Silent c × Silent (passed_over c)) → Stays c (passed_over c)
  stays-over c n i (inl e) = rw e (stays_same c)
  stays-over c n i (inr silent) = record {
    apart = apart-back P _ _ (hidden-apart P s₂ _ r₂ (passed_over c) over silent.1 (apart-back P _ _ (hidden-apart P s₁ s₂ r₁ c i silent.0 a)));
    parts = λ f.
        unheard H P s₁ c r₁ f i n
        ∙ sym (unheard H P s₂ (passed_over c) r₂ (free-apart H P s₁ s₂ a f) over (ap (is_one H) (lawful c).over-asker ∙ n));
  }
    where
      over : subject P (passed_over c) ≡ true
      over = (lawful c).over-subject P i

  pub stays-without_data : (c : Call) → Stays c (without_data H P c)
  unfolding without_data
  stays-without_data c =
      by-test (Stays c) (not (is_one H (asker c)) && subject P c)
      (λ e. stays-over c (not-true _ (&&-left (not (is_one H (asker c))) (subject P c) e)) (&&-right (not (is_one H (asker c))) (subject P c) e) (lawful c).over-silent)
      (λ e. stays_same c)
