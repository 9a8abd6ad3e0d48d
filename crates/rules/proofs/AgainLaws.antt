-- A process that is created again for one of the hosts is the same in both gateways, whatever was there: so two states that differ in the
-- hidden processes alone still do where fewer are hidden. Assumes nothing.
use mathlib.Core.Path.{◌≡◌, refl, sym, ap, ◌∙◌, subst, fun_ext}
use mathlib.Core.Bool.{Bool, true, false, not, ◌&&◌, true≢false, and-true, and-false}
use mathlib.Core.List.{[]}
use native.Mathlib.Omega.{arith}
use Prim.Native.Nat.{ℕ}
use borrow.Author.Tests.{eqb-true, eq-eqb, not-false}
use lib.ListN.{get_or}
use lib.Dec.{eqb}
use Rattle.lists.proofs.Bool.{&&-left, &&-right}
use Rattle.format.specs.Outcome.{first_failing}
use Rattle.ops.specs.Codes.{CREATE}
use Rattle.run_state.specs.declared.Run.TheVariants.{Running}
use Rattle.process.specs.Record.{fresh}
use Rattle.process.specs.Local.{Local, local}
use Rattle.rules.specs.Rule.{Public, names, creates}
use Rattle.rules.specs.Tests.{State}
use Rattle.rules.specs.Access.{Asker, nobody, by, Output, Access, Place, nowhere, at_process, Turn, number_at, grants, reached, taken}
use Rattle.rules.specs.Step.{Answer, StepResult, local_of, put, Call, step}
use Rattle.rules.specs.Turn.{turn_of, buffers_of}
use Rattle.rules.specs.Ready.{Ready}
use Rattle.rules.specs.Run.{TraceItem, trace_item}
use Rattle.rules.specs.Isolation.{Hosts, Processes, asker, subject, fields_of, is_one, is_granted, told_of, without_data, Apart, NoneDebugs, public_of}
use Rattle.rules.specs.Together.{created_for, hidden_after}
use Rattle.rules.proofs.StateLaws.{local-proper, Fits, fits-shown, put-changed}
use Rattle.rules.proofs.CallLaws.{Shown, There, Nowhere, Placed}
use Rattle.format.proofs.OutcomeLaws.{is_granted-outcome}
use Rattle.rules.proofs.LawfulLaws.{lawful}
use Rattle.rules.proofs.StepLaws.{by-test, Done, stays, idles, acts, done}
use Rattle.rules.proofs.IsolationLaws.{lets-in, both, stays-without_data}

-- ---- what a CREATE makes

-- a CREATE that is granted goes to a process, since its answer tells of one
pub create-goes : (c : Call) → (fields_of c).cmd ≡ CREATE → (output : Output) → Nowhere c output → ⊥
unfolding told_of is_granted names
create-goes c is output n = true≢false (sym told-there ∙ ap (λ (u : Public). u.there) (n.told nobody number))
  where
    nobody : ℕ → Public
    nobody k = record { there = false; host = 0; watcher = 0; size = 0 }

    number : ℕ
    number = get_or (grants output (buffers_of c)).buffer 5 0

    told-there : (told_of nobody c (grants output (buffers_of c)) number).there ≡ true
    told-there = rw (is, eq-eqb number number refl)

module _ (s₁ s₂ : State) (r₁ : Ready s₁) (r₂ : Ready s₂) (c : Call) (is : (fields_of c).cmd ≡ CREATE) (p : ℕ) where
  -- where it is granted in both, the process whose number it answers is the same in both
  abbrev Made : StepResult → StepResult → Type 0
  Made x y =
      is_granted x.answer.outcome ≡ true → is_granted y.answer.outcome ≡ true → get_or x.answer.buffer 5 0 ≡ p → local_of x.after p ≡ local_of y.after p

  made-there : Shown s₁ s₂ → (q : ℕ) (a : Access) → There s₁ c q a → Made (reached (at_process q a) (buffers_of c) s₁) (reached (at_process q a) (buffers_of c) s₂)
  unfolding reached is_granted
  made-there shown q a t = go (eqb (number_at a (local_of s₁ q)) 0) refl (eqb (number_at a (local_of s₂ q)) 0) refl
    where
      left : (s : State) → Ready s → Fits s q (t.then (public_of s q)) → number_at a (local_of s q) ≡ 0
          → local_of (put q (a.effect (local_of s q)) s) q ≡ a.effect (local_of s q)
      left s r fits z =
          (put-changed s r q t.low (a.effect (local_of s q)) (t.fair.keeps (local_of s q) (local-proper s r q t.low) z)
          (subst (Fits s q) (sym (t.fair.publicly (local_of s q) z)) fits)).here

      other_fits : Fits s₂ q (t.then (public_of s₂ q))
      other_fits = subst (λ (u : Public). Fits s₂ q (t.then u)) (shown q t.low) (fits-shown s₁ s₂ shown q t.low (t.then (public_of s₁ q)) t.fits)

      go : (t₁ : Bool) → eqb (number_at a (local_of s₁ q)) 0 ≡ t₁ → (t₂ : Bool) → eqb (number_at a (local_of s₂ q)) 0 ≡ t₂
          → Made (reached (at_process q a) (buffers_of c) s₁) (reached (at_process q a) (buffers_of c) s₂)
      go false e₁ t₂ e₂ = rw e₁ (λ g₁. absurd (true≢false (sym g₁ ∙ is_granted-outcome (number_at a (local_of s₁ q)) 0 ∙ e₁)))
      go true e₁ false e₂ = rw (e₁, e₂) (λ g₁ g₂. absurd (true≢false (sym g₂ ∙ is_granted-outcome (number_at a (local_of s₂ q)) 0 ∙ e₂)))
      go true e₁ true e₂ =
          rw (e₁, e₂)
          (λ g₁ g₂ n.
          subst (λ (k : ℕ). local_of (put q (a.effect (local_of s₁ q)) s₁) k ≡ local_of (put q (a.effect (local_of s₂ q)) s₂) k) (sym (t.carries (local_of s₁ q) is) ∙ n)
          (left s₁ r₁ t.fits (eqb-true _ 0 e₁) ∙ t.anew is (local_of s₁ q) (local_of s₂ q) ∙ sym (left s₂ r₂ other_fits (eqb-true _ 0 e₂))))

  made-placed : Shown s₁ s₂ → (place : Place) → Placed s₁ c place → Made (reached place (buffers_of c) s₁) (reached place (buffers_of c) s₂)
  unfolding Placed
  made-placed shown (nowhere output) n = absurd (create-goes c is output n)
  made-placed shown (at_process q a) t = made-there shown q a t

  made : Shown s₁ s₂ → Made (step s₁ c) (step s₂ c)
  unfolding taken is_granted
  made shown =
      rw ((lawful c).turn s₁, (lawful c).turn s₂ ∙ ap (λ (t : Turn). taken t (buffers_of c) s₂) (sym ((lawful c).alike s₁ s₂ r₁ r₂ shown)))
      (go (eqb (first_failing (turn_of s₁ c).tests) 0) refl)
    where
      go : (t : Bool) → eqb (first_failing (turn_of s₁ c).tests) 0 ≡ t → Made (taken (turn_of s₁ c) (buffers_of c) s₁) (taken (turn_of s₁ c) (buffers_of c) s₂)
      go true e = rw e (made-placed shown (turn_of s₁ c).place ((lawful c).placed s₁ r₁ (eqb-true _ 0 e)))
      go false e = rw e (λ g₁. absurd (true≢false (sym g₁ ∙ is_granted-outcome (first_failing (turn_of s₁ c).tests) 0 ∙ e)))

-- ---- what is hidden after a call

module _ (H : Hosts) where
  -- a call by which a process is created for them
  record Creating (s : State) (c : Call) (p : ℕ) : Type 0 where
    asked : is_one H (asker c) ≡ true
    op : (fields_of c).cmd ≡ CREATE
    granted : is_granted (step s c).answer.outcome ≡ true
    number : get_or (step s c).answer.buffer 5 0 ≡ p

  creating : (s : State) (c : Call) (p : ℕ) → created_for H (trace_item s c) p ≡ true → Creating s c p
  unfolding created_for
  creating s c p i =
      let two = &&-right (is_one H (asker c)) _ i in
      let three = &&-right (creates (fields_of c).cmd) _ two in
      record {
        asked = &&-left (is_one H (asker c)) _ i;
        op = eqb-true _ CREATE (&&-left (creates (fields_of c).cmd) _ two);
        granted = &&-left (is_granted (step s c).answer.outcome) _ three;
        number = sym (eqb-true p _ (&&-right (is_granted (step s c).answer.outcome) _ three));
      }

  -- a call by which nothing is created for them
  none-created : (P : Processes) (s : State) (c : Call) → ((p : ℕ) → created_for H (trace_item s c) p ≡ false) → hidden_after H P (trace_item s c) ≡ P
  unfolding hidden_after
  none-created P s c none = fun_ext (λ p. ap (λ (b : Bool). P p && not b) (none p) ∙ and-true (P p))

  not-asked : (s : State) (c : Call) → is_one H (asker c) ≡ false → (p : ℕ) → created_for H (trace_item s c) p ≡ false
  unfolding created_for
  not-asked s c e p = rw e

  -- a call about one of the processes leaves hidden what is
  pub subject-hidden : (P : Processes) (s : State) (c : Call) → subject P c ≡ true → hidden_after H P (trace_item s c) ≡ P
  unfolding created_for
  subject-hidden P s c e = none-created P s c (λ p. rw ((lawful c).subject-creates P e) (and-false (is_one H (asker c))))

  -- what does not rest on what was there does not leave it as it was
  anew-changes : (a : Access) → ((l k : Local) → a.effect l ≡ a.effect k) → ((l : Local) → a.effect l ≡ l) → ⊥
  unfolding fresh
  anew-changes a anew same =
      let one = local (fresh true 1 Running 2) [] in
      let other = local (fresh true 2 Running 2) [] in
      omega (arith, ap (λ (l : Local). l.process.host) (sym (same one) ∙ anew one other ∙ same other))

  -- ---- where they stay away, nothing is created for them

  module _ (P : Processes) (s : State) (r : Ready s) (c : Call) (before : NoneDebugs H P s) (after : NoneDebugs H P (step s c).after) where
    none_made : (p : ℕ) → P p ≡ true → created_for H (trace_item s c) p ≡ true → ⊥
    unfolding is_one is_granted
    none_made p i n = go (asker c) refl (done s r c)
      where
        m : Creating s c p
        m = creating s c p n

        go : (w : Asker) → asker c ≡ w → Done s c (step s c) → ⊥
        go w e (stays number bytes q) = true≢false (sym m.granted ∙ ap (λ (x : StepResult). is_granted x.answer.outcome) q)
        go w e (idles bytes n q) = create-goes c m.op bytes n
        go nobody e (acts k a t z q) = true≢false (sym m.asked ∙ ap (is_one H) e)
        go (by host) e (acts k a t z q) =
            anew-changes a (t.anew m.op)
            (lets-in H P host s c r e (sym (ap (is_one H) e) ∙ m.asked) k a t z (ap (λ (x : StepResult). x.after) q)
            (ap P (sym (t.carries (local_of s k) m.op) ∙ sym (ap (λ (x : StepResult). get_or x.answer.buffer 5 0) q) ∙ m.number) ∙ i) before after)

    pub stays-hidden : hidden_after H P (trace_item s c) ≡ P
    unfolding hidden_after
    stays-hidden = fun_ext (λ p. go p (P p) refl (created_for H (trace_item s c) p) refl)
      where
        go : (p : ℕ) (b : Bool) → P p ≡ b → (t : Bool) → created_for H (trace_item s c) p ≡ t → P p && not (created_for H (trace_item s c) p) ≡ P p
        go p false i t n = rw i
        go p true i false n = rw (i, n)
        go p true i true n = absurd (none_made p i n)

  -- ---- one call in two gateways

  module _ (P : Processes) (s t : State) (r : Ready s) (q : Ready t) (a : Apart P s t) (f : NoneDebugs H P s) where
    -- one call in the one gateway, and one in the other
    pub record Goes (c d : Call) : Type 0 where
      pub next : hidden_after H P (trace_item s c) ≡ hidden_after H P (trace_item t d)
      pub apart : Apart (hidden_after H P (trace_item s c)) (step s c).after (step t d).after

    goes_none : (c d : Call) → is_one H (asker c) ≡ false → is_one H (asker d) ≡ false → Apart P (step s c).after (step t d).after → Goes c d
    goes_none c d e i b =
        let n = none-created P s c (not-asked s c e) in
        record {
          next = n ∙ sym (none-created P t d (not-asked t d i));
          apart = subst (λ (k : Processes). Apart k (step s c).after (step t d).after) (sym n) b;
        }

    -- a process that is no longer hidden was not, or was created by this call
    shown-then : (p : ℕ) {x y : Local} (e : TraceItem) → (P p ≡ false → x ≡ y) → (created_for H e p ≡ true → x ≡ y) → hidden_after H P e p ≡ false → x ≡ y
    unfolding hidden_after
    shown-then p {x} {y} e was now n = go (P p) refl
      where
        go : (b : Bool) → P p ≡ b → x ≡ y
        go false i = was i
        go true i = now (not-false (created_for H e p) (rw i at n))

    goes_same : (c : Call) → is_one H (asker c) ≡ true → Goes c c
    unfolding hidden_after created_for
    goes_same c h = record {
      next = fun_ext (λ p. ap (λ (x : Answer). P p && not (created_for H (record { call = c; answer = x; after = (step s c).after }) p)) same);
      apart = record { shown = after.shown; others = λ p low n. shown-then p (trace_item s c) (after.others p low) (made_again p) n };
    }
      where
        after : Apart P (step s c).after (step t c).after
        after = (both H P s t r q a c).apart

        same : (step s c).answer ≡ (step t c).answer
        same = (both H P s t r q a c).same f h

        made_again : (p : ℕ) → created_for H (trace_item s c) p ≡ true → local_of (step s c).after p ≡ local_of (step t c).after p
        made_again p i =
            let m = creating s c p i in
            made s t r q c m.op p a.shown m.granted (subst (λ (y : Answer). is_granted y.outcome ≡ true) same m.granted) m.number

    pub goes : (c : Call) → Goes c (without_data H P c)
    unfolding without_data
    goes c = go (is_one H (asker c)) refl
      where
        over : asker (without_data H P c) ≡ asker c
        over = by-test (λ (d : Call). asker d ≡ asker c) (not (is_one H (asker c)) && subject P c) (λ e. (lawful c).over-asker) (λ e. refl)

        go : (b : Bool) → is_one H (asker c) ≡ b → Goes c (without_data H P c)
        go true h = rw h (goes_same c h)
        go false h = goes_none c (without_data H P c) h (ap (is_one H) over ∙ h) (stays-without_data H P s t r q a c).apart
