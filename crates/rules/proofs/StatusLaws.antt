-- How many breakpoints are set: the stored number is true after every call, and what STATUS answers. Assumes nothing.
use mathlib.Core.Path.{◌≡◌, refl, ◌∙◌, subst}
use mathlib.Core.Bool.{Bool, true, false, not}
use mathlib.Core.List.{List}
use mathlib.Core.Logic.{inl, inr}
use Prim.Native.Nat.{ℕ, ◌<◌, ◌≤◌}
use native.Mathlib.Omega.{arith}
use borrow.Author.Tests.{eqb-true, eqb-false, ne_eqb, leb-true, ltb-true, ltb-false, lt-ltb, le-ltb, not-true}
use lib.Dec.{eqb, leb, ltb}
use Rattle.lists.specs.Buffer.{overlay}
use Rattle.lists.proofs.Bool.{&&-left, &&-right}
use Rattle.ops.specs.Codes.{STATUS}
use Rattle.ops.specs.Table.{process, op, asks}
use Rattle.format.specs.declared.header.Header.{Header}
use Rattle.format.specs.Outcome.{outcome, first_failing}
use Rattle.format.specs.Layout.{header_of, written}
use Rattle.format.specs.Answer.{cant_of, with_args}
use Rattle.format.specs.Refusal.{fields_right}
use Rattle.format.proofs.OutcomeLaws.{rest-passes}
use Rattle.process.specs.Sound.{DebugsOrWatches, Sound}
use Rattle.state.specs.Records.{nobody}
use Rattle.rules.specs.Rule.{Public, public, names, rule_of}
use Rattle.rules.specs.Tests.{State, record_of, asked_tests, request_number}
use Rattle.rules.specs.Access.{Asker, by, insider}
use Rattle.rules.specs.Step.{Call, request, refused, request_step, step, local_of}
use Rattle.rules.specs.Turn.{rule_access, message_tests, buffers_of}
use Rattle.rules.specs.Ready.{Ready}
use Rattle.rules.specs.Run.{final}
use Rattle.rules.specs.Isolation.{asker, fields_of, public_of}
use Rattle.rules.specs.Watch.{GrantedRequest}
use Rattle.rules.specs.Status.{breakpoints_of, status_reply, status_cant, HowManySet}
use Rattle.rules.proofs.StateLaws.{each-sound, public-past}
use Rattle.rules.proofs.NumberLaws.{or_else, or_else-none, first-append, first-listed, Sent, layout-sent}
use Rattle.rules.proofs.RuleLaws.{insider-is}
use Rattle.rules.proofs.StepLaws.{step-ready}
use Rattle.rules.proofs.LedgerLaws.{final-ready}
use Rattle.rules.proofs.PlaceLaws.{Named, named, acted-else}

-- ---- the stored number

-- in a sound state it is true
is_true : (s : State) → Ready s → (p : ℕ) → p < 8 → (record_of s p).number ≡ breakpoints_of s p
is_true s r p low = (each-sound s r p low).counted

-- ---- a granted STATUS

module _ (s : State) (r : Ready s) (c : Call) (p : ℕ) (x : GrantedRequest STATUS p s c) where
  asks-it : Named STATUS p s c
  unfolding names
  asks-it = named s r c STATUS p refl x.op x.named x.granted

  answers : ((step s c).answer.outcome ≡ outcome 0 10) × ((step s c).answer.buffer ≡ overlay (status_reply s p (fields_of c)) (buffers_of c).own)
  unfolding rule_access rule_of written
  answers =
      let y = asks-it.acted in
      (rw y.is, rw (y.is, is_true s r p y.there.low))

  changes-nothing : (q : ℕ) → q < 8 → local_of (step s c).after q ≡ local_of s q
  unfolding rule_access rule_of
  changes-nothing q low = go (eqb q p) refl
    where
      go : (t : Bool) → eqb q p ≡ t → local_of (step s c).after q ≡ local_of s q
      go true e = rw (eqb-true q p e) asks-it.left
      go false e = acted-else s r c p _ asks-it.acted q low (eqb-false q p e)

  insiders-only : (host : ℕ) → asker c ≡ by host → insider (public_of s p) host ≡ true
  unfolding rule_of
  insiders-only host e = subst (λ (n : ℕ). insider (public_of s p) n ≡ true) (same (asker c) _ _ asks-it.asked e) asks-it.passing.right
    where
      same : (w : Asker) (v h : ℕ) → w ≡ by v → w ≡ by h → v ≡ h
      same w v h i j = cc

-- ---- the number of a request, by its message and by what it asks

module _ (s : State) (m buffer : List ℕ) where
  abbrev early : ℕ
  early = first_failing (message_tests s m buffer)

  number_is : request_number s m buffer ≡ or_else (first_failing (message_tests s m buffer)) (first_failing (asked_tests (header_of m) s))
  unfolding request_number
  number_is = first-append (message_tests s m buffer) (asked_tests (header_of m) s) refl

  -- the tests of the message by itself are 1 to 6
  early-low : first_failing (message_tests s m buffer) ≤ 6
  early-low = leb-true early 6 (first-listed (λ (n : ℕ). leb n 6) (message_tests s m buffer) refl refl)

  -- so a greater number says that these pass
  message-passes : 7 ≤ request_number s m buffer → Sent m
  message-passes past = go (eqb early 0) refl
    where
      go : (t : Bool) → eqb early 0 ≡ t → Sent m
      go true e = layout-sent m (rest-passes 1 _ _ (rest-passes 0 _ _ (eqb-true early 0 e)))
      go false e = let is : request_number s m buffer ≡ early = number_is ∙ rw e in absurd (omega (arith, past, is, early-low))

-- ---- an insider's STATUS

-- 0 is no host
insider-named : (u : Public) (host : ℕ) → insider u host ≡ true → host ≡ 0 → ⊥
unfolding insider
insider-named u host e = eqb-false host 0 (not-true _ (&&-left (not (eqb host 0)) _ e))

module _ (s : State) (r : Ready s) (p host : ℕ) (i : insider (public_of s p) host ≡ true) where
  -- a process that a host debugs or watches is one of the eight
  insider-low : p < 8
  insider-low = go (ltb p 8) refl
    where
      nobodys : DebugsOrWatches nobody host → host ≡ 0
      nobodys (inl e) = e
      nobodys (inr w) = w.1

      go : (t : Bool) → ltb p 8 ≡ t → p < 8
      go true e = ltb-true p 8 e
      go false e =
          let past : public_of s p ≡ public nobody = public-past s r p (ltb-false p 8 e) in
          absurd (insider-named (public_of s p) host i (nobodys (insider-is nobody host (rw past at i))))

  -- and is there
  insider-there : (record_of s p).there ≡ true
  insider-there = go (record_of s p).there refl
    where
      sound : Sound (record_of s p)
      sound = each-sound s r p insider-low

      hosted : DebugsOrWatches (record_of s p) host → (record_of s p).host ≡ 0 → ⊥
      hosted (inl e) z = insider-named (public_of s p) host i (e ∙ z)
      hosted (inr w) z = (sound.watched (λ n. w.0 (w.1 ∙ n))).0 z

      go : (t : Bool) → (record_of s p).there ≡ t → t ≡ true
      go true e = refl
      go false e = absurd (hosted (insider-is (record_of s p) host i) (sound.absent e).0)

insiders-answered : (s : State) → Ready s → (m buffer : List ℕ) → (fields_of (request m buffer)).cmd ≡ STATUS
    → insider (public_of s (fields_of (request m buffer)).pid) (fields_of (request m buffer)).host ≡ true → request_number s m buffer < 7
unfolding fields_of asked_tests names rule_of first_failing
insiders-answered s r m buffer e i =
    let h = header_of m in
    let low : ltb h.pid 8 ≡ true = lt-ltb h.pid 8 (insider-low s r h.pid h.host i) in
    let none : first_failing (asked_tests h s) ≡ 0 = rw (e, low, insider-there s r h.pid h.host i, i) in
    let number : request_number s m buffer ≡ first_failing (message_tests s m buffer) = number_is s m buffer ∙ rw none (or_else-none _) in
    omega (arith, number, early-low s m buffer)

-- ---- a STATUS that is refused

-- fields that are right for a request that uses PID alone
pid-alone : (h : Header) → fields_right process h ≡ true → (h.arg1 ≡ 0) × (h.arg2 ≡ 0)
unfolding fields_right
pid-alone h e = (eqb-true _ 0 (&&-left (eqb h.arg1 0) (eqb h.arg2 0) e), eqb-true _ 0 (&&-right (eqb h.arg1 0) (eqb h.arg2 0) e))

module _ (s : State) (m buffer : List ℕ) (is : (fields_of (request m buffer)).cmd ≡ STATUS) (past : 7 ≤ request_number s m buffer) where
  cants-zeros : ((fields_of (request m buffer)).arg1 ≡ 0) × ((fields_of (request m buffer)).arg2 ≡ 0)
  unfolding fields_of
  cants-zeros =
      pid-alone (header_of m) (subst (λ (cmd : ℕ). fields_right (asks (op cmd)) (header_of m) ≡ true) is (message-passes s m buffer past).asked.fields)

  cants-bytes : (step s (request m buffer)).answer.buffer ≡ overlay (status_cant (fields_of (request m buffer))) buffer
  unfolding step request_step refused fields_of cant_of with_args
  cants-bytes =
      let unlike = ne_eqb (request_number s m buffer) 0 (λ z. omega (arith, past, z)) in
      let at_least_lem = le-ltb (request_number s m buffer) 7 past in
      rw (unlike, at_least_lem, cants-zeros.0, cants-zeros.1)

-- ---- the theorem

pub how-many-set : HowManySet
how-many-set = record {
  true-after = λ s r c. is_true (step s c).after (step-ready s r c);
  stays-true = λ s r l. is_true (final s l) (final-ready l s r);
  answers = answers;
  changes-nothing = changes-nothing;
  insiders-only = λ s r c p host x. insiders-only s r c p x host;
  insiders-answered = insiders-answered;
  cants-zeros = cants-zeros;
  cants-bytes = cants-bytes;
}
