-- What CREATE does to the memory: when it is refused with 13, where the new process lies, and that its bytes are zero. Assumes nothing.
use mathlib.Core.Path.{◌≡◌, refl, sym, ap, ◌∙◌}
use mathlib.Core.Bool.{Bool, true, false, not, cond, ◌||◌, true≢false}
use mathlib.Core.List.{List, [], ◌∷◌}
use mathlib.Core.Logic.{◌⊎◌, inl, inr}
use Prim.Native.Nat.{ℕ, ◌+◌, ◌≤◌, ◌<◌}
use native.Mathlib.Omega.{arith}
use borrow.Author.Tests.{eq-eqb, ltb-true, ltb-false, lt-ltb, not-false}
use lib.ListN.{replicate}
use lib.Seq.{get_or-set_same}
use lib.Dec.{ltb}
use Rattle.lists.specs.Buffer.{overlay}
use Rattle.lists.proofs.First.{first-before}
use Rattle.ops.specs.Codes.{CREATE}
use Rattle.format.specs.declared.header.Header.{Header}
use Rattle.format.specs.Outcome.{number_of, test, first_failing}
use Rattle.format.specs.Layout.{written, header_of}
use Rattle.format.specs.Answer.{created_of}
use Rattle.format.proofs.OutcomeLaws.{rest-passes}
use Rattle.process.specs.declared.record.Process.{Process}
use Rattle.process.specs.Record.{fresh}
use Rattle.process.specs.Local.{Local, extent}
use Rattle.process.specs.Request.{created}
use Rattle.state.specs.Records.{start_of, lowest_absent}
use Rattle.state.specs.Records.{nobody as no_process}
use Rattle.state.specs.Layout.{used, free_bytes}
use Rattle.state.proofs.LayoutLaws.{used-last}
use Rattle.rules.specs.Rule.{public, names, creates, size_asked}
use Rattle.rules.specs.Tests.{State, no_place, asked_tests, request_number}
use Rattle.rules.specs.Window.{put_last, put}
use Rattle.rules.specs.Step.{granted_create, granted, refused, request_step, local_of}
use Rattle.rules.specs.Turn.{message_tests}
use Rattle.rules.specs.Ready.{Ready}
use Rattle.rules.specs.Isolation.{is_granted}
use Rattle.rules.specs.OneMemory.{Creating, AllTaken, TooFewFree, number_given, created_in, CreateRule}
use Rattle.rules.proofs.ProperLaws.{new-proper, create-size}
use Rattle.rules.proofs.StateLaws.{layout_of, Changed, put_is, put-changed}
use Rattle.rules.proofs.NumberLaws.{first-append, layout-sent}
use Rattle.rules.proofs.RequestLaws.{asked-right, lowest-absent, has-place, fits-created}

module _ (s : State) (r : Ready s) (m buffer : List ℕ) (c : Creating s m buffer) where
  abbrev h : Header
  h = header_of m

  abbrev p : ℕ
  p = lowest_absent s.records

  unnamed : names (header_of m).cmd ≡ false
  unfolding names
  unnamed = rw c.op

  creating : creates (header_of m).cmd ≡ true
  creating = eq-eqb (header_of m).cmd CREATE c.op

  -- ---- the number

  asked_is : asked_tests (header_of m) s ≡ test 13 (no_place (header_of m) s) ∷ []
  unfolding asked_tests
  asked_is = rw (unnamed, creating)

  number_is : request_number s m buffer ≡ cond (no_place (header_of m) s) 13 0
  unfolding request_number first_failing
  number_is =
      first-append (message_tests s m buffer) (asked_tests (header_of m) s) refl
      ∙ rw (c.passes, asked_is)

  number_by : (t : Bool) → no_place (header_of m) s ≡ t → request_number s m buffer ≡ cond t 13 0
  number_by t e = number_is ∙ ap (λ (b : Bool). cond b 13 0) e

  refused-is : no_place (header_of m) s ≡ true → number_given (request_step m buffer s) ≡ 13
  unfolding request_step refused number_of
  refused-is e = rw (number_by true e)

  -- granted, it is put last
  granted-is : no_place (header_of m) s ≡ false → request_step m buffer s ≡ granted_create (header_of m) buffer s
  unfolding request_step granted
  granted-is e = rw (number_by false e, unnamed, creating)

  is-granted : no_place (header_of m) s ≡ false → is_granted (request_step m buffer s).answer.outcome ≡ true
  unfolding granted_create is_granted
  is-granted e = rw (granted-is e)

  -- ---- '13 exactly when'

  all-taken : AllTaken s → no_place (header_of m) s ≡ true
  unfolding lowest_absent
  all-taken all = go (ltb (lowest_absent s.records) 8) refl
    where
      go : (t : Bool) → ltb (lowest_absent s.records) 8 ≡ t → no_place (header_of m) s ≡ true
      go true e =
          let low = ltb-true _ 8 e in
          absurd (true≢false (sym (all (lowest_absent s.records) low) ∙ lowest-absent s r low))
      go false e = rw e

  too_few : TooFewFree s m → no_place (header_of m) s ≡ true
  too_few few = go (ltb (lowest_absent s.records) 8)
    where
      go : (t : Bool) → not t || ltb (free_bytes s.records) (size_asked (header_of m)) ≡ true
      go true = lt-ltb _ _ few
      go false = refl

  refused-when : AllTaken s ⊎ TooFewFree s m → number_given (request_step m buffer s) ≡ 13
  refused-when (inl all) = refused-is (all-taken all)
  refused-when (inr few) = refused-is (too_few few)

  taken-all : ltb (lowest_absent s.records) 8 ≡ false → AllTaken s
  unfolding lowest_absent
  taken-all e q i =
      not-false _ (first-before (λ (x : Process). not x.there) s.records.processes no_process q (let far : 8 ≤ lowest_absent s.records = ltb-false _ 8 e in omega (arith, far, i)))

  refused-only-when : number_given (request_step m buffer s) ≡ 13 → AllTaken s ⊎ TooFewFree s m
  unfolding granted_create number_of
  refused-only-when number = go (no_place (header_of m) s) refl
    where
      either : (t : Bool) → ltb (lowest_absent s.records) 8 ≡ t → not t || ltb (free_bytes s.records) (size_asked (header_of m)) ≡ true → AllTaken s ⊎ TooFewFree s m
      either true low e = inr (ltb-true _ _ e)
      either false low e = inl (taken-all low)

      go : (t : Bool) → no_place (header_of m) s ≡ t → AllTaken s ⊎ TooFewFree s m
      go true e = either (ltb (lowest_absent s.records) 8) refl e
      go false e = absurd (let zero : 0 ≡ 13 = rw (granted-is e) at number in omega arith)

  granted-else : (number_given (request_step m buffer s) ≡ 13 → ⊥) → is_granted (request_step m buffer s).answer.outcome ≡ true
  granted-else n = go (no_place (header_of m) s) refl
    where
      go : (t : Bool) → no_place (header_of m) s ≡ t → is_granted (request_step m buffer s).answer.outcome ≡ true
      go true e = absurd (n (refused-is e))
      go false e = is-granted e

  -- ---- a granted one

  module _ (grant : is_granted (request_step m buffer s).answer.outcome ≡ true) where
    placed : no_place (header_of m) s ≡ false
    unfolding request_step refused is_granted
    placed = go (no_place (header_of m) s) refl
      where
        go : (t : Bool) → no_place (header_of m) s ≡ t → t ≡ false
        go true e = sym (rw (number_by true e) at grant)
        go false e = refl

    low : lowest_absent s.records < 8
    low = (has-place (header_of m) s placed).0

    abbrev new : Local
    new = created (header_of m).host (size_asked (header_of m))

    new-there : (created (header_of m).host (size_asked (header_of m))).process.there ≡ true
    unfolding created fresh
    new-there = refl

    last-is : (request_step m buffer s).after ≡ put_last p new s
    unfolding granted_create
    last-is = rw (granted-is placed) (put_is p new s false true (lowest-absent s r low) new-there)

    number-carried : created_in (request_step m buffer s) ≡ p
    unfolding granted_create overlay written created_of
    number-carried = rw (granted-is placed)

    last : start_of (request_step m buffer s).after.records (created_in (request_step m buffer s)) ≡ used s.records
    unfolding put_last
    last = rw (number-carried, last-is) (get_or-set_same s.records.starts p (used s.records) 0 (let e = r.starts in let l = low in omega arith))

    size_is : extent (created (header_of m).host (size_asked (header_of m))).process ≡ size_asked (header_of m)
    unfolding created fresh
    size_is = refl

    taken : used (request_step m buffer s).after.records ≡ used s.records + size_asked (header_of m)
    unfolding put_last
    taken = rw last-is (used-last s.records r.processes r.starts (layout_of s r) p low new.process (lowest-absent s r low) ∙ ap (λ (n : ℕ). used s.records + n) size_is)

    changed : Changed s (put p new s) p new
    unfolding public created fresh
    changed =
        let sent = layout-sent m (rest-passes 1 _ _ (rest-passes 0 _ _ c.passes)) in
        put-changed s r p low new
        (new-proper (header_of m).host (size_asked (header_of m)) new.bytes (asked-right (header_of m) (sent.size c.op)) (create-size (header_of m).host (size_asked (header_of m))))
        (fits-created s r (header_of m) low (has-place (header_of m) s placed).1)

    zeroed : (local_of (request_step m buffer s).after (created_in (request_step m buffer s))).bytes ≡ replicate (size_asked (header_of m)) 0
    unfolding granted_create created
    zeroed = rw (number-carried, granted-is placed) (ap (λ (l : Local). l.bytes) changed.here)

pub create-rule : CreateRule
create-rule = record {
  refused-when = refused-when;
  refused-only-when = refused-only-when;
  granted-else = granted-else;
  last = last;
  taken = taken;
  zeroed = zeroed;
}
