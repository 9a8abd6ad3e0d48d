-- What DESTROY does to the memory: the others move down unchanged, what is freed is zero, and nothing is left of the one that goes. Assumes
-- nothing.
use mathlib.Core.Path.{◌≡◌, refl, sym, ap, ap₂, ◌∙◌}
use mathlib.Core.Bool.{Bool, true, false, cond, true≢false}
use mathlib.Core.List.{List, []}
use mathlib.Core.Logic.{◌⊎◌, inl, inr}
use Prim.Native.Nat.{ℕ, zero, suc, ◌+◌, ◌-◌, ◌≤◌, ◌<◌}
use native.Mathlib.Omega.{arith}
use borrow.Author.Tests.{eqb-true, eqb-false, ltb-true, not-false}
use lib.ListN.{get_or, set, replicate, length-set}
use lib.Seq.{ext_get_or, get_or-set_same, get_or-set_other}
use lib.Dec.{eqb, ltb}
use Rattle.lists.proofs.Elements.{elements-alike}
use Rattle.lists.proofs.Bool.{&&-left, &&-right}
use Rattle.format.specs.Outcome.{outcome, first_failing}
use Rattle.format.specs.Layout.{header_of}
use Rattle.format.proofs.OutcomeLaws.{first_passes as head-passes}
use Rattle.process.specs.declared.record.Process.{Process}
use Rattle.process.specs.Record.{fresh}
use Rattle.process.specs.Local.{Local, local}
use Rattle.process.specs.Request.{cleared}
use Rattle.process.specs.Theorems.{seen_of}
use Rattle.state.specs.Records.{Records, nobody, start_of}
use Rattle.state.specs.Layout.{extent_at, used, slot, closed, start_without, starts_without}
use Rattle.state.proofs.LayoutLaws.{start-inside, starts_apart, start-above, start_under, used-without}
use Rattle.state.proofs.MemoryLaws.{closed-freed, closed-alike}
use Rattle.rules.specs.Rule.{Public, public, rule_of, names}
use Rattle.rules.specs.Tests.{State, record_of, absent, asked_tests, request_number}
use Rattle.rules.specs.Window.{taken_out, put}
use Rattle.rules.specs.Step.{granted_named, granted, refused, Call, request, request_step, step, local_of}
use Rattle.rules.specs.Turn.{message_tests}
use Rattle.rules.specs.Ready.{Ready}
use Rattle.rules.specs.Run.{run}
use Rattle.rules.specs.Isolation.{is_granted, public_of}
use Rattle.rules.specs.OneMemory.{Destroying, DestroyRule, DifferOnlyIn, NothingIsLeft}
use Rattle.rules.proofs.ProperLaws.{destroy-proper}
use Rattle.rules.proofs.StateLaws.{layout_of, Changed, used-shown, put_is, put-changed}
use Rattle.rules.proofs.NumberLaws.{or_else-zero, first-append}

-- what is left of a process that is destroyed
abbrev gone : Local
gone = local cleared []

gone-absent : cleared.there ≡ false
unfolding cleared fresh
gone-absent = refl

module _ (s : State) (r : Ready s) (p : ℕ) (m buffer : List ℕ) (d : Destroying p s m buffer) where
  abbrev cmd : ℕ
  cmd = (header_of m).cmd

  -- ---- it is there, and goes

  number-zero : request_number s m buffer ≡ 0
  unfolding request_step refused is_granted
  number-zero = go (eqb (request_number s m buffer) 0) refl
    where
      go : (t : Bool) → eqb (request_number s m buffer) 0 ≡ t → request_number s m buffer ≡ 0
      go true e = eqb-true _ 0 e
      go false e = absurd (refused-not (request_number s m buffer) e (rw e at d.granted))
        where
          refused-not : (n : ℕ) → eqb n 0 ≡ false → is_granted (outcome n 0) ≡ true → ⊥
          refused-not zero i g = true≢false i
          refused-not (suc n) i g = true≢false (sym g)

  asked-zero : first_failing (asked_tests (header_of m) s) ≡ 0
  unfolding request_number
  asked-zero =
      (or_else-zero (first_failing (message_tests s m buffer)) (first_failing (asked_tests (header_of m) s))
      (sym (first-append (message_tests s m buffer) (asked_tests (header_of m) s) refl) ∙ number-zero)
      ).1

  named : names (header_of m).cmd ≡ true
  unfolding names
  named = rw d.op

  present : absent s (header_of m).pid ≡ false
  unfolding asked_tests
  present = head-passes 6 _ _ (rw named at asked-zero)

  low : p < 8
  low = rw (← d.named) (ltb-true _ 8 (&&-left (ltb (header_of m).pid 8) _ (not-false _ present)))

  there : (record_of s p).there ≡ true
  there = rw (← d.named) (&&-right (ltb (header_of m).pid 8) (record_of s (header_of m).pid).there (not-false _ present))

  after_is : (request_step m buffer s).after ≡ put p gone s
  unfolding request_step granted granted_named rule_of
  after_is = rw (number-zero, named, d.op, d.named)

  out-is : (request_step m buffer s).after ≡ taken_out p gone s
  out-is = after_is ∙ put_is p gone s true false there gone-absent

  changed : Changed s (put p gone s) p gone
  unfolding public
  changed = put-changed s r p low gone destroy-proper (record {
    kept = λ b a. absurd (true≢false (sym a ∙ gone-absent));
    room = λ b. absurd (true≢false (sym there ∙ b));
  })

  -- ---- the others

  others : (q : ℕ) → q < 8 → (q ≡ p → ⊥) → local_of (request_step m buffer s).after q ≡ local_of s q
  others q i n = rw after_is (changed.else q i n)

  above : (q : ℕ) → q < 8 → (record_of s q).there ≡ true → start_of s.records p < start_of s.records q
      → start_of (request_step m buffer s).after.records q + extent_at s.records p ≡ start_of s.records q
  unfolding taken_out
  above q i t over = rw out-is (omega (arith, start-above s.records p q i (λ e. omega (arith, ap (start_of s.records) e, over)) t over, room q i t over))
    where
      room : (k : ℕ) → k < 8 → (record_of s k).there ≡ true → start_of s.records p < start_of s.records k → start_of s.records p + extent_at s.records p ≤ start_of s.records k
      room k j b more = apart (starts_apart s.records (layout_of s r) p k low j (λ e. omega (arith, ap (start_of s.records) e, more)) there b)
        where
          apart : (start_of s.records k + extent_at s.records k ≤ start_of s.records p) ⊎ (start_of s.records p + extent_at s.records p ≤ start_of s.records k)
              → start_of s.records p + extent_at s.records p ≤ start_of s.records k
          apart (inl x) = absurd (omega (arith, x, more))
          apart (inr x) = x

  under : (q : ℕ) → q < 8 → (record_of s q).there ≡ true → start_of s.records q < start_of s.records p
      → start_of (request_step m buffer s).after.records q ≡ start_of s.records q
  unfolding taken_out
  under q i t less = rw out-is (start_under s.records p q i (λ e. omega (arith, ap (start_of s.records) e, less)) t (omega (arith, less)))

  -- ---- what is freed

  added : used (request_step m buffer s).after.records + extent_at s.records p ≡ used s.records
  unfolding taken_out
  added = rw out-is (used-without s.records r.processes (layout_of s r) p low there cleared gone-absent)

  zeroes : slot (used (request_step m buffer s).after.records) (extent_at s.records p) (request_step m buffer s).after.memory ≡ replicate (extent_at s.records p) 0
  unfolding taken_out
  zeroes =
      let end : used (request_step m buffer s).after.records ≡ used s.records - extent_at s.records p = omega (arith, added) in
      rw (end, out-is)
      (closed-freed (start_of s.records p) (extent_at s.records p) (used s.records) s.memory
      (start-inside s.records (layout_of s r) p low there) (omega (arith, (layout_of s r).fits, r.memory)))

pub destroy-rule : DestroyRule
destroy-rule = record {
  others = others;
  seen = λ s r p m buffer d q i n. ap seen_of (others s r p m buffer d q i n);
  above = above;
  under = under;
  added = added;
  zeroes = zeroes;
}

-- ---- nothing is left

module _ (s t : State) (r : Ready s) (k : Ready t) (p : ℕ) (h : p < 8) (d : DifferOnlyIn p s t) where
  -- what is public of each process is the same
  shown : (q : ℕ) → q < 8 → public_of s q ≡ public_of t q
  shown q i = go (eqb q p) refl
    where
      go : (b : Bool) → eqb q p ≡ b → public_of s q ≡ public_of t q
      go true e = rw (eqb-true q p e) d.shown
      go false e = ap public (d.records q i (eqb-false q p e))

  same-there : (q : ℕ) → q < 8 → (record_of s q).there ≡ (record_of t q).there
  unfolding public
  same-there q i = ap (λ (u : Public). u.there) (shown q i)

  same-extent : (q : ℕ) → q < 8 → extent_at s.records q ≡ extent_at t.records q
  unfolding public
  same-extent q i = ap (λ (u : Public). cond u.there u.size 0) (shown q i)

  same_start : (q : ℕ) → start_of s.records q ≡ start_of t.records q
  same_start q = ap (λ (starts : List ℕ). get_or starts q 0) d.starts

  -- records, starts and memory once it is gone
  same-processes : set s.records.processes p cleared ≡ set t.records.processes p cleared
  same-processes =
      ext_get_or nobody (set s.records.processes p cleared) (set t.records.processes p cleared)
      (length-set s.records.processes p cleared ∙ r.processes ∙ sym k.processes ∙ sym (length-set t.records.processes p cleared))
      (λ q i. at q (let e = length-set s.records.processes p cleared in let n = r.processes in omega arith) (eqb q p) refl)
    where
      at : (q : ℕ) → q < 8 → (b : Bool) → eqb q p ≡ b → get_or (set s.records.processes p cleared) q nobody ≡ get_or (set t.records.processes p cleared) q nobody
      at q i true e =
          rw (eqb-true q p e)
          (get_or-set_same s.records.processes p cleared nobody (let n = r.processes in omega arith)
          ∙ sym (get_or-set_same t.records.processes p cleared nobody (let n = k.processes in omega arith)))
      at q i false e =
          let n = eqb-false q p e in
          get_or-set_other s.records.processes p q cleared nobody n ∙ d.records q i n ∙ sym (get_or-set_other t.records.processes p q cleared nobody n)

  same-starts : starts_without p s.records ≡ starts_without p t.records
  unfolding starts_without start_without
  same-starts = elements-alike (start_without s.records p) (start_without t.records p) 8 (λ q i. rw (same-there q i, same_start q, same_start p, same-extent p h))

  same_memory : (record_of s p).there ≡ true → (taken_out p gone s).memory ≡ (taken_out p gone t).memory
  unfolding taken_out
  same_memory there =
      closed-alike (start_of s.records p) (extent_at s.records p) (used s.records) s.memory t.memory
      (start-inside s.records (layout_of s r) p h there) (omega (arith, (layout_of s r).fits, r.memory)) (r.memory ∙ sym k.memory) d.memory
      ∙ ap (λ (a : ℕ). closed a (extent_at s.records p) (used s.records) t.memory) (same_start p)
      ∙ ap₂ (λ (n e : ℕ). closed (start_of t.records p) n e t.memory) (same-extent p h) (used-shown s t shown)

  same_out : (record_of s p).there ≡ true → taken_out p gone s ≡ taken_out p gone t
  unfolding taken_out
  same_out there =
      ap₂ (λ (g : Records) (memory : List ℕ). record { records = g; memory = memory })
      (ap₂ (λ (ps : List Process) (starts : List ℕ). record { processes = ps; starts = starts }) same-processes same-starts)
      (same_memory there)

  module _ (m buffer : List ℕ) (e : Destroying p s m buffer) where
    -- granted in the one, it is granted in the other: the tests go by what is public
    same_asked : asked_tests (header_of m) s ≡ asked_tests (header_of m) t
    unfolding asked_tests rule_of public
    same_asked = rw (named s r p m buffer e, e.op, e.named, same-there p h, ap (λ (u : Public). u.host) d.shown)

    same_number : request_number s m buffer ≡ request_number t m buffer
    unfolding request_number
    same_number = rw (r.memory, k.memory, r.sound, k.sound, same_asked)

    also : Destroying p t m buffer
    unfolding request_step granted granted_named is_granted
    also = record {
      op = e.op;
      named = e.named;
      granted = let z = sym same_number ∙ number-zero s r p m buffer e in rw (z, named s r p m buffer e);
    }

    same-state : (request_step m buffer s).after ≡ (request_step m buffer t).after
    same-state = out-is s r p m buffer e ∙ same_out (there s r p m buffer e) ∙ sym (out-is t k p m buffer also)

    same_after : (l : List Call) → run (step s (request m buffer)).after l ≡ run (step t (request m buffer)).after l
    unfolding step
    same_after l = ap (λ (x : State). run x l) same-state

pub nothing-is-left : NothingIsLeft
nothing-is-left = record { same-state = same-state; same_after = same_after }
