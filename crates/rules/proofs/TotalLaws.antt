-- Demand 1. Assumes nothing.
use mathlib.Core.Path.{◌≡◌, refl, sym, ap, ◌∙◌, subst}
use mathlib.Core.Bool.{Bool, true, false, cond, true≢false}
use mathlib.Core.List.{List, [], ◌∷◌}
use mathlib.Core.Logic.{◌⊎◌, inl, inr}
use Prim.Native.Nat.{ℕ, zero, suc}
use native.Mathlib.Omega.{arith}
use borrow.Author.Tests.{eqb-true}
use lib.ListN.{length, drop}
use lib.Dec.{ltb, eqb}
use Rattle.lists.specs.Buffer.{overlay}
use Rattle.lists.proofs.Buffer.{drop-overlay}
use Rattle.fields.specs.Read.{line_of}
use Rattle.format.specs.Outcome.{outcome, number_of, Test, first_failing}
use Rattle.format.specs.Layout.{header_of}
use Rattle.format.specs.Answer.{cant_of}
use Rattle.format.proofs.LayoutLaws.{length-written}
use Rattle.format.proofs.OutcomeLaws.{number_of-outcome}
use Rattle.rules.specs.TextRule.{failure}
use Rattle.rules.specs.Tests.{State, request_number, report_number, text_number, packet_number}
use Rattle.rules.specs.Window.{Buffers}
use Rattle.rules.specs.Access.{Output, Place, nowhere, at_process, Turn, number_at, grants, refuses, reached, taken}
use Rattle.rules.specs.Step.{StepResult, local_of, put, refused, request_step, report_step, text_step, packet_step, Call, request, report, text_line, packet, step}
use Rattle.rules.specs.Turn.{turn_of, buffers_of}
use Rattle.rules.specs.Isolation.{is_granted}
use Rattle.rules.specs.Total.{tests_of, First, cant_over, Total}
use Rattle.rules.proofs.TurnLaws.{place_number, turn_number}
use Rattle.rules.proofs.LawfulLaws.{lawful}
use Rattle.rules.proofs.StepLaws.{by-test, step-ready, step-worded}

-- ---- the first test that fails

first-is : (ts : List Test) → First ts (first_failing ts)
unfolding First first_failing
first-is [] = refl
first-is (t ∷ ts) = go t.fails refl (first-is ts)
  where
    go : (b : Bool) → t.fails ≡ b → First ts (first_failing ts)
        → ((t.fails ≡ true) × (cond b t.number (first_failing ts) ≡ t.number)) ⊎ ((t.fails ≡ false) × First ts (cond b t.number (first_failing ts)))
    go true e f = inl (e, refl)
    go false e f = inr (e, f)

-- ---- a call in its parts

-- a call that was answered with this number from this state, with these buffers lent
pub record Told (number : ℕ) (b : Buffers) (s : State) (x : StepResult) : Type 0 where
  pub is : number_of x.answer.outcome ≡ number
  pub grant : number ≡ 0 → is_granted x.answer.outcome ≡ true
  pub kept : (number ≡ 0 → ⊥) → x.after ≡ s
  pub past : (n : ℕ) → x.answer.outcome ≡ outcome 0 n → drop n x.answer.buffer ≡ drop n b.own
  pub line-past : drop x.answer.line_length x.answer.line ≡ drop x.answer.line_length b.line

granted-told : (number : ℕ) → number ≡ 0 → (w : Output) (b : Buffers) (s t : State)
    → Told number b s (record { answer = grants w b; after = t })
unfolding number_of is_granted
granted-told number z w b s t = record {
  is = sym z;
  grant = λ i. refl;
  kept = λ n. absurd (n z);
  past = λ n e. let same : length w.own ≡ n = cc in rw (← same) (drop-overlay w.own b.own);
  line-past = drop-overlay w.line b.line;
}

refused-told : (number : ℕ) → eqb number 0 ≡ false → (bytes : List ℕ) (b : Buffers) (s : State)
    → Told number b s (record { answer = refuses number bytes b; after = s })
unfolding number_of is_granted
refused-told zero e bytes b s = absurd (true≢false e)
refused-told (suc n) e bytes b s = record {
  is = refl;
  grant = λ z. absurd (omega (arith, z));
  kept = λ z. refl;
  past = λ k i. absurd (let z : ◌≡◌ {A = ℕ} 0 1 = cc in omega arith);
  line-past = refl;
}

place-told : (place : Place) (b : Buffers) (s : State) → Told (place_number place s) b s (reached place b s)
unfolding place_number reached
place-told (nowhere output) b s = granted-told 0 refl output b s s
place-told (at_process p a) b s =
    by-test (Told (number_at a (local_of s p)) b s) (eqb (number_at a (local_of s p)) 0)
    (λ e. granted-told (number_at a (local_of s p)) (eqb-true _ 0 e) (a.reply (local_of s p)) b s (put p (a.effect (local_of s p)) s))
    (λ e. refused-told (number_at a (local_of s p)) e (a.refusal (local_of s p) (number_at a (local_of s p))) b s)

turn-told : (t : Turn) (lent : Buffers) (s : State) → Told (turn_number t s) lent s (taken t lent s)
unfolding turn_number taken
turn-told t lent s = go (eqb (first_failing t.tests) 0) refl
  where
    go : (b : Bool) → eqb (first_failing t.tests) 0 ≡ b → Told (turn_number t s) lent s (taken t lent s)
    go true e = rw e (place-told t.place lent s)
    go false e = rw e (refused-told (first_failing t.tests) e (t.refusal (first_failing t.tests)) lent s)

-- any call
pub told : (s : State) (c : Call) → Told (first_failing (tests_of s c)) (buffers_of c) s (step s c)
told s c = rw ((lawful c).turn s, ← (lawful c).number s) (turn-told (turn_of s c) (buffers_of c) s)

-- ---- the column 'Written'

refused-number : (number n : ℕ) → outcome number 0 ≡ outcome (suc n) 0 → number ≡ suc n
unfolding number_of
refused-number number n e = sym (number_of-outcome number 0) ∙ ap number_of e

request-silent : (s : State) (m buffer : List ℕ) (n : ℕ) → (request_step m buffer s).answer.outcome ≡ outcome (suc n) 0
    → (request_step m buffer s).answer.buffer ≡ cond (ltb (suc n) 7) buffer (cant_over m buffer)
unfolding step tests_of request_number request_step refused is_granted number_of
request-silent s m buffer n e = go (eqb (request_number s m buffer) 0) refl
  where
    go : (t : Bool) → eqb (request_number s m buffer) 0 ≡ t → (request_step m buffer s).answer.buffer ≡ cond (ltb (suc n) 7) buffer (cant_over m buffer)
    go true i = absurd (true≢false (sym ((told s (request m buffer)).grant (eqb-true _ 0 i)) ∙ ap is_granted e))
    go false i = rw (i, refused-number (request_number s m buffer) n (rw i at e))

report-silent : (s : State) (p kind reason : ℕ) (words buffer line : List ℕ) (n : ℕ) → (report_step p kind reason words buffer line s).answer.outcome ≡ outcome (suc n) 0
    → (report_step p kind reason words buffer line s).answer ≡ refuses (suc n) [] (buffers_of (report p kind reason words buffer line))
unfolding step tests_of report_number report_step is_granted number_of buffers_of overlay
report-silent s p kind reason words buffer line n e = go (eqb number 0) refl
  where
    number : ℕ
    number = report_number s p kind reason buffer line

    go : (t : Bool) → eqb number 0 ≡ t → (report_step p kind reason words buffer line s).answer ≡ refuses (suc n) [] (buffers_of (report p kind reason words buffer line))
    go true i = absurd (true≢false (sym ((told s (report p kind reason words buffer line)).grant (eqb-true _ 0 i)) ∙ ap is_granted e))
    go false i = rw (i, refused-number number n (rw i at e))

text-silent : (s : State) (text buffer : List ℕ) (n : ℕ) → (text_step text buffer s).answer.outcome ≡ outcome (suc n) 0
    → (text_step text buffer s).answer.buffer ≡ cond (ltb (suc n) 100) buffer (overlay (failure (line_of text) (suc n)) buffer)
unfolding step tests_of text_number text_step is_granted number_of failure overlay
text-silent s text buffer n e = go (eqb (text_number s text buffer) 0) refl
  where
    silent : (t : Bool) (bytes : List ℕ) → overlay (cond t [] bytes) buffer ≡ cond t buffer (overlay (cond t [] bytes) buffer)
    silent true bytes = refl
    silent false bytes = refl

    go : (t : Bool) → eqb (text_number s text buffer) 0 ≡ t
        → (text_step text buffer s).answer.buffer ≡ cond (ltb (suc n) 100) buffer (overlay (failure (line_of text) (suc n)) buffer)
    go true i = absurd (true≢false (sym ((told s (text_line text buffer)).grant (eqb-true _ 0 i)) ∙ ap is_granted e))
    go false i = rw (i, refused-number (text_number s text buffer) n (rw i at e)) (silent (ltb (suc n) 100) _)

packet-silent : (s : State) (door kind id : ℕ) (words buffer : List ℕ) (n : ℕ) → (packet_step door kind id words buffer s).answer.outcome ≡ outcome (suc n) 0
    → (packet_step door kind id words buffer s).answer.buffer ≡ buffer
unfolding step tests_of packet_number packet_step is_granted number_of
packet-silent s door kind id words buffer n e = go (eqb (packet_number s door kind words buffer) 0) refl
  where
    go : (t : Bool) → eqb (packet_number s door kind words buffer) 0 ≡ t → (packet_step door kind id words buffer s).answer.buffer ≡ buffer
    go true i = absurd (true≢false (sym ((told s (packet door kind id words buffer)).grant (eqb-true _ 0 i)) ∙ ap is_granted e))
    go false i = rw i

pub total : Total
unfolding step buffers_of overlay
total = record {
  number = λ s c. subst (First (tests_of s c)) (sym (told s c).is) (first-is (tests_of s c));
  listed = λ s c. rw (told s c).is ((lawful c).listed s);
  granted = λ s c z. (told s c).grant (sym (told s c).is ∙ z);
  refused = λ s c n. (told s c).kept (λ z. n ((told s c).is ∙ z));
  past = λ s c. (told s c).past;
  line-past = λ s c. (told s c).line-past;
  request-silent = request-silent;
  cant-ten = λ m. length-written (cant_of (header_of m)) [];
  report-silent = report-silent;
  line-silent = text-silent;
  packet-silent = packet-silent;
  request-past = λ s m buffer. (told s (request m buffer)).past;
  report-past = λ s p kind reason words buffer line. (told s (report p kind reason words buffer line)).past;
  sound-stays = step-ready;
  words-stay = step-worded;
}
