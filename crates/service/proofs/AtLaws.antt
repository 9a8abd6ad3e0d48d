-- A call at one process, by the number of its tests. Assumes nothing.
use mathlib.Core.Path.{◌≡◌, refl, sym, ap, ◌∙◌}
use mathlib.Core.List.{List, []}
use mathlib.Core.Bool.{Bool, true, false, not, cond, ◌||◌, true≢false}
use mathlib.Core.Logic.{◌⊎◌, inl, inr}
use Prim.Native.Nat.{ℕ, zero, suc, ◌≤◌}
use native.Mathlib.Omega.{arith}
use borrow.Author.Tests.{eqb-true, ne_eqb, ltb-true, ltb-false, not-false}
use lib.ListN.{length, get_or-eq_default}
use lib.Dec.{eqb, ltb}
use Rattle.ops.specs.Codes.{DEBUG, END-DEBUG, DESTROY, WATCH, END-WATCH}
use Rattle.format.specs.declared.header.Header.{Header}
use Rattle.std.proofs.Common.{Err}
use Rattle.format.specs.Outcome.{refusal_by}
use Rattle.format.specs.Outcome.{first_failing, is_granted}
use Rattle.format.proofs.OutcomeLaws.{first_passes}
use Rattle.process.specs.Local.{Local, local}
use Rattle.process.specs.Record.{fresh}
use Rattle.process.specs.Request.{created, cleared}
use Rattle.rules.specs.Rule.{Public, public, rules, no_rule, rule_of}
use Rattle.rules.specs.Step.{beside}
use Rattle.rules.specs.Isolation.{public_then}
use Rattle.rules.proofs.RuleLaws.{rule-row}
use Rattle.checks.specs.Decision.{process_tests}
use Rattle.service.proofs.EffectLaws.{stays}
use Rattle.service.specs.At.{leaving, answer, cant_by, changes, named_by, named_at, created_at, report_by}

-- ---- EXAMINE and STATUS leave their process

named-kept : (n : ℕ) (h : Header) (string buffer : List ℕ) (l : Local) → (h.cmd ≡ 16) ⊎ (h.cmd ≡ 6) → (named_by n h string buffer l).left ≡ l
unfolding named_by rule_of
named-kept zero h string buffer l (inl e) = rw e (ap (local l.process) (sym (stays l.bytes)))
named-kept zero h string buffer l (inr e) = rw e (ap (local l.process) (sym (stays l.bytes)))
named-kept (suc n) h string buffer l e = refl

-- one of two that are compared
one-of : (n a b : ℕ) → eqb n a || eqb n b ≡ true → (n ≡ a) ⊎ (n ≡ b)
one-of n a b = go (eqb n a) refl
  where
    go : (t : Bool) → eqb n a ≡ t → t || eqb n b ≡ true → (n ≡ a) ⊎ (n ≡ b)
    go true e i = inl (eqb-true n a e)
    go false e i = inr (eqb-true n b i)

pub unchanged : (h : Header) (string buffer : List ℕ) (l : Local) → changes h.cmd ≡ false → (named_at h string buffer l).left ≡ l
unfolding changes named_at
unchanged h string buffer l e = named-kept (first_failing (process_tests h l.process)) h string buffer l (one-of h.cmd 16 6 (not-false _ e))

-- ---- what a request leaves of its process, by its outcome and its op code

-- a granted one found it there
there-by : (n : ℕ) (h : Header) (string buffer : List ℕ) (l : Local) → first_failing (process_tests h l.process) ≡ n
    → is_granted (named_by n h string buffer l).answer.outcome ≡ true → l.process.there ≡ true
unfolding named_by cant_by is_granted
there-by zero h string buffer l e g = not-false _ (first_passes 6 (not l.process.there) _ e)
there-by (suc n) h string buffer l e g = absurd (true≢false (sym g))

pub granted-there : (h : Header) (string buffer : List ℕ) (l : Local) → is_granted (named_at h string buffer l).answer.outcome ≡ true
    → l.process.there ≡ true
unfolding named_at
granted-there h string buffer l = there-by (first_failing (process_tests h l.process)) h string buffer l refl

-- a refused one leaves it
left_by : (n : ℕ) (h : Header) (string buffer : List ℕ) (l : Local) → is_granted (named_by n h string buffer l).answer.outcome ≡ false
    → (named_by n h string buffer l).left ≡ l
unfolding named_by is_granted
left_by zero h string buffer l g = absurd (true≢false g)
left_by (suc n) h string buffer l g = refl

pub refused-left : (h : Header) (string buffer : List ℕ) (l : Local) → is_granted (named_at h string buffer l).answer.outcome ≡ false
    → (named_at h string buffer l).left ≡ l
unfolding named_at
refused-left h string buffer l = left_by (first_failing (process_tests h l.process)) h string buffer l

-- after a granted DESTROY it is absent
gone-by : (n : ℕ) (h : Header) (string buffer : List ℕ) (l : Local) → h.cmd ≡ DESTROY
    → is_granted (named_by n h string buffer l).answer.outcome ≡ true → (named_by n h string buffer l).left.process.there ≡ false
unfolding named_by cant_by is_granted rule_of cleared fresh
gone-by zero h string buffer l e g = rw e
gone-by (suc n) h string buffer l e g = absurd (true≢false (sym g))

pub destroyed-gone : (h : Header) (string buffer : List ℕ) (l : Local) → h.cmd ≡ DESTROY
    → is_granted (named_at h string buffer l).answer.outcome ≡ true → (named_at h string buffer l).left.process.there ≡ false
unfolding named_at
destroyed-gone h string buffer l = gone-by (first_failing (process_tests h l.process)) h string buffer l

-- and after any other request it is there, or absent, as it was
rule-stays : (cmd : ℕ) → (cmd ≡ DESTROY → ⊥) → (h : Header) (string : List ℕ) (l : Local) → ((rule_of cmd).effect h string l).process.there ≡ l.process.there
unfolding rule_of public public_then
rule-stays cmd other h string l = go (ltb cmd 17) refl
  where
    shown : (a b w e : Bool) (u : Public)
        → (cond a (record { there = u.there; host = h.host; watcher = u.watcher; size = u.size })
        (cond b (record { there = u.there; host = 0; watcher = 0; size = u.size })
        (cond w (record { there = u.there; host = u.host; watcher = h.host; size = u.size })
        (cond e (record { there = u.there; host = u.host; watcher = 0; size = u.size }) u)))).there
        ≡ u.there
    shown true b w e u = refl
    shown false true w e u = refl
    shown false false true e u = refl
    shown false false false true u = refl
    shown false false false false u = refl

    go : (t : Bool) → ltb cmd 17 ≡ t → ((rule_of cmd).effect h string l).process.there ≡ l.process.there
    go true e =
        ap (λ (u : Public). u.there) ((rule-row cmd (omega (arith, ltb-true cmd 17 e))).publicly h string l)
        ∙ rw (ne_eqb cmd DESTROY other) (shown (eqb cmd DEBUG) (eqb cmd END-DEBUG) (eqb cmd WATCH) (eqb cmd END-WATCH) (public l.process))
    go false e = let past : length rules ≤ cmd = omega (arith, ltb-false cmd 17 e) in rw (get_or-eq_default rules no_rule past)

stays_by : (n : ℕ) (h : Header) (string buffer : List ℕ) (l : Local) → (h.cmd ≡ DESTROY → ⊥)
    → (named_by n h string buffer l).left.process.there ≡ l.process.there
unfolding named_by
stays_by zero h string buffer l other = rule-stays h.cmd other h string l
stays_by (suc n) h string buffer l other = refl

pub others-stay : (h : Header) (string buffer : List ℕ) (l : Local) → (h.cmd ≡ DESTROY → ⊥)
    → (named_at h string buffer l).left.process.there ≡ l.process.there
unfolding named_at
others-stay h string buffer l = stays_by (first_failing (process_tests h l.process)) h string buffer l

-- ---- a new process is there, and its CREATE is granted

pub created-there : (p : ℕ) (h : Header) (buffer : List ℕ) → (created_at p h buffer).left.process.there ≡ true
unfolding created_at created fresh
created-there p h buffer = refl

pub created-granted : (p : ℕ) (h : Header) (buffer : List ℕ) → is_granted (created_at p h buffer).answer.outcome ≡ true
unfolding created_at is_granted
created-granted p h buffer = refl

-- ---- refused by a number that is not 0

pub named-refused : (n : ℕ) → (n ≡ 0 → ⊥) → (h : Header) (string buffer : List ℕ) (l : Local)
    → named_by n h string buffer l ≡ leaving (cant_by n h buffer) l
unfolding named_by
named-refused zero z h string buffer l = absurd (z refl)
named-refused (suc n) z h string buffer l = refl

pub report-refused : (n : ℕ) → (n ≡ 0 → ⊥) → (p kind reason : ℕ) (words buffer line : List ℕ) (l : Local)
    → report_by n p kind reason words buffer line l ≡ leaving (beside [] line (answer (Err (refusal_by n)) buffer)) l
unfolding report_by
report-refused zero z p kind reason words buffer line l = absurd (z refl)
report-refused (suc n) z p kind reason words buffer line l = refl
