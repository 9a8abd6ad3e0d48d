-- What a decision says of the request that it came from. Assumes nothing.
use mathlib.Core.Path.{◌≡◌, refl, sym, subst}
use mathlib.Core.Bool.{Bool, true, false, not, cond, ◌&&◌, ◌||◌}
use mathlib.Core.List.{[], ◌∷◌}
use Prim.Native.Nat.{ℕ, zero, suc}
use native.Mathlib.Omega.{arith}
use borrow.Author.Tests.{ltb-false, not-false}
use lib.ListN.{length, get_or-eq_default}
use lib.Dec.{eqb, ltb}
use Rattle.format.specs.declared.header.Header.{Header}
use Rattle.std.proofs.Common.{Option, Some, None, Ok, Err}
use Rattle.ops.specs.declared.table.Form.{Form}
use Rattle.format.specs.Outcome.{test, first_failing}
use Rattle.ops.specs.Table.{bare, row, ops, row_of, request_form}
use Rattle.format.proofs.OutcomeLaws.{first_passes, rest-passes}
use Rattle.process.specs.declared.record.Process.{Process}
use Rattle.breakpoints.specs.declared.entry_query.EntryQuery.TheVariants.{Free, At}
use Rattle.process.specs.Record.{entry}
use Rattle.process.specs.Find.{find}
use Rattle.process.specs.Request.{has_break, has_room, has_room_for, may_have_more, is_his, entry_for}
use Rattle.rules.specs.Rule.{rule_of, names}
use Rattle.rules.specs.Tests.{rule_tests}
use Rattle.format.specs.Outcome.{refusal_by}
use Rattle.checks.specs.Decision.{Decision, decision_by, entry_of, own_decision, new_decision, break_decision, unbreak_decision, entry_decision, process_tests, decision_of}

-- ---- which op codes name a process

abbrev pub pid_in : Option Form → Bool
pid_in (Some f) = f.pid
pid_in None = false

named_by : (cmd : ℕ) → pid_in (request_form cmd) ≡ names cmd
unfolding request_form row_of names
named_by cmd = go (ltb cmd (length ops)) refl
  where
    go : (t : Bool) → ltb cmd (length ops) ≡ t → pid_in (request_form cmd) ≡ names cmd
    go true e = rw e
    go false e = rw (e, get_or-eq_default ops (row bare bare) {n = cmd} (ltb-false cmd (length ops) e))

pub names-known : (cmd : ℕ) (found : Option Form) → found ≡ request_form cmd → pid_in found ≡ names cmd
names-known cmd found e = rw e (named_by cmd)

-- ---- the decision of a BREAK and of an UNBREAK

breaks-by : (there his room : Bool) (k j : ℕ)
    → cond there (cond his (Ok k) (Err (refusal_by 16))) (cond room (Ok j) (Err (refusal_by 11)))
    ≡ decision_by (first_failing (test 11 (not (there || room)) ∷ test 12 false ∷ test 16 (not (not there || his)) ∷ [])) (cond there k j)
unfolding decision_by first_failing
breaks-by true true room k j = refl
breaks-by true false room k j = refl
breaks-by false his true k j = refl
breaks-by false his false k j = refl

unbreaks-by : (there his : Bool) (k : ℕ)
    → cond there (cond his (Ok k) (Err (refusal_by 16))) (Err (refusal_by 12))
    ≡ decision_by (first_failing (test 11 false ∷ test 12 (not there) ∷ test 16 (not (not there || his)) ∷ [])) k
unfolding decision_by first_failing
unbreaks-by true true k = refl
unbreaks-by true false k = refl
unbreaks-by false his k = refl

-- 11, where the host may set no more, room or not
pub no_more : (host : ℕ) (p : Process) → may_have_more host p ≡ false → new_decision host p ≡ Err (refusal_by 11)
unfolding new_decision
no_more host p e = rw e (go (has_room p))
  where
    go : (room : Bool) → cond (room && false) (Ok (find Free p)) (Err (refusal_by 11)) ≡ Err (refusal_by 11)
    go true = refl
    go false = refl

module _ (h : Header) (p : Process) where
  pub break-decides : h.cmd ≡ 8 → break_decision h.host h.arg1 p ≡ entry_decision h p
  unfolding break_decision own_decision new_decision entry_decision entry_of rule_of has_room_for is_his entry_for
  break-decides op =
      let k = find (At h.arg1) p in
      rw op (breaks-by (has_break h.arg1 p) (eqb (entry p k).setter h.host) (has_room p && may_have_more h.host p) k (find Free p))

  pub unbreak-decides : h.cmd ≡ 9 → unbreak_decision h.host h.arg1 p ≡ entry_decision h p
  unfolding unbreak_decision own_decision entry_decision entry_of rule_of is_his
  unbreak-decides op =
      let k = find (At h.arg1) p in
      rw op (unbreaks-by (has_break h.arg1 p) (eqb (entry p k).setter h.host) k)

-- ---- a decision by its number

by_number : (F : Decision → Type 0) (n k : ℕ) → (n ≡ 0 → F (Ok k)) → ((n ≡ 0 → ⊥) → F (Err (refusal_by n))) → F (decision_by n k)
unfolding decision_by
by_number F zero k f g = f refl
by_number F (suc n) k f g = g (λ e. omega (arith, e))

-- ---- what each decision says

pub record Changes (h : Header) (p : Process) (k : ℕ) : Type 0 where
  pub passed : first_failing (process_tests h p) ≡ 0
  pub there : p.there ≡ true
  pub rule : first_failing (rule_tests (rule_of h.cmd) h p) ≡ 0
  pub entry : k ≡ entry_of h.cmd h.arg1 p

abbrev pub Says : Header → Process → Decision → Type 0
Says h p (Ok k) = Changes h p k
Says h p (Err r) = (r.0 ≡ first_failing (process_tests h p)) × (r.0 ≡ 0 → ⊥)

decision-says : (h : Header) (p : Process) → Says h p (decision_of h p)
unfolding decision_of
decision-says h p =
    by_number (Says h p) (first_failing (process_tests h p)) (entry_of h.cmd h.arg1 p)
    (λ e. record { passed = e; there = not-false _ (first_passes 6 _ _ e); rule = rest-passes 6 _ _ e; entry = refl })
    (λ z. (refl, z))

-- a decision says what it says of the request that it came from
pub says : (h : Header) (p : Process) (t : Decision) → t ≡ decision_of h p → Says h p t
says h p t e = subst (Says h p) (sym e) (decision-says h p)
