-- Laws of the query about a message: a long one is answered by its length alone, and a whole one by its own. Assumes nothing.
use mathlib.Core.Path.{◌≡◌, refl, sym, ap, ◌∙◌}
use mathlib.Core.Bool.{Bool, true, false, cond}
use mathlib.Core.List.{List, []}
use Prim.Native.Nat.{ℕ, ◌≤◌, ◌<◌}
use lib.ListN.{length, take}
use lib.Dec.{eqb}
use Rattle.format.specs.declared.header.Header.{Header}
use Rattle.format.specs.Outcome.{first_failing}
use Rattle.format.specs.Layout.{header_of}
use Rattle.run_state.specs.RunState.{run_number}
use Rattle.process.specs.declared.record.Process.{Process}
use Rattle.reasons.specs.declared.Reason.{Reason}
use Rattle.reasons.specs.declared.Reason.TheVariants.{Granted, Length, Debugger, RunState, Full, Watcher, Setter, Other}
use Rattle.rules.specs.Tests.{State, lent, record_of, unsound}
use Rattle.rules.specs.Why.{past_of, full_of, who_set, reason_for, why_number, why_of}
use Rattle.state_bytes.specs.State.{state_of, state_formed}
use Rattle.gateway.specs.Called.{why_on}
use Rattle.display.specs.Reason.{why_line}
use Rattle.calls.specs.Effect.{effect}
use Rattle.calls.specs.Meaning.{recounted, why_made}
use Rattle.calls.proofs.MeaningLaws.{too_long, front-alike}

-- ---- a message over 266 bytes

number-long : (s : State) (x : List ℕ) → 266 < length x → why_number s x ≡ cond (unsound s) 2 3
unfolding why_number first_failing
number-long s x h = rw (too_long x h)

-- its reason is known but for the length
reason-long : (count : ℕ) (s : State) (x : List ℕ) → 266 < length x → recounted count (why_of s x) ≡ cond (unsound s) (Other 2) (Length count)
unfolding recounted why_of reason_for
reason-long count s x h = rw (number-long s x h) (go (unsound s))
  where
    go : (t : Bool) → recounted count (reason_for (cond t 2 3) (header_of x) (length x) (record_of s (header_of x).pid)) ≡ cond t (Other 2) (Length count)
    go true = refl
    go false = refl

-- so two of them have the same
same-long : (count : ℕ) (x y s : List ℕ) → 266 < length x → 266 < length y → recounted count (why_on s x) ≡ recounted count (why_on s y)
unfolding why_on
same-long count x y s h k = go (state_formed s)
  where
    go : (t : Bool) → recounted count (cond t (why_of (lent (state_of s) []) x) (Other 2)) ≡ recounted count (cond t (why_of (lent (state_of s) []) y) (Other 2))
    go true = reason-long count (lent (state_of s) []) x h ∙ sym (reason-long count (lent (state_of s) []) y k)
    go false = refl

pub why-long : (count : ℕ) (x y s m : List ℕ) → 266 < length x → 266 < length y → why_made count x s m ≡ why_made count y s m
unfolding why_made
why-long count x y s m h k = ap (λ (r : Reason). effect s m (why_line r)) (same-long count x y s h k)

-- and a message has that of its first bytes, if these are more than 266 or all
pub why-front : (count n : ℕ) (x s m : List ℕ) → 267 ≤ n → why_made count (take n x) s m ≡ why_made count x s m
why-front count n x s m h = front-alike (λ y. why_made count y s m) (λ y z. why-long count y z s m) n x h

-- ---- a whole message

-- a reason that tells a length tells this one
own-count : (count n : ℕ) (h : Header) (p : Process) → recounted count (reason_for n h count p) ≡ reason_for n h count p
unfolding recounted reason_for
own-count count n h p = go (eqb n 0) (eqb n 3) refl (eqb n 8) (eqb n 9) (eqb n 10) (eqb n 11) (eqb n 15) (eqb n 16)
  where
    Own : Reason → Type 0
    Own r = recounted count r ≡ r

    go : (t0 t3 : Bool) → eqb n 3 ≡ t3 → (t8 t9 t10 t11 t15 t16 : Bool)
        → Own (cond t0 Granted (cond t3 (Length count) (cond t8 (Debugger p.host) (cond t9 (RunState (run_number p.run)) (cond t10 (past_of h p.size) (cond t11 (Full (full_of p)) (cond t15 (Watcher p.session.watcher) (cond t16 (Setter (who_set h p)) (Other n)))))))))
    go true t3 e t8 t9 t10 t11 t15 t16 = refl
    go false true e t8 t9 t10 t11 t15 t16 = refl
    go false false e true t9 t10 t11 t15 t16 = refl
    go false false e false true t10 t11 t15 t16 = refl
    go false false e false false true t11 t15 t16 = refl
    go false false e false false false true t15 t16 = refl
    go false false e false false false false true t16 = refl
    go false false e false false false false false true = refl
    go false false e false false false false false false = rw e

-- what a query says of a message is recounted to its own length
pub why-own : (x s : List ℕ) → recounted (length x) (why_on s x) ≡ why_on s x
unfolding why_on why_of recounted
why-own x s = go (state_formed s)
  where
    go : (t : Bool) → recounted (length x) (cond t (why_of (lent (state_of s) []) x) (Other 2)) ≡ cond t (why_of (lent (state_of s) []) x) (Other 2)
    go true = own-count (length x) (why_number (lent (state_of s) []) x) (header_of x) (record_of (lent (state_of s) []) (header_of x).pid)
    go false = refl
