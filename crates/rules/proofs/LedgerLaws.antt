-- The ledger: what the calls and their answers tell of the sizes is what the state has, and the last process ends where all sizes together
-- say. Assumes nothing.
use mathlib.Core.Path.{◌≡◌, refl, sym, ap, ◌∙◌}
use mathlib.Core.Bool.{Bool, true, false, cond, ◌&&◌}
use mathlib.Core.List.{List, [], ◌∷◌}
use Prim.Native.Nat.{ℕ, ◌+◌, ◌<◌}
use native.Mathlib.Omega.{arith}
use lib.ListN.{length, get_or}
use lib.Dec.{eqb}
use Rattle.lists.proofs.Sum.{total-alike}
use Rattle.process.specs.Record.{fresh}
use Rattle.process.specs.Request.{cleared}
use Rattle.state.specs.Layout.{capacity, extent_at, used}
use Rattle.state.specs.Fresh.{fresh_process, fresh_start, sizes_right}
use Rattle.state.specs.Theorems.{FreshIsSound}
use Rattle.state.proofs.LayoutLaws.{last-ends}
use Rattle.state.proofs.SoundLaws.{state-passes}
use Rattle.state.proofs.FreshLaws.{length-fresh_processes, getD-fresh_processes, length-fresh_starts, fresh-is-sound}
use Rattle.state.specs.Records.{process_at}
use Rattle.rules.specs.Rule.{Public, public, names, creates, size_asked}
use Rattle.rules.specs.Tests.{State, lent}
use Rattle.rules.specs.Step.{Answer, Call, step}
use Rattle.rules.specs.Ready.{Ready}
use Rattle.rules.specs.Run.{TraceItem, run, final}
use Rattle.rules.specs.Isolation.{fields_of, is_granted, public_then, told_of, public_of, Debuggers}
use Rattle.rules.specs.Ledger.{end_of_last, bytes_after_last, told_after, fresh_public, sum_of_sizes, Ledger}
use Rattle.rules.proofs.StateLaws.{extent_of, layout_of, sized_of}
use Rattle.rules.proofs.StepLaws.{step-ready}
use Rattle.rules.proofs.DebuggerLaws.{debuggers}

-- ---- what is told of one process

-- goes by what was known of it
told_at : (d e : ℕ → Public) (c : Call) (a : Answer) (p : ℕ) → d p ≡ e p → told_of d c a p ≡ told_of e c a p
unfolding told_of
told_at d e c a p same =
    ap
    (λ (u : Public). cond (is_granted a.outcome)
    (cond (names (fields_of c).cmd && eqb p (fields_of c).pid) (public_then (fields_of c).cmd (fields_of c).host u)
    (cond (creates (fields_of c).cmd && eqb p (get_or a.buffer 5 0)) (record { there = true; host = (fields_of c).host; watcher = 0; size = size_asked (fields_of c) }) u)) u)
    same

told-after : (es : List TraceItem) (d e : ℕ → Public) (p : ℕ) → d p ≡ e p → told_after d es p ≡ told_after e es p
unfolding told_after
told-after [] d e p same = same
told-after (x ∷ es) d e p same = told-after es (told_of d x.call x.answer) (told_of e x.call x.answer) p (told_at d e x.call x.answer p same)

-- and is what the state has
told_is : (l : List Call) (s : State) → Ready s → (p : ℕ) → told_after (public_of s) (run s l) p ≡ public_of (final s l) p
unfolding told_after run final Debuggers
told_is [] s r p = refl
told_is (c ∷ l) s r p =
    told-after (run (step s c).after l) (told_of (public_of s) c (step s c).answer) (public_of (step s c).after) p (sym (debuggers s r c p))
    ∙ told_is l (step s c).after (step-ready s r c) p

pub final-ready : (l : List Call) (s : State) → Ready s → Ready (final s l)
unfolding final
final-ready [] s r = r
final-ready (c ∷ l) s r = final-ready l (step s c).after (step-ready s r c)

-- ---- the sum

-- of a state whose public parts are these
balanced : (s : State) → Ready s → (d : ℕ → Public) → ((p : ℕ) → p < 8 → d p ≡ public_of s p) → bytes_after_last s + sum_of_sizes d ≡ capacity
unfolding sum_of_sizes end_of_last used public
balanced s r d known =
    let ends : end_of_last s.records ≡ used s.records = last-ends s.records (layout_of s r) (sized_of s r) in
    let sums : sum_of_sizes d ≡ used s.records = total-alike (λ (p : ℕ). extent_of (d p)) (extent_at s.records) 8 (λ p h. ap extent_of (known p h)) in
    omega (arith, ends, sums, (layout_of s r).fits)

from-any : (s : State) → Ready s → (l : List Call) → bytes_after_last (final s l) + sum_of_sizes (told_after (public_of s) (run s l)) ≡ capacity
from-any s r l = balanced (final s l) (final-ready l s r) (told_after (public_of s) (run s l)) (λ p h. told_is l s r p)

-- ---- a fresh start

module _ (ts : List Bool) (ns : List ℕ) (long : length ts ≡ 8) (right : sizes_right ts ns ≡ true) where
  fresh-record : (p : ℕ) → p < 8 → process_at (fresh_start ts ns) p ≡ fresh_process (get_or ts p false) (get_or ns p 0)
  unfolding fresh_start
  fresh-record p h = getD-fresh_processes ts ns p (omega (arith, h, long))

  eight-entries : (t : Bool) (n : ℕ) → length (fresh_process t n).breaks ≡ 8
  unfolding fresh_process fresh cleared
  eight-entries true n = refl
  eight-entries false n = refl

  fresh-entries : (p : ℕ) → p < 8 → length (process_at (fresh_start ts ns) p).breaks ≡ 8
  fresh-entries p h = rw (fresh-record p h) (eight-entries (get_or ts p false) (get_or ns p 0))

  pub fresh-ready : (memory : List ℕ) → length memory ≡ capacity → Ready (lent (fresh_start ts ns) memory)
  unfolding fresh_start FreshIsSound
  fresh-ready memory size = record {
    memory = size;
    processes = length-fresh_processes ts ns ∙ long;
    starts = length-fresh_starts 0 ts ns ∙ long;
    entries = fresh-entries;
    sound = state-passes (fresh_start ts ns) fresh-entries (fresh-is-sound ts ns long right);
  }

  fresh-shown : (memory : List ℕ) (p : ℕ) → p < 8 → fresh_public ts ns p ≡ public_of (lent (fresh_start ts ns) memory) p
  unfolding fresh_public public fresh_process fresh cleared
  fresh-shown memory p h = sym (ap public (fresh-record p h) ∙ go (get_or ts p false))
    where
      go : (t : Bool) → public (fresh_process t (get_or ns p 0))
          ≡ cond t (record { there = true; host = 0; watcher = 0; size = get_or ns p 0 }) (record { there = false; host = 0; watcher = 0; size = 4096 })
      go true = refl
      go false = refl

  from-fresh : (memory : List ℕ) → length memory ≡ capacity → (l : List Call)
      → bytes_after_last (final (lent (fresh_start ts ns) memory) l) + sum_of_sizes (told_after (fresh_public ts ns) (run (lent (fresh_start ts ns) memory) l)) ≡ capacity
  from-fresh memory size l =
      let s = lent (fresh_start ts ns) memory in
      let r = fresh-ready memory size in
      balanced (final s l) (final-ready l s r) (told_after (fresh_public ts ns) (run s l))
      (λ p h. told-after (run s l) (fresh_public ts ns) (public_of s) p (fresh-shown memory p h) ∙ told_is l s r p)

pub ledger : Ledger
ledger = record { from-fresh-start = λ ts ns memory long right. from-fresh ts ns long right memory; from-any = from-any }
