-- `state_bytes::state_form::put_fresh_starts` meets its contract. The loop's invariant: the starts passed are written, and the next process begins
-- where those passed end. Assumes nothing.
use mathlib.Core.Path.{◌≡◌, refl, sym, ap, ◌∙◌}
use mathlib.Core.Bool.{false, cond}
use mathlib.Core.List.{List}
use Prim.Native.Nat.{ℕ, ◌+◌}
use native.Mathlib.Numerals.{add-one}
use native.Mathlib.Omega.{arith}
use borrow.Author.Rules.{rules}
use lib.ListN.{length, get_or}
use Rattle.lists.specs.Buffer.{Bytes, overlay}
use Rattle.lists.specs.Elements.{elements}
use Rattle.lists.specs.Sum.{total}
use Rattle.lists.proofs.Sum.{total-suc}
use Rattle.state.specs.Fresh.{fresh_starts}
use Rattle.state_bytes.specs.State.{state_of, with_start_bytes, with_starts_bytes}
use Rattle.state_bytes.specs.Widths.{process_count}
use Rattle.state.proofs.FreshLaws.{length-fresh_starts, getD-fresh_starts}
use Rattle.state_bytes.proofs.NumberLaws.{by-elements}
use Rattle.state_bytes.proofs.StartLaws.{same-starts, length-with-starts, eight-written, written-more, written_all, size_if, fresh-fits}
use Rattle.state_bytes.proofs.state_form.put_fresh_starts.Goals as goal

pub loop-p-init : goal.loop-p-init
unfolding overlay total
loop-p-init c =
    let bytes : Bytes c.args.state.now = λ i. omega (arith, c.slice_known-1.given i) in
    (search rules, refl, refl, sym (same-starts c.args.state.now bytes c.requires.state_len))

pub put_start-requires : goal.put_start-requires
put_start-requires c = record { p_lt_process_count = omega arith; state_len = c.loop-p.invariant.1 ∙ c.requires.state_len }

pub overflow_add-start : goal.overflow_add-start
overflow_add-start c =
    let more = c.if_there-start.ensures ∙ ap (λ (n : ℕ). cond (get_or c.args.there c.loop-p.p false) n 0) c.size_of.ensures in
    omega (arith, more, c.loop-p.invariant.2, fresh-fits c.args.there c.args.sizes c.requires.sizes_value c.loop-p.p (omega arith))

pub loop-p-preserved : goal.loop-p-preserved
loop-p-preserved c =
    let ts = c.args.there in
    let ns = c.args.sizes in
    let m = c.args.state.now in
    let p = c.loop-p.p in
    let F : ℕ → ℕ = λ k. get_or (fresh_starts 0 ts ns) k 0 in
    let more = c.if_there-start.ensures ∙ ap (λ (n : ℕ). cond (get_or ts p false) n 0) c.size_of.ensures in
    let here : c.loop-p.start ≡ 0 + total (size_if ts ns) p = omega (arith, c.loop-p.invariant.2) in
    let one : c.if_there.result ≡ F p = c.if_there.ensures ∙ ap (λ (n : ℕ). cond (get_or ts p false) n 0) here ∙ sym (getD-fresh_starts 0 ts ns p (omega (arith, c.loop-p.invariant.0))) in
    let laid = c.put_start.ensures
    ∙ ap (λ (n : ℕ). with_start_bytes p n c.loop-p.state) one
    ∙ ap (with_start_bytes p (F p)) c.loop-p.invariant.3
    ∙ written-more F m c.requires.state_len p (omega arith) in
    let long = ap (λ (b : List ℕ). length b) laid
    ∙ length-with-starts (overlay (elements F (p + 1)) (state_of m).starts) (eight-written F m c.requires.state_len (p + 1) (omega arith)) m c.requires.state_len
    ∙ sym c.requires.state_len in
    (c.loop-p.invariant.0, long, rw (add-one p) (omega (arith, more, c.loop-p.invariant.2, total-suc (size_if ts ns) p)), laid)

pub shape_of-state : goal.shape_of-state
shape_of-state c = c.loop-p.invariant.1

pub returns : goal.returns
returns c =
    let all = fresh_starts 0 c.args.there c.args.sizes in
    let m = c.args.state.now in
    let end : c.loop-p.p ≡ process_count = omega arith in
    let eight : length all ≡ process_count = length-fresh_starts 0 c.args.there c.args.sizes ∙ c.loop-p.invariant.0 in
    (rw end at c.loop-p.invariant.3)
    ∙ written_all (λ (k : ℕ). get_or all k 0) m c.requires.state_len
    ∙ ap (λ (xs : List ℕ). with_starts_bytes xs m) (sym (by-elements process_count all eight))
