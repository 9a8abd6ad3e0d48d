-- `sentence::sentence::put_state` meets its contract, by whether the process has ended. Assumes nothing.
use mathlib.Core.Bool.{cond}
use mathlib.Core.List.{List}
use Prim.Native.Nat.{ℕ, ◌≤◌, ◌+◌}
use native.Mathlib.Omega.{arith}
use borrow.Author.Tests.{eq-eqb, ne_eqb}
use lib.Dec.{eqb}
use Rattle.lines.specs.Scan.{Put}
use Rattle.lines.proofs.PutLaws.{put_then}
use Rattle.sentence.specs.Text.{text}
use Rattle.sentence.specs.RunName.{run_name}
use Rattle.sentence.specs.Sentence.{state_text}
use Rattle.sentence.proofs.sentence.put_state.Goals as goal
use Rattle.sentence.proofs.sentence.put_state.Goals.{then-run-eq-ENDED, else-run-eq-ENDED}

-- the process, as a text of one form or the other
abbrev told : ℕ → List ℕ
told run = cond (eqb run 4) (text "the process has ") (text "the process is ")

pub put_run_name-requires : goal.put_run_name-requires
put_run_name-requires c = elim c.if-run-eq-ENDED.branch [
  | then-run-eq-ENDED w ↦ omega (arith, w.put-at.ensures.0)
  | else-run-eq-ENDED w ↦ omega (arith, w.put-at-else-run-eq-ENDED.ensures.0)
]

pub returns : goal.returns
unfolding state_text
returns c =
    let at = c.if-run-eq-ENDED.at in
    let out = c.args.out.now in
    let out1 = c.if-run-eq-ENDED.out in
    let started : Put c.args.from (told c.args.run) out at out1 = elim c.if-run-eq-ENDED.branch [
      | then-run-eq-ENDED w ↦ rw (eq-eqb c.args.run 4 w.if-run-eq-ENDED.true, w.at-is, w.out-is) w.put-at.ensures
      | else-run-eq-ENDED w ↦ rw (ne_eqb c.args.run 4 w.if-run-eq-ENDED.false, w.at-is, w.out-is) w.put-at-else-run-eq-ENDED.ensures
    ] in
    let short : at ≤ c.args.from + 16 = elim c.if-run-eq-ENDED.branch [
      | then-run-eq-ENDED w ↦ omega (arith, w.put-at.ensures.0)
      | else-run-eq-ENDED w ↦ omega (arith, w.put-at-else-run-eq-ENDED.ensures.0)
    ] in
    record {
      put = put_then c.args.from at c.put_run_name.result (told c.args.run) (run_name c.args.run) out out1 c.put_run_name.new.out started c.put_run_name.ensures.put;
      upper_bound = omega arith;
    }
