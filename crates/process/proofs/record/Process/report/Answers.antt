-- `process::record::Process::report` meets its contract, by the verdict. Assumes nothing.
use mathlib.Core.Path.{◌≡◌, refl, sym, ap, ◌∙◌}
use lib.ListN.{length}
use Rattle.process.specs.Local.{local}
use Rattle.process.specs.Record.{with_vector}
use Rattle.process.specs.Report.{store_vector_and_replant, recipient_of, answer_of, reported}
use Rattle.process.specs.declared.record.Process.{Process}
use Rattle.process.proofs.AnswerLaws.{owed-stored}
use Rattle.process.proofs.ReportLaws.{counts-low, counts-count}
use Rattle.process.proofs.PlantingLaws.{inside-replanted}
use Rattle.process.proofs.TestedLaws.{tested-inside}
use borrow.Author.Rules.{rules}
use Rattle.process.proofs.record.Process.report.Goals as goal

pub store_vector_and_replant-p-requires : goal.store_vector_and_replant-p-requires
store_vector_and_replant-p-requires c = tested-inside c.args.self c.args.bytes.now c.requires

pub pass-requires : goal.pass-requires
unfolding store_vector_and_replant
pass-requires c =
    let eight : length c.args.self.breaks ≡ 8 = search rules in
    let p = c.store_vector_and_replant-p.result in
    let counted = sym c.verdict.ensures ∙ c.in-CountsDown.is in
    let inside = inside-replanted (with_vector c.args.vector c.args.self) c.args.bytes.now eight (tested-inside c.args.self c.args.bytes.now c.requires) in (
      counts-low c.args.kind p _ counted,
      rw (c.store_vector_and_replant-p.ensures.value, c.store_vector_and_replant-p.ensures.bytes_after) inside,
      counts-count c.args.kind p _ counted,
    )

pub returns-in-Stops : goal.returns-in-Stops
unfolding reported recipient_of answer_of
returns-in-Stops c =
    let l = local c.args.self c.args.bytes.now in
    let p = c.store_vector_and_replant-p.result in
    let stops = sym c.verdict.ensures ∙ c.in-Stops.is in
    let whole : store_vector_and_replant c.args.vector (local c.args.self c.args.bytes.now) ≡ local p c.store_vector_and_replant-p.new.bytes =
    rw (c.store_vector_and_replant-p.ensures.value, c.store_vector_and_replant-p.ensures.bytes_after) in
    let owed = ap (λ (x : Process). x.session.owed) c.store_vector_and_replant-p.ensures.value ∙ owed-stored c.args.vector l in
    rw (whole, stops) record {
      process_value = c.stopping.ensures.0;
      told_value = c.stopping.ensures.1;
      answered_value = c.stopping.ensures.2 ∙ owed;
      bytes_after = refl;
    }

pub returns-in-CountsDown : goal.returns-in-CountsDown
unfolding reported recipient_of answer_of
returns-in-CountsDown c =
    let p = c.store_vector_and_replant-p.result in
    let counted = sym c.verdict.ensures ∙ c.in-CountsDown.is in
    let whole : store_vector_and_replant c.args.vector (local c.args.self c.args.bytes.now) ≡ local p c.store_vector_and_replant-p.new.bytes =
    rw (c.store_vector_and_replant-p.ensures.value, c.store_vector_and_replant-p.ensures.bytes_after) in
    rw (whole, counted) record {
      process_value = c.quietly.ensures.0 ∙ c.pass.ensures.value;
      told_value = c.quietly.ensures.1;
      answered_value = c.quietly.ensures.2;
      bytes_after = c.pass.ensures.bytes_after;
    }

pub returns-in-GoesOn : goal.returns-in-GoesOn
unfolding reported recipient_of answer_of
returns-in-GoesOn c =
    let p = c.store_vector_and_replant-p.result in
    let goes = sym c.verdict.ensures ∙ c.in-GoesOn.is in
    let whole : store_vector_and_replant c.args.vector (local c.args.self c.args.bytes.now) ≡ local p c.store_vector_and_replant-p.new.bytes =
    rw (c.store_vector_and_replant-p.ensures.value, c.store_vector_and_replant-p.ensures.bytes_after) in
    rw (whole, goes) record {
      process_value = c.quietly-in-GoesOn.ensures.0 ∙ c.with_run.ensures;
      told_value = c.quietly-in-GoesOn.ensures.1;
      answered_value = c.quietly-in-GoesOn.ensures.2;
      bytes_after = refl;
    }
