-- `c_api::calls::palustrode_report` meets its contract: that of the gateway's report, where the words have their length. Assumes nothing.
use mathlib.Core.Path.{◌≡◌, refl, sym, ap, ◌∙◌, subst}
use borrow.Author.Tests.{eq-eqb, ne_eqb}
use lib.ListN.{length}
use mir.Syntax.{w64}
use mir.Val.{to_z, of_z}
use Rattle.format.specs.Outcome.{number_of, is_granted}
use Rattle.c_api.specs.Called.{signed, Short, both_lengths, byte_of, report_on}
use Rattle.c_api.proofs.ShortLaws.{nine_words, report-small}
use Rattle.c_api.proofs.ReturnLaws.{told-short, report-returns}
use Rattle.gateway.specs.Called.{Did}
use Rattle.c_api.proofs.NarrowLaws.{narrow-report}
use borrow.Author.Rules.{rules}
use Rattle.c_api.proofs.calls.palustrode_report.Goals as goal

pub returns-then-words-ne18 : goal.returns-then-words-ne18
unfolding report_on signed both_lengths number_of is_granted
returns-then-words-ne18 c =
    let same : to_z w64 (of_z w64 c.minus.result) ≡ c.minus.result = search rules in
    rw (ne_eqb (length c.args.words.now) 18 c.if-words-ne18.true) (record { result-is = same ∙ c.minus.ensures; state-is = refl; memory-is = refl; notice-is = refl; line-is = refl })

pub words_of-requires : goal.words_of-requires
words_of-requires c = c.if-words-ne18.false

pub both_lengths-requires : goal.both_lengths-requires
unfolding Did
both_lengths-requires c =
    let nine : length c.words_of.result ≡ 9 = rw c.words_of.ensures (nine_words c.args.words.now) in
    told-short _ _ _ _ _ _ _ c.report-told.ensures (report-small c.args.state.now c.args.memory.now _ _ _ c.words_of.result c.args.notice.now c.args.line.now nine)

pub signed-requires : goal.signed-requires
unfolding Did
signed-requires c =
    let nine : length c.words_of.result ≡ 9 = rw c.words_of.ensures (nine_words c.args.words.now) in
    subst Short (sym c.both_lengths.ensures) (told-short _ _ _ _ _ _ _ c.report-told.ensures (report-small c.args.state.now c.args.memory.now _ _ _ c.words_of.result c.args.notice.now c.args.line.now nine))

pub returns : goal.returns
unfolding report_on Did
returns c =
    let same : to_z w64 (of_z w64 c.signed.result) ≡ c.signed.result = search rules in
    let kind = c.byte_of-2.ensures ∙ ap byte_of c.kind_of.ensures in
    rw (eq-eqb (length c.args.words.now) 18 c.if-words-ne18.false, ← c.words_of.ensures, ← narrow-report c.args.state.now c.args.memory.now c.args.pid c.args.kind c.args.reason c.words_of.result c.args.notice.now c.args.line.now, ← c.byte_of.ensures, ← kind)
    (report-returns _ _ _ _ _ _ _ c.report-told.ensures _ (same ∙ c.signed.ensures ∙ ap signed c.both_lengths.ensures))
