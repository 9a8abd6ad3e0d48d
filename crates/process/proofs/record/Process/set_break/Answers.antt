-- `process::record::Process::set_break` meets its contract, by whether the entry is in use. Assumes nothing.
use mathlib.Core.Path.{◌≡◌, refl, sym, ap, ◌∙◌}
use Prim.Native.Nat.{ℕ, ◌+◌}
use native.Mathlib.Omega.{arith}
use borrow.Author.Rules.{rules}
use lib.ListN.{length}
use Rattle.breakpoints.proofs.SeenLaws.{none-set, some-set}
use Rattle.process.specs.Request.{break_set}
use Rattle.breakpoints.specs.declared.entry.Breakpoint.{Breakpoint}
use Rattle.process.specs.Record.{entry, count_used, with_number}
use Rattle.process.specs.Local.{local}
use Rattle.process.specs.Planting.{planted_in}
use Rattle.process.proofs.CountLaws.{count-planted, count_most}
use Rattle.process.proofs.EntryLaws.{entry-there, entry_new, entry-used}
use Rattle.breakpoints.specs.Entry.{breakpoint_at, in_use}
use Rattle.process.proofs.record.Process.set_break.Goals as goal

pub returns-then-b-ne0 : goal.returns-then-b-ne0
unfolding break_set
returns-then-b-ne0 c =
    let eight : length c.args.self.breaks ≡ 8 = search rules in
    let used = sym (entry-used c.args.a c.args.self eight (rw c.requires.1 at c.requires.0)) ∙ ap (λ (k : ℕ). in_use (entry c.args.self k)) (sym c.requires.1) ∙ some-set (entry c.args.self c.args.k) c.if-b-ne0.true in
    rw (used, ← entry-there c.args.a c.args.self used, ← c.requires.1, c.with_entry.ensures, c.with_count.ensures) record {
      value = refl;
      bytes_after = refl;
    }

pub plant_in-requires : goal.plant_in-requires
plant_in-requires c = (c.requires.0, rw c.at.ensures c.requires.2)

pub overflow_add-self : goal.overflow_add-self
overflow_add-self c =
    let eight : length c.args.self.breaks ≡ 8 = search rules in
    omega (arith, count_most c.args.self.breaks, c.requires.3)

pub returns : goal.returns
unfolding break_set
returns c =
    let eight : length c.args.self.breaks ≡ 8 = search rules in
    let used = sym (entry-used c.args.a c.args.self eight (rw c.requires.1 at c.requires.0)) ∙ ap (λ (k : ℕ). in_use (entry c.args.self k)) (sym c.requires.1) ∙ none-set (entry c.args.self c.args.k) c.if-b-ne0.false in
    let low = rw (← eight) at c.requires.0 in
    let l = local c.args.self c.args.bytes.now in
    let more : c.args.self.number + 1 ≡ count_used (planted_in c.args.k c.at.result l).process.breaks = omega (arith, count-planted c.args.k c.at.result l low (none-set (entry c.args.self c.args.k) c.if-b-ne0.false) (ap (λ (b : Breakpoint). in_use b) c.at.ensures ∙ some-set (breakpoint_at c.args.a c.args.count c.args.host) c.requires.4), c.requires.3) in
    rw (used, ← entry_new c.args.a c.args.self used, ← c.requires.1, ← c.at.ensures, c.with_number.ensures, c.plant_in.ensures.value) record {
      value = ap (λ (m : ℕ). with_number m (planted_in c.args.k c.at.result l).process) more;
      bytes_after = c.plant_in.ensures.bytes_after;
    }
