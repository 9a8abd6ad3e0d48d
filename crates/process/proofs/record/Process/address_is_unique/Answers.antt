-- `process::record::Process::address_is_unique` meets its contract. The loop's invariant: the first entry at the address is none of those passed. Assumes nothing.
use mathlib.Core.Path.{◌≡◌, refl, sym, ap, ◌∙◌}
use Prim.Native.Nat.{ℕ, ◌≤◌, ◌<◌}
use native.Mathlib.Omega.{arith}
use borrow.Author.Tests.{eq-eqb, ne_eqb}
use borrow.Author.Rules.{rules}
use lib.ListN.{length, take, get_or}
use Rattle.std.proofs.lemmas.List.{get_or-take}
use Rattle.breakpoints.specs.EntryQuery.{matches}
use Rattle.breakpoints.specs.Entry.{free}
use Rattle.process.specs.declared.record.Process.{Process}
use Rattle.breakpoints.specs.declared.entry_query.EntryQuery.TheVariants.{At}
use Rattle.process.specs.Record.{entry}
use Rattle.process.specs.Find.{find}
use Rattle.process.proofs.FindLaws.{at-matches, find-here, find_past}
use Rattle.process.proofs.record.Process.address_is_unique.Goals as goal

-- an entry among the first k, tested
tested : (p : Process) (k a i : ℕ) → i < k → matches (At a) (get_or (take k p.breaks) i free) ≡ matches (At a) (entry p i)
tested p k a i h = ap (matches (At a)) (get_or-take k p.breaks i free h)

-- what the search for the address finds, as `address_is_unique` says it
asked : (p : Process) (k a : ℕ) → a ≡ (entry p k).address → find (At a) p ≡ find (At (entry p k).address) p
asked p k a e = ap (λ (x : ℕ). find (At x) p) e

pub loop-b-init : goal.loop-b-init
loop-b-init c = omega arith

pub returns-then-matches : goal.returns-then-matches
returns-then-matches c =
    let p = c.args.self in
    let k = c.args.k in
    let i = c.loop-b.b-index in
    let eight : length c.args.self.breaks ≡ 8 = search rules in
    let low : i < k = omega arith in
    let here = find-here (At c.args.address) p eight i (omega (arith, c.requires.k_lt_entry_count)) c.loop-b.invariant (sym (tested p c.args.k c.args.address i low) ∙ sym c.matches.ensures ∙ c.if-matches.true) in
    sym (ne_eqb (find (At (entry p k).address) p) k (λ q. omega (arith, here, q, asked p k c.args.address c.requires.address_value)))

pub loop-b-preserved : goal.loop-b-preserved
loop-b-preserved c =
    let p = c.args.self in
    let i = c.loop-b.b-index in
    let eight : length c.args.self.breaks ≡ 8 = search rules in
    let low : i < c.args.k = omega arith in
    let past = find_past (At c.args.address) p eight i (omega (arith, c.requires.k_lt_entry_count)) c.loop-b.invariant (sym (tested p c.args.k c.args.address i low) ∙ sym c.matches.ensures ∙ c.if-matches.false) in
    omega (arith, past)

pub returns : goal.returns
returns c =
    let p = c.args.self in
    let k = c.args.k in
    let eight : length c.args.self.breaks ≡ 8 = search rules in
    let passed : k ≤ c.loop-b.b-index = omega arith in
    let none : k ≤ find (At (entry p k).address) p = omega (arith, passed, c.loop-b.invariant, asked p k c.args.address c.requires.address_value) in
    sym (eq-eqb _ _ (find-here (At (entry p k).address) p eight k c.requires.k_lt_entry_count none (at-matches (entry p k).address (entry p k) c.requires.k_value refl)))
