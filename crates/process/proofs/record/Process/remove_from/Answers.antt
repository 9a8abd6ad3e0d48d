-- `process::record::Process::remove_from` meets its contract: one less is in use. Assumes nothing.
use mathlib.Core.Path.{◌≡◌, ap}
use Prim.Native.Nat.{ℕ, ◌-◌}
use native.Mathlib.Omega.{arith}
use lib.ListN.{set, length}
use borrow.Author.Rules.{rules}
use Rattle.breakpoints.specs.Entry.{free}
use Rattle.process.specs.Record.{with_entry, with_number, count_used}
use Rattle.process.specs.Planting.{removed_from}
use Rattle.process.proofs.CountLaws.{count_less}
use Rattle.process.proofs.record.Process.remove_from.Goals as goal

pub overflow_sub-self : goal.overflow_sub-self
overflow_sub-self c =
    let eight : length c.args.self.breaks ≡ 8 = search rules in
    let low = rw (← eight) at c.requires.0 in
    omega (arith, count_less c.args.self.breaks c.args.k low c.requires.3, c.requires.2)

pub returns : goal.returns
unfolding removed_from
returns c =
    let eight : length c.args.self.breaks ≡ 8 = search rules in
    let low = rw (← eight) at c.requires.0 in
    let less : c.args.self.number - 1 ≡ count_used (set c.args.self.breaks c.args.k free) = omega (arith, count_less c.args.self.breaks c.args.k low c.requires.3, c.requires.2) in
    rw (c.with_number.ensures, c.with_entry.ensures, c.free.ensures) record {
      value = ap (λ (n : ℕ). with_number n (with_entry c.args.k free c.args.self)) less;
      bytes_after = c.restore.ensures;
    }
