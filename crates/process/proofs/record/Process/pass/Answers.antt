-- `process::record::Process::pass` meets its contract: the entry is written once. Assumes nothing.
use mathlib.Core.Path.{refl}
use native.Mathlib.Omega.{arith}
use lib.ListN.{length}
use Rattle.process.specs.Local.{local}
use Rattle.process.proofs.ReportLaws.{passed-once}
use mathlib.Core.Path.{◌≡◌}
use borrow.Author.Rules.{rules}
use Rattle.process.proofs.record.Process.pass.Goals as goal

pub returns : goal.returns
returns c =
    let eight : length c.args.self.breaks ≡ 8 = search rules in
    rw (passed-once c.args.k (local c.args.self c.args.bytes.now) (omega (arith, eight, c.requires.0)), c.with_run.ensures, c.after_pass.ensures, c.with_entry.ensures, c.with_lifted.ensures, c.with_count.ensures) record {
      value = refl;
      bytes_after = c.restore.ensures;
    }
