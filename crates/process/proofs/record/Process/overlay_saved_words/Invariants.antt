-- `process::record::Process::overlay_saved_words` meets its contract. The loop's invariant: what is left to lay gives what laying all gives. Assumes nothing.
use mathlib.Core.Path.{◌≡◌}
use lib.ListN.{drop}
use Rattle.breakpoints.specs.Seen.{overlay_saved_words}
use Rattle.process.proofs.record.Process.overlay_saved_words.Given as goal

abbrev pub invariant-loop-b : goal.invariant-loop-b
invariant-loop-b l = overlay_saved_words l.at l.fn.self.breaks l.initial.out ≡ overlay_saved_words l.at (drop l.b-index l.fn.self.breaks) l.out
