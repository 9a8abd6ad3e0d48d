-- `lines::scan::Scan::part` meets its contract. The loop's invariant: what is left of the text leads to the same end. Assumes nothing.
use mathlib.Core.Path.{◌≡◌}
use lib.ListN.{length, drop}
use Rattle.lines.specs.Scan.{after, bytes_of, kept, filled}
use Rattle.lines.proofs.scan.Scan.part.Given as goal

abbrev pub invariant-loop-c : goal.invariant-loop-c
invariant-loop-c l = record {
  phase : after l.scan.phase (drop l.c-index l.text) ≡ after l.initial.scan.phase l.text;
  count : filled (length l.initial.buffer) l.scan.len (bytes_of l.scan.phase (drop l.c-index l.text)) ≡ filled (length l.initial.buffer) l.initial.scan.len (bytes_of l.initial.scan.phase l.text);
  bytes : kept l.scan.len (bytes_of l.scan.phase (drop l.c-index l.text)) l.buffer ≡ kept l.initial.scan.len (bytes_of l.initial.scan.phase l.text) l.initial.buffer;
}
