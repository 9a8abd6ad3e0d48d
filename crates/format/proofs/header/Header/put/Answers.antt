-- `format::header::Header::put` meets its contract: ten stores one after the other lay the header over the buffer's start. Assumes nothing.
use native.Mathlib.Omega.{arith}
use lib.ListN.{length-set}
use Rattle.format.specs.Layout.{header}
use Rattle.lists.proofs.Buffer.{sets-overlay}
use Rattle.format.proofs.header.Header.put.Goals as goal

pub bounds-buffer-1 : goal.bounds-buffer-1
bounds-buffer-1 c = simp length-set (omega arith)

pub bounds-buffer-2 : goal.bounds-buffer-2
bounds-buffer-2 c = simp length-set (omega arith)

pub bounds-buffer-3 : goal.bounds-buffer-3
bounds-buffer-3 c = simp length-set (omega arith)

pub bounds-buffer-4 : goal.bounds-buffer-4
bounds-buffer-4 c = simp length-set (omega arith)

pub bounds-buffer-5 : goal.bounds-buffer-5
bounds-buffer-5 c = simp length-set (omega arith)

pub bounds-buffer-6 : goal.bounds-buffer-6
bounds-buffer-6 c = simp length-set (omega arith)

pub bounds-buffer-7 : goal.bounds-buffer-7
bounds-buffer-7 c = simp length-set (omega arith)

pub bounds-buffer-8 : goal.bounds-buffer-8
bounds-buffer-8 c = simp length-set (omega arith)

pub bounds-buffer-9 : goal.bounds-buffer-9
bounds-buffer-9 c = simp length-set (omega arith)

pub returns : goal.returns
returns c =
    rw (c.high_byte.ensures, c.low_byte.ensures, c.high_byte-2.ensures, c.low_byte-2.ensures)
    (sets-overlay (header c.args.self) c.args.buffer.now c.requires)
