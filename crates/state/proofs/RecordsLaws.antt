-- Laws of one record, or one start, written anew. Assumes nothing.
use mathlib.Core.Path.{◌≡◌}
use Prim.Native.Nat.{ℕ, ◌<◌}
use native.Mathlib.Omega.{arith}
use lib.ListN.{length}
use lib.Seq.{get_or-set_same, get_or-set_other}
use Rattle.process.specs.declared.record.Process.{Process}
use Rattle.state.specs.Records.{Records, nobody, process_at, with_process, start_of, with_start}

pub process-same : (g : Records) → length g.processes ≡ 8 → (p : ℕ) → p < 8 → (q : Process) → process_at (with_process p q g) p ≡ q
process-same g eight p low q = get_or-set_same g.processes p q nobody (omega arith)

pub process-other : (g : Records) (p : ℕ) (q : Process) (k : ℕ) → (k ≡ p → ⊥) → process_at (with_process p q g) k ≡ process_at g k
process-other g p q k other = get_or-set_other g.processes p k q nobody other

pub start-same : (g : Records) → length g.starts ≡ 8 → (p : ℕ) → p < 8 → (a : ℕ) → start_of (with_start p a g) p ≡ a
start-same g eight p low a = get_or-set_same g.starts p a 0 (omega arith)

pub start-other : (g : Records) (p a k : ℕ) → (k ≡ p → ⊥) → start_of (with_start p a g) k ≡ start_of g k
start-other g p a k other = get_or-set_other g.starts p k a 0 other
