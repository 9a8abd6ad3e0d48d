-- `gateway::fresh::needed` meets its contract. The loop's invariant: the sum is that of the processes passed, each at most 65,535. Assumes nothing.
use mathlib.Core.Path.{◌≡◌}
use mathlib.Core.Bool.{Bool, false, cond}
use Prim.Native.Nat.{ℕ, ◌*◌, ◌≤◌}
use mathlib.Core.List.{List}
use lib.ListN.{length, get_or}
use Rattle.lists.specs.Sum.{total}
use Rattle.gateway.proofs.fresh.needed.Given as goal

-- how many bytes process p needs
abbrev pub bytes_of : List Bool → List ℕ → ℕ → ℕ
bytes_of there sizes p = cond (get_or there p false) (get_or sizes p 0) 0

abbrev pub invariant-loop-p : goal.invariant-loop-p
invariant-loop-p l = (l.p ≤ 8) × (length l.there ≡ 8) × (l.sum ≡ total (bytes_of l.there l.sizes) l.p) × (l.sum ≤ 65535 * l.p)
