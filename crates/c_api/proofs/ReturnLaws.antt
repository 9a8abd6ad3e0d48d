-- What an exported function returns, from what the gateway's call answered and left. Assumes nothing.
use mathlib.Core.Path.{◌≡◌, sym, ap, ◌∙◌, subst}
use mathlib.Core.List.{List}
use Prim.Native.Nat.{ℕ, ◌≤◌, ◌<◌}
use native.Mathlib.Omega.{arith}
use lib.IntN.{ℤ}
use lib.ListN.{length}
use Rattle.format.specs.Outcome.{Outcome}
use Rattle.format.specs.Outcome.{length_of}
use Rattle.rules.specs.Step.{Call}
use Rattle.gateway.specs.Called.{Called, StartResult, called, report_called, started, call_on}
use Rattle.c_api.specs.Called.{signed, Short, both_lengths, Returns, Reports, Starts}
use Rattle.c_api.proofs.ShortLaws.{Small, both-short, call-within}

module _ (o : Outcome) (state memory buffer before lent : List ℕ) (c : Call) (same : called o state memory buffer ≡ call_on before lent c) where
  -- what was written is in the buffer
  pub call-short : length buffer < 9223372036854775808 → Short o
  call-short room =
      let within : length_of o ≤ length buffer = subst (λ (x : Called). length_of x.outcome ≤ length x.buffer) (sym same) (call-within before lent c) in
      omega arith

  pub call_returns : (r : ℤ) → r ≡ signed o → Returns (call_on before lent c) r state memory buffer
  call_returns r e = record {
    result-is = e ∙ ap (λ (x : Called). signed x.outcome) same;
    state-is = ap (λ (x : Called). x.state) same;
    memory-is = ap (λ (x : Called). x.memory) same;
    buffer-is = ap (λ (x : Called). x.buffer) same;
  }

module _ (o : Outcome) (n : ℕ) (state memory notice line : List ℕ) (x : Called) (same : report_called o n state memory notice line ≡ x) where
  pub told-short : Small x.outcome x.line_length → Short (both_lengths o n)
  told-short s = both-short o n (subst (λ (y : Called). Small y.outcome y.line_length) (sym same) s)

  pub report-returns : (r : ℤ) → r ≡ signed (both_lengths o n) → Reports x r state memory notice line
  report-returns r e = record {
    result-is = e ∙ ap (λ (y : Called). signed (both_lengths y.outcome y.line_length)) same;
    state-is = ap (λ (y : Called). y.state) same;
    memory-is = ap (λ (y : Called). y.memory) same;
    notice-is = ap (λ (y : Called). y.buffer) same;
    line-is = ap (λ (y : Called). y.line) same;
  }

pub start-returns : (o : Outcome) (state : List ℕ) (x : StartResult) → started o state ≡ x → (r : ℤ) → r ≡ signed o → Starts x r state
start-returns o state x same r e = record {
  result-is = e ∙ ap (λ (y : StartResult). signed y.outcome) same;
  state-is = ap (λ (y : StartResult). y.state) same;
}
