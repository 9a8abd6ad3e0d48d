-- `decimal::number::Number::then` meets its contract, by what stands after the number before. Assumes nothing.
use mathlib.Core.Path.{ap, ◌∙◌}
use Prim.Native.Nat.{◌+◌}
use native.Mathlib.Omega.{arith}
use borrow.Author.Tests.{not-true, not-false}
use Rattle.decimal.specs.declared.number.Number.{Number}
use Rattle.decimal.proofs.ReadLaws.{behind-wrong, behind-end, behind-other, behind-blank, number_bound}
use Rattle.decimal.proofs.number.Number.then.Goals as goal
use Rattle.decimal.proofs.number.Number.then.Goals.{then-not-self-via-then-not-self, then-not-self-via-else-not-self+then-line-at, then-not-self-via-else-not-self+else-line-at+then-line-at-ne-BLANK}

pub returns-then-not-self-clause-value : goal.returns-then-not-self-clause-value
returns-then-not-self-clause-value c =
    let n = c.args.self in
    let most = c.args.most in
    let line = c.args.line.now in
    c.wrong.ensures
    ∙ elim c.then-not-self.branch [
      | then-not-self-via-then-not-self w ↦ behind-wrong most line n (not-true _ w.if-not-self.true)
      | then-not-self-via-else-not-self+then-line-at w ↦ behind-end most line n w.if-line-at.true
      | then-not-self-via-else-not-self+else-line-at+then-line-at-ne-BLANK w ↦ behind-other most line n w.if-line-at-ne-BLANK.true
    ]

pub returns-clause-value : goal.returns-clause-value
returns-clause-value c =
    c.digits.ensures ∙ behind-blank c.args.most c.args.line.now c.args.self (not-false _ c.if-not-self.false) c.if-line-at-ne-BLANK.false

pub returns-clause-value_le_most : goal.returns-clause-value_le_most
returns-clause-value_le_most c =
    omega (arith, ap (λ (n : Number). n.value) c.digits.ensures, number_bound c.args.most (c.args.self.next + 1) c.args.line.now)
