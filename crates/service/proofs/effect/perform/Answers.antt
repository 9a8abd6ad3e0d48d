-- `service::effect::perform` meets its contract, by the op code. Assumes nothing.
use mathlib.Core.Path.{refl, ◌≡◌}
use borrow.Author.Rules.{rules}
use borrow.Author.Tests.{ne_eqb}
use lib.ListN.{length}
use Rattle.lists.specs.Buffer.{overlay}
use Rattle.process.specs.Request.{break_removed}
use Rattle.process.proofs.TestedLaws.{tested-inside, tested-counted}
use Rattle.rules.specs.Rule.{rule_of}
use Rattle.checks.proofs.OpLaws.{coded}
use Rattle.service.proofs.EffectLaws.{deposit-within, vector-within, whole, laid, stays, break-within, break-host, break-is, break-low, unbreak-is, unbreak-low, unbreak-used}
use Rattle.service.proofs.effect.perform.Goals as goal

pub deposit-requires : goal.deposit-requires
deposit-requires c =
    record {
      tested = c.requires.present.tested;
      string_in_bounds = rw (whole c.args.process c.args.bytes.now c.requires.present) (deposit-within c.args.h c.args.process c.requires.process_value _ c.in-4.is c.requires.string_len_bound);
    }

pub deposit_vector-requires : goal.deposit_vector-requires
deposit_vector-requires c = vector-within c.args.h c.args.process c.requires.process_value _ c.in-7.is c.requires.string_len_bound

pub set_break-requires : goal.set_break-requires
set_break-requires c =
    (break-low c.args.h c.args.process c.requires.process_value c.args.k c.requires.k_value c.in-8.is, break-is c.args.h c.args.process c.requires.process_value c.args.k c.requires.k_value c.in-8.is, rw (whole c.args.process c.args.bytes.now c.requires.present) (break-within c.args.h c.args.process c.requires.process_value c.in-8.is), tested-counted c.args.process c.args.bytes.now c.requires.present.tested, break-host c.args.h c.args.process c.requires.process_value c.in-8.is)

pub remove_from-requires : goal.remove_from-requires
remove_from-requires c =
    let eight : length c.args.process.breaks ≡ 8 = search rules in (unbreak-low c.args.h c.args.process c.requires.process_value c.args.k c.requires.k_value c.in-9.is, tested-inside c.args.process c.args.bytes.now c.requires.present.tested, tested-counted c.args.process c.args.bytes.now c.requires.present.tested, unbreak-used c.args.h c.args.process c.requires.process_value c.args.k c.requires.k_value eight c.in-9.is)

pub returns-in-1 : goal.returns-in-1
unfolding rule_of
returns-in-1 c = rw c.in-1.is record { value = c.debug.ensures; bytes_after = stays _ }

pub returns-in-2 : goal.returns-in-2
unfolding rule_of
returns-in-2 c = rw c.in-2.is record { value = c.end_debug.ensures.value; bytes_after = laid _ _ _ (search rules) c.end_debug.ensures.bytes_after }

pub returns-in-3 : goal.returns-in-3
unfolding rule_of
returns-in-3 c = rw c.in-3.is record { value = c.stop.ensures.value; bytes_after = laid _ _ _ (search rules) c.stop.ensures.bytes_after }

pub returns-in-4 : goal.returns-in-4
unfolding rule_of
returns-in-4 c = rw c.in-4.is record { value = c.deposit.ensures.value; bytes_after = laid _ _ _ (search rules) c.deposit.ensures.bytes_after }

pub returns-in-5 : goal.returns-in-5
unfolding rule_of
returns-in-5 c = rw c.in-5.is record { value = c.resume.ensures; bytes_after = stays _ }

pub returns-in-7 : goal.returns-in-7
unfolding rule_of
returns-in-7 c = rw c.in-7.is record { value = c.deposit_vector.ensures; bytes_after = stays _ }

pub returns-in-8 : goal.returns-in-8
unfolding rule_of
returns-in-8 c = rw c.in-8.is record { value = c.set_break.ensures.value; bytes_after = laid _ _ _ (search rules) c.set_break.ensures.bytes_after }

pub returns-in-9 : goal.returns-in-9
unfolding rule_of break_removed
returns-in-9 c =
    rw (c.in-9.is, ← unbreak-is c.args.h c.args.process c.requires.process_value c.args.k c.requires.k_value c.in-9.is) record {
      value = c.remove_from.ensures.value;
      bytes_after = laid _ _ _ (search rules) c.remove_from.ensures.bytes_after;
    }

pub returns-in-10 : goal.returns-in-10
unfolding rule_of
returns-in-10 c =
    rw c.in-10.is record { value = c.single_step.ensures.value; bytes_after = laid _ _ _ (search rules) c.single_step.ensures.bytes_after }

pub returns-in-11 : goal.returns-in-11
unfolding rule_of
returns-in-11 c = rw c.in-11.is record { value = c.proceed.ensures.value; bytes_after = laid _ _ _ (search rules) c.proceed.ensures.bytes_after }

pub returns-in-13 : goal.returns-in-13
unfolding rule_of overlay
returns-in-13 c = rw c.in-13.is record { value = c.destroy.ensures; bytes_after = refl }

pub returns-in-14 : goal.returns-in-14
unfolding rule_of
returns-in-14 c = rw c.in-14.is record { value = c.watch.ensures; bytes_after = stays _ }

pub returns-in-15 : goal.returns-in-15
unfolding rule_of
returns-in-15 c =
    rw c.in-15.is record { value = c.end_watch.ensures.value; bytes_after = laid _ _ _ (search rules) c.end_watch.ensures.bytes_after }

pub returns-in_default : goal.returns-in_default
returns-in_default c =
    rw ((coded c.args.h.cmd).idle (rw (ne_eqb _ 1 c.in_default.in_default-own.rest.0.0.0.0.0.0.0.0.0.0.0.0.1, ne_eqb _ 2 c.in_default.in_default-own.rest.0.0.0.0.0.0.0.0.0.0.0.1, ne_eqb _ 3 c.in_default.in_default-own.rest.0.0.0.0.0.0.0.0.0.0.1, ne_eqb _ 4 c.in_default.in_default-own.rest.0.0.0.0.0.0.0.0.0.1, ne_eqb _ 5 c.in_default.in_default-own.rest.0.0.0.0.0.0.0.0.1, ne_eqb _ 7 c.in_default.in_default-own.rest.0.0.0.0.0.0.0.1, ne_eqb _ 8 c.in_default.in_default-own.rest.0.0.0.0.0.0.1, ne_eqb _ 9 c.in_default.in_default-own.rest.0.0.0.0.0.1, ne_eqb _ 10 c.in_default.in_default-own.rest.0.0.0.0.1, ne_eqb _ 11 c.in_default.in_default-own.rest.0.0.0.1, ne_eqb _ 13 c.in_default.in_default-own.rest.0.0.1, ne_eqb _ 14 c.in_default.in_default-own.rest.0.1, ne_eqb _ 15 c.in_default.in_default-own.rest.1)) c.args.h _ _) record {
      value = refl;
      bytes_after = stays _;
    }
