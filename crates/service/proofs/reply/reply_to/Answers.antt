-- `service::reply::reply_to` meets its contract, by whether the reply carries bytes, or numbers of its own. Assumes nothing.
use native.Mathlib.Omega.{arith}
use borrow.Author.Tests.{eq-eqb, ne_eqb}
use Rattle.std.proofs.Common.{rules}
use Rattle.process.specs.Local.{local}
use Rattle.checks.proofs.OpLaws.{coded}
use Rattle.service.proofs.EffectLaws.{whole, examine-within, examine-short}
use Rattle.service.proofs.reply.reply_to.Goals as goal

pub reply_contents-requires : goal.reply_contents-requires
reply_contents-requires c =
    record {
      arg2_in_bounds = (rw (whole c.args.process c.args.bytes.now c.requires.present) (examine-within c.args.h c.args.process c.requires.process_value c.in-6.is), examine-short c.args.h c.args.process c.requires.process_value c.in-6.is);
      message_bytes_in_bounds = c.requires.message_bytes_in_bounds;
    }

pub returns-in-6 : goal.returns-in-6
returns-in-6 c =
    rw ((coded c.args.h.cmd).shown c.args.h _, (coded c.args.h.cmd).header c.args.h _, eq-eqb _ _ c.in-6.is, ne_eqb c.args.h.cmd 16 (λ e. omega (arith, e, c.in-6.is))) c.reply_contents.ensures

pub returns-in-16 : goal.returns-in-16
returns-in-16 c =
    rw ((coded c.args.h.cmd).shown c.args.h _, (coded c.args.h.cmd).header c.args.h _, ne_eqb c.args.h.cmd 6 (λ e. omega (arith, e, c.in-16.is)), eq-eqb _ _ c.in-16.is) c.reply_status.ensures

pub returns-in_default : goal.returns-in_default
returns-in_default c =
    let shown = (coded c.args.h.cmd).shown c.args.h (local c.args.process c.args.bytes.now) in
    let header = (coded c.args.h.cmd).header c.args.h (local c.args.process c.args.bytes.now) in
    search rules
