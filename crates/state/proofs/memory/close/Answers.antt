-- `state::memory::close` meets its contract: the bytes above move down, and then the lent part before `end` is zeroed. Assumes nothing.
use Rattle.std.proofs.Common.{◌≡◌, ◌∙◌, ◌-◌, length, take, drop, replicate, arith, rules}
use Rattle.state.specs.Layout.{lowered}
use Rattle.state.proofs.MemoryLaws.{lowered-pasted, closed-part}
use Rattle.state.proofs.memory.close.Goals as goal

pub returns : goal.returns
returns c =
    let whole = c.copy_within.new.self in
    let moved : whole ≡ lowered c.args.start c.args.count c.args.end c.args.memory.now =
    c.copy_within.ensures.after ∙ lowered-pasted c.args.start c.args.count c.args.end c.args.memory.now c.requires.0 c.requires.1 _ (omega arith) in
    let zeros : c.fill.new.self ≡ replicate (length (take (c.args.end - (c.args.end - c.args.count)) (drop (c.args.end - c.args.count) whole))) 0 = search rules in
    closed-part c.args.start c.args.count c.args.end c.args.memory.now c.requires.0 c.requires.1 whole c.fill.new.self moved zeros
