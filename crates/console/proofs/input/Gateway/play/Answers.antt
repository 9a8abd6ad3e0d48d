-- `console::input::Gateway::play` meets its contract. Assumes nothing.
use Rattle.std.proofs.Common.{◌≡◌, ◌<◌, [], length, rules, arith}
use Rattle.std.proofs.lemmas.List.{nil_from_length}
use Rattle.recording.specs.Session.{through}
use Rattle.console.specs.Gateway.{session_of}
use Rattle.console.proofs.Turn.{shorter, turned}
use Rattle.console.proofs.input.Gateway.play.Goals as goal

pub loop-rest-smaller : goal.loop-rest-smaller
loop-rest-smaller g c =
    let i = c.loop-rest in
    let some : 0 < length i.rest.now = search rules in
    shorter c.args.language (length i.self.text) (session_of i.self) i.rest.now c.feed-fed.result.used (omega arith) some c.feed-fed.ensures.used

pub loop-rest-preserved : goal.loop-rest-preserved
loop-rest-preserved g c =
    let i = c.loop-rest in
    turned c.args.language (length i.self.text) (session_of i.self) _ _ i.rest.now c.feed-fed.result.used c.feed-fed.ensures.session c.feed-fed.ensures.used i.invariant

pub returns : goal.returns
unfolding through
returns g c =
    let i = c.loop-rest in
    let none : i.rest.now ≡ [] = nil_from_length i.rest.now (search rules) in
    rw none at i.invariant
