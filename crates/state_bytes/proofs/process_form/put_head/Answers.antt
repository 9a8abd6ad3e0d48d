-- `state_bytes::process_form::put_head` meets its contract: ten stores, and the four bytes of the ID. Assumes nothing.
use Rattle.std.proofs.Common.{◌≡◌, refl, ◌∙◌, List, [], ◌∷◌, ◌++◌, ℕ, ◌≤◌, ◌<◌, length, arith, rules}
use Rattle.lists.specs.Buffer.{overlay}
use Rattle.lists.proofs.Buffer.{sets-overlay, laid-part}
use Rattle.state_bytes.specs.Process.{head_bytes}
use Rattle.state_bytes.specs.Widths.{id_at}
use Rattle.state_bytes.proofs.NumberLaws.{four-low-first}
use Rattle.state_bytes.proofs.process_form.put_head.Goals as goal

pub returns : goal.returns
returns c =
    let id = c.to_le_bytes.result in
    let small : c.args.p.now.session.go.id < 4294967296 = search rules in
    let front : List ℕ =
    c.flag.result
    ∷ c.args.p.now.host
    ∷ c.number.result
    ∷ c.low_byte.result
    ∷ c.high_byte.result
    ∷ c.args.p.now.number
    ∷ c.number-2.result
    ∷ c.args.p.now.session.watcher
    ∷ c.flag-2.result
    ∷ c.args.p.now.session.go.ticks
    ∷ [] in
    let fits : length front ≤ length c.args.bytes.now = omega (arith, c.requires) in
    let laid = laid-part front id c.args.bytes.now _ c.put.new.bytes id_at refl (sets-overlay front c.args.bytes.now fits) c.put.ensures in
    let same : overlay (front ++ id) c.args.bytes.now ≡ overlay (head_bytes c.args.p.now) c.args.bytes.now =
    rw (c.flag.ensures, c.number.ensures, c.low_byte.ensures, c.high_byte.ensures, c.number-2.ensures, c.flag-2.ensures, c.to_le_bytes.ensures, four-low-first _ small) in
    laid ∙ same
