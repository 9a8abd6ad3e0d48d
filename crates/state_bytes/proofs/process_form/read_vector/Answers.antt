-- `state_bytes::process_form::read_vector` meets its contract: each word is what the closure gives at its number. Assumes nothing.
use Rattle.std.proofs.Common.{◌≡◌, ℕ, ◌+◌, ◌*◌, length, get_or, sym, ◌∙◌, rules, arith}
use lib.Seq.{take_all}
use Rattle.lists.specs.Elements.{elements}
use Rattle.lists.specs.Word.{word, vector_of}
use Rattle.lists.proofs.Elements.{take-elements}
use Rattle.state_bytes.proofs.process_form.read_vector.Goals as goal

pub returns : goal.returns
unfolding vector_of
returns c =
    let b = c.args.bytes.now in
    let ws = c.from_fn.result in
    let size : length ws ≡ 9 = c.from_fn.ensures.items.long in
    let each = c.from_fn.ensures.items.each in
    let word_at : ℕ → ℕ = λ i. word (get_or b (2 * i + 1) 0) (get_or b (2 * i) 0) in
    let first : get_or ws 0 0 ≡ word_at 0 = search rules in
    let second : get_or ws 1 0 ≡ word_at 1 = search rules in
    let third : get_or ws 2 0 ≡ word_at 2 = search rules in
    let fourth : get_or ws 3 0 ≡ word_at 3 = search rules in
    let fifth : get_or ws 4 0 ≡ word_at 4 = search rules in
    let sixth : get_or ws 5 0 ≡ word_at 5 = search rules in
    let seventh : get_or ws 6 0 ≡ word_at 6 = search rules in
    let eighth : get_or ws 7 0 ≡ word_at 7 = search rules in
    let ninth : get_or ws 8 0 ≡ word_at 8 = search rules in
    let whole : ws ≡ elements (λ (i : ℕ). get_or ws i 0) 9 = sym (take_all 9 ws (omega arith)) ∙ take-elements 9 ws (omega arith) in
    whole ∙ rw (first, second, third, fourth, fifth, sixth, seventh, eighth, ninth)
