-- A turn of the loop that feeds a block: the rest of it gets shorter, and leads where it led before. Assumes nothing.
use Rattle.std.proofs.Common.{◌≡◌, ℕ, ◌+◌, ◌-◌, ◌<◌, ◌≤◌, List, [], length, take, drop, sym, ap, ◌∙◌, arith, length-drop}
use lib.Seq.{take_all}
use Rattle.recording.specs.declared.language.Language.{Language}
use Rattle.recording.specs.Session.{Session, fed, through}
use Rattle.recording.proofs.SessionLaws.{fed-moves, through-turn}

-- what is left of a block after some of it was used, as a slice
kept-rest : (used : ℕ) (rest : List ℕ) → take (length rest - used) (drop used rest) ≡ drop used rest
kept-rest used rest = take_all (length rest - used) (drop used rest) (simp length-drop (omega arith))

-- with room for a line, less is left
pub shorter : (l : Language) (size : ℕ) (x : Session) (rest : List ℕ) (used : ℕ) → 16384 ≤ size → 0 < length rest
    → used + length (fed l size x [] rest).rest ≡ length rest → length (take (length rest - used) (drop used rest)) < length rest
shorter l size x rest used room some U =
    rw (kept-rest used rest, length-drop used rest) (omega (arith, U, fed-moves l size x rest room some))

-- where what is left leads
pub turned : (l : Language) (size : ℕ) (x y goal : Session) (rest : List ℕ) (used : ℕ)
    → y ≡ (fed l size x [] rest).session → used + length (fed l size x [] rest).rest ≡ length rest
    → through l x rest ≡ goal → through l y (take (length rest - used) (drop used rest)) ≡ goal
turned l size x y goal rest used Y U G =
    let all : take (length rest - 0) (drop 0 rest) ≡ rest = kept-rest 0 rest in
    let before : y ≡ (fed l size x [] (take (length rest - 0) (drop 0 rest))).session = Y ∙ ap (λ (b : List ℕ). (fed l size x [] b).session) (sym all) in
    let same : used + length (fed l size x [] (take (length rest - 0) (drop 0 rest))).rest ≡ length (take (length rest - 0) (drop 0 rest)) =
    ap (λ (b : List ℕ). used + length (fed l size x [] b).rest) all ∙ U ∙ sym (ap (λ (b : List ℕ). length b) all) in
    let turn : through l y (drop (0 + used) rest) ≡ goal = through-turn l _ x y 0 used rest goal (omega arith) before same G in
    let plain : 0 + used ≡ used = omega arith in
    rw (kept-rest used rest) (rw plain at turn)
