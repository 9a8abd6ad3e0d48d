-- What the tests 8 to 12, 15 and 16 of a request that passed say to what it does. Assumes nothing.
use mathlib.Core.Path.{◌≡◌, refl, sym, ap, ◌∙◌}
use mathlib.Core.Bool.{Bool, true, false, not, ◌&&◌, ◌||◌}
use mathlib.Core.List.{List}
use Prim.Native.Nat.{ℕ, ◌+◌, ◌≤◌, ◌<◌, ◌%◌}
use native.Mathlib.Omega.{arith}
use borrow.Author.Tests.{ltb-true, leb-true, eqb-false, not-true, not-false}
use lib.ListN.{length}
use lib.Dec.{eqb, leb, ltb}
use Rattle.lists.specs.Buffer.{overlay}
use Rattle.lists.proofs.Buffer.{overlay-all}
use Rattle.lists.proofs.Bool.{&&-left, &&-right}
use Rattle.format.specs.declared.header.Header.{Header}
use Rattle.format.specs.Outcome.{first_failing}
use Rattle.format.proofs.OutcomeLaws.{first_passes, rest-passes}
use Rattle.process.specs.declared.record.Process.{Process}
use Rattle.breakpoints.specs.declared.entry_query.EntryQuery.TheVariants.{At}
use Rattle.process.specs.Find.{find}
use Rattle.process.specs.Local.{Present}
use Rattle.breakpoints.specs.Entry.{valid_break_address, in_use}
use Rattle.process.specs.Record.{entry}
use Rattle.process.specs.Request.{has_break, has_room, may_have_more, has_room_for, entry_for}
use Rattle.process.proofs.EntryLaws.{entry-low}
use Rattle.process.proofs.FindLaws.{find-matches, matches-at}
use Rattle.rules.specs.Rule.{Rule, rule_of, public, insider}
use Rattle.rules.specs.Tests.{rule_tests}
use Rattle.checks.specs.Decision.{entry_of}

-- a process that is there has as many bytes as its size says
pub whole : (p : Process) (bytes : List ℕ) → Present p bytes → length bytes ≡ p.size
whole p bytes here = rw here.there at here.tested.size

-- as many bytes as there were are laid over all of them
pub laid : (bytes before after : List ℕ) → length after ≡ length before → after ≡ bytes → after ≡ overlay bytes before
laid bytes before after same e = e ∙ sym (overlay-all bytes before (omega (arith, same, ap length e)))

-- bytes that stay
pub stays : (bytes : List ℕ) → bytes ≡ overlay bytes bytes
stays bytes = sym (overlay-all bytes bytes (omega arith))

module _ (r : Rule) (h : Header) (p : Process) (e : first_failing (rule_tests r h p) ≡ 0) where
  pub rule-right : r.right (public p) h.host ≡ true
  rule-right = not-false _ (first_passes 7 _ _ e)

  pub rule-range : r.range h p.size ≡ true
  rule-range = not-false _ (first_passes 9 _ _ (rest-passes 8 _ _ (rest-passes 14 _ _ (rest-passes 7 _ _ e))))

  pub rule-room : r.room h p ≡ true
  rule-room = not-false _ (first_passes 10 _ _ (rest-passes 9 _ _ (rest-passes 8 _ _ (rest-passes 14 _ _ (rest-passes 7 _ _ e)))))

  pub rule_found : r.found h p ≡ true
  rule_found = not-false _ (first_passes 11 _ _ (rest-passes 10 _ _ (rest-passes 9 _ _ (rest-passes 8 _ _ (rest-passes 14 _ _ (rest-passes 7 _ _ e))))))

-- room for one more of a host is room
room_for : (there room more : Bool) → there || (room && more) ≡ true → there || room ≡ true
room_for true room more e = refl
room_for false room more e = &&-left room more e

-- ---- by the op code

module _ (h : Header) (p : Process) (e : first_failing (rule_tests (rule_of h.cmd) h p) ≡ 0) where
  pub deposit-within : (n : ℕ) → h.cmd ≡ 4 → n ≤ h.arg2 → h.arg1 + n ≤ p.size
  unfolding rule_of
  deposit-within n op short = omega (arith, leb-true (h.arg1 + h.arg2) p.size (rw op at (rule-range (rule_of h.cmd) h p e)), short)

  pub vector-within : (n : ℕ) → h.cmd ≡ 7 → n ≤ h.arg2 → h.arg1 + n ≤ 18
  unfolding rule_of
  vector-within n op short = omega (arith, leb-true (h.arg1 + h.arg2) 18 (rw op at (rule-range (rule_of h.cmd) h p e)), short)

  pub break-within : h.cmd ≡ 8 → h.arg1 + 1 < p.size
  unfolding rule_of valid_break_address
  break-within op =
      let range = rw op at (rule-range (rule_of h.cmd) h p e) in
      omega (arith, leb-true (h.arg1 + 2) p.size (&&-right (eqb (h.arg1 % 2) 0) (leb (h.arg1 + 2) p.size) range))

  -- who sets a breakpoint is a host
  pub break-host : h.cmd ≡ 8 → h.host ≡ 0 → ⊥
  unfolding rule_of insider
  break-host op z =
      let right = rw op at (rule-right (rule_of h.cmd) h p e) in
      eqb-false h.host 0 (not-true _ (&&-left (not (eqb h.host 0)) _ right)) z

  module _ (k : ℕ) (i : k ≡ entry_of h.cmd h.arg1 p) where
    pub break-is : h.cmd ≡ 8 → k ≡ entry_for h.arg1 p
    unfolding entry_of
    break-is op = rw op at i

    pub break-low : h.cmd ≡ 8 → k < 8
    unfolding rule_of has_room_for
    break-low op =
        let room = rw op at (rule-room (rule_of h.cmd) h p e) in
        ltb-true k 8 (ap (λ (n : ℕ). ltb n 8) (break-is op) ∙ entry-low h.arg1 p ∙ room_for (has_break h.arg1 p) (has_room p) (may_have_more h.host p) room)

    pub unbreak-is : h.cmd ≡ 9 → k ≡ find (At h.arg1) p
    unfolding entry_of
    unbreak-is op = rw op at i

    pub unbreak-low : h.cmd ≡ 9 → k < 8
    unfolding rule_of has_break
    unbreak-low op =
        let found = rw op at (rule_found (rule_of h.cmd) h p e) in
        ltb-true k 8 (ap (λ (n : ℕ). ltb n 8) (unbreak-is op) ∙ found)

    pub unbreak-used : length p.breaks ≡ 8 → h.cmd ≡ 9 → in_use (entry p k) ≡ true
    unbreak-used eight op =
        let low = rw (unbreak-is op) at (unbreak-low op) in
        rw (unbreak-is op) (matches-at h.arg1 (entry p (find (At h.arg1) p)) (find-matches (At h.arg1) p eight low)).0

  -- EXAMINE's range, and its count
  pub examine-within : h.cmd ≡ 6 → h.arg1 + h.arg2 ≤ p.size
  unfolding rule_of
  examine-within op =
      leb-true (h.arg1 + h.arg2) p.size (&&-left (leb (h.arg1 + h.arg2) p.size) (leb h.arg2 256) (rw op at (rule-range (rule_of h.cmd) h p e)))

  pub examine-short : h.cmd ≡ 6 → h.arg2 ≤ 256
  unfolding rule_of
  examine-short op =
      leb-true h.arg2 256 (&&-right (leb (h.arg1 + h.arg2) p.size) (leb h.arg2 256) (rw op at (rule-range (rule_of h.cmd) h p e)))
