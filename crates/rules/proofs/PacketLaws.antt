-- The law of packets and ticks: one law for each type's row, and all else goes by these. Assumes nothing.
use mathlib.Core.Path.{◌≡◌, refl, sym, ◌∙◌}
use mathlib.Core.Bool.{true, true≢false}
use mathlib.Core.List.{List}
use mathlib.Core.Logic.{inl, inr}
use native.Mathlib.Omega.{arith}
use Prim.Native.Nat.{ℕ, ◌+◌, ◌*◌, ◌≤◌, ◌<◌}
use lib.ListN.{length}
use borrow.Author.Tests.{eq-eqb, eqb-true, leb-true, ltb-true, not-false}
use lib.Dec.{eqb, ltb}
use Rattle.packets.specs.Types.{STORE, FETCH, GO}
use Rattle.packets.specs.Units.{first_byte}
use Rattle.packets.specs.Units.{holds as fits_in}
use Rattle.packets.specs.Data.{address_of, value_of}
use Rattle.format.specs.Outcome.{first_failing}
use Rattle.format.proofs.OutcomeLaws.{first_passes, rest-passes}
use Rattle.run_state.specs.RunState.{stopped_or_at_break}
use Rattle.session.specs.Session.{pup_host, waits_for, answers_go, is_last_tick}
use Rattle.process.specs.declared.record.Process.{Process}
use Rattle.process.specs.Local.{Local, Proper}
use Rattle.process.specs.Request.{deposited}
use Rattle.process.specs.Packet.{go_of, without_go, go_asked, go_ended, go_replied, ticked, word_stored}
use Rattle.process.proofs.ProperLaws.{abandon-go-proper, ask-go-proper, reply-go-proper, tick-proper}
use Rattle.process.proofs.ProperLaws.{store-proper as word-proper}
use Rattle.rules.specs.Rule.{Public, public, names}
use Rattle.rules.specs.PacketRule.{PacketRule, word_inside, store_row, fetch_row, go_row, go_reply_row, packet_row_of}
use Rattle.rules.specs.Tests.{State, packet_tests, packet_number, tick_tests, tick_number}
use Rattle.rules.specs.Access.{nobody, by, insider, number_at}
use Rattle.rules.specs.Step.{Call, packet, tick, step}
use Rattle.rules.specs.Turn.{packet_access, packet_turn, tick_access, tick_turn, turn_of, buffers_of}
use Rattle.rules.specs.Ready.{Ready}
use Rattle.rules.specs.Isolation.{without_stored, asker, subject, event, passed_over, fields_of, is_granted, told_of}
use Rattle.rules.specs.Total.{tests_of, numbers_of, one_of}
use Rattle.rules.proofs.StateLaws.{fits_kept}
use Rattle.rules.proofs.RuleLaws.{host-in, turns-kept, whole}
use Rattle.rules.proofs.NumberLaws.{by-test, same_cond, first-listed, or_else-zero}
use Rattle.rules.proofs.TurnLaws.{packet-number, packet-turn, tick-number, tick-turn}
use Rattle.rules.proofs.AccessLaws.{May, Discreet, Fair, outer_number}
use Rattle.rules.proofs.CallLaws.{Silent, There, Placed, Lawful}
use Rattle.rules.proofs.ReportLaws.{kept}

-- ---- the law of a row

-- all that the tests of a process say of a packet that passes them
pub record Passing (r : PacketRule) (words : List ℕ) (p : Process) : Type 0 where
  pub there : p.there ≡ true
  pub right : r.right (public p) ≡ true
  pub runs : r.runs p.run ≡ true
  pub range : r.range words p.size ≡ true

pub record PacketRow (r : PacketRule) : Type 0 where
  -- a sound process stays sound
  pub keeps : (id : ℕ) (words : List ℕ) (l : Local) → Proper l → Passing r words l.process → Proper (r.effect id words l)
  -- host 254 debugs the process, or watches it, where it may ask
  pub guarded : (u : Public) → r.right u ≡ true → insider u pup_host ≡ true
  -- the public part stays
  pub publicly : (id : ℕ) (words : List ℕ) (l : Local) → public (r.effect id words l).process ≡ public l.process
  -- and the vector
  pub vector : (id : ℕ) (words : List ℕ) (l : Local) → (r.effect id words l).process.vector ≡ l.process.vector
  -- and what is owed to the host of the text lines
  pub owed : (id : ℕ) (words : List ℕ) (l : Local) → (r.effect id words l).process.session.owed ≡ l.process.session.owed

holds-in : (u : Public) → eqb u.host pup_host ≡ true → insider u pup_host ≡ true
holds-in u e = host-in u pup_host (λ z. omega (arith, z)) e

-- what packets that store nothing and ticks leave of a record: its public part, its vector, its breakpoints, and what it owes
pub record Plain (p q : Process) : Type 0 where
  pub publicly : public q ≡ public p
  pub vector : q.vector ≡ p.vector
  pub breaks : q.breaks ≡ p.breaks
  pub owed : q.session.owed ≡ p.session.owed

plain-without : (p : Process) → Plain p (without_go p)
unfolding public
plain-without p = record { publicly = refl; vector = refl; breaks = refl; owed = refl }

pub plain-asked : (id : ℕ) (p : Process) → Plain p (go_asked id p)
unfolding go_asked public
plain-asked id p =
    by-test (Plain p) (waits_for id (go_of p)) (λ e. record { publicly = refl; vector = refl; breaks = refl; owed = refl }) (λ e. record { publicly = refl; vector = refl; breaks = refl; owed = refl })

plain-ended : (p : Process) → Plain p (go_ended p)
unfolding go_ended public
plain-ended p = by-test (Plain p) (stopped_or_at_break p.run) (λ e. record { publicly = refl; vector = refl; breaks = refl; owed = refl }) (λ e. plain-without p)

pub plain-replied : (id : ℕ) (p : Process) → Plain p (go_replied id p)
unfolding go_replied
plain-replied id p = by-test (Plain p) (answers_go id (go_of p)) (λ e. plain-ended p) (λ e. plain-without p)

pub plain-ticked : (p : Process) → Plain p (ticked p)
unfolding ticked public
plain-ticked p =
    by-test (Plain p) (go_of p).waits
    (λ e. by-test (Plain p) (is_last_tick (go_of p)) (λ i. plain-ended p) (λ i. record { publicly = refl; vector = refl; breaks = refl; owed = refl }))
    (λ e. record { publicly = refl; vector = refl; breaks = refl; owed = refl })

-- ---- the rows

-- a word that is inside ends within the bytes
pub word-ends : (words : List ℕ) (l : Local) → Proper l → l.process.there ≡ true → word_inside words l.process.size ≡ true
    → (first_byte (address_of words)).0 + 2 ≤ length l.bytes
unfolding word_inside fits_in
word-ends words l g t e = omega (arith, leb-true (2 * (address_of words).0 + 2 * 1) l.process.size e, whole l g t)

store-row : PacketRow store_row
unfolding word_stored deposited public
store-row = record {
  keeps = λ id words l g p. word-proper l g (first_byte (address_of words)).0 (value_of words) (word-ends words l g p.there p.range);
  guarded = holds-in;
  publicly = λ id words l. refl;
  vector = λ id words l. refl;
  owed = λ id words l. refl;
}

fetch-row : PacketRow fetch_row
fetch-row = record {
  keeps = λ id words l g p. abandon-go-proper l g;
  guarded = λ u e. e;
  publicly = λ id words l. (plain-without l.process).publicly;
  vector = λ id words l. (plain-without l.process).vector;
  owed = λ id words l. (plain-without l.process).owed;
}

go-row : PacketRow go_row
unfolding public
go-row = record {
  keeps = λ id words l g p. ask-go-proper l g id (eqb-true l.process.host pup_host p.right);
  guarded = holds-in;
  publicly = λ id words l. (plain-asked id l.process).publicly;
  vector = λ id words l. (plain-asked id l.process).vector;
  owed = λ id words l. (plain-asked id l.process).owed;
}

go-reply-row : PacketRow go_reply_row
go-reply-row = record {
  keeps = λ id words l g p. reply-go-proper l g id;
  guarded = holds-in;
  publicly = λ id words l. (plain-replied id l.process).publicly;
  vector = λ id words l. (plain-replied id l.process).vector;
  owed = λ id words l. (plain-replied id l.process).owed;
}

pub packet-row : (kind : ℕ) → PacketRow (packet_row_of kind)
unfolding packet_row_of
packet-row kind =
    by-test PacketRow (eqb kind STORE) (λ e. store-row)
    (λ e. by-test PacketRow (eqb kind FETCH) (λ i. fetch-row) (λ i. by-test PacketRow (eqb kind GO) (λ j. go-row) (λ j. go-reply-row)))

-- ---- a packet at the process of the door

module _ (kind id : ℕ) (words : List ℕ) where
  pub packet-passing : (l : Local) → number_at (packet_access kind id words) l ≡ 0 → Passing (packet_row_of kind) words l.process
  unfolding packet_access number_at public
  packet-passing l z =
      let o = or_else-zero (outer_number (packet_access kind id words) l) (first_failing ((packet_access kind id words).inner l)) z in
      record {
        there = not-false _ (first_passes 6 _ _ o.0);
        right = not-false _ (first_passes 7 _ _ (rest-passes 6 _ _ o.0));
        runs = not-false _ (first_passes 8 _ _ o.1);
        range = not-false _ (first_passes 9 _ _ (rest-passes 8 _ _ o.1));
      }

  packet-keeps : (l : Local) → Proper l → number_at (packet_access kind id words) l ≡ 0 → Proper ((packet_row_of kind).effect id words l)
  packet-keeps l g z = (packet-row kind).keeps id words l g (packet-passing l z)

  packet-fair : Fair (by pup_host) (packet_access kind id words) kept
  unfolding packet_access May Discreet
  packet-fair = record {
    publicly = λ l z. (packet-row kind).publicly id words l;
    keeps = packet-keeps;
    guarded = λ u z. inl ((packet-row kind).guarded u (not-false _ (first_passes 7 _ _ (rest-passes 6 _ _ z))));
    hides = inl (λ u. refl);
    plain = λ l k e. refl;
    discreet = λ l g. tt;
  }

-- ---- a packet

packet-quiet : (door kind id : ℕ) (words buffer : List ℕ) → Silent (packet door kind id words buffer)
unfolding told_of fields_of names
packet-quiet door kind id words buffer d a q = same_cond (is_granted a.outcome) (d q)

module _ (door kind id : ℕ) (words buffer : List ℕ) where
  abbrev here : Call
  here = packet door kind id words buffer

  packet-there : (s : State) → Ready s → door < 8 → There s here door (packet_access kind id words)
  unfolding asker subject fields_of packet_access
  packet-there s r low = record {
    low = low;
    then = kept;
    fair = packet-fair kind id words;
    words = λ t l n. rw ((packet-row kind).vector id words l) n;
    fits = fits_kept s r door;
    narrows = λ e u. omega arith;
    named = λ P e. e;
    reaches = inl (eq-eqb door door refl);
    carries = λ l e. absurd (omega (arith, e));
    anew = λ e. absurd (omega (arith, e));
    told = λ d l q. packet-quiet door kind id words buffer d _ q ∙ sym (same_cond (eqb q door) (d q));
    turns = λ z. turns-kept _ _ door _;
  }

  packet-placed : (s : State) → Ready s → first_failing (packet_turn door kind id words buffer s).tests ≡ 0
      → Placed s here (packet_turn door kind id words buffer s).place
  unfolding packet_turn Placed
  packet-placed s r z =
      packet-there s r
      (ltb-true door 8 (not-false _ (first_passes 6 _ _ (rest-passes 4 _ _ (rest-passes 2 _ _ (rest-passes 1 _ _ (rest-passes 0 _ _ z)))))))

  pub packet-lawful : Lawful here
  unfolding step turn_of buffers_of tests_of numbers_of packet_number event asker passed_over subject fields_of packet_turn
  packet-lawful = record {
    turn = packet-turn door kind id words buffer;
    number = packet-number door kind id words buffer;
    listed = λ s. first-listed (one_of (numbers_of here)) (packet_tests s door kind words buffer) refl refl;
    alike = λ s t r q a. rw (r.memory, q.memory, r.sound, q.sound);
    placed = packet-placed;
    subject-creates = λ P e. refl;
    event-asker = λ e. absurd (true≢false (sym e));
    event-silent = λ e. packet-quiet door kind id words buffer;
    over-asker = refl;
    over-subject = λ P e. e;
    over-silent = inr (packet-quiet door kind id words buffer, packet-quiet door kind id (without_stored kind words) buffer);
  }

-- ---- a tick

tick-fair : Fair nobody tick_access kept
unfolding tick_access May Discreet
tick-fair = record {
  publicly = λ l z. (plain-ticked l.process).publicly;
  keeps = λ l g z. tick-proper l g;
  guarded = λ u z. tt;
  hides = inl (λ u. refl);
  plain = λ l k e. refl;
  discreet = λ l g. record { notice = inl refl; line = inl refl };
}

module _ (door : ℕ) where
  tick-quiet : Silent (tick door)
  unfolding told_of fields_of names
  tick-quiet d a q = same_cond (is_granted a.outcome) (d q)

  tick-there : (s : State) → Ready s → door < 8 → There s (tick door) door tick_access
  unfolding asker subject fields_of tick_access
  tick-there s r low = record {
    low = low;
    then = kept;
    fair = tick-fair;
    words = λ t l n. rw (plain-ticked l.process).vector n;
    fits = fits_kept s r door;
    narrows = λ e u. omega arith;
    named = λ P e. e;
    reaches = inl (eq-eqb door door refl);
    carries = λ l e. absurd (omega (arith, e));
    anew = λ e. absurd (omega (arith, e));
    told = λ d l q. tick-quiet d _ q ∙ sym (same_cond (eqb q door) (d q));
    turns = λ z. turns-kept _ _ door _;
  }

  pub tick-lawful : Lawful (tick door)
  unfolding step turn_of buffers_of tests_of numbers_of tick_number event asker passed_over subject fields_of tick_turn Placed
  tick-lawful = record {
    turn = tick-turn door;
    number = tick-number door;
    listed = λ s. first-listed (one_of (numbers_of (tick door))) (tick_tests s) refl refl;
    alike = λ s t r q a. rw (r.sound, q.sound);
    placed = λ s r z. by-test (Placed s (tick door)) (ltb door 8) (λ e. tick-there s r (ltb-true door 8 e)) (λ e. record { told = λ d q. tick-quiet d _ q; quiet = λ i. refl });
    subject-creates = λ P e. refl;
    event-asker = λ e. absurd (true≢false (sym e));
    event-silent = λ e. tick-quiet;
    over-asker = refl;
    over-subject = λ P e. e;
    over-silent = inl refl;
  }
