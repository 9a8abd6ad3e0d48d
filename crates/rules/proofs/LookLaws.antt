-- What a watcher's request or line leaves of a process that another host debugs: what is seen, the registers and the run state stay. Assumes
-- nothing.
use mathlib.Core.Path.{◌≡◌, refl, sym, ap, ◌∙◌, subst}
use mathlib.Core.Bool.{true, ◌||◌}
use mathlib.Core.List.{List}
use mathlib.Core.Logic.{◌⊎◌, inl, inr}
use Prim.Native.Nat.{ℕ, ◌<◌, ◌%◌}
use native.Mathlib.Omega.{arith}
use borrow.Author.Tests.{eqb-true}
use lib.ListN.{length}
use lib.Dec.{eqb}
use Rattle.lists.proofs.Bool.{&&-left}
use Rattle.ops.specs.Codes.{DEBUG}
use Rattle.ops.specs.Table.{ops}
use Rattle.format.specs.declared.header.Header.{Header}
use Rattle.fields.specs.declared.read.Line.{Line}
use Rattle.fields.specs.Letters.{READ-CODE, READ-DATA, WRITE-CODE, WRITE-DATA, READ-REGISTER, WRITE-REGISTER, CONTINUE}
use Rattle.breakpoints.specs.Entry.{valid_break_address}
use Rattle.session.specs.Session.{text_host, pup_host}
use Rattle.packets.specs.Types.{STORE, FETCH, GO}
use Rattle.process.specs.declared.record.Process.{Process}
use Rattle.process.specs.Local.{Local, Proper}
use Rattle.process.specs.Request.{has_break, has_room, has_room_for, end_watched, continued, stepped_from, break_set, break_removed}
use Rattle.process.specs.Theorems.{seen_of}
use Rattle.process.proofs.KeptLaws.{Going, going, going-end_watched, going-break_set, going-break_removed}
use Rattle.process.proofs.TheoremLaws.{seen-stays}
use Rattle.rules.specs.Rule.{Public, public, Rule, rules, break_rule, holds, rule_of}
use Rattle.rules.specs.TextRule.{TextRule, read_word_rule, write_word_rule, read_register_rule, write_register_rule, go_rule, text_rule_of}
use Rattle.rules.specs.PacketRule.{PacketRule, store_row, fetch_row, go_row, go_reply_row, packet_row_of}
use Rattle.rules.specs.Tests.{State, record_of}
use Rattle.rules.specs.Access.{Asker, nobody, by}
use Rattle.rules.specs.Step.{Call, local_of, step}
use Rattle.rules.specs.Ready.{Ready}
use Rattle.rules.specs.Isolation.{asker, fields_of}
use Rattle.rules.specs.Rights.{holder, Creates, Begins, Ends}
use Rattle.rules.specs.Watch.{watcher_of, WatchBegins, WatchEnds}
use Rattle.rules.proofs.StateLaws.{each-sound, local-proper}
use Rattle.rules.proofs.NumberLaws.{by-test}
use Rattle.rules.proofs.RuleLaws.{Passing, alone, room-or, Each, each-rule}
use Rattle.rules.proofs.TextLaws.{Passing as TextPassing}
use Rattle.rules.proofs.PacketLaws.{Passing as PacketPassing}
use Rattle.rules.proofs.PlaceLaws.{Reach, passes_by, asks, makes, tells, puts, says, sends, ticks, reach}
use Rattle.rules.proofs.StepLaws.{step-ready}
use Rattle.rules.proofs.RightsLaws.{rights}
use Rattle.rules.proofs.WatchLaws.{turns, apart}

-- nothing of this changed
abbrev Looked : Local → Local → Type 0
Looked k l = (seen_of k ≡ seen_of l) × ((k.process.vector ≡ l.process.vector) × (k.process.run ≡ l.process.run))

-- a request that leaves what is seen, and lets the process go as it did
looked : (k l : Local) → seen_of k ≡ seen_of l → going k ≡ going l → Looked k l
looked k l e g = (e, (ap (λ (x : Going). x.vector) g, ap (λ (x : Going). x.run) g))

-- ---- op codes

-- another host debugs the process than asks
pub record Another (host : ℕ) (p : Process) : Type 0 where
  pub hosted : p.host ≡ 0 → ⊥
  pub other : p.host ≡ host → ⊥

-- so a granted request with this row
abbrev LookRow : ℕ → Rule → Type 0
LookRow cmd r = (h : Header) (string : List ℕ) (l : Local) → Proper l → Passing r h string l.process → Another h.host l.process → Looked (r.effect h string l) l

-- a row that asks who debugs
holding : (cmd : ℕ) (r : Rule) → ((u : Public) (host : ℕ) → r.right u host ≡ true → holds u host ≡ true) → LookRow cmd r
unfolding public
holding cmd r right h string l g p a = absurd (a.other (eqb-true _ h.host (right (public l.process) h.host p.right)))

-- DEBUG is granted to no other
debugging : LookRow 1 (rule_of 1)
unfolding rule_of public
debugging h string l g p a = go (alone (public l.process) h.host p.right)
  where
    go : (l.process.host ≡ 0) ⊎ (l.process.host ≡ h.host) → Looked ((rule_of 1).effect h string l) l
    go (inl z) = absurd (a.hosted z)
    go (inr i) = absurd (a.other i)

breaking : LookRow 8 break_rule
unfolding valid_break_address has_room_for
breaking h string l g p a =
    looked (break_set h.host h.arg1 h.arg2 l) l
    (seen-stays.break h.host h.arg1 h.arg2 l g p.asked (eqb-true _ _ (&&-left (eqb (h.arg1 % 2) 0) _ p.range))
    (λ none. &&-left (has_room l.process) _ (room-or (has_break h.arg1 l.process) _ p.room none)))
    (going-break_set h.host h.arg1 h.arg2 l)

each_row : Each LookRow 0 rules
unfolding rule_of
each_row = (
  holding 0 _ (λ u host e. e),
  (
    debugging,
    (
      holding 2 _ (λ u host e. e),
      (
        holding 3 _ (λ u host e. e),
        (
          holding 4 _ (λ u host e. e),
          (
            holding 5 _ (λ u host e. e),
            (
              (λ h s l g p a. (refl, (refl, refl))),
              (
                holding 7 _ (λ u host e. e),
                (
                  breaking,
                  (
                    (λ h s l g p a. looked (break_removed h.arg1 l) l (seen-stays.unbreak h.arg1 l g p.found) (going-break_removed h.arg1 l)),
                    (
                      holding 10 _ (λ u host e. e),
                      (
                        holding 11 _ (λ u host e. e),
                        (
                          holding 12 _ (λ u host e. e),
                          (
                            holding 13 _ (λ u host e. e),
                            (
                              (λ h s l g p a. (refl, (refl, refl))),
                              ((λ h s l g p a. looked (end_watched l) l (seen-stays.end-watch l g) (going-end_watched l)), ((λ h s l g p a. (refl, (refl, refl))), tt)),
                            ),
                          ),
                        ),
                      ),
                    ),
                  ),
                ),
              ),
            ),
          ),
        ),
      ),
    ),
  ),
)

rule-looks : (cmd : ℕ) → cmd < length ops → LookRow cmd (rule_of cmd)
rule-looks = each-rule LookRow each_row

-- ---- letters

-- so a granted line with this row
record LetterLook (r : TextRule) : Type 0 where
  looks : (x : Line) (l : Local) → TextPassing r x l.process → Another text_host l.process → Looked (r.effect x l) l

-- `i` and `d`
reading : LetterLook read_word_rule
reading = record { looks = λ x l p a. (refl, (refl, refl)) }

-- every other letter asks who debugs
held : (r : TextRule) → ((u : Public) → r.right u ≡ true → holds u text_host ≡ true) → LetterLook r
unfolding public
held r right = record { looks = λ x l p a. absurd (a.other (eqb-true _ text_host (right (public l.process) p.right))) }

letter-looks : (letter : ℕ) → LetterLook (text_rule_of letter)
unfolding text_rule_of
letter-looks letter =
    by-test LetterLook (eqb letter READ-CODE || eqb letter READ-DATA) (λ e. reading)
    (λ e. by-test LetterLook (eqb letter WRITE-CODE || eqb letter WRITE-DATA) (λ i. held write_word_rule (λ u q. q))
    (λ i. by-test LetterLook (eqb letter READ-REGISTER) (λ j. held read_register_rule (λ u q. q))
    (λ j. by-test LetterLook (eqb letter WRITE-REGISTER) (λ n. held write_register_rule (λ u q. q))
    (λ n. by-test LetterLook (eqb letter CONTINUE) (λ c. held (go_rule continued) (λ u q. q)) (λ c. held (go_rule stepped_from) (λ u q. q))))))

-- ---- packets

-- so a granted packet with this row
record PacketLook (r : PacketRule) : Type 0 where
  looks : (id : ℕ) (words : List ℕ) (l : Local) → PacketPassing r words l.process → Another pup_host l.process → Looked (r.effect id words l) l

-- a Fetch
fetching : PacketLook fetch_row
fetching = record { looks = λ id words l p a. (refl, (refl, refl)) }

-- every other type asks who debugs
debugged-by : (r : PacketRule) → ((u : Public) → r.right u ≡ true → holds u pup_host ≡ true) → PacketLook r
unfolding public
debugged-by r right = record { looks = λ id words l p a. absurd (a.other (eqb-true _ pup_host (right (public l.process) p.right))) }

packet-looks : (kind : ℕ) → PacketLook (packet_row_of kind)
unfolding packet_row_of
packet-looks kind =
    by-test PacketLook (eqb kind STORE) (λ e. debugged-by store_row (λ u q. q))
    (λ e. by-test PacketLook (eqb kind FETCH) (λ i. fetching)
    (λ i. by-test PacketLook (eqb kind GO) (λ j. debugged-by go_row (λ u q. q)) (λ j. debugged-by go_reply_row (λ u q. q))))

-- ---- any call

-- who asks is one host
asked_by : (w : Asker) (v h : ℕ) → w ≡ by v → w ≡ by h → h ≡ v
asked_by w v h e i = cc

nobody-asks : (w : Asker) (v : ℕ) → w ≡ by v → w ≡ nobody → ⊥
nobody-asks w v e i = let z : ◌≡◌ {A = ℕ} 0 1 = cc in omega arith

module _ (s : State) (r : Ready s) (c : Call) (host p : ℕ) (low : p < 8) (named : host ≡ 0 → ⊥) where
  -- who watches the process
  watching : watcher_of s p ≡ host → Another host (record_of s p)
  unfolding public
  watching e = let a = apart s r p low (λ z. named (sym e ∙ z)) in record { hosted = a.0; other = λ i. a.1 (e ∙ sym i) }

  -- and by whose WATCH that begins
  begun : WatchBegins p s c → watcher_of (step s c).after p ≡ host → Another host (record_of s p)
  unfolding public
  begun b e = go (rights.turns s r c p low)
    where
      a : (holder (step s c).after p ≡ 0 → ⊥) × (watcher_of (step s c).after p ≡ holder (step s c).after p → ⊥)
      a = apart (step s c).after (step-ready s r c) p low (λ z. named (sym e ∙ z))

      no-begin : (((fields_of c).cmd ≡ DEBUG) × ((fields_of c).pid ≡ p)) ⊎ Creates p c (step s c).answer → ⊥
      no-begin (inl x) = omega (arith, x.0, b.watch.op)
      no-begin (inr x) = omega (arith, x.0, b.watch.op)

      go : (holder (step s c).after p ≡ holder s p) ⊎ (Begins p s c ⊎ Ends p s c) → Another host (record_of s p)
      go (inl i) = record { hosted = λ z. a.0 (i ∙ z); other = λ z. a.1 (e ∙ sym (i ∙ z)) }
      go (inr (inl x)) = absurd (no-begin x.op)
      go (inr (inr x)) = absurd (a.0 x.after)

  watches : (watcher_of s p ≡ host) ⊎ (watcher_of (step s c).after p ≡ host) → Another host (record_of s p)
  watches (inl e) = watching e
  watches (inr e) = go (turns s r c p low)
    where
      go : (watcher_of (step s c).after p ≡ watcher_of s p) ⊎ (WatchBegins p s c ⊎ WatchEnds p s c) → Another host (record_of s p)
      go (inl i) = watching (sym i ∙ e)
      go (inr (inl b)) = begun b e
      go (inr (inr x)) = absurd (named (sym e ∙ x.after))

pub looks-only : (s : State) → Ready s → (c : Call) (host p : ℕ) → p < 8 → (host ≡ 0 → ⊥) → asker c ≡ by host
    → (watcher_of s p ≡ host) ⊎ (watcher_of (step s c).after p ≡ host)
    → (seen_of (local_of (step s c).after p) ≡ seen_of (local_of s p))
    × (((record_of (step s c).after p).vector ≡ (record_of s p).vector) × ((record_of (step s c).after p).run ≡ (record_of s p).run))
unfolding asker
looks-only s r c host p low named by-him w = go (reach s r c p low)
  where
    left : (k : Local) → local_of (step s c).after p ≡ k → Looked k (local_of s p) → Looked (local_of (step s c).after p) (local_of s p)
    left k e x = subst (λ (m : Local). Looked m (local_of s p)) (sym e) x

    other : Another host (record_of s p)
    other = watches s r c host p low named w

    another : (h : ℕ) → asker c ≡ by h → Another h (record_of s p)
    another h e = subst (λ (n : ℕ). Another n (record_of s p)) (sym (asked_by (asker c) host h by-him e)) other

    go : Reach p s c → Looked (local_of (step s c).after p) (local_of s p)
    go (passes_by e) = left (local_of s p) e (refl, (refl, refl))
    go (asks h string f h-asks pid known granted passing e) =
        left _ e (rule-looks h.cmd known h string (local_of s p) (local-proper s r p low) passing (another h.host h-asks))
    go (makes absent) = absurd (other.hosted ((each-sound s r p low).absent absent).0)
    go (tells is granted e) = absurd (nobody-asks (asker c) host by-him (ap asker is))
    go (puts a v none e) = absurd (nobody-asks (asker c) host by-him none)
    go (says x line-asks passing e) = left _ e ((letter-looks x.letter).looks x (local_of s p) passing (another text_host line-asks))
    go (sends kind id words packet-asks passing e) = left _ e ((packet-looks kind).looks id words (local_of s p) passing (another pup_host packet-asks))
    go (ticks none e) = absurd (nobody-asks (asker c) host by-him none)
