-- Whole lists of calls, whatever the calls are: two runs that are alike are heard alike. The set of hidden processes may change on the way.
-- Assumes nothing.
use mathlib.Core.Path.{◌≡◌, refl, sym, ap, ap₂, ◌∙◌, subst}
use mathlib.Core.Bool.{Bool, true, false, cond, ◌&&◌}
use mathlib.Core.List.{List, [], ◌∷◌, ◌++◌}
use Rattle.lists.proofs.Bool.{&&-right}
use Rattle.rules.proofs.StepLaws.{by-test}

-- a machine that is called: states, calls, what a call lets be heard, and the state after it; what is hidden (K), and which calls are struck or passed over
pub record Machine : Type 1 where
  pub S : Type 0
  pub C : Type 0
  pub A : Type 0
  pub K : Type 0
  pub after : S → C → S
  pub part : S → C → List A
  pub struck : K → C → Bool
  pub without_data : K → C → C
  pub next : K → S → C → K
  pub Ready : S → Type 0
  pub Apart : K → S → S → Type 0
  pub NoneDebugs : K → S → Type 0

module _ (m : Machine) where
  -- what is heard of a list
  unfoldable pub heard_of : m.S → List m.C → List m.A
  heard_of s [] = []
  heard_of s (c ∷ l) = m.part s c ++ heard_of (m.after s c) l

  -- a list, struck and passed over, by what is hidden at each call
  unfoldable pub strike_of : m.K → m.S → List m.C → List m.C
  strike_of k s [] = []
  strike_of k s (c ∷ l) = cond (m.struck k c) (strike_of k (m.after s c) l) (m.without_data k c ∷ strike_of (m.next k s c) (m.after s c) l)

  -- nothing hidden is open to them at any time
  unfoldable pub AwayOf : m.K → m.S → List m.C → Type 0
  AwayOf k s [] = m.NoneDebugs k s
  AwayOf k s (c ∷ l) = m.NoneDebugs k s × AwayOf (m.next k s c) (m.after s c) l

  -- the state at the end
  unfoldable pub final_of : m.S → List m.C → m.S
  final_of s [] = s
  final_of s (c ∷ l) = final_of (m.after s c) l

  -- what is hidden at the end
  unfoldable pub last_of : m.K → m.S → List m.C → m.K
  last_of k s [] = k
  last_of k s (c ∷ l) = last_of (m.next k s c) (m.after s c) l

  -- the laws of one call
  pub record Stepwise : Type 0 where
    pub ready : (s : m.S) → m.Ready s → (c : m.C) → m.Ready (m.after s c)
    pub itself : (k : m.K) (s : m.S) → m.Apart k s s
    pub back : (k : m.K) (s t : m.S) → m.Apart k s t → m.Apart k t s
    pub free : (k : m.K) (s t : m.S) → m.Apart k s t → m.NoneDebugs k s → m.NoneDebugs k t
    pub struck-next : (k : m.K) (s : m.S) (c : m.C) → m.struck k c ≡ true → m.next k s c ≡ k
    pub struck-apart : (k : m.K) (s t : m.S) → m.Ready s → m.Apart k s t → (c : m.C) → m.struck k c ≡ true → m.Apart k (m.after s c) t
    pub struck-part : (k : m.K) (s : m.S) → m.Ready s → m.NoneDebugs k s → (c : m.C) → m.struck k c ≡ true → m.part s c ≡ []
    pub stays-next : (k : m.K) (s t : m.S) → m.Ready s → m.Ready t → m.Apart k s t → m.NoneDebugs k s → (c : m.C) → m.struck k c ≡ false → m.next k s c ≡ m.next k t (m.without_data k c)
    pub stays-apart : (k : m.K) (s t : m.S) → m.Ready s → m.Ready t → m.Apart k s t → m.NoneDebugs k s → (c : m.C) → m.struck k c ≡ false → m.Apart (m.next k s c) (m.after s c) (m.after t (m.without_data k c))
    pub stays-part : (k : m.K) (s t : m.S) → m.Ready s → m.Ready t → m.Apart k s t → m.NoneDebugs k s → (c : m.C) → m.struck k c ≡ false → m.part s c ≡ m.part t (m.without_data k c)

  module _ (w : Stepwise) where
    away-head : (k : m.K) (s : m.S) (l : List m.C) → AwayOf k s l → m.NoneDebugs k s
    unfolding AwayOf
    away-head k s [] a = a
    away-head k s (c ∷ l) a = a.0

    normal : (l : List m.C) (k : m.K) (s t : m.S) → m.Ready s → m.Ready t → m.Apart k s t → AwayOf k s l → heard_of s l ≡ heard_of t (strike_of k s l)
    unfolding heard_of strike_of AwayOf
    normal [] k s t r q a f = refl
    normal (c ∷ l) k s t r q a f =
        by-test (λ (x : List m.C). m.part s c ++ heard_of (m.after s c) l ≡ heard_of t x) (m.struck k c)
        (λ e. rw (w.struck-part k s r f.0 c e)
        (normal l k (m.after s c) t (w.ready s r c) q (w.struck-apart k s t r a c e) (subst (λ (j : m.K). AwayOf j (m.after s c) l) (w.struck-next k s c e) f.1)))
        (λ e.
        ap₂ (λ (x y : List m.A). x ++ y) (w.stays-part k s t r q a f.0 c e)
        (normal l (m.next k s c) (m.after s c) (m.after t (m.without_data k c)) (w.ready s r c) (w.ready t q (m.without_data k c)) (w.stays-apart k s t r q a f.0 c e) f.1))

    away-on : (l : List m.C) (k : m.K) (s t : m.S) → m.Ready s → m.Ready t → m.Apart k s t → AwayOf k s l → AwayOf k t (strike_of k s l)
    unfolding strike_of AwayOf
    away-on [] k s t r q a f = w.free k s t a f
    away-on (c ∷ l) k s t r q a f =
        by-test (AwayOf k t) (m.struck k c)
        (λ e. away-on l k (m.after s c) t (w.ready s r c) q (w.struck-apart k s t r a c e) (subst (λ (j : m.K). AwayOf j (m.after s c) l) (w.struck-next k s c e) f.1))
        (λ e. (
          w.free k s t a f.0,
          subst (λ (j : m.K). AwayOf j (m.after t (m.without_data k c)) (strike_of (m.next k s c) (m.after s c) l)) (w.stays-next k s t r q a f.0 c e)
              (away-on l (m.next k s c) (m.after s c) (m.after t (m.without_data k c)) (w.ready s r c) (w.ready t q (m.without_data k c)) (w.stays-apart k s t r q a f.0 c e) f.1),
        ))

    away-back : (l : List m.C) (k : m.K) (s t : m.S) → m.Ready s → m.Ready t → m.Apart k s t → AwayOf k t (strike_of k s l) → AwayOf k s l
    unfolding strike_of AwayOf
    away-back [] k s t r q a = λ f. w.free k t s (w.back k s t a) f
    away-back (c ∷ l) k s t r q a =
        by-test (λ (x : List m.C). AwayOf k t x → m.NoneDebugs k s × AwayOf (m.next k s c) (m.after s c) l) (m.struck k c)
        (λ e f. (
          w.free k t s (w.back k s t a) (away-head k t (strike_of k (m.after s c) l) f),
          subst (λ (j : m.K). AwayOf j (m.after s c) l) (sym (w.struck-next k s c e))
              (away-back l k (m.after s c) t (w.ready s r c) q (w.struck-apart k s t r a c e) f),
        ))
        (λ e f.
        let shut = w.free k t s (w.back k s t a) f.0 in (
          shut,
          away-back l (m.next k s c) (m.after s c) (m.after t (m.without_data k c)) (w.ready s r c) (w.ready t q (m.without_data k c)) (w.stays-apart k s t r q a shut c e)
              (subst (λ (j : m.K). AwayOf j (m.after t (m.without_data k c)) (strike_of (m.next k s c) (m.after s c) l)) (sym (w.stays-next k s t r q a shut c e)) f.1),
        ))

    -- they stay away in one where they do in the other
    pub both-away : (k : m.K) (s t : m.S) → m.Ready s → m.Ready t → m.Apart k s t → (l n : List m.C) → strike_of k s l ≡ strike_of k t n → AwayOf k s l → AwayOf k t n
    both-away k s t r q a l n e f = away-back n k t t q q (w.itself k t) (subst (AwayOf k t) e (away-on l k s t r q a f))

    -- and are answered the same
    pub same-heard : (k : m.K) (s t : m.S) → m.Ready s → m.Ready t → m.Apart k s t → (l n : List m.C) → strike_of k s l ≡ strike_of k t n → AwayOf k s l
        → heard_of s l ≡ heard_of t n
    same-heard k s t r q a l n e f =
        normal l k s t r q a f ∙ ap (heard_of t) e ∙ sym (normal n k t t q q (w.itself k t) (both-away k s t r q a l n e f))

    -- ---- the end of a list

    pub final-ready : (l : List m.C) (s : m.S) → m.Ready s → m.Ready (final_of s l)
    unfolding final_of
    final-ready [] s r = r
    final-ready (c ∷ l) s r = final-ready l (m.after s c) (w.ready s r c)

    pub final-free : (l : List m.C) (k : m.K) (s : m.S) → AwayOf k s l → m.NoneDebugs (last_of k s l) (final_of s l)
    unfolding final_of last_of AwayOf
    final-free [] k s f = f
    final-free (c ∷ l) k s f = final-free l (m.next k s c) (m.after s c) f.1

    pub final-apart : (l : List m.C) (k : m.K) (s t : m.S) → m.Ready s → m.Ready t → m.Apart k s t → AwayOf k s l → m.Apart (last_of k s l) (final_of s l) (final_of t (strike_of k s l))
    unfolding final_of last_of strike_of AwayOf
    final-apart [] k s t r q a f = a
    final-apart (c ∷ l) k s t r q a f =
        by-test (λ (x : List m.C). m.Apart (last_of (m.next k s c) (m.after s c) l) (final_of (m.after s c) l) (final_of t x)) (m.struck k c)
        (λ e. subst (λ (j : m.K). m.Apart (last_of j (m.after s c) l) (final_of (m.after s c) l) (final_of t (strike_of k (m.after s c) l))) (sym (w.struck-next k s c e))
        (final-apart l k (m.after s c) t (w.ready s r c) q (w.struck-apart k s t r a c e) (subst (λ (j : m.K). AwayOf j (m.after s c) l) (w.struck-next k s c e) f.1)))
        (λ e. final-apart l (m.next k s c) (m.after s c) (m.after t (m.without_data k c)) (w.ready s r c) (w.ready t q (m.without_data k c)) (w.stays-apart k s t r q a f.0 c e) f.1)

    -- whatever goes by what is not hidden is the same at the end of lists that are alike
    pub same_next : {B : Type 0} (F : m.S → B) → ((k : m.K) (s t : m.S) → m.Ready s → m.Ready t → m.Apart k s t → m.NoneDebugs k s → F s ≡ F t)
        → (k : m.K) (s t : m.S) → m.Ready s → m.Ready t → m.Apart k s t → (l n : List m.C) → strike_of k s l ≡ strike_of k t n → AwayOf k s l → F (final_of s l) ≡ F (final_of t n)
    same_next F same k s t r q a l n e f =
        struck-end k s t r q a l f ∙ ap (λ (x : List m.C). F (final_of t x)) e ∙ sym (struck-end k t t q q (w.itself k t) n (both-away k s t r q a l n e f))
      where
        struck-end : (k : m.K) (s t : m.S) → m.Ready s → m.Ready t → m.Apart k s t → (l : List m.C) → AwayOf k s l → F (final_of s l) ≡ F (final_of t (strike_of k s l))
        struck-end k s t r q a l f =
            same (last_of k s l) (final_of s l) (final_of t (strike_of k s l)) (final-ready l s r) (final-ready (strike_of k s l) t q) (final-apart l k s t r q a f) (final-free l k s f)

  -- ---- what is left out

  -- a call of theirs that names something hidden changes nothing, if it opens nothing
  pub record Idle (theirs : m.K → m.C → Bool) : Type 0 where
    pub ready : (s : m.S) → m.Ready s → (c : m.C) → m.Ready (m.after s c)
    pub idle : (k : m.K) (s : m.S) → m.Ready s → (c : m.C) → theirs k c ≡ true → m.NoneDebugs k s → m.NoneDebugs (m.next k s c) (m.after s c) → m.after s c ≡ s

  module _ {E : Type 0} (entry : m.S → m.C → E) (theirs : m.K → m.C → Bool) where
    -- each call with what came of it
    unfoldable pub run_of : m.S → List m.C → List E
    run_of s [] = []
    run_of s (c ∷ l) = entry s c ∷ run_of (m.after s c) l

    -- the list without the marked calls of theirs
    unfoldable pub leave_of : m.K → m.S → List Bool → List m.C → List m.C
    leave_of k s [] l = l
    leave_of k s (b ∷ bs) [] = []
    leave_of k s (b ∷ bs) (c ∷ l) = cond (b && theirs k c) (leave_of (m.next k s c) (m.after s c) bs l) (c ∷ leave_of (m.next k s c) (m.after s c) bs l)

    -- the run without them
    unfoldable pub rest_of : m.K → m.S → List Bool → List m.C → List E
    rest_of k s [] l = run_of s l
    rest_of k s (b ∷ bs) [] = []
    rest_of k s (b ∷ bs) (c ∷ l) = cond (b && theirs k c) (rest_of (m.next k s c) (m.after s c) bs l) (entry s c ∷ rest_of (m.next k s c) (m.after s c) bs l)

    pub left_out : Idle theirs → (bs : List Bool) (l : List m.C) (k : m.K) (s : m.S) → m.Ready s → AwayOf k s l → run_of s (leave_of k s bs l) ≡ rest_of k s bs l
    unfolding run_of leave_of rest_of AwayOf
    left_out w [] l k s r f = refl
    left_out w (b ∷ bs) [] k s r f = refl
    left_out w (b ∷ bs) (c ∷ l) k s r f = go (left_out w bs l (m.next k s c) (m.after s c) (w.ready s r c) f.1) (b && theirs k c) refl
      where
        rest : List m.C
        rest = leave_of (m.next k s c) (m.after s c) bs l

        kept : List E
        kept = rest_of (m.next k s c) (m.after s c) bs l

        head : (x : List m.C) → AwayOf (m.next k s c) (m.after s c) x → m.NoneDebugs (m.next k s c) (m.after s c)
        head [] a = a
        head (d ∷ x) a = a.0

        go : run_of (m.after s c) rest ≡ kept → (t : Bool) → b && theirs k c ≡ t → run_of s (cond t rest (c ∷ rest)) ≡ cond t kept (entry s c ∷ kept)
        go i true e = subst (λ (z : m.S). run_of z rest ≡ kept) (w.idle k s r c (&&-right b (theirs k c) e) f.0 (head l f.1)) i
        go i false e = ap (λ (x : List E). entry s c ∷ x) i

    pub same_end : Idle theirs → (bs : List Bool) (l : List m.C) (k : m.K) (s : m.S) → m.Ready s → AwayOf k s l → final_of s (leave_of k s bs l) ≡ final_of s l
    unfolding final_of leave_of AwayOf
    same_end w [] l k s r f = refl
    same_end w (b ∷ bs) [] k s r f = refl
    same_end w (b ∷ bs) (c ∷ l) k s r f = go (same_end w bs l (m.next k s c) (m.after s c) (w.ready s r c) f.1) (b && theirs k c) refl
      where
        rest : List m.C
        rest = leave_of (m.next k s c) (m.after s c) bs l

        head : (x : List m.C) → AwayOf (m.next k s c) (m.after s c) x → m.NoneDebugs (m.next k s c) (m.after s c)
        head [] a = a
        head (d ∷ x) a = a.0

        go : final_of (m.after s c) rest ≡ final_of (m.after s c) l → (t : Bool) → b && theirs k c ≡ t → final_of s (cond t rest (c ∷ rest)) ≡ final_of (m.after s c) l
        go i true e = subst (λ (z : m.S). final_of z rest ≡ final_of (m.after s c) l) (w.idle k s r c (&&-right b (theirs k c) e) f.0 (head l f.1)) i
        go i false e = i
