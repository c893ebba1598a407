-- Each node stands once in post-order, and without a cycle behind all its targets.
use Rattle.std.specs.Prelude.{◌≡◌, refl, ◌⊎◌, Bool, true, false, length, get_or, set, eqb}
use Rattle.std.proofs.Common.{sym, ap, ◌∙◌, le_trans, get_or-set_same, get_or-set_other, eqb-true}
use Rattle.std.proofs.Math.Logic.{inl, inr}
use mathlib.Core.List.{List, [], ◌∷◌, ◌++◌}
use Prim.Native.Nat.{ℕ, zero, suc, ◌+◌, ◌<◌, ◌≤◌}
use Rattle.std.proofs.Math.Nat.{not-suc-le-zero}
use native.Mathlib.Omega.{arith}
use Rattle.std.proofs.lemmas.Bool.{eqb-false}
use Rattle.basis.specs.Lists.{snoc}
use Rattle.basis.specs.Members.{In, split, either, in_append, in_left, in_right}
use Rattle.labels.specs.Order.{Walk, mark, leave, through, visit, postorder}
use Rattle.labels.specs.Walks.{unseen, unseen_le, unseen_some, visit_at, visit_past, Inner, Ok, ok_mark, Below, keeps, zero?}

-- a path of one edge or more
pub data Leads (to : ℕ → List ℕ) : ℕ → ℕ → Type 0 where
  edge : {a b : ℕ} → In b (to a) → Leads to a b
  onto : {a b c : ℕ} → Leads to a b → In c (to b) → Leads to a c

-- no non-empty path from a node to itself
abbrev pub Acyclic : (ℕ → List ℕ) → Type 0
Acyclic to = (a : ℕ) → Leads to a a → ⊥

-- each node once; where `late` holds, behind all its targets
pub data Ordered (to : ℕ → List ℕ) (late : Type 0) : List ℕ → Type 0 where
  none : Ordered to late []
  more : {l : List ℕ} (n : ℕ) → Ordered to late l → (In n l → ⊥) → (late → (t : ℕ) → In t (to n) → In t l) → Ordered to late (snoc l n)

in_last : (x : ℕ) (xs : List ℕ) → In x (snoc xs x)
in_last x xs = in_right x xs (x ∷ []) (inl refl)

abbrev Marked : Walk → ℕ → Type 0
Marked w t = get_or w.marks t 0 ≡ 0 → ⊥

bad : ◌≡◌ {A = ℕ} 1 0 → ⊥
bad q = omega arith

marked_mark : (w : Walk) (n t : ℕ) → Marked (mark n w) t → (t ≡ n) ⊎ Marked w t
marked_mark w n t h = split (eqb t n) (λ e. inl (eqb-true t n e)) (λ e. inr (λ z. h (get_or-set_other w.marks n t 1 0 (eqb-false t n e) ∙ z)))

mark_kept : (w : Walk) (n t : ℕ) → n < length w.marks → Marked w t → Marked (mark n w) t
mark_kept w n t l h z =
    split (eqb t n) (λ e. bad (sym (get_or-set_same w.marks n 1 0 l) ∙ (rw (eqb-true t n e) at z)))
    (λ e. h (sym (get_or-set_other w.marks n t 1 0 (eqb-false t n e)) ∙ z))

mark_own : (w : Walk) (n : ℕ) → n < length w.marks → Marked (mark n w) n
mark_own w n l z = bad (sym (get_or-set_same w.marks n 1 0 l) ∙ z)

module _ (to : ℕ → List ℕ) where
  -- what is marked is left, or leads to n
  abbrev Opens : Walk → ℕ → Type 0
  Opens w n = (t : ℕ) → Marked w t → In t w.left ⊎ Leads to t n

  -- what is left is marked
  abbrev Sealed : Walk → Type 0
  Sealed w = (t : ℕ) → In t w.left → Marked w t

  record Grown (ns : List ℕ) (w v : Walk) : Type 0 where
    marks⁺ : (t : ℕ) → Marked w t → Marked v t
    left⁺ : (t : ℕ) → In t w.left → In t v.left
    fresh : (t : ℕ) → Marked v t → Marked w t ⊎ In t v.left
    newly : (t : ℕ) → In t v.left → In t w.left ⊎ (Marked w t → ⊥)
    here : (t : ℕ) → In t ns → Marked v t
    kept : Sealed v
    ord : Ordered to (Acyclic to) v.left

  opens_on : (ns : List ℕ) (w v : Walk) (m : ℕ) → Grown ns w v → Opens w m → Opens v m
  opens_on ns w v m g o t h = either (g.fresh t h) (λ k. either (o t k) (λ i. inl (g.left⁺ t i)) (λ p. inr p)) (λ i. inl i)

  same : (w : Walk) → Sealed w → Ordered to (Acyclic to) w.left → Grown [] w w
  same w s od = record { marks⁺ = λ t x. x; left⁺ = λ t x. x; fresh = λ t x. inl x; newly = λ t x. inl x; here = λ t x. absurd x; kept = s; ord = od }

  same_one : (n : ℕ) (w : Walk) → Marked w n → Sealed w → Ordered to (Acyclic to) w.left → Grown (n ∷ []) w w
  same_one n w m s od =
      record {
        marks⁺ = λ t x. x;
        left⁺ = λ t x. x;
        fresh = λ t x. inl x;
        newly = λ t x. inl x;
        here = λ t x. either x (λ e. rw e m) (λ i. absurd i);
        kept = s;
        ord = od;
      }

  module _ (N : ℕ) (g : Inner to N) where
    grown_all : (F : ℕ → Walk → Walk) (b : ℕ) → ((n : ℕ) (w : Walk) → n < N → Ok N b w → Ok N b (F n w))
        → ((n : ℕ) (w : Walk) → n < N → Ok N b w → Opens w n → Sealed w → Ordered to (Acyclic to) w.left → Grown (n ∷ []) w (F n w))
        → (ns : List ℕ) (w : Walk) → Below N ns → Ok N b w → ((m : ℕ) → In m ns → Opens w m) → Sealed w → Ordered to (Acyclic to) w.left
        → Grown ns w (through F ns w)
    unfolding through
    grown_all F b keep step [] w h o op s od = same w s od
    grown_all F b keep step (n ∷ ns) w h o op s od =
        let a : Grown (n ∷ []) w (F n w) = step n w (h n (inl refl)) o (op n (inl refl)) s od in
        let c : Grown ns (F n w) (through F ns (F n w)) = grown_all F b keep step ns (F n w) (λ t i. h t (inr i)) (keep n w (h n (inl refl)) o) (λ m i.
        opens_on (n ∷ []) w (F n w) m a (op m (inr i))) a.kept a.ord in
        record {
          marks⁺ = λ t x. c.marks⁺ t (a.marks⁺ t x);
          left⁺ = λ t x. c.left⁺ t (a.left⁺ t x);
          fresh = λ t x. either (c.fresh t x) (λ k. either (a.fresh t k) (λ j. inl j) (λ i. inr (c.left⁺ t i))) (λ i. inr i);
          newly = λ t x. either (c.newly t x) (λ i. a.newly t i) (λ k. inr (λ m. k (a.marks⁺ t m)));
          here = λ t x. either x (λ e. c.marks⁺ t (a.here t (inl e))) (λ i. c.here t i);
          kept = c.kept;
          ord = c.ord;
        }

    module _ (n : ℕ) (w : Walk) (h : n < N) (len : n < length w.marks) (e : get_or w.marks n 0 ≡ 0) (op : Opens w n) (s : Sealed w) where
      starts : (m : ℕ) → In m (to n) → Opens (mark n w) m
      starts m i t x = either (marked_mark w n t x) (λ q. inr (rw q (edge i))) (λ k. either (op t k) (λ j. inl j) (λ p. inr (onto p i)))

      sealed : Sealed (mark n w)
      sealed t i = mark_kept w n t len (s t i)

      close : {v : Walk} → Grown (to n) (mark n w) v → Grown (n ∷ []) w (leave n v)
      close {v} a = record {
        marks⁺ = λ t x. a.marks⁺ t (mark_kept w n t len x);
        left⁺ = λ t x. in_left t v.left (n ∷ []) (a.left⁺ t x);
        fresh =
            λ t x. either (a.fresh t x) (λ k. either (marked_mark w n t k) (λ q. inr (rw q (in_last n v.left))) (λ j. inl j)) (λ i.
            inr (in_left t v.left (n ∷ []) i));
        newly = λ t x. either (in_append t v.left (n ∷ []) x) (λ i. old t i) (λ j. either j (λ q. inr (rw q (λ m. m e))) (λ z. absurd z));
        here = λ t x. either x (λ q. rw q (a.marks⁺ n (mark_own w n len))) (λ i. absurd i);
        kept = λ t x. either (in_append t v.left (n ∷ []) x) (λ i. a.kept t i) (λ j. either j (λ q. rw q (a.marks⁺ n (mark_own w n len))) (λ z. absurd z));
        ord = more n a.ord once behind;
      }
        where
          old : (t : ℕ) → In t v.left → In t w.left ⊎ (Marked w t → ⊥)
          old t i = either (a.newly t i) (λ k. inl k) (λ k. inr (λ m. k (mark_kept w n t len m)))

          once : In n v.left → ⊥
          once i = either (a.newly n i) (λ k. s n k e) (λ k. k (mark_own w n len))

          behind : Acyclic to → (t : ℕ) → In t (to n) → In t v.left
          behind no-cycle t i =
              either (a.fresh t (a.here t i))
              (λ k. either (marked_mark w n t k) (λ q. absurd (no-cycle n (edge (rw q at i))))
              (λ j. either (op t j) (λ l. a.left⁺ t l) (λ p. absurd (no-cycle t (onto p i)))))
              (λ l. l)

    grown : (f n : ℕ) (w : Walk) → n < N → Ok N f w → Opens w n → Sealed w → Ordered to (Acyclic to) w.left → Grown (n ∷ []) w (visit f to n w)
    unfolding visit
    grown zero n w h o op s od = same_one n w (λ z. not-suc-le-zero (le_trans (unseen_some N n w.marks h z) o.few)) s od
    grown (suc f) n w h o op s od =
        zero? (get_or w.marks n 0)
        (λ e. rw (visit_at f to n w e)
        (close n w h (omega (arith, o.long)) e op s
        (grown_all (λ m u. visit f to m u) f (keeps N to g f f) (grown f) (to n) (mark n w) (g.each n h) (ok_mark N f n w h e o)
        (starts n w h (omega (arith, o.long)) e op s) (sealed n w h (omega (arith, o.long)) e op s) od)))
        (λ j e. let m : Marked w n = λ z. omega arith in rw (visit_past (suc f) to n w m) (same_one n w m s od))

    pub postorder_ordered : (ms : List ℕ) → N ≤ length ms → ((t : ℕ) → get_or ms t 0 ≡ 0) → Ordered to (Acyclic to) (postorder to N ms)
    unfolding postorder
    postorder_ordered ms l z =
        (grown N 0 (record { marks = ms; left = [] }) g.some (record { long = l; few = unseen_le N ms }) (λ t h. absurd (h (z t))) (λ t i. absurd i) none).ord
