-- The labels of the graph asked for, from those of the graph as it is: one turn along the old post-order. A node's mark is worked out
-- again only where the node is the chosen one or an edge leads to one that was; no other mark is stored to.
use Rattle.std.specs.Prelude.{◌≡◌, refl, ◌⊎◌, Bool, true, false, not, ◌&&◌, ◌||◌, List, [], ◌∷◌, ◌++◌, map, reverse, ℕ, zero, suc, ◌+◌, ◌%◌, ◌<◌, ◌≤◌, length, get_or, set, ltb}
use Rattle.std.proofs.Common.{sym, ap, ◌∙◌, subst, arith, length-set, get_or-set_same, get_or-set_other, ext_get_or, eqb-true, eq-eqb, ne_eqb, ltb-true, ltb-false}
use Rattle.std.proofs.Math.Logic.{inl, inr}
use Rattle.std.proofs.lemmas.Bool.{false≢true, eqb-false}
use Rattle.std.proofs.Math.ListN.{replicate}
use Rattle.std.proofs.lemmas.List.{length-replicate, length-map}
use Rattle.std.proofs.Math.Dec.{eqb}
use Rattle.basis.specs.Lists.{any, has, snoc, upto}
use Rattle.basis.specs.Members.{In, split, either, clash, no_both, in_append, in_left, in_right, any_in, any_some, has_in}
use Rattle.store.specs.declared.ConflictNode.{ConflictNode}
use Rattle.store.specs.declared.ConflictNode.TheVariants as N
use Rattle.store.specs.declared.Edge.{Edge}
use Rattle.store.specs.Graph.{Graph, node_at, out, into, is_unresolved}
use Rattle.labels.specs.Runs.{runs_of, every_run, some_run}
use Rattle.labels.specs.Ordered.{Leads, edge, onto, Acyclic, Ordered, none, more}
use Rattle.labels.specs.Labels.{targets, order_of, conflicts, excludes, can_install, is_lacking, passing, installables, missings, installable, missing}
use Rattle.labels.specs.Labels.{has_unresolved}
use Rattle.labels.specs.Facts.{blank, order_ordered, missing_none, has_other}
use Rattle.labels.proofs.Local.{install_local, lacking_local}
use Rattle.labels.specs.Marks.{bits_of, inst_at, miss_at, anew, label_bits, marks_at_lem}
use Rattle.labels.specs.Bounds.{order_below}
use Rattle.whatif.specs.Laws.Well.{begins, before}
use Rattle.whatif.specs.Laws.Laid.{GraphLaid, edge_of, laid_sound, in_order, laid_installable, laid_missing}
use Rattle.whatif.specs.Asked.{asked}
use Rattle.whatif.specs.Relabel.{Pass, touched, turn, turns, relabel}
use Rattle.whatif.specs.Laws.Asked.{chosen, reason, longer, asked_laid, asked_acyclic, which_target, old_target, ends_there, out_chosen, into_reason}
use Rattle.whatif.specs.Laws.Asked.{Aside, stays_installable, stays_missing, unresolved_same, reason_node, nodes_kept, two, old_node, chosen_below}
use Rattle.whatif.specs.Laws.Asked.{chosen_node}

pub turns_last : (K : Graph) (a : ℕ) (l : List ℕ) (n : ℕ) (w : Pass) → turns K a (snoc l n) w ≡ turn K a n (turns K a l w)
unfolding turns
turns_last K a [] n w = refl
turns_last K a (m ∷ l) n w = turns_last K a l n (turn K a m w)

pub turn_yes : (K : Graph) (a n : ℕ) (w : Pass) → touched K a w.up n ≡ true
    → turn K a n w ≡ record { marks = set w.marks n (anew K w.marks n); up = set w.up n 1 }
unfolding turn
turn_yes K a n w t = rw (t, turn)

pub turn_no : (K : Graph) (a n : ℕ) (w : Pass) → touched K a w.up n ≡ false → turn K a n w ≡ w
unfolding turn
turn_no K a n w t = rw (t, turn)

-- ---- small laws

or-true : (x y : Bool) → x || y ≡ true → (x ≡ true) ⊎ (y ≡ true)
or-true true y e = inl refl
or-true false y e = inr e

or_left : (x y : Bool) → x ≡ true → x || y ≡ true
or_left true y e = refl
or_left false y e = absurd (false≢true e)

or_right : (x y : Bool) → y ≡ true → x || y ≡ true
or_right true y e = refl
or_right false y e = e

pub inst_bits : (a b : Bool) → eqb (bits_of a b % 2) 1 ≡ a
inst_bits true true = refl
inst_bits true false = refl
inst_bits false true = refl
inst_bits false false = refl

pub miss_bits : (a b : Bool) → ltb 1 (bits_of a b) ≡ b
miss_bits true true = refl
miss_bits true false = refl
miss_bits false true = refl
miss_bits false false = refl

pub nothing : {A : Type 0} (l : List A) → ((x : A) → In x l → ⊥) → l ≡ []
nothing [] f = refl
nothing (x ∷ l) f = absurd (f x (inl refl))

-- a path goes by a first edge
pub first_edge : (to : ℕ → List ℕ) {n b : ℕ} → Leads to n b → (t : ℕ) × In t (to n) × ((t ≡ b) ⊎ Leads to t b)
first_edge to (edge {b = b} i) = (b, i, inl refl)
first_edge to (onto {b = d} {c = c} p i) = let r = first_edge to p in (r.0, r.1, either r.2 (λ q. inr (edge (rw q i))) (λ q. inr (onto q i)))

module _ (G : Graph) (cl s r : ℕ) (L : GraphLaid G) (i : In (N.Solvable s) G.nodes) where
  abbrev K : Graph
  K = asked G cl s r

  abbrev a : ℕ
  a = chosen G cl s r

  -- the chosen one can be reached from n
  abbrev pub Up : ℕ → Type 0
  Up n = (n ≡ chosen G cl s r) ⊎ Leads (targets G) n (chosen G cl s r)

  pub record Right (ms l : List ℕ) (w : Pass) : Type 0 where
    pub long : length w.up ≡ 128
    pub long_marks : length w.marks ≡ length ms
    pub up_yes : (t : ℕ) → get_or w.up t 0 ≡ 1 → In t l × Up t
    pub up_no : (t : ℕ) → In t l → Up t → get_or w.up t 0 ≡ 1
    pub later : (t : ℕ) → (In t l → ⊥) → get_or w.marks t 0 ≡ get_or ms t 0
    pub kept : (t : ℕ) → (Up t → ⊥) → get_or w.marks t 0 ≡ get_or ms t 0

  -- exactly the nodes from which the chosen one can be reached are touched
  pub touched_up : (ms l : List ℕ) (w : Pass) → Right ms l w → (n : ℕ) → touched K a w.up n ≡ true → Up n
  unfolding touched
  touched_up ms l w R n t =
      either (or-true (eqb n a) (any (λ t. eqb (get_or w.up t 0) 1) (targets K n)) t)
      (λ q. inl (eqb-true n a q))
      (λ q. let z = any_some (λ t. eqb (get_or w.up t 0) 1) (targets K n) q in
      let u : Up z.0 = (R.up_yes z.0 (eqb-true (get_or w.up z.0 0) 1 z.2)).1 in
      either (which_target G cl s r L i n z.0 z.1)
      (λ j. inr (either u (λ e. edge (rw e at j)) (λ p. before (targets G) j p)))
      (λ e. inl e.0))

  pub up_touched : (ms l : List ℕ) (w : Pass) → Right ms l w → (n : ℕ) → ((t : ℕ) → In t (targets G n) → In t l) → Up n → touched K a w.up n ≡ true
  unfolding touched
  up_touched ms l w R n h (inl e) = or_left (eqb n a) (any (λ t. eqb (get_or w.up t 0) 1) (targets K n)) (eq-eqb n a e)
  up_touched ms l w R n h (inr p) =
      let z = first_edge (targets G) p in
      or_right (eqb n a) (any (λ t. eqb (get_or w.up t 0) 1) (targets K n))
      (any_in (λ t. eqb (get_or w.up t 0) 1) z.0 (targets K n) (eq-eqb (get_or w.up z.0 0) 1 (R.up_no z.0 (h z.0 z.1) z.2))
      (old_target G cl s r L i n z.0 z.1))

  -- ---- one turn

  module _ (ms l : List ℕ) (w : Pass) (R : Right ms l w) (n : ℕ) (small : n < 128) (once : In n l → ⊥) (h : (t : ℕ) → In t (targets G n) → In t l) where
    split_in : (t : ℕ) → In t (snoc l n) → In t l ⊎ (t ≡ n)
    split_in t j = either (in_append t l (n ∷ []) j) (λ k. inl k) (λ k. either k (λ e. inr e) (λ z. absurd z))

    right_yes : touched K a w.up n ≡ true → Right ms (snoc l n) (record { marks = set w.marks n (anew K w.marks n); up = set w.up n 1 })
    right_yes t =
        record {
          long = rw length-set R.long;
          long_marks = rw length-set R.long_marks;
          up_yes = λ k e. split (eqb k n)
              (λ q. rw (eqb-true k n q) (in_right n l (n ∷ []) (inl refl), touched_up ms l w R n t))
              (λ q. let z = R.up_yes k (sym (get_or-set_other w.up n k 1 0 (eqb-false k n q)) ∙ e) in (in_left k l (n ∷ []) z.0, z.1));
          up_no = λ k j u. split (eqb k n)
              (λ q. rw (eqb-true k n q) (get_or-set_same w.up n 1 0 (omega (arith, R.long))))
              (λ q. get_or-set_other w.up n k 1 0 (eqb-false k n q) ∙ R.up_no k (either (split_in k j) (λ x. x) (λ e. absurd (eqb-false k n q e))) u);
          later =
              λ k f. get_or-set_other w.marks n k (anew K w.marks n) 0 (λ e. f (rw e (in_right n l (n ∷ []) (inl refl))))
              ∙ R.later k (λ j. f (in_left k l (n ∷ []) j));
          kept = λ k f. get_or-set_other w.marks n k (anew K w.marks n) 0 (λ e. f (rw e (touched_up ms l w R n t))) ∙ R.kept k f;
        }

    right_no : touched K a w.up n ≡ false → Right ms (snoc l n) w
    right_no t =
        record {
          long = R.long;
          long_marks = R.long_marks;
          up_yes = λ k e. let z = R.up_yes k e in (in_left k l (n ∷ []) z.0, z.1);
          up_no = λ k j u. either (split_in k j) (λ x. R.up_no k x u) (λ e. no_both (touched K a w.up n) (up_touched ms l w R n h (subst Up e u)) t);
          later = λ k f. R.later k (λ j. f (in_left k l (n ∷ []) j));
          kept = R.kept;
        }

    pub right_turn : Right ms (snoc l n) (turn K a n w)
    right_turn =
        split (touched K a w.up n) (λ t. rw (turn_yes K a n w t) (right_yes t)) (λ t. rw (turn_no K a n w t) (right_no t))

  -- ---- along an order

  begin : (ms : List ℕ) → Right ms [] (record { marks = ms; up = replicate 128 0 })
  begin ms =
      record {
        long = length-replicate {A = ℕ} 128 0;
        long_marks = refl;
        up_yes = λ t e. let z : ◌≡◌ {A = ℕ} 0 1 = sym (blank 128 t) ∙ e in clash z;
        up_no = λ t j u. absurd j;
        later = λ t f. refl;
        kept = λ t f. refl;
      }

  pub right_turns : (late : Type 0) → late → (ms l : List ℕ) → Ordered (targets G) late l → ((t : ℕ) → In t l → t < 128)
      → Right ms l (turns K a l (record { marks = ms; up = replicate 128 0 }))
  unfolding turns
  right_turns late z ms l none b = begin ms
  right_turns late z ms l (more {l = k} n o once behind) b =
      rw (turns_last K a k n (record { marks = ms; up = replicate 128 0 }))
      (right_turn ms k (turns K a k (record { marks = ms; up = replicate 128 0 })) (right_turns late z ms k o (λ t j. b t (in_left t k (n ∷ []) j))) n
      (b n (in_right n k (n ∷ []) (inl refl))) once (behind z))

  pub below : (t : ℕ) → In t (order_of G) → t < 128
  below t j = let h : t < length G.nodes = order_below G (laid_sound G L) t j in omega (arith, L.most)

  module _ (late : Type 0) (z : late) (l : List ℕ) (o : Ordered (targets G) late l) (b : (t : ℕ) → In t l → t < 128) where
    -- "not rewritten": whatever the marks are, that of a node from which the chosen one can't be reached is as it was
    pub not_rewritten : (ms : List ℕ) (n : ℕ) → (Up n → ⊥) → get_or (relabel (asked G cl s r) (chosen G cl s r) l ms) n 0 ≡ get_or ms n 0
    unfolding relabel
    not_rewritten ms n f = (right_turns late z ms l o b).kept n f

    -- and the others are exactly those that were stored to: each store leaves its 1 in `up`
    pub stored_to : (ms : List ℕ) (n : ℕ) → get_or (turns (asked G cl s r) (chosen G cl s r) l (record { marks = ms; up = replicate 128 0 })).up n 0 ≡ 1 → In n l
        × Up n
    stored_to ms n e = (right_turns late z ms l o b).up_yes n e

    pub stored_all : (ms : List ℕ) (n : ℕ) → In n l → Up n → get_or (turns (asked G cl s r) (chosen G cl s r) l (record { marks = ms; up = replicate 128 0 })).up
        n 0 ≡ 1
    stored_all ms n j u = (right_turns late z ms l o b).up_no n j u
