-- "no node has both labels; where the graph has no cycle, 'already' may be dropped from both rules", for every node of every graph that
-- is drawn: since 9 was not given, each node stands in the post-order.
use Rattle.std.specs.Prelude.{◌≡◌, refl, Bool, true, false, ◌||◌, List, [], ◌∷◌, ℕ, ◌<◌, ◌≤◌, length, get_or, replicate, eqb}
use Rattle.std.proofs.Common.{sym, subst, inl, arith}
use Rattle.std.proofs.Math.Bool.{not}
use Rattle.std.proofs.Math.Option.{Option, none, some}
use Rattle.std.proofs.lemmas.List.{length-replicate}
use Rattle.basis.specs.Lists.{first, has, upto}
use Rattle.basis.specs.Members.{In, split, either, no_both, clash, in_append, in_left, in_right, all_in}
use Rattle.records.specs.Tables.{Tables}
use Rattle.index.specs.Promise.{Valid}
use Rattle.store.specs.Graph.{Graph, reached, unreached}
use Rattle.links.specs.Paths.{Path, here, along, in_upto, reached_path}
use Rattle.graph.specs.Graphs.{drawn, graph_of}
use Rattle.shape.specs.Graphed.{Graphed, graphed}
use Rattle.labels.specs.Order.{Walk, mark, through, visit, postorder}
use Rattle.labels.specs.Walks.{Inner, unseen_le, visit_new}
use Rattle.labels.specs.Ordered.{Acyclic, Ordered, none, more}
use Rattle.labels.specs.Labels.{targets, order_of, can_install, is_lacking, installable, missing, has_unresolved}
use Rattle.labels.specs.Laws.Paths.{edge_target}
use Rattle.labels.specs.Facts.{Sound, inner, blank, order_ordered, not_both}
use Rattle.labels.proofs.Local.{installable_settled, missing_settled}

-- ---- the post-order has the root, and with a node all its targets

postorder_root : (to : ℕ → List ℕ) (N : ℕ) (ms : List ℕ) → Inner to N → N ≤ length ms → ((t : ℕ) → get_or ms t 0 ≡ 0) → In 0 (postorder to N ms)
unfolding postorder
postorder_root to N ms g l z =
    let w : Walk = record { marks = ms; left = [] } in
    subst (λ (x : Walk). In 0 x.left) (sym (visit_new N to g 0 w g.some (record { long = l; few = unseen_le N ms }) (z 0)))
    (in_right 0 (through (λ m u. visit N to m u) (to 0) (mark 0 w)).left (0 ∷ []) (inl refl))

order_root : (G : Graph) → Sound G → In 0 (order_of G)
unfolding order_of
order_root G s = postorder_root (targets G) (length G.nodes) (replicate 128 0) (inner G s) (rw length-replicate s.most) (blank 128)

behind : (to : ℕ → List ℕ) (late : Type 0) → late → (l : List ℕ) → Ordered to late l → (m : ℕ) → In m l → (t : ℕ) → In t (to m) → In t l
behind to late z l none m i t j = absurd i
behind to late z l (more {l = k} n o once after) m i t j =
    in_left t k (n ∷ []) (either (in_append m k (n ∷ []) i)
    (λ h. behind to late z k o m h t j)
    (λ h. either h (λ q. after z t (rw q at j)) (λ x. absurd x)))

pub path_ordered : (G : Graph) → Sound G → Acyclic (targets G) → (n : ℕ) → Path G 0 n → In n (order_of G)
path_ordered G s a n here = order_root G s
path_ordered G s a n (along e i p) =
    behind (targets G) (Acyclic (targets G)) a (order_of G) (order_ordered G s) e.source (path_ordered G s a e.source p) e.target (edge_target G e i)

-- ---- a graph that is drawn

pub first_none : (p : ℕ → Bool) (l : List ℕ) → first p l ≡ none → (n : ℕ) → In n l → p n ≡ false
first_none p [] e n i = absurd i
first_none p (x ∷ l) e n i =
    split (p x)
    (λ t. let f : ◌≡◌ {A = Option ℕ} (some x) none = rw (t, first) at e in clash cc)
    (λ t. either i (λ q. rw q t) (λ j. first_none p l (rw (t, first) at e) n j))

pub not-false : (b : Bool) → not b ≡ false → b ≡ true
not-false true e = refl
not-false false e = no_both (not false) refl e

module _ (T : Tables) (v : Valid T) (G : Graph) (d : graph_of T ≡ drawn G) where
  shape : Graphed T G
  shape = (graphed T v G d).0

  pub sound : Sound G
  sound = record {
    some = rw shape.nodes_are (omega arith);
    most = shape.nodes_most;
    ends = λ e i. (all_in _ G.edges e shape.edges i).to;
  }

  pub all_reached : (n : ℕ) → n < length G.nodes → Path G 0 n
  unfolding unreached
  all_reached n h =
      reached_path G n
      (not-false (has n (reached G)) (first_none (λ m. not (has m (reached G))) (upto (length G.nodes) 0) (graphed T v G d).1 n
      (in_upto (length G.nodes) 0 n (omega arith) (omega arith))))

  -- "no node has both labels"
  pub drawn_not_both : (n : ℕ) → installable G n ≡ true → missing G n ≡ true → ⊥
  drawn_not_both n i m = not_both G n i m

  module _ (a : Acyclic (targets G)) (n : ℕ) (h : n < length G.nodes) where
    -- "in every run a target installable"
    pub drawn_installable : installable G n ≡ can_install G (installable G) n
    drawn_installable = installable_settled G sound a n (path_ordered G sound a n (all_reached n h))

    -- "that has a run whose targets are all missing", or unresolved itself
    pub drawn_missing : has_unresolved G ≡ true → missing G n ≡ eqb n 1 || is_lacking G (missing G) n
    drawn_missing u = missing_settled G sound a u n (path_ordered G sound a n (all_reached n h))
