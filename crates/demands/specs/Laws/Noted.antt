-- What a clause's turn adds, nodes and edges, keeps that clause's number, and what was there keeps its own: so "a shared triple keeps the
-- first one's".
use Rattle.std.specs.Prelude.{◌≡◌, refl, Bool, true, false, List, [], ◌∷◌, ◌++◌, ℕ, zero, suc, length, get_or, set, ltb, Option, Some, None}
use Rattle.std.proofs.Common.{sym, ap, ◌∙◌, append_assoc, append-nil}
use Rattle.std.proofs.Math.Option.{Option as Maybe, none, some}
use Rattle.basis.specs.Lists.{any, place, snoc}
use Rattle.basis.specs.Members.{split, clash, All, all_append}
use Rattle.records.specs.declared.Clause.{Clause}
use Rattle.records.specs.declared.Clause.TheVariants as C
use Rattle.records.specs.Tables.{Tables}
use Rattle.records.specs.Views.{origin_of, clause_of, core_at}
use Rattle.store.specs.declared.ConflictNode.{ConflictNode}
use Rattle.store.specs.declared.ConflictNode.TheVariants as N
use Rattle.store.specs.declared.ConflictCause.TheVariants as K
use Rattle.store.specs.declared.ConflictEdge.{ConflictEdge}
use Rattle.store.specs.declared.ConflictEdge.TheVariants as W
use Rattle.store.specs.declared.Edge.{Edge}
use Rattle.store.specs.Graph.{Graph, handing, with_node, with_edge, same_node}
use Rattle.store.specs.Working.{AddedSoFar, added_to, full_at, add_node_in, add_edge_in, add_link_in}
use Rattle.expansion.specs.Triple.{Triple, same_triple}
use Rattle.linking.specs.Links.{party_of, solvable_in, name_forbidden, requirers, Link, requires_of, excluded_links, lock_links, constrains_links, previous_links}
use Rattle.linking.specs.Working.{LinkedSoFar, more_to, short_at, link_all_in, forbid_all_in}
use Rattle.expansion.specs.declared.Side.{Side}
use Rattle.expansion.specs.declared.Side.TheVariants.{Parent, Candidate}
use Rattle.expansion.specs.Expand.{Build, triples_of, others}
use Rattle.expansion.specs.Working.{StepSoFar, on_to, stop_at, kept_in, noted_in, once_in, once_all_in, pair_in, pair_all_in, lastly_in, forbid_clause_in, forbid_named_in}
use Rattle.expansion.specs.Working.{expand_in}
use Rattle.graph.specs.Graphs.{is_learnt, handed}
use Rattle.graph.specs.Working.{expanded_in, core_turn_in, turn_at_in}
use Rattle.demands.specs.Noted.{Noted, turned_graph}

append_none : {A : Type 0} (l : List A) → l ≡ l ++ []
append_none l = sym (append-nil l)

noted_same : (g : Graph) → Noted g g
noted_same g =
    record {
      hand = refl;
      edges = [];
      edges_are = append_none g.edges;
      edges_noted = tt;
      firsts = [];
      firsts_are = append_none g.firsts;
      firsts_noted = tt;
    }

recount : (es : List Edge) (a b : ℕ) → a ≡ b → All (λ e. e.clause ≡ a) es → All (λ e. e.clause ≡ b) es
recount es a b q h = rw q at h

refirst : (cs : List ℕ) (a b : ℕ) → a ≡ b → All (λ c. c ≡ a) cs → All (λ c. c ≡ b) cs
refirst cs a b q h = rw q at h

noted_then : (g h k : Graph) → Noted g h → Noted h k → Noted g k
noted_then g h k A B =
    record {
      hand = B.hand ∙ A.hand;
      edges = A.edges ++ B.edges;
      edges_are = B.edges_are ∙ ap (λ (l : List Edge). l ++ B.edges) A.edges_are ∙ append_assoc g.edges A.edges B.edges;
      edges_noted =
          all_append (λ e. e.clause ≡ g.hand) A.edges B.edges A.edges_noted (recount B.edges h.hand g.hand A.hand B.edges_noted);
      firsts = A.firsts ++ B.firsts;
      firsts_are = B.firsts_are ∙ ap (λ (l : List ℕ). l ++ B.firsts) A.firsts_are ∙ append_assoc g.firsts A.firsts B.firsts;
      firsts_noted =
          all_append (λ c. c ≡ g.hand) A.firsts B.firsts A.firsts_noted (refirst B.firsts h.hand g.hand A.hand B.firsts_noted);
    }

-- ---- adding

-- the graph that adding leaves
abbrev left : AddedSoFar → Graph
left (added_to i h) = h
left (full_at h) = h

noted_node : (g : Graph) (x : ConflictNode) → Noted g (left (add_node_in g x))
unfolding add_node_in
noted_node g x = go (place (same_node x) g.nodes 0) refl
  where
    go : (o : Maybe ℕ) → place (same_node x) g.nodes 0 ≡ o → Noted g (left (add_node_in g x))
    go (some j) q = rw (q, add_node_in) (noted_same g)
    go none q =
        split (ltb (length g.nodes) 128)
        (λ t. rw (q, add_node_in, t) (record {
          hand = refl;
          edges = [];
          edges_are = append_none g.edges;
          edges_noted = tt;
          firsts = g.hand ∷ [];
          firsts_are = refl;
          firsts_noted = (refl, tt);
        }))
        (λ t. rw (q, add_node_in, t) (noted_same g))

noted_edge : (g : Graph) (e : Edge) → e.clause ≡ g.hand → Noted g (left (add_edge_in g e))
unfolding add_edge_in
noted_edge g e q =
    split (ltb (length g.edges) 1024)
    (λ t. rw t (record {
      hand = refl;
      edges = e ∷ [];
      edges_are = refl;
      edges_noted = (q, tt);
      firsts = [];
      firsts_are = append_none g.firsts;
      firsts_noted = tt;
    }))
    (λ t. rw t (noted_same g))

noted_link : (g : Graph) (x y : ConflictNode) (w : ConflictEdge) → Noted g (left (add_link_in g x y w))
unfolding add_link_in
noted_link g x y w = first (add_node_in g x) refl
  where
    second : (i : ℕ) (h : Graph) → add_node_in g x ≡ added_to i h → Noted g h → (b : AddedSoFar) → add_node_in h y ≡ b → Noted g (left (add_link_in g x y w))
    second i h p A (full_at k) q = rw (p, add_link_in, q) (noted_then g h k A (rw q at (noted_node h y)))
    second i h p A (added_to j k) q =
        rw (p, add_link_in, q)
        (noted_then g h (left (add_edge_in k (record { source = i; target = j; weight = w; clause = k.hand }))) A
        (noted_then h k (left (add_edge_in k (record { source = i; target = j; weight = w; clause = k.hand }))) (rw q at (noted_node h y))
        (noted_edge k (record { source = i; target = j; weight = w; clause = k.hand }) refl)))

    first : (a : AddedSoFar) → add_node_in g x ≡ a → Noted g (left (add_link_in g x y w))
    first (full_at h) p = rw (p, add_link_in) (rw p at (noted_node g x))
    first (added_to i h) p = second i h p (rw p at (noted_node g x)) (add_node_in h y) refl

abbrev linked_left : LinkedSoFar → Graph
linked_left (more_to g) = g
linked_left (short_at g) = g

noted_links : (ls : List Link) (g : Graph) → Noted g (linked_left (link_all_in ls g))
unfolding link_all_in
noted_links [] g = noted_same g
noted_links (l ∷ ls) g = go (λ k. noted_links ls k) (add_link_in g l.source l.target l.weight) refl
  where
    go : ((k : Graph) → Noted k (linked_left (link_all_in ls k))) → (a : AddedSoFar) → add_link_in g l.source l.target l.weight ≡ a
        → Noted g (linked_left (link_all_in (l ∷ ls) g))
    go f (full_at h) p = rw (p, link_all_in) (rw p at (noted_link g l.source l.target l.weight))
    go f (added_to i h) p = rw (p, link_all_in) (noted_then g h (linked_left (link_all_in ls h)) (rw p at (noted_link g l.source l.target l.weight)) (f h))

noted_forbid : (g : Graph) (p : Maybe ℕ) (s : ℕ) → Noted g (linked_left (forbid_all_in g p s))
unfolding forbid_all_in
noted_forbid g p s = go (add_node_in g (N.Solvable s)) refl
  where
    go : (a : AddedSoFar) → add_node_in g (N.Solvable s) ≡ a → Noted g (linked_left (forbid_all_in g p s))
    go (full_at h) q = rw (q, forbid_all_in) (rw q at (noted_node g (N.Solvable s)))
    go (added_to i h) q =
        rw (q, forbid_all_in) (noted_then g h (linked_left (link_all_in (previous_links p s) h)) (rw q at (noted_node g (N.Solvable s)))
        (noted_links (previous_links p s) h))

-- ---- a clause

abbrev step_left : StepSoFar → Graph
step_left (on_to b) = b.graph
step_left (stop_at g) = g

kept_left : (b : Build) (l : LinkedSoFar) → step_left (kept_in b l) ≡ linked_left l
kept_left b (more_to g) = refl
kept_left b (short_at g) = refl

lastly_left : (b : Build) (n s : ℕ) (l : LinkedSoFar) → step_left (lastly_in b n s l) ≡ linked_left l
lastly_left b n s (more_to g) = refl
lastly_left b n s (short_at g) = refl

noted_left : (b : Build) (t : Triple) (a : AddedSoFar) → step_left (noted_in b t a) ≡ left a
noted_left b t (added_to i g) = refl
noted_left b t (full_at g) = refl

noted_kept : (b : Build) (ls : List Link) → Noted b.graph (step_left (kept_in b (link_all_in ls b.graph)))
noted_kept b ls = rw (kept_left b (link_all_in ls b.graph)) (noted_links ls b.graph)

noted_once : (b : Build) (t : Triple) → Noted b.graph (step_left (once_in b t))
unfolding once_in
noted_once b t =
    split (any (same_triple t) b.made)
    (λ q. rw (q, once_in) (noted_same b.graph))
    (λ q. rw (q, once_in, noted_left b t (add_link_in b.graph t.parent t.candidate (W.Conflict (K.Constrains t.vset))))
    (noted_link b.graph t.parent t.candidate (W.Conflict (K.Constrains t.vset))))

noted_onces : (ts : List Triple) (b : Build) → Noted b.graph (step_left (once_all_in ts b))
unfolding once_all_in
noted_onces [] b = noted_same b.graph
noted_onces (t ∷ ts) b = go (λ d. noted_onces ts d) (once_in b t) refl
  where
    go : ((d : Build) → Noted d.graph (step_left (once_all_in ts d))) → (s : StepSoFar) → once_in b t ≡ s → Noted b.graph (step_left (once_all_in (t ∷ ts) b))
    go f (stop_at h) q = rw (q, once_all_in) (rw q at (noted_once b t))
    go f (on_to d) q = rw (q, once_all_in) (noted_then b.graph d.graph (step_left (once_all_in ts d)) (rw q at (noted_once b t)) (f d))

noted_pair : (T : Tables) (side : Side) (a b v : ℕ) (d : Build) → Noted d.graph (step_left (pair_in T side a b v d))
unfolding pair_in
noted_pair T side a b v d = go (party_of T a)
  where
    go : (p : Option ConflictNode) → Noted d.graph (step_left (pair_all_in T side b v p d))
    go None = noted_same d.graph
    go (Some n) = noted_onces (triples_of side n v (others T side b)) d

noted_forbids : (T : Tables) (x y : ℕ) (b : Build) → Noted b.graph (step_left (forbid_clause_in T x y b))
unfolding forbid_clause_in
noted_forbids T x y b = go (solvable_in (origin_of T x)) (name_forbidden (origin_of T y))
  where
    go : (ss ns : List ℕ) → Noted b.graph (step_left (forbid_named_in b ss ns))
    go [] ns = noted_same b.graph
    go (s ∷ ss) [] = noted_same b.graph
    go (s ∷ ss) (n ∷ ns) = rw (lastly_left b n s (forbid_all_in b.graph (get_or b.last n none) s)) (noted_forbid b.graph (get_or b.last n none) s)

noted_clause : (T : Tables) (c : Clause) (b : Build) → Noted b.graph (step_left (expand_in T c b))
unfolding expand_in
noted_clause T C.InstallRoot b = noted_same b.graph
noted_clause T (C.Excluded a r) b = noted_kept b (excluded_links T a r)
noted_clause T C.Learnt b = noted_same b.graph
noted_clause T (C.Requires a q) b = noted_kept b (requires_of T q (requirers T a))
noted_clause T (C.Lock a c) b = noted_kept b (lock_links T a c)
noted_clause T (C.ForbidMultipleInstances a c) b = noted_forbids T a c b
noted_clause T (C.Constrains a c v) b = noted_kept b (constrains_links T a c v)
noted_clause T (C.ConstrainsParent a c v) b = noted_pair T Parent a c v b
noted_clause T (C.ConstrainsExcluded a c v) b = noted_pair T Candidate a c v b
noted_clause T (C.AnyOf a c) b = noted_same b.graph

expanded_left : (s : StepSoFar) → turned_graph (expanded_in s) ≡ step_left s
expanded_left (on_to b) = refl
expanded_left (stop_at g) = refl

-- the theorem: after the turn of clause i of the core, the graph is the one before with more at the end, and each new edge and each new
-- node has clause i
pub turn_noted : (T : Tables) (i : ℕ) (b : Build) → core_at T i ≡ true → Noted (handing i b.graph) (turned_graph (turn_at_in T i b))
unfolding turn_at_in
turn_noted T i b t =
    split (is_learnt (clause_of T i))
    (λ u. rw (t, turn_at_in, u, core_turn_in) (noted_same (handing i b.graph)))
    (λ u. rw (t, turn_at_in, u, core_turn_in, expanded_left (expand_in T (clause_of T i) (handed i b))) (noted_clause T (clause_of T i) (handed i b)))
