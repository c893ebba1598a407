-- One notion of path: over the targets of a graph `Leads` is a path of one edge or more, `Way`, and a graph is acyclic just where no
-- such path leads from a node to itself.
use Rattle.std.specs.Prelude.{◌≡◌, refl, ◌⊎◌, List, [], ◌∷◌, map, reverse, ℕ}
use Rattle.std.proofs.Common.{sym, inl, inr}
use Rattle.std.proofs.Math.Dec.{eqb}
use borrow.Author.Tests.{eqb-true, eq-eqb}
use Rattle.basis.specs.Lists.{filter}
use Rattle.basis.specs.Members.{either, In, in_filter, filter_in, in_reverse, map_in}
use Rattle.store.specs.declared.Edge.{Edge}
use Rattle.store.specs.Graph.{Graph, out, into}
use Rattle.links.specs.Paths.{Path, here, along, Way}
use Rattle.labels.specs.Labels.{targets}
use Rattle.labels.specs.Ordered.{Leads, edge, onto, Acyclic}
use Rattle.labels.specs.Facts.{reverse_in, in_map}

module _ (G : Graph) where
  -- ---- targets and edges

  pub edge_target : (e : Edge) → In e G.edges → In e.target (targets G e.source)
  unfolding targets out
  edge_target e i =
      map_in (λ (x : Edge). x.target) e (reverse (out G e.source))
      (reverse_in e (out G e.source)
      (filter_in (λ (x : Edge). eqb x.source e.source) e (reverse G.edges) (eq-eqb e.source e.source refl) (reverse_in e G.edges i)))

  pub target_edge : (n t : ℕ) → In t (targets G n) → (e : Edge) × In e G.edges × (e.source ≡ n) × (t ≡ e.target)
  unfolding targets out
  target_edge n t i =
      let r = in_map (λ (x : Edge). x.target) (reverse (out G n)) t i in
      let f = in_filter (λ (x : Edge). eqb x.source n) r.0 (reverse G.edges) (in_reverse r.0 (out G n) r.1) in
      (r.0, in_reverse r.0 G.edges f.1, eqb-true r.0.source n f.0, r.2)

  pub edge_into : (e : Edge) → In e G.edges → In e (into G e.target)
  unfolding into
  edge_into e i =
      filter_in (λ (x : Edge). eqb x.target e.target) e (reverse G.edges) (eq-eqb e.target e.target refl) (reverse_in e G.edges i)

  pub into_edge : (e : Edge) (n : ℕ) → In e (into G n) → In e G.edges × (e.target ≡ n)
  unfolding into
  into_edge e n i =
      let f = in_filter (λ (x : Edge). eqb x.target n) e (reverse G.edges) i in
      (in_reverse e G.edges f.1, eqb-true e.target n f.0)

  -- ---- a path and one edge more

  onward : (a b c : ℕ) → Path G a b → In c (targets G b) → Way G a c
  onward a b c p i =
      let r = target_edge b c i in
      let s : r.0.source ≡ b = r.2 in
      let t : c ≡ r.0.target = r.3 in
      record { last = r.0; there = r.1; before = rw s p; end = sym t }

  pub way_path : {a b : ℕ} → Way G a b → Path G a b
  way_path w = rw (← w.end) (along w.last w.there w.before)

  -- "a path of one or more edges goes from a to b", both ways
  pub leads_way : {a b : ℕ} → Leads (targets G) a b → Way G a b
  leads_way (edge {a} {b} i) = onward a a b here i
  leads_way (onto {a} {b} {c} p i) = onward a b c (way_path (leads_way p)) i

  pub path_leads : {a b : ℕ} → Path G a b → (b ≡ a) ⊎ Leads (targets G) a b
  path_leads here = inl refl
  path_leads (along e i p) = inr (either (path_leads p) (λ q. edge (rw q at (edge_target e i))) (λ l. onto l (edge_target e i)))

  pub path_onto : (a : ℕ) (e : Edge) → In e G.edges → Path G a e.source → Leads (targets G) a e.target
  path_onto a e i p = either (path_leads p) (λ q. edge (rw q at (edge_target e i))) (λ l. onto l (edge_target e i))

  pub way_leads : {a b : ℕ} → Way G a b → Leads (targets G) a b
  way_leads {a} {b} w = rw w.end at (path_onto a w.last w.there w.before)

  pub leads_path : {a b : ℕ} → Leads (targets G) a b → Path G a b
  leads_path l = way_path (leads_way l)

  -- ---- no way from a node to itself

  pub acyclic_way : Acyclic (targets G) → (a : ℕ) → Way G a a → ⊥
  acyclic_way h a w = h a (way_leads w)

  pub way_acyclic : ((a : ℕ) → Way G a a → ⊥) → Acyclic (targets G)
  way_acyclic h a l = h a (leads_way l)

  -- the edge by which a node is come to
  pub last_edge : (a b : ℕ) → Leads (targets G) a b → (e : Edge) × In e (into G b) × Path G a e.source
  last_edge a b l =
      let w : Way G a b = leads_way l in
      (w.last, (rw w.end at (edge_into w.last w.there)), w.before)
