-- All nodes, one after the other.
use Rattle.std.specs.Prelude.{◌≡◌, refl, Bool, true, false, cond, List, [], ◌∷◌, reverse, get_or, leb, ltb}
use Rattle.std.proofs.Common.{◌∙◌, inl, inr, le-leb, leb-true, leb-false, eqb-true}
use Rattle.std.proofs.Math.Path.{ap}
use Rattle.std.proofs.lemmas.Bool.{lt-leb, eqb-false}
use Prim.Native.Nat.{ℕ, zero, suc, ◌+◌, ◌<◌, ◌≤◌}
use native.Mathlib.Omega.{arith}
use Rattle.std.proofs.Math.ListN.{length}
use Rattle.std.proofs.lemmas.List.{length-reverse}
use Rattle.std.proofs.Math.Dec.{eqb}
use Rattle.basis.specs.Lists.{filter}
use Rattle.basis.specs.Members.{In, All, all_append, split, in_filter, in_reverse}
use Rattle.store.specs.declared.ConflictEdge.{ConflictEdge}
use Rattle.store.specs.declared.ConflictEdge.TheVariants as W
use Rattle.store.specs.declared.Edge.{Edge}
use Rattle.store.specs.declared.Size.{Size}
use Rattle.store.specs.Graph.{out}
use Rattle.store.specs.Table.{graph_in, no_edge, edge_in_lem, edges_count, target_below}
use Rattle.labels.specs.Runs.{Run, add_to, runs_of}
use Rattle.links.specs.Build.{Chains}
use Rattle.links.specs.Walk.{out_left, first_out, out_all}
use Rattle.plan.specs.Fields.{head_in, tail_in, run_in, run_first, run_end, tag_in, merged_in, lead_in, mate_field, solvable_in, sets_first, sets_end, reason_in, sets_in}
use Rattle.plan.specs.Fields.{kind_in, runs_in, kind_by, kids_in, kid_first, kid_end, requirement_in, wording_in}
use Rattle.planning.specs.Kids.{marked_in}
use Rattle.planning.specs.Along.{Only, kids_keep}
use Rattle.planning.specs.Passed.{hits, passed}
use Rattle.planning.specs.Written.{RunFor}
use Rattle.planning.specs.Passing.{each_runs}
use Rattle.planning.specs.Sets.{sets_keep}
use Rattle.planning.specs.Node.{NodeFor, Touched, popping}

-- node n's outgoing edges, newest first
abbrev pub edges_of : List ℕ → List ℕ → ℕ → List Edge
edges_of g ls n = out_left g n (first_out ls n)

-- how many there are of the c nodes from n on
abbrev pub ahead : List ℕ → List ℕ → ℕ → ℕ → ℕ
ahead g ls zero n = 0
ahead g ls (suc c) n = length (edges_of g ls n) + ahead g ls c (suc n)

-- ---- they are not more than the graph has

abbrev bit : Bool → ℕ
bit true = 1
bit false = 0

abbrev from_on : ℕ → List Edge → ℕ
from_on n [] = 0
from_on n (e ∷ es) = bit (leb n e.source) + from_on n es

from_all : (es : List Edge) → from_on 0 es ≤ length es
from_all [] = omega arith
from_all (e ∷ es) = rw (le-leb 0 e.source (omega arith)) (omega (arith, from_all es))

from_step : (n : ℕ) (es : List Edge) → from_on n es ≡ length (filter (λ e. eqb e.source n) es) + from_on (suc n) es
from_step n [] = refl
from_step n (e ∷ es) =
    let h = from_step n es in
    split (eqb e.source n)
    (λ t. let q : e.source ≡ n = eqb-true e.source n t in
    rw (t, filter, le-leb n e.source (omega arith), lt-leb (suc n) e.source (omega arith)) (omega arith))
    (λ t. let d : e.source ≡ n → ⊥ = eqb-false e.source n t in
    split (leb n e.source)
    (λ u. let l : n ≤ e.source = leb-true n e.source u in rw (t, filter, u, le-leb (suc n) e.source (omega (arith, d))) (omega arith))
    (λ u. let l : e.source < n = leb-false n e.source u in rw (t, filter, u, lt-leb (suc n) e.source (omega arith)) (omega arith)))

module _ (g : List ℕ) (s : Size) (ls : List ℕ) (c : Chains g s ls) where
  edges_are : (n : ℕ) → n < s.nodes → edges_of g ls n ≡ out (graph_in g s) n
  edges_are n h = out_all g s ls n (first_out ls n) c h refl

  ahead_from : (k n : ℕ) → n + k ≤ s.nodes → ahead g ls k n ≤ from_on n (reverse (graph_in g s).edges)
  unfolding out
  ahead_from zero n h = omega arith
  ahead_from (suc k) n h =
      omega (arith, ap length (edges_are n (omega arith)), from_step n (reverse (graph_in g s).edges), ahead_from k (suc n) (omega arith))

  pub ahead_most : ahead g ls s.nodes 0 ≤ 1024
  ahead_most =
      omega (
        arith,
        ahead_from s.nodes 0 (omega arith),
        from_all (reverse (graph_in g s).edges),
        length-reverse (graph_in g s).edges,
        edges_count g s c.stored,
        c.stored.edges_most,
      )

-- ---- targets are nodes

in_at : (l : List Edge) (x : Edge) → In x l → (i : ℕ) × (i < length l) × (x ≡ get_or l i no_edge)
in_at (y ∷ l) x (inl e) = (0, omega arith, e)
in_at (y ∷ l) x (inr j) = let r = in_at l x j in (suc r.0, omega (arith, r.1), r.2)
in_at [] x i = absurd i

module _ (g : List ℕ) (s : Size) (ls : List ℕ) (c : Chains g s ls) where
  pub target_node : (n : ℕ) → n < s.nodes → (e : Edge) → In e (edges_of g ls n) → e.target < s.nodes
  unfolding out
  target_node n h e i =
      let f = in_filter (λ e. eqb e.source n) e (reverse (graph_in g s).edges) (rw (edges_are g s ls c n h) at i) in
      let a = in_at (graph_in g s).edges e (in_reverse e (graph_in g s).edges f.1) in
      let l : a.0 < s.edges = omega (arith, a.1, edges_count g s c.stored) in
      rw (a.2, ← edge_in_lem g s c.stored a.0 l) (target_below g s c.stored a.0 l)

-- every target of a run is
abbrev pub Small : ℕ → Run → Type 0
Small m q = All (λ t. t < m) q.to

small_add : (m q n : ℕ) (rs : List Run) → n < m → All (Small m) rs → All (Small m) (add_to q n rs)
small_add m q n [] h a = ((h, tt), tt)
small_add m q n (r ∷ rs) h a = split (eqb q r.req) (λ t. rw (t, add_to) ((h, a.0), a.1)) (λ t. rw (t, add_to) ((h, tt), a))

pub small_runs : (m : ℕ) (es : List Edge) → ((e : Edge) → In e es → e.target < m) → All (Small m) (runs_of es)
small_runs m [] f = tt
small_runs m (e ∷ es) f = by e.weight refl (small_runs m es (λ d i. f d (inr i)))
  where
    by : (w : ConflictEdge) → e.weight ≡ w → All (Small m) (runs_of es) → All (Small m) (runs_of (e ∷ es))
    by (W.Requires q) h ih = rw (h, runs_of) (small_add m q e.target (runs_of es) (f e (inl refl)) ih)
    by (W.Conflict c) h ih = rw (h, runs_of) ih

small_passed : (m : ℕ) (f : ℕ → Bool) (want : Bool) (acc rs : List Run) → All (Small m) acc → All (Small m) rs → All (Small m) (passed f want acc rs)
unfolding passed
small_passed m f want acc [] a b = a
small_passed m f want acc (q ∷ rs) a b =
    split (hits f want q)
    (λ t. rw (t, passed) (small_passed m f want (q ∷ acc) rs (b.0, a) b.1))
    (λ t. rw (t, passed) (small_passed m f want acc rs a b.1))

pub small_popping : (m : ℕ) (ms : List ℕ) (es : List Edge) → All (Small m) (runs_of es) → All (Small m) (popping ms es)
small_popping m ms es a =
    all_append (Small m) (passed (marked_in ms) true [] (runs_of es)) (passed (marked_in ms) false [] (runs_of es))
    (small_passed m (marked_in ms) true [] (runs_of es) tt a) (small_passed m (marked_in ms) false [] (runs_of es) tt a)

-- ---- what stays while other nodes are written

pub run_under : (g ms gr p k u v : List ℕ) (n rd rc kd kc r : ℕ) (q : Run) → RunFor g ms gr p k kc r q → Touched p u n rd rc → rc ≤ r → Only k v kd kc → kd ≤ kc
    → RunFor g ms gr u v kd r q
unfolding kids_in kid_first kid_end requirement_in wording_in run_in
run_under g ms gr p k u v n rd rc kd kc r q z o h x y =
    let e = o.above r h in
    record {
      kids = rw e (kids_keep k v kd kc (kid_first p r) (kid_end p r) x z.from ∙ z.kids);
      requirement = rw e z.requirement;
      wording = rw e z.wording;
      from = rw e (let f = z.from in omega arith);
      short = rw e z.short;
    }

pub node_under : (g ms gr : List ℕ) (es : List Edge) (p k u v : List ℕ) (n rd rc kd kc m : ℕ) → NodeFor g ms gr es p k rc kc m → Touched p u n rd rc → m < 128
    → (m ≡ n → ⊥) → rd ≤ rc → Only k v kd kc → kd ≤ kc
    → NodeFor g ms gr es u v rd kd m
unfolding head_in tail_in run_first run_end tag_in merged_in lead_in mate_field solvable_in sets_first sets_end reason_in runs_in sets_in kind_in
node_under g ms gr es p k u v n rd rc kd kc m z o h d l x y =
    let a : head_in u m ≡ head_in p m = head_same in
    let b : tail_in u m ≡ tail_in p m = tail_same in
    go a b
  where
    head_same : head_in u m ≡ head_in p m
    head_same = ap (λ (w : ℕ). cond (ltb m 128) w 0) (o.heads m h d).0

    tail_same : tail_in u m ≡ tail_in p m
    tail_same = ap (λ (w : ℕ). cond (ltb m 128) w 0) (o.heads m h d).1

    go : head_in u m ≡ head_in p m → tail_in u m ≡ tail_in p m → NodeFor g ms gr es u v rd kd m
    go a b =
        record {
          runs = rw a (each_runs (RunFor g ms gr p k kc) (RunFor g ms gr u v kd) (run_first p m) (run_end p m) (popping ms es)
              (λ j q i f. run_under g ms gr p k u v n rd rc kd kc j q f o (omega (arith, z.low_run)) x y) z.runs);
          kind = rw (a, b) (ap (kind_by (tag_in p m) (reason_in p m)) (sets_keep k v kd kc (sets_first p m) (sets_end p m) x z.low_set) ∙ z.kind);
          merged = rw a z.merged;
          lead = rw a z.lead;
          mate = rw a z.mate;
          solvable = rw a z.solvable;
          low_run = rw a (omega (arith, z.low_run));
          low_set = rw b (omega (arith, z.low_set));
          short = rw b z.short;
        }
