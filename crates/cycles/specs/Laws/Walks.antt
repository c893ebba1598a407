-- The ways through the code: the edges into a node, the nodes upward, and numbers that fall along every edge.
use Rattle.std.specs.Prelude.{◌≡◌, refl, ◌⊎◌, Bool, true, false, not, List, ℕ, ◌+◌, ◌-◌, ◌<◌, ◌≤◌, eqb}
use Rattle.std.proofs.Common.{sym, ap, ◌∙◌, inl, inr, true≢false, not-suc-le-zero, arith}
use Rattle.std.proofs.lemmas.Bool.{false≢true}
use Rattle.std.proofs.Math.ListN.{get_or}
use borrow.Author.Tests.{eqb-true, eqb-false, eq-eqb, ne_eqb}
use Rattle.basis.specs.Members.{split, either, In}
use Rattle.store.specs.declared.Edge.{Edge}
use Rattle.store.specs.declared.Size.{Size}
use Rattle.store.specs.Graph.{Graph, into}
use Rattle.store.specs.Table.{graph_in, edge_in, Stored, source_below, target_below}
use Rattle.links.specs.Build.{Chains}
use Rattle.links.specs.Walk.{Into, first_in, next_in, into_left, into_start, into_all, into_next, into_less, into_cons, into_end, into_edge, into_target}
use Rattle.labels.specs.Labels.{targets}
use Rattle.labels.specs.Ordered.{Leads, edge, onto, Acyclic}
use Rattle.labels.specs.Laws.Paths.{target_edge, path_onto, last_edge}
use Rattle.labels.specs.Laws.Paths as P
use Rattle.links.specs.Paths.{Path}
use Rattle.links.specs.Queue.{Marked, edge_there, edge_place}
use Rattle.cycles.specs.Laws.Lowest.{Lowest}

-- ---- one node: an edge comes in from a node that it leads to

pub record OnCycle (to : ℕ → List ℕ) (n : ℕ) (r : Bool) : Type 0 where
  pub yes : r ≡ true → Leads to n n
  pub no : r ≡ false → Leads to n n → ⊥

-- node x has a mark
unfoldable pub lit_in : List ℕ → ℕ → Bool
lit_in w x = not (eqb (get_or w (128 + x) 0) 0)

pub lit_slot : (g : List ℕ) (s : Size) (i n : ℕ) → n ≡ (edge_in g i).source → Stored g s → i < s.edges → 128 + n < 256
lit_slot g s i n q S l = omega (arith, q, source_below g s S i l)

pub lit_yes : (w : List ℕ) (x y : ℕ) → x ≡ y → (get_or w (128 + x) 0 ≡ 0 → ⊥) → true ≡ lit_in w y
unfolding lit_in
lit_yes w x y q o = rw (← q, ne_eqb (get_or w (128 + x) 0) 0 o)

pub lit_no : (w : List ℕ) (x y : ℕ) → x ≡ y → get_or w (128 + x) 0 ≡ 0 → false ≡ lit_in w y
unfolding lit_in
lit_no w x y q z = rw (← q, eq-eqb (get_or w (128 + x) 0) 0 z)

-- along the edges into n, e where the walk stands: those before it come from nodes without a mark
pub record Closing (g : List ℕ) (s : Size) (ls w : List ℕ) (n e : ℕ) : Type 0 where
  pub at : Into g s ls n e
  pub marks : Marked g s n w
  pub gone : (x : Edge) → In x (into (graph_in g s) n) → In x (into_left g n e) ⊎ (get_or w (128 + x.source) 0 ≡ 0)

module _ (g : List ℕ) (s : Size) (ls w : List ℕ) (n : ℕ) where
  pub close_start : (r : ℕ) → Marked g s n w → Chains g s ls → n < s.nodes → r ≡ first_in ls n → Closing g s ls w n r
  close_start r M C l q = record { at = into_start g s ls n r C l q; marks = M; gone = λ x i. inl (rw (into_all g s ls n r C l q) i) }

  module _ (e : ℕ) (D : Closing g s ls w n e) (p : 0 < e) where
    pub close_less : (r : ℕ) → r ≡ next_in ls (e - 1) → r < e
    close_less r q = into_less g s ls n e r D.at p q

    pub close_edge : e - 1 < s.edges
    close_edge = into_edge g s ls n e D.at p

    pub close_hit : (t : Bool) → t ≡ lit_in w (edge_in g (e - 1)).source → t ≡ true → OnCycle (targets (graph_in g s)) n true
    unfolding lit_in
    close_hit t q u = record { yes = λ _. rw (into_target g s ls n e D.at p) at way; no = λ z. absurd (true≢false z) }
      where
        S : Stored g s
        S = D.marks.stored

        lit : get_or w (128 + (edge_in g (e - 1)).source) 0 ≡ 0 → ⊥
        lit z = false≢true (sym (rw (eq-eqb (get_or w (128 + (edge_in g (e - 1)).source) 0) 0 z) at q) ∙ u)

        way : Leads (targets (graph_in g s)) n (edge_in g (e - 1)).target
        way =
            path_onto (graph_in g s) n (edge_in g (e - 1)) (edge_there g s S (e - 1) (into_edge g s ls n e D.at p))
            (D.marks.yes (edge_in g (e - 1)).source lit)

    pub close_next : (t : Bool) (r : ℕ) → t ≡ lit_in w (edge_in g (e - 1)).source → t ≡ false → r ≡ next_in ls (e - 1) → Closing g s ls w n r
    unfolding lit_in
    close_next t r q u qr = record { at = into_next g s ls n e r D.at p qr; marks = D.marks; gone = gone }
      where
        dark : get_or w (128 + (edge_in g (e - 1)).source) 0 ≡ 0
        dark =
            split (eqb (get_or w (128 + (edge_in g (e - 1)).source) 0) 0)
            (λ z. eqb-true (get_or w (128 + (edge_in g (e - 1)).source) 0) 0 z)
            (λ z. absurd (true≢false (sym (rw z at q) ∙ u)))

        gone : (y : Edge) → In y (into (graph_in g s) n) → In y (into_left g n r) ⊎ (get_or w (128 + y.source) 0 ≡ 0)
        gone y i =
            either (D.gone y i)
            (λ j. either (rw (into_cons g s ls n e r D.at p qr) at j)
            (λ h. let k : y.source ≡ (edge_in g (e - 1)).source = ap (λ (a : Edge). a.source) h in inr (rw k dark))
            (λ m. inl m))
            (λ j. inr j)

  pub close_end : (e : ℕ) → Closing g s ls w n e → e ≤ 0 → OnCycle (targets (graph_in g s)) n false
  close_end e D z = record { yes = λ t. absurd (false≢true t); no = λ t l. none_left (last_edge (graph_in g s) n n l) }
    where
      none_left : (x : Edge) × In x (into (graph_in g s) n) × Path (graph_in g s) n x.source → ⊥
      none_left r =
          either (D.gone r.0 r.1)
          (λ i. rw (into_end g n e z) at i)
          (λ k. D.marks.no r.0.source k r.2)

pub ruleset closes = (close_start, close_less, close_edge, close_hit, close_next, close_end)

-- ---- the nodes upward

pub record FreeTo (to : ℕ → List ℕ) (k : ℕ) : Type 0 where
  pub none_below : (m : ℕ) → m < k → Leads to m m → ⊥

pub free_start : (to : ℕ → List ℕ) → FreeTo to 0
free_start to = record { none_below = λ m l. absurd (not-suc-le-zero l) }

pub free_next : (to : ℕ → List ℕ) (n : ℕ) (t : Bool) → FreeTo to n → OnCycle to n t → t ≡ false → FreeTo to (n + 1)
free_next to n t F C q =
    record { none_below = λ m l p. split (eqb m n) (λ u. C.no q (rw (eqb-true m n u) at p)) (λ u. F.none_below m (omega (arith, eqb-false m n u)) p) }

pub free_hit : (to : ℕ → List ℕ) (n : ℕ) (t : Bool) → FreeTo to n → OnCycle to n t → t ≡ true → Lowest to (n + 1)
free_hit to n t F C q =
    record {
      free = λ z. absurd (bad z);
      on = λ m e. let k : n ≡ m = omega arith in rw (← k) (C.yes q);
      least = λ m e i l p. F.none_below i (omega arith) p;
    }
  where
    bad : n + 1 ≡ 0 → ⊥
    bad z = omega arith

-- a node on a cycle is a target
pub cycle_node : (g : List ℕ) (s : Size) → Stored g s → (n : ℕ) → Leads (targets (graph_in g s)) n n → n < s.nodes
cycle_node g s S n l =
    let r = last_edge (graph_in g s) n n l in
    let e = P.into_edge (graph_in g s) r.0 n r.1 in
    let t : r.0.target ≡ n = e.1 in
    let k = edge_place g s S r.0 e.0 in
    let b : (edge_in g k.0).target < s.nodes = target_below g s S k.0 k.1 in
    let u : (edge_in g k.0).target ≡ n = ap (λ (x : Edge). x.target) k.2 ∙ t in
    omega arith

acyclic_lowest : (to : ℕ → List ℕ) → Acyclic to → Lowest to 0
acyclic_lowest to h =
    record { free = λ _. h; on = λ n e. absurd (bad n e); least = λ n e. absurd (bad n e) }
  where
    bad : (n : ℕ) → ◌≡◌ {A = ℕ} 0 (n + 1) → ⊥
    bad n e = omega arith

pub free_end : (g : List ℕ) (s : Size) (n : ℕ) → FreeTo (targets (graph_in g s)) n → s.nodes ≤ n → Stored g s → Lowest (targets (graph_in g s)) 0
free_end g s n F h S =
    acyclic_lowest (targets (graph_in g s)) (λ m l. F.none_below m (omega (arith, cycle_node g s S m l)) l)

pub ruleset frees = (free_start, free_next, free_hit, free_end)

-- ---- the quick test: numbers that fall along every edge, wherever they come from

pub record Fallen (g pos : List ℕ) (k : ℕ) : Type 0 where
  pub falls : (i : ℕ) → i < k → get_or pos (edge_in g i).target 0 < get_or pos (edge_in g i).source 0

pub record Quick (g pos : List ℕ) (k : ℕ) (r : Bool) : Type 0 where
  pub all : r ≡ true → Fallen g pos k

pub fallen_start : (g pos : List ℕ) → Fallen g pos 0
fallen_start g pos = record { falls = λ i l. absurd (not-suc-le-zero l) }

module _ (g pos : List ℕ) (i : ℕ) (F : Fallen g pos i) where
  pub fallen_next : (a b : ℕ) → a ≡ (edge_in g i).source → b ≡ (edge_in g i).target → get_or pos b 0 < get_or pos a 0 → Fallen g pos (i + 1)
  fallen_next a b qa qb h = record { falls = falls }
    where
      falls : (j : ℕ) → j < i + 1 → get_or pos (edge_in g j).target 0 < get_or pos (edge_in g j).source 0
      falls j l = split (eqb j i) (λ t. rw (eqb-true j i t, ← qa, ← qb) h) (λ t. F.falls j (omega (arith, eqb-false j i t)))

  pub fallen_end : (k : ℕ) → i ≤ k → k ≤ i → Quick g pos k true
  fallen_end k l h = record { all = λ _. let q : i ≡ k = omega arith in rw (← q) F }

pub fallen_not : (g pos : List ℕ) (k : ℕ) → Quick g pos k false
fallen_not g pos k = record { all = λ q. absurd (false≢true q) }

pub ruleset falls_laws = (fallen_start, fallen_next, fallen_end)

carry : (pos : List ℕ) (a b c d : ℕ) → c ≡ a → d ≡ b → get_or pos d 0 < get_or pos c 0 → get_or pos b 0 < get_or pos a 0
carry pos a b c d qc qd h = rw (qc, qd) at h

module _ (g : List ℕ) (s : Size) (pos : List ℕ) (S : Stored g s) (F : Fallen g pos s.edges) where
  drop_one : (a b : ℕ) → In b (targets (graph_in g s) a) → get_or pos b 0 < get_or pos a 0
  drop_one a b i =
      let r = target_edge (graph_in g s) a b i in
      let k = edge_place g s S r.0 r.1 in
      let h : get_or pos (edge_in g k.0).target 0 < get_or pos (edge_in g k.0).source 0 = F.falls k.0 k.1 in
      let qs : (edge_in g k.0).source ≡ a = ap (λ (x : Edge). x.source) k.2 ∙ r.2 in
      let qt : (edge_in g k.0).target ≡ b = ap (λ (x : Edge). x.target) k.2 ∙ sym r.3 in
      carry pos a b (edge_in g k.0).source (edge_in g k.0).target qs qt h

  drop_all : {a b : ℕ} → Leads (targets (graph_in g s)) a b → get_or pos b 0 < get_or pos a 0
  drop_all (edge {a} {b} i) = drop_one a b i
  drop_all (onto {a} {b} {c} p i) = omega (arith, drop_all p, drop_one b c i)

  fallen_acyclic : Acyclic (targets (graph_in g s))
  fallen_acyclic a l = let h : get_or pos a 0 < get_or pos a 0 = drop_all l in omega arith

pub quick_lowest : (g : List ℕ) (s : Size) (pos : List ℕ) (t : Bool) → Quick g pos s.edges t → t ≡ true → Stored g s → Lowest (targets (graph_in g s)) 0
quick_lowest g s pos t Q q S = acyclic_lowest (targets (graph_in g s)) (fallen_acyclic g s pos S (Q.all q))
