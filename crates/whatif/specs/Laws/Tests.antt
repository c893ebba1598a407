-- The ways through the code that tests a question.
use Rattle.std.specs.Prelude.{◌≡◌, Bool, ◌&&◌, List, [], ◌∷◌, ℕ, zero, suc, ◌+◌, ◌-◌, ◌≤◌, ◌<◌, get_or, ltb, leb, Result, Ok, Err}
use Rattle.std.proofs.Math.Path.{refl, sym, ap}
use Rattle.std.proofs.Common.{◌∙◌, inl, inr, length-append}
use Rattle.std.proofs.Math.Bool.{true, false, cond, not}
use Rattle.std.proofs.Math.Option.{Option, none, some}
use native.Mathlib.Omega.{arith}
use Rattle.std.proofs.Math.ListN.{length, get_or-eq_default}
use borrow.Author.Tests.{lt-ltb, le-ltb, lt-leb, le-leb, ltb-true, ltb-false, leb-true}
use Rattle.basis.specs.Guard.{guard}
use Rattle.basis.specs.Lists.{any, snoc}
use Rattle.basis.specs.Members.{In, split, either, clash, no_both, all_in, any_in, any_some}
use Rattle.records.specs.declared.Table.TheVariants.{Solvables, Reasons}
use Rattle.records.specs.Shapes.{limit}
use Rattle.records.specs.Tables.{Tables, table_of}
use Rattle.records.specs.Read.{tables_of}
use Rattle.index.specs.Promise.{Valid}
use Rattle.index.specs.Index.{Loaded}
use Rattle.index.specs.Found.{loaded_valid}
use Rattle.store.specs.declared.ConflictNode.{ConflictNode}
use Rattle.store.specs.declared.ConflictNode.TheVariants as N
use Rattle.store.specs.declared.Size.{Size}
use Rattle.store.specs.Graph.{Graph, same_node, node_at, is_unresolved}
use Rattle.store.specs.Numbers.{number_of}
use Rattle.store.specs.Words.{same_true, same_refl, node_of}
use Rattle.store.specs.Table.{graph_in, node_in, Stored, nodes_count, edges_count, node_in_lem, node_read}
use Rattle.links.specs.Queue.{lowest_of}
use Rattle.graph.specs.Graphs.{Outcome, drawn, refused, graph_of}
use Rattle.shape.specs.Shaped.{Known}
use Rattle.shape.specs.Graphed.{graphed}
use Rattle.cycles.specs.Cycles.{cycle_of}
use Rattle.whatif.specs.declared.tests.Question.{Question}
use Rattle.records.specs.declared.Refused.{Refused}
use Rattle.whatif.specs.Asked.{has_node, nodes_with, asked, known, gone_count, fits_graph, unless_cycle, question_of}
use Rattle.whatif.specs.Laws.Alike.{number_in, number_out_lem}
use Rattle.std.specs.Int.{from_bool}

-- ---- what the code answers

-- a refusal with its place; or the chosen package's node and the number of clauses
abbrev pub Test : Type 0
Test = Result Question Refused

abbrev pub refusal_at : ℕ → ℕ → Test
refusal_at k p = Err (record { number = k; place = p })

abbrev pub pass_at : ℕ → ℕ → Test
pass_at a n = Ok (record { node = a; clause = n })

-- the chosen package's node, or the count of nodes where 4 is given
unfoldable pub chosen_of : Tables → Graph → ℕ → ℕ → ℕ
chosen_of T G s r = cond (known T G s r) (number_of G.nodes (N.Solvable s)) (length G.nodes)

abbrev cycle_test : Option ℕ → Test → Test
cycle_test none x = x
cycle_test (some n) x = refusal_at 17 n

-- 8, then 17, else a and the number of clauses
unfoldable pub graph_test : Tables → Graph → ℕ → ℕ → Test
graph_test T G a r = cond (fits_graph G r) (cycle_test (cycle_of G) (pass_at a (length T.clauses))) (refusal_at 8 (length T.clauses))

unfoldable pub test_of : Tables → Graph → ℕ → ℕ → Test
unfolding graph_test
test_of T G s r = cond (known T G s r) (graph_test T G (number_of G.nodes (N.Solvable s)) r) (refusal_at 4 0)

pass_same : (a n b m : ℕ) → pass_at a n ≡ pass_at b m → (a ≡ b) × (n ≡ m)
pass_same a n b m e =
    let q : ◌≡◌ {A = Question} (record { node = a; clause = n }) (record { node = b; clause = m }) = cc in
    (ap (λ (x : Question). x.node) q, ap (λ (x : Question). x.clause) q)

refusal_same : (k p l i : ℕ) → refusal_at k p ≡ refusal_at l i → (k ≡ l) × (p ≡ i)
refusal_same k p l i e =
    let q : ◌≡◌ {A = Refused} (record { number = k; place = p }) (record { number = l; place = i }) = cc in
    (ap (λ (x : Refused). x.number) q, ap (λ (x : Refused). x.place) q)

-- ---- it is what the question gives

and_both : (a b c : Bool) → a && (b && c) ≡ true → (a ≡ true) × (b ≡ true) × (c ≡ true)
and_both true true c e = (refl, refl, e)
and_both true false c e = clash (cc)
and_both false b c e = clash (cc)

-- a question that passes
pub record Passed (T : Tables) (G : Graph) (s r a n : ℕ) : Type 0 where
  pub source : a ≡ number_of G.nodes (N.Solvable s)
  pub clause : n ≡ length T.clauses
  pub solvable : s < length T.solvables
  pub reason : r < length T.reasons
  pub node : has_node G.nodes (N.Solvable s) ≡ true
  pub room : fits_graph G r ≡ true
  pub free : cycle_of G ≡ none
  pub gives : question_of T G s r ≡ drawn (asked G (length T.clauses) s r)

module _ (T : Tables) (G : Graph) (s r : ℕ) where
  abbrev cyclic : Option ℕ → Test
  cyclic o = cycle_test o (pass_at (number_of G.nodes (N.Solvable s)) (length T.clauses))

  passes_by : (o : Option ℕ) → cycle_of G ≡ o → (a n : ℕ) → cyclic o ≡ pass_at a n → known T G s r ≡ true → fits_graph G r ≡ true → Passed T G s r a n
  unfolding question_of
  passes_by none e a n q k f =
      let z = and_both (ltb s (length T.solvables)) (ltb r (length T.reasons)) (has_node G.nodes (N.Solvable s)) k in
      let w = pass_same (number_of G.nodes (N.Solvable s)) (length T.clauses) a n q in
      record {
        source = sym w.0;
        clause = sym w.1;
        solvable = ltb-true s (length T.solvables) z.0;
        reason = ltb-true r (length T.reasons) z.1;
        node = z.2;
        room = f;
        free = e;
        gives = rw (k, f, e);
      }
  passes_by (some c) e a n q k f = clash (cc)

  pub passes : (a n : ℕ) → test_of T G s r ≡ pass_at a n → Passed T G s r a n
  unfolding test_of graph_test
  passes a n q =
      split (known T G s r)
      (λ k. split (fits_graph G r)
      (λ f. passes_by (cycle_of G) refl a n (rw (k, f) at q) k f)
      (λ f. let z : refusal_at 8 (length T.clauses) ≡ pass_at a n = rw (k, f) at q in clash (cc)))
      (λ k. let z : refusal_at 4 0 ≡ pass_at a n = rw k at q in clash (cc))

  denies_by : (o : Option ℕ) → cycle_of G ≡ o → (k p : ℕ) → cyclic o ≡ refusal_at k p → known T G s r ≡ true → fits_graph G r ≡ true
      → question_of T G s r ≡ refused k p
  unfolding question_of
  denies_by none e k p q y f = clash (cc)
  denies_by (some c) e k p q y f = let z = refusal_same 17 c k p q in rw (y, f, e, ← z.0, ← z.1)

  pub denies : (k p : ℕ) → test_of T G s r ≡ refusal_at k p → question_of T G s r ≡ refused k p
  unfolding test_of graph_test question_of
  denies k p q =
      split (known T G s r)
      (λ y. split (fits_graph G r)
      (λ f. denies_by (cycle_of G) refl k p (rw (y, f) at q) y f)
      (λ f. let z : refusal_at 8 (length T.clauses) ≡ refusal_at k p = rw (y, f) at q in
      let w = refusal_same 8 (length T.clauses) k p z in rw (y, f, ← w.0, ← w.1)))
      (λ y. let z : refusal_at 4 0 ≡ refusal_at k p = rw y at q in let w = refusal_same 4 0 k p z in rw (y, ← w.0, ← w.1))

-- ---- unresolved

module _ (g : List ℕ) (s : Size) (S : Stored g s) where
  one_is : is_unresolved (node_in g 1) ≡ is_unresolved (node_at (graph_in g s) 1)
  one_is =
      split (ltb 1 s.nodes)
      (λ t. ap is_unresolved (node_in_lem g s S 1 (ltb-true 1 s.nodes t)))
      (λ t. let h : s.nodes ≤ 1 = ltb-false 1 s.nodes t in
      let z : get_or g 1025 0 ≡ 0 = S.no_node 1 h (omega arith) in
      let y : node_of (get_or g 1025 0) ≡ node_in g 1 = node_read g 1 (get_or g 1025 0) (node_of (get_or g 1025 0)) refl refl (omega arith) in
      let x : node_at (graph_in g s) 1 ≡ N.Root = get_or-eq_default (graph_in g s).nodes N.Root (omega (arith, nodes_count g s S)) in
      rw x (ap is_unresolved (sym y ∙ ap node_of z)))

  pub gone_is : (u : Bool) → u ≡ false → u ≡ is_unresolved (node_in g 1) → 1 ≡ gone_count (graph_in g s)
  gone_is u t q = rw (← one_is, ← q, t)

  pub gone_not : (u : Bool) → u ≡ true → u ≡ is_unresolved (node_in g 1) → 0 ≡ gone_count (graph_in g s)
  gone_not u t q = rw (← one_is, ← q, t)

  -- both, counted
  pub gone_counted : (u : Bool) (r : ℕ) → r ≡ from_bool (not u) → u ≡ is_unresolved (node_in g 1) → (r ≡ gone_count (graph_in g s)) × (r ≤ 1)
  gone_counted true r e q = (e ∙ gone_not true refl q, omega (arith, e))
  gone_counted false r e q = (e ∙ gone_is false refl q, omega (arith, e))

-- ---- 8

pub one_old : (b n : ℕ) → b < n → n ≡ cond (ltb b n) n (n + 1)
one_old b n h = rw (lt-ltb b n h)

pub one_new : (b n : ℕ) → n ≤ b → n + 1 ≡ cond (ltb b n) n (n + 1)
one_new b n h = rw (le-ltb b n h)

pub not_in : (ns : List ConflictNode) (x : ConflictNode) → has_node ns x ≡ false → In x ns → ⊥
not_in ns x t i = no_both (has_node ns x) (any_in (same_node x) x ns (same_refl x) i) t

pub is_in_lem : (ns : List ConflictNode) (x : ConflictNode) → has_node ns x ≡ true → In x ns
is_in_lem ns x t = let r = any_some (same_node x) ns t in rw (same_true x r.0 r.2) r.1

-- b is the node's number
with_length : (ns : List ConflictNode) (x : ConflictNode) (b n : ℕ) → b ≡ number_of ns x → n ≡ length ns → length (nodes_with ns x) ≡ cond (ltb b n) n (n + 1)
with_length ns x b n q c =
    split (has_node ns x)
    (λ t. let h : number_of ns x < length ns = (number_in ns x (is_in_lem ns x t)).0 in
    let l : b < n = omega arith in
    rw (t, nodes_with, lt-ltb b n l) (sym c))
    (λ t. let e : number_of ns x ≡ length ns = number_out_lem ns x (not_in ns x t) in
    let l : n ≤ b = omega arith in
    rw (t, nodes_with, le-ltb b n l, length-append ns (x ∷ []), c))

module _ (g : List ℕ) (s : Size) (r b k n : ℕ) (S : Stored g s) (qb : b ≡ number_of (graph_in g s).nodes (N.Excluded r)) (qk : k
    ≡ gone_count (graph_in g s)) (qn : n ≡ cond (ltb b s.nodes) s.nodes (s.nodes + 1)) where
  total : length (nodes_with (graph_in g s).nodes (N.Excluded r)) + gone_count (graph_in g s) ≡ n + k
  total =
      let l : length (nodes_with (graph_in g s).nodes (N.Excluded r)) ≡ n =
      with_length (graph_in g s).nodes (N.Excluded r) b s.nodes qb (sym (nodes_count g s S)) ∙ sym qn in
      rw (l, qk)

  pub room_nodes : 128 < n + k → false ≡ fits_graph (graph_in g s) r
  room_nodes h = rw (total, lt-leb (n + k) 128 h)

  pub room_edges : n + k ≤ 128 → 1024 ≤ s.edges → false ≡ fits_graph (graph_in g s) r
  room_edges h l = rw (total, le-leb (n + k) 128 h, edges_count g s S, le-ltb s.edges 1024 l)

  pub room_both : n + k ≤ 128 → s.edges < 1024 → true ≡ fits_graph (graph_in g s) r
  room_both h l = rw (total, le-leb (n + k) 128 h, edges_count g s S, lt-ltb s.edges 1024 l)

-- ---- 4

module _ (T : Tables) (valid : Valid T) (G : Graph) (d : graph_of T ≡ drawn G) (s r : ℕ) where
  -- a solvable with a node is known
  node_known : has_node G.nodes (N.Solvable s) ≡ true → s < length T.solvables
  node_known t = all_in (Known T) G.nodes (N.Solvable s) (graphed T valid G d).0.known (is_in_lem G.nodes (N.Solvable s) t)

  chosen_by : ltb r (length T.reasons) ≡ true → number_of G.nodes (N.Solvable s) ≡ chosen_of T G s r
  unfolding chosen_of
  chosen_by k =
      split (has_node G.nodes (N.Solvable s))
      (λ t. rw (k, t, lt-ltb s (length T.solvables) (node_known t)))
      (λ t. number_out_lem G.nodes (N.Solvable s) (not_in G.nodes (N.Solvable s) t) ∙ rw (k, t) (sym (off (ltb s (length T.solvables)))))
    where
      off : (b : Bool) → cond (b && false) (number_of G.nodes (N.Solvable s)) (length G.nodes) ≡ length G.nodes
      off true = refl
      off false = refl

  chosen_not : ltb r (length T.reasons) ≡ false → length G.nodes ≡ chosen_of T G s r
  unfolding chosen_of
  chosen_not k = rw k (sym (off (ltb s (length T.solvables))))
    where
      off : (b : Bool) → cond (b && false) (number_of G.nodes (N.Solvable s)) (length G.nodes) ≡ length G.nodes
      off true = refl
      off false = refl

  chosen_known : chosen_of T G s r < length G.nodes → known T G s r ≡ true
  unfolding chosen_of
  chosen_known h = split (known T G s r) (λ t. t) (λ t. let f : length G.nodes < length G.nodes = rw t at h in let z : ⊥ = omega arith in absurd z)

  chosen_is : known T G s r ≡ true → chosen_of T G s r ≡ number_of G.nodes (N.Solvable s)
  unfolding chosen_of
  chosen_is k = rw k

  chosen_unknown : length G.nodes ≤ chosen_of T G s r → known T G s r ≡ false
  unfolding chosen_of
  chosen_unknown h =
      split (known T G s r)
      (λ t. let z = and_both (ltb s (length T.solvables)) (ltb r (length T.reasons)) (has_node G.nodes (N.Solvable s)) t in
      let l : number_of G.nodes (N.Solvable s) < length G.nodes = (number_in G.nodes (N.Solvable s) (is_in_lem G.nodes (N.Solvable s) z.2)).0 in
      let m : length G.nodes ≤ number_of G.nodes (N.Solvable s) = rw t at h in
      let f : ⊥ = omega arith in absurd f)
      (λ t. t)

  wide_solvable : 65535 < s → known T G s r ≡ false
  wide_solvable h = let l : length T.solvables ≤ 256 = valid.within Solvables in rw (le-ltb s (length T.solvables) (omega arith))

  wide_reason : 65535 < r → known T G s r ≡ false
  wide_reason h =
      let l : length T.reasons ≤ 64 = valid.within Reasons in
      rw (le-ltb r (length T.reasons) (omega arith)) (off (ltb s (length T.solvables)))
    where
      off : (b : Bool) → b && false ≡ false
      off true = refl
      off false = refl

-- over the stored graph; a file's tables are valid
module _ (file ix g : List ℕ) (z : Size) (s r : ℕ) (L : Loaded file ix) (S : Stored g z) (d : graph_of (tables_of file) ≡ drawn (graph_in g z)) where
  abbrev T : Tables
  T = tables_of file

  abbrev G : Graph
  G = graph_in g z

  v : Valid (tables_of file)
  v = loaded_valid file ix L

  -- k is what the index said of the reason r, w its number
  pub chosen_place : (w a : ℕ) (k : Bool) → k ≡ true → k ≡ ltb w (length (tables_of file).reasons) → w ≡ r → a ≡ number_of (graph_in g z).nodes (N.Solvable s)
      → a ≡ chosen_of (tables_of file) (graph_in g z) s r
  chosen_place w a k t q e p = p ∙ chosen_by T v G d s r (ap (λ (n : ℕ). ltb n (length (tables_of file).reasons)) (sym e) ∙ sym q ∙ t)

  pub chosen_none : (w : ℕ) (k : Bool) → k ≡ false → k ≡ ltb w (length (tables_of file).reasons) → w ≡ r → z.nodes ≡ chosen_of (tables_of file) (graph_in g z) s r
  chosen_none w k t q e = sym (nodes_count g z S) ∙ chosen_not T v G d s r (ap (λ (n : ℕ). ltb n (length (tables_of file).reasons)) (sym e) ∙ sym q ∙ t)

  pub test_solvable : 65535 < s → refusal_at 4 0 ≡ test_of (tables_of file) (graph_in g z) s r
  unfolding test_of
  test_solvable h = rw (wide_solvable T v G d s r h)

  pub test_reason : 65535 < r → refusal_at 4 0 ≡ test_of (tables_of file) (graph_in g z) s r
  unfolding test_of
  test_reason h = rw (wide_reason T v G d s r h)

  module _ (a : ℕ) (q : a ≡ chosen_of (tables_of file) (graph_in g z) s r) where
    pub test_unknown : z.nodes ≤ a → refusal_at 4 0 ≡ test_of (tables_of file) (graph_in g z) s r
    unfolding test_of
    test_unknown h =
        let l : length (graph_in g z).nodes ≤ chosen_of (tables_of file) (graph_in g z) s r = rw (← q, nodes_count g z S) h in
        rw (chosen_unknown T v G d s r l)

    pub test_known : (x : Test) → a < z.nodes → x ≡ graph_test (tables_of file) (graph_in g z) a r → x ≡ test_of (tables_of file) (graph_in g z) s r
    unfolding test_of
    test_known x h e =
        let l : chosen_of (tables_of file) (graph_in g z) s r < length (graph_in g z).nodes = rw (← q, nodes_count g z S) h in
        let k : known (tables_of file) (graph_in g z) s r ≡ true = chosen_known T v G d s r l in
        e ∙ ap (λ (n : ℕ). graph_test (tables_of file) (graph_in g z) n r) (q ∙ chosen_is T v G d s r k) ∙ rw k

-- ---- 8, 17, or none

module _ (T : Tables) (G : Graph) (a r n : ℕ) (f : Bool) (qf : f ≡ fits_graph G r) (qn : n ≡ length T.clauses) where
  pub test_full : (p : ℕ) → not f ≡ true → p ≡ n → refusal_at 8 p ≡ graph_test T G a r
  unfolding graph_test
  test_full p t q = rw (← qf, off f t, q, qn)
    where
      off : (b : Bool) → not b ≡ true → b ≡ false
      off true e = clash (cc)
      off false e = refl

  module _ (o : not f ≡ false) (c : ℕ) (qc : c ≡ lowest_of (cycle_of G)) where
    on : (b : Bool) → not b ≡ false → b ≡ true
    on true e = refl
    on false e = clash (cc)

    pub test_cycle : (p : ℕ) → 0 < c → p ≡ c - 1 → refusal_at 17 p ≡ graph_test T G a r
    unfolding graph_test
    test_cycle p h q = rw (← qf, on f o) (by (cycle_of G) qc)
      where
        by : (o : Option ℕ) → c ≡ lowest_of o → refusal_at 17 p ≡ cycle_test o (pass_at a (length T.clauses))
        by none e = let x : ⊥ = omega arith in absurd x
        by (some m) e = let x : p ≡ m = omega arith in rw x

    pub test_passed : (m : ℕ) → c ≤ 0 → m ≡ n → pass_at a m ≡ graph_test T G a r
    unfolding graph_test
    test_passed m h q = rw (← qf, on f o) (by (cycle_of G) qc)
      where
        by : (o : Option ℕ) → c ≡ lowest_of o → pass_at a m ≡ cycle_test o (pass_at a (length T.clauses))
        by none e = rw (q, qn)
        by (some m) e = let x : ⊥ = omega arith in absurd x
