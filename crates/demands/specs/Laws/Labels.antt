-- The labels, over the entries that `urzulempa_nodes` lists.
use Rattle.std.specs.Prelude.{◌≡◌, refl, Bool, true, cond, ◌||◌, List, [], ◌∷◌, ◌++◌, map, ℕ, zero, suc, ◌+◌, ◌<◌, ◌≤◌, length, eqb}
use Rattle.std.proofs.Common.{sym, ◌∙◌, subst, arith}
use Rattle.std.proofs.Math.Path.{ap}
use Rattle.std.proofs.Math.Bool.{false}
use Rattle.std.proofs.lemmas.Bool.{false≢true}
use Rattle.std.proofs.Math.ListN.{drop}
use Rattle.std.proofs.lemmas.List.{length-map}
use Rattle.std.proofs.Math.Dec.{ltb}
use borrow.Author.Tests.{eqb-true, eqb-false, le-ltb}
use Rattle.basis.specs.Lists.{any, all, upto}
use Rattle.basis.specs.Members.{In, All, split, no_both}
use Rattle.records.specs.Tables.{Tables}
use Rattle.index.specs.Promise.{Valid, promise}
use Rattle.store.specs.declared.ConflictNode.{ConflictNode}
use Rattle.store.specs.declared.ConflictNode.TheVariants as N
use Rattle.store.specs.declared.ConflictEdge.{ConflictEdge}
use Rattle.store.specs.declared.ConflictEdge.TheVariants as W
use Rattle.store.specs.declared.Edge.{Edge}
use Rattle.store.specs.Graph.{Graph, out, node_at, is_unresolved}
use Rattle.graph.specs.Graphs.{drawn, graph_of}
use Rattle.shape.specs.Graphed.{Graphed, graphed}
use Rattle.labels.specs.Ordered.{Acyclic}
use Rattle.labels.specs.Runs.{Run, add_to, runs_of, some_run}
use Rattle.labels.specs.Labels.{targets, conflicts, can_install, is_lacking, installable, missing, has_unresolved}
use Rattle.labels.specs.Facts.{inner, not_both, missing_none}
use Rattle.labels.proofs.Local.{install_local, lacking_local}
use Rattle.shape.specs.Settled.{sound, drawn_installable, drawn_missing}
use Rattle.plan.specs.Mates.{map_upto}
use Rattle.lists.specs.declared.entries.NodeEntry.{NodeEntry}
use Rattle.lists.specs.Nodes.{flag, node_entry, node_entries, nodes_of}
use Rattle.calls.specs.Nodes.{nodes_answer, nodes_left}
use Rattle.demands.specs.Rules.{Passed, entry_in, says_installable, says_missing}

-- ---- small laws

upto_length : (c a : ℕ) → length (upto c a) ≡ c
upto_length zero a = refl
upto_length (suc c) a = ap suc (upto_length c (suc a))

flag_one : (b : Bool) → eqb (flag b) 1 ≡ b
flag_one true = refl
flag_one false = refl

flag_yes : (b : Bool) → flag b ≡ 1 → b ≡ true
flag_yes true e = refl
flag_yes false e = let z : ⊥ = omega arith in absurd z

-- a run has a target
run_some : (q n : ℕ) (rs : List Run) → any (λ (r : Run). all (λ (t : ℕ). false) r.to) rs ≡ false
    → any (λ (r : Run). all (λ (t : ℕ). false) r.to) (add_to q n rs) ≡ false
run_some q n [] h = refl
run_some q n (r ∷ rs) h =
    split (eqb q r.req)
    (λ e. rw (e, add_to) (split (all (λ (t : ℕ). false) r.to) (λ a. absurd (false≢true (sym h ∙ rw (a, any)))) (λ a. rw (a, any) at h)))
    (λ e. rw (e, add_to) h)

-- so no run has all its targets in an empty set
no_run : (es : List Edge) → some_run (λ (t : ℕ). false) (runs_of es) ≡ false
no_run [] = refl
no_run (e ∷ es) = by e.weight refl (no_run es)
  where
    by : (w : ConflictEdge) → e.weight ≡ w → some_run (λ (t : ℕ). false) (runs_of es) ≡ false → some_run (λ (t : ℕ). false) (runs_of (e ∷ es)) ≡ false
    by (W.Requires q) p h = rw (p, runs_of) (run_some q e.target (runs_of es) h)
    by (W.Conflict c) p h = rw (p, runs_of) h

lacks_none : (G : Graph) (n : ℕ) → is_lacking G (λ (t : ℕ). false) n ≡ false
unfolding is_lacking
lacks_none G n = rw (no_run (out G n)) (split (any conflicts (out G n)) (λ a. rw a) (λ a. rw a))

-- ---- a graph that is drawn

module _ (T : Tables) (v : Valid T) (G : Graph) (d : graph_of T ≡ drawn G) where
  shape : Graphed T G
  shape = (graphed T v G d).0

  unresolved_by : (x : ConflictNode) → is_unresolved x ≡ true → x ≡ N.UnresolvedDependency
  unresolved_by N.Root e = absurd (false≢true e)
  unresolved_by (N.Solvable s) e = absurd (false≢true e)
  unresolved_by N.UnresolvedDependency e = refl
  unresolved_by (N.Excluded r) e = absurd (false≢true e)

  -- "unresolved node 1"
  unresolved_one : (n : ℕ) → n < length G.nodes → is_unresolved (node_at G n) ≡ true → n ≡ 1
  unresolved_one n h e = shape.unresolved n h (unresolved_by (node_at G n) e)

  -- "where the graph has no cycle, 'already' may be dropped", whether or not there is an unresolved node
  pub missing_rule : Acyclic (targets G) → (n : ℕ) → n < length G.nodes → missing G n ≡ is_unresolved (node_at G n) || is_lacking G (missing G) n
  missing_rule a n h =
      split (has_unresolved G)
      (λ u. drawn_missing T v G d a n h u ∙ ap (λ (b : Bool). b || is_lacking G (missing G) n) (one u))
      (λ u. let z : (t : ℕ) → missing G t ≡ false = missing_none G (sound T v G d) a u in
      let w : is_lacking G (missing G) n ≡ false = lacking_local G n (missing G) (λ (t : ℕ). false) (λ t i. z t) ∙ lacks_none G n in
      z n ∙ sym (rw (w, gone u)))
    where
      one : has_unresolved G ≡ true → eqb n 1 ≡ is_unresolved (node_at G n)
      one u =
          split (eqb n 1)
          (λ e. let q : n ≡ 1 = eqb-true n 1 e in rw (e, q) (sym u))
          (λ e. split (is_unresolved (node_at G n)) (λ w. absurd (eqb-false n 1 e (unresolved_one n h w))) (λ w. rw (e, w)))

      gone : has_unresolved G ≡ false → is_unresolved (node_at G n) ≡ false
      gone u =
          split (is_unresolved (node_at G n))
          (λ w. no_both (has_unresolved G) (subst (λ (m : ℕ). is_unresolved (node_at G m) ≡ true) (unresolved_one n h w) w) u)
          (λ w. w)

-- ---- the entries

pub entries_many : (T : Tables) (G : Graph) → length (node_entries T G) ≡ length G.nodes
unfolding node_entries
entries_many T G = length-map (upto (length G.nodes) 0) (node_entry T G) ∙ upto_length (length G.nodes) 0

pub entry_is : (T : Tables) (G : Graph) (n : ℕ) → n < length G.nodes → entry_in (node_entries T G) n ≡ node_entry T G n
unfolding node_entries
entry_is T G n h =
    let z : 0 + n ≡ n = omega arith in
    map_upto (node_entry T G) (length G.nodes) 0 n (record { kind = 0; number = 0; group = 0; installable = 0; missing = 0; clause = 0 }) h
    ∙ ap (node_entry T G) z

pub entry_installable : (T : Tables) (G : Graph) (n : ℕ) → n < length G.nodes → (entry_in (node_entries T G) n).installable ≡ flag (installable G n)
unfolding node_entry
entry_installable T G n h = ap (λ (x : NodeEntry). x.installable) (entry_is T G n h)

pub entry_missing : (T : Tables) (G : Graph) (n : ℕ) → n < length G.nodes → (entry_in (node_entries T G) n).missing ≡ flag (missing G n)
unfolding node_entry
entry_missing T G n h = ap (λ (x : NodeEntry). x.missing) (entry_is T G n h)

-- "no node has both labels"
entries_apart : (T : Tables) (G : Graph) (l : List ℕ) → All (λ (x : NodeEntry). x.installable ≡ 1 → x.missing ≡ 1 → ⊥) (map (node_entry T G) l)
unfolding node_entry
entries_apart T G [] = tt
entries_apart T G (n ∷ l) = (λ i m. not_both G n (flag_yes (installable G n) i) (flag_yes (missing G n) m), entries_apart T G l)

pub apart : (T : Tables) (G : Graph) → All (λ (x : NodeEntry). x.installable ≡ 1 → x.missing ≡ 1 → ⊥) (node_entries T G)
unfolding node_entries
apart T G = entries_apart T G (upto (length G.nodes) 0)

-- ---- a file that passes

module _ (file : List ℕ) (p : Passed file) where
  abbrev T : Tables
  T = p.tables

  abbrev G : Graph
  G = p.graph

  valid : Valid T
  valid = promise file T p.reads

  pub passed_listed : (l : List NodeEntry) → length G.nodes ≤ length l
      → ((nodes_answer file (length l)).number ≡ 0) × (nodes_left file l ≡ node_entries T G ++ drop (length G.nodes) l)
  unfolding nodes_answer nodes_left nodes_of
  passed_listed l h =
      let m = entries_many T G in
      let t : ltb (length l) (length (node_entries T G)) ≡ false = le-ltb (length l) (length (node_entries T G)) (rw m h) in
      rw (p.reads, p.draws, t, cond) (refl, ap (λ (k : ℕ). node_entries T G ++ drop k l) m)

  inside : (n t : ℕ) → n < length G.nodes → In t (targets G n) → t < length G.nodes
  inside n t h i = (inner G (sound T valid G p.draws)).each n h t i

  module _ (a : Acyclic (targets G)) (n : ℕ) (h : n < length G.nodes) where
    -- "not unresolved, no incoming Excluded edge, no outgoing conflict, in every run a target installable"
    pub installable_listed : (entry_in (node_entries T G) n).installable ≡ flag (can_install G (says_installable (node_entries T G)) n)
    installable_listed =
        entry_installable T G n h
        ∙ ap flag (drawn_installable T valid G p.draws a n h
        ∙ install_local G n (installable G) (says_installable (node_entries T G))
        (λ t i. sym (ap (λ (k : ℕ). eqb k 1) (entry_installable T G t (inside n t h i)) ∙ flag_one (installable G t))))

    -- "that node, and every node without outgoing conflict that has a run whose targets are all missing"
    pub missing_listed : (entry_in (node_entries T G) n).missing ≡ flag (is_unresolved (node_at G n) || is_lacking G (says_missing (node_entries T G)) n)
    missing_listed =
        entry_missing T G n h
        ∙ ap flag (missing_rule T valid G p.draws a n h
        ∙ ap (λ (b : Bool). is_unresolved (node_at G n) || b) (lacking_local G n (missing G) (says_missing (node_entries T G))
        (λ t i. sym (ap (λ (k : ℕ). eqb k 1) (entry_missing T G t (inside n t h i)) ∙ flag_one (missing G t)))))
