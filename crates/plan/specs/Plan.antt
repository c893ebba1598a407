-- What `fmt_graph` shows of a labelled graph is fixed but for `reported`: the runs of each package, the kids of each run and the
-- kind of line of each package. Line numbers are conflict.rs's.
use Rattle.std.specs.Prelude.{Bool, true, false, cond, ◌&&◌, not, List, [], ◌∷◌, ◌++◌, map, reverse, ℕ, length, get_or, ltb, eqb}
use Rattle.basis.specs.Lists.{any, all, filter, has, is_nil, concat_map, upto}
use Rattle.records.specs.Tables.{Tables}
use Rattle.records.specs.Views.{name_text, solvable_name}
use Rattle.store.specs.declared.ConflictNode.{ConflictNode}
use Rattle.store.specs.declared.ConflictNode.TheVariants as N
use Rattle.store.specs.declared.ConflictCause.TheVariants as K
use Rattle.store.specs.declared.ConflictEdge.{ConflictEdge}
use Rattle.store.specs.declared.ConflictEdge.TheVariants as W
use Rattle.store.specs.declared.Edge.{Edge}
use Rattle.store.specs.Graph.{Graph, out, node_at, is_solvable, is_unresolved}
use Rattle.labels.specs.Runs.{Run, runs_of}
use Rattle.labels.specs.Labels.{installables}
use Rattle.groups.specs.Groups.{mates}
use Rattle.machine.specs.Machine.{Plan, State, start}

-- all that the text is made from: the tables, the graph, the installable nodes, and each node's group in node order
-- (`DisplayUnsat`, 842 to 848)
pub record Shown : Type 0 where
  pub tables : Tables
  pub graph : Graph
  pub installable : List ℕ
  pub groups : List (List ℕ)

-- `DisplayUnsat::new` (851 to 863): a solvable's name by its text
unfoldable pub shown_of : Tables → Graph → Shown
unfolding installables mates
shown_of T G =
    record {
      tables = T;
      graph = G;
      installable = installables G;
      groups = map (mates (λ s. name_text T (solvable_name T s)) G) (upto (length G.nodes) 0);
    }

-- what a package's line says (1109 to 1153)
pub data Kind : Type 0 where
  excluded : ℕ → Kind
  bare : Kind
  conflicting : Kind
  constraining : List ℕ → Kind
  requiring : Kind

-- ---- what an edge adds to its source's line

-- the reason of an Excluded edge (1090)
abbrev pub reason_by : ConflictNode → List ℕ
reason_by N.Root = []
reason_by (N.Solvable s) = []
reason_by N.UnresolvedDependency = []
reason_by (N.Excluded r) = r ∷ []

-- of an edge that leads to this node (1088 to 1096)
abbrev pub reasons_by : ConflictEdge → ConflictNode → List ℕ
reasons_by (W.Requires q) x = []
reasons_by (W.Conflict (K.Locked s)) x = []
reasons_by (W.Conflict (K.Constrains v)) x = []
reasons_by (W.Conflict K.ForbidMultipleInstances) x = []
reasons_by (W.Conflict K.Excluded) x = reason_by x

-- the edge forbids several versions of one package (1098 to 1099)
abbrev pub is_forbid : ConflictEdge → Bool
is_forbid (W.Requires q) = false
is_forbid (W.Conflict (K.Locked s)) = false
is_forbid (W.Conflict (K.Constrains v)) = false
is_forbid (W.Conflict K.ForbidMultipleInstances) = true
is_forbid (W.Conflict K.Excluded) = false

-- the version set of an edge that constrains (1125 to 1130)
abbrev pub sets_by : ConflictEdge → List ℕ
sets_by (W.Requires q) = []
sets_by (W.Conflict (K.Locked s)) = []
sets_by (W.Conflict (K.Constrains v)) = v ∷ []
sets_by (W.Conflict K.ForbidMultipleInstances) = []
sets_by (W.Conflict K.Excluded) = []

-- `dedup` (1131): one more in front, unless it stands there already
abbrev pub join_set : ℕ → List ℕ → List ℕ
join_set v [] = v ∷ []
join_set v (w ∷ ws) = cond (eqb v w) (w ∷ ws) (v ∷ w ∷ ws)

-- lines 1123 to 1131, `dedup`: equal neighbours once, after other edges are dropped
abbrev pub sets_of : List Edge → List ℕ
sets_of [] = []
sets_of (e ∷ es) = elim (sets_by e.weight) [ [] ↦ sets_of es | v ∷ vs ↦ join_set v (sets_of es) ]

-- lines 1122 and 1152: constrains or require
abbrev pub by_sets : List ℕ → Kind
by_sets [] = requiring
by_sets (v ∷ vs) = constraining (v ∷ vs)

-- lines 1109 to 1152: excluded, leaf, forbid, constrains, require
abbrev pub by_reasons : List Edge → List ℕ → Kind
by_reasons es (r ∷ rs) = excluded r
by_reasons es [] = cond (is_nil es) bare (cond (any (λ e. is_forbid e.weight) es) conflicting (by_sets (sets_of es)))

-- the line says "would require" (1153)
abbrev pub is_requiring : Kind → Bool
is_requiring (excluded r) = false
is_requiring bare = false
is_requiring conflicting = false
is_requiring (constraining vs) = false
is_requiring requiring = true

module _ (S : Shown) where
  -- `merged_candidates` (1070 to 1072), and for an unmerged package itself
  abbrev pub group_of : ℕ → List ℕ
  group_of n = get_or S.groups n []

  -- "A group has two or more"
  abbrev pub merged_shown : ℕ → Bool
  merged_shown n = ltb 1 (length (group_of n))

  -- one number a group, its first member's, as `Plan` asks for
  abbrev pub lead_shown : ℕ → ℕ
  lead_shown n = get_or (group_of n) 0 n

  -- `installable_nodes` (934)
  abbrev pub is_installable : ℕ → Bool
  is_installable n = has n S.installable

  -- lines 932 to 935: `installable`
  abbrev pub run_installable : Run → Bool
  run_installable r = any is_installable r.to

  -- lines 906 to 910 and 1162 to 1167, `sorted_by_key`: those with an installable target last, each kind in its old order
  abbrev pub sorted : List Run → List Run
  sorted rs = filter (λ r. not (run_installable r)) rs ++ filter run_installable rs

  -- the stack takes them in this order and gives them back from its end (924)
  abbrev pub popped : ℕ → List Run
  popped n = reverse (sorted (runs_of (out S.graph n)))

  -- lines 939 to 941, `missing`: one edge, and it leads to unresolved
  abbrev pub no_candidates : Run → Bool
  no_candidates r = eqb (length r.to) 1 && all (λ n. is_unresolved (node_at S.graph n)) r.to

  -- lines 963 to 974 and 1022 to 1030: the installable targets, or all where there are none, as far as they are
  -- solvables (983 to 986, 1039 to 1041)
  abbrev pub offered : Run → List ℕ
  offered r = filter (λ n. is_solvable (node_at S.graph n)) (cond (run_installable r) (filter is_installable r.to) r.to)

  -- lines 977 to 1000 and 1033 to 1054: of a merged group only the first; an unmerged one stays however often it comes
  abbrev pub dedup : List ℕ → List ℕ → List ℕ
  dedup [] seen = []
  dedup (n ∷ ns) seen =
      elim (has n seen) [ true ↦ dedup ns seen | false ↦ n ∷ dedup ns (cond (merged_shown n) (group_of n ++ seen) seen) ]

  -- "Two parallel edges to unresolved in one run take the 'no viable options' wording with no children"
  abbrev pub kids_of : Run → List ℕ
  kids_of r = cond (no_candidates r) [] (reverse (dedup (offered r) []))

  -- ---- lines 1087 to 1108: what a package's line is, by its outgoing edges, newest first

  -- lines 1086 to 1096: the reasons for which a package is excluded, newest edge first
  abbrev pub reasons_of : List Edge → List ℕ
  reasons_of es = concat_map (λ e. reasons_by e.weight (node_at S.graph e.target)) es

  -- lines 1109 to 1152, in this order: excluded, leaf, forbid, constrains, require
  abbrev pub line_kind : ℕ → Kind
  line_kind n = let es = out S.graph n in by_reasons es (reasons_of es)

  -- what `fmt_graph` asks of a labelled graph, as a `Plan`
  abbrev pub plan_of : Plan Run
  plan_of = record { opens = λ n. is_requiring (line_kind n); runs = popped; kids = kids_of; merged = merged_shown; lead = lead_shown }

  -- lines 893 to 922: "Top-level edges are the root's Requires edges"
  abbrev pub start_of : State Run
  start_of = start (popped 0)
