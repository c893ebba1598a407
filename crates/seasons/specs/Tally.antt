-- What a file's graph adds to a season's report (document 02, order 8): "totals of nodes, edges, groups, missing nodes".
use Rattle.std.specs.Prelude.{Bool, true, false, ◌&&◌, List, ℕ, ◌+◌, ◌-◌, length, eqb}
use Rattle.basis.specs.Lists.{filter, upto}
use Rattle.records.specs.Tables.{Tables}
use Rattle.records.specs.Views.{name_text, solvable_name}
use Rattle.records.specs.Read.{Reading, good, bad, read_of}
use Rattle.store.specs.declared.Size.{Size}
use Rattle.store.specs.Graph.{Graph}
use Rattle.graph.specs.Graphs.{Outcome, drawn, refused, graph_of}
use Rattle.labels.specs.Labels.{missings, missing}
use Rattle.labels.specs.Marks.{miss_at}
use Rattle.groups.specs.Groups.{groups}
use Rattle.plan.specs.Fields.{merged_in, lead_in}
use Rattle.seasons.specs.declared.tally.Counts.{Counts}

-- "missing nodes": those that are labelled so
unfoldable pub missing_nodes : Graph → List ℕ
unfolding missings
missing_nodes G = filter (missing G) (upto (length G.nodes) 0)

-- "totals of nodes, edges, groups, missing nodes"
unfoldable pub counts_of : Tables → Graph → Counts
unfolding groups missing_nodes
counts_of T G =
    record {
      nodes = length G.nodes;
      edges = length G.edges;
      groups = length (groups (λ s. name_text T (solvable_name T s)) G);
      missing = length (missing_nodes G);
    }

-- "A file refused with 1 to 9 or 12 adds nothing but its refusal"
abbrev pub no_counts : Counts
no_counts = record { nodes = 0; edges = 0; groups = 0; missing = 0 }

-- `file_counts` of a file that is read: 7 to 9 add nothing
abbrev pub counts_drawn : Tables → Outcome → Counts
counts_drawn T (drawn G) = counts_of T G
counts_drawn T (refused k p) = no_counts

-- `file_counts`, by what reading says: 1 to 6 add nothing
abbrev pub counts_read : Reading → Counts
counts_read (bad k p) = no_counts
counts_read (good T) = counts_drawn T (graph_of T)

-- "its graph counts"
unfoldable pub file_counts : List ℕ → Counts
unfolding read_of graph_of counts_of
file_counts file = counts_read (read_of file)

-- ---- what the code computes over the tables

-- one more where t
abbrev pub bumped : ℕ → Bool → ℕ
bumped c true = c + 1
bumped c false = c

-- how many numbers from i up to n pass
unfoldable pub passing : (ℕ → Bool) → ℕ → ℕ → ℕ
passing p n i = length (filter p (upto (n - i) i))

-- "A group has two or more"; it is counted at its first member
unfoldable pub leads_in : List ℕ → ℕ → Bool
unfolding merged_in lead_in
leads_in p n = merged_in p n && eqb (lead_in p n) n

unfoldable pub counts_in : List ℕ → List ℕ → Size → Counts
unfolding passing leads_in miss_at
counts_in p ms s =
    record { nodes = s.nodes; edges = s.edges; groups = passing (leads_in p) s.nodes 0; missing = passing (miss_at ms) s.nodes 0 }
