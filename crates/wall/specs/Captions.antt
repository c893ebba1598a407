-- The plain texts of nodes and edges (document 02, order 14): "labels the texts of the graph text without escaping; unresolved shows as
-- unresolved and an excluded node as "reason: " and its text".
use Rattle.std.specs.Prelude.{List, ◌++◌, ℕ}
use Rattle.basis.specs.Quote.{utf8}
use Rattle.records.specs.Tables.{Tables}
use Rattle.records.specs.Views.{name_text, solvable_name, version_text, set_text, requirement_text, reason_text}
use Rattle.store.specs.declared.ConflictNode.{ConflictNode}
use Rattle.store.specs.declared.ConflictNode.TheVariants as N
use Rattle.store.specs.declared.ConflictCause.TheVariants as K
use Rattle.store.specs.declared.ConflictEdge.{ConflictEdge}
use Rattle.store.specs.declared.ConflictEdge.TheVariants as W

-- "Solvable text: name, space, version" (document 01)
unfoldable pub solvable_caption : Tables → ℕ → List ℕ
solvable_caption T s = name_text T (solvable_name T s) ++ utf8 " " ++ version_text T s

-- "an excluded node as 'reason: ' and its text"
unfoldable pub excluded_caption : Tables → ℕ → List ℕ
excluded_caption T r = utf8 "reason: " ++ reason_text T r

-- "labels the texts of the graph text without escaping; unresolved shows as unresolved"
unfoldable pub node_caption : Tables → ConflictNode → List ℕ
unfolding solvable_caption excluded_caption
node_caption T N.Root = utf8 "<root>"
node_caption T (N.Solvable s) = solvable_caption T s
node_caption T N.UnresolvedDependency = utf8 "unresolved"
node_caption T (N.Excluded r) = excluded_caption T r

-- "labels the texts of the graph text without escaping": `label`
unfoldable pub edge_caption : Tables → ConflictEdge → List ℕ
edge_caption T (W.Requires q) = requirement_text T q
edge_caption T (W.Conflict (K.Locked s)) = utf8 "already installed"
edge_caption T (W.Conflict (K.Constrains v)) = set_text T v
edge_caption T (W.Conflict K.ForbidMultipleInstances) = utf8 "already installed"
edge_caption T (W.Conflict K.Excluded) = utf8 "excluded"
