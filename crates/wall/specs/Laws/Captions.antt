-- "labels the texts of the graph text without escaping" (document 02, order 14): the captions are the plain texts that the graph text quotes.
use Rattle.std.specs.Prelude.{◌≡◌, refl}
use Rattle.records.specs.Tables.{Tables}
use Rattle.store.specs.declared.ConflictNode.{ConflictNode}
use Rattle.store.specs.declared.ConflictNode.TheVariants as N
use Rattle.store.specs.declared.ConflictCause.TheVariants as K
use Rattle.store.specs.declared.ConflictEdge.{ConflictEdge}
use Rattle.store.specs.declared.ConflictEdge.TheVariants as W
use Rattle.display.specs.Stroke.{node_text, solvable_text, excluded_text, label}
use Rattle.wall.specs.Captions.{node_caption, solvable_caption, excluded_caption, edge_caption}

pub node_caption_lem : (T : Tables) (x : ConflictNode) → node_caption T x ≡ node_text T x
unfolding node_caption solvable_caption excluded_caption node_text solvable_text excluded_text
node_caption_lem T N.Root = refl
node_caption_lem T (N.Solvable s) = refl
node_caption_lem T N.UnresolvedDependency = refl
node_caption_lem T (N.Excluded r) = refl

pub edge_caption_lem : (T : Tables) (w : ConflictEdge) → edge_caption T w ≡ label T w
unfolding edge_caption label
edge_caption_lem T (W.Requires q) = refl
edge_caption_lem T (W.Conflict (K.Locked s)) = refl
edge_caption_lem T (W.Conflict (K.Constrains v)) = refl
edge_caption_lem T (W.Conflict K.ForbidMultipleInstances) = refl
edge_caption_lem T (W.Conflict K.Excluded) = refl
