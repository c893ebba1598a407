-- The text of one edge of the graph text (conflict.rs: `graphviz`). Document 01: "Text is quoted there as it stands"; order 5 mends that, and
-- the texts themselves stay plain.
use Rattle.std.specs.Prelude.{Bool, true, cond, List, ◌++◌, ℕ}
use Rattle.basis.specs.Quote.{utf8}
use Rattle.records.specs.Tables.{Tables}
use Rattle.records.specs.Views.{name_text, solvable_name, version_text, set_text, requirement_text, reason_text}
use Rattle.store.specs.declared.ConflictNode.{ConflictNode}
use Rattle.store.specs.declared.ConflictNode.TheVariants as N
use Rattle.store.specs.declared.ConflictCause.TheVariants as K
use Rattle.store.specs.declared.ConflictEdge.{ConflictEdge}
use Rattle.store.specs.declared.ConflictEdge.TheVariants as W
use Rattle.store.specs.Graph.{is_unresolved}
use Rattle.display.specs.Quoted.{quoted}

-- "Solvable text: name, space, version"
unfoldable pub solvable_text : Tables → ℕ → List ℕ
solvable_text T s = name_text T (solvable_name T s) ++ utf8 " " ++ version_text T s

-- the text of an excluded node (conflict.rs, line 592)
unfoldable pub excluded_text : Tables → ℕ → List ℕ
excluded_text T r = utf8 "reason: " ++ reason_text T r

-- "The root is `<root>`", "unresolved", "reason: "
unfoldable pub node_text : Tables → ConflictNode → List ℕ
unfolding solvable_text excluded_text
node_text T N.Root = utf8 "<root>"
node_text T (N.Solvable s) = solvable_text T s
node_text T N.UnresolvedDependency = utf8 "unresolved"
node_text T (N.Excluded r) = excluded_text T r

-- the label of an edge (conflict.rs, lines 557 to 569)
unfoldable pub label : Tables → ConflictEdge → List ℕ
label T (W.Requires q) = requirement_text T q
label T (W.Conflict (K.Locked s)) = utf8 "already installed"
label T (W.Conflict (K.Constrains v)) = set_text T v
label T (W.Conflict K.ForbidMultipleInstances) = utf8 "already installed"
label T (W.Conflict K.Excluded) = utf8 "excluded"

-- black for a requirement that has a candidate, else red (conflict.rs, lines 550 to 555)
unfoldable pub is_red : ConflictEdge → ConflictNode → Bool
is_red (W.Requires q) x = is_unresolved x
is_red (W.Conflict c) x = true

-- the colour's name (conflict.rs, lines 552 and 554)
abbrev pub colour : Bool → List ℕ
colour red = cond red (utf8 "red") (utf8 "black")

-- what stands between target and label (conflict.rs, line 598)
unfoldable pub paint : Bool → List ℕ
paint red = utf8 "\"[color=" ++ colour red ++ utf8 ", label=\""

-- `"\"{}\" -> \"{}\"[color={color}, label=\"{label}\"];"`; order 5: "each double quote in a name, version, requirement, version set or reason is
-- preceded by a backslash". The other words of a node or label have no quote, and the quotes around them are not escaped.
unfoldable pub stroke : Tables → ConflictNode → ConflictNode → Bool → ConflictEdge → List ℕ
unfolding node_text label paint quoted
stroke T x y red w =
    utf8 "\"" ++ quoted (node_text T x) ++ utf8 "\" -> \"" ++ quoted (node_text T y) ++ paint red ++ quoted (label T w) ++ utf8 "\"];"
