-- The two labels (conflict.rs: `get_installable_set`, `get_missing_set`).
use Rattle.std.specs.Prelude.{Bool, true, false, cond, ◌&&◌, ◌||◌, not, List, [], ◌∷◌, map, reverse, ℕ, length, get_or, replicate}
use Rattle.basis.specs.Lists.{any, has}
use Rattle.store.specs.declared.Edge.{Edge}
use Rattle.store.specs.Graph.{Graph, out, into, node_at, is_unresolved, is_conflict, is_excluded}
use Rattle.labels.specs.Order.{through, visit, postorder}
use Rattle.labels.specs.Runs.{runs_of, every_run, some_run}

-- "targets taken oldest edge first"; outgoing edges are read newest first
unfoldable pub targets : Graph → ℕ → List ℕ
unfolding out
targets G n = map (λ e. e.target) (reverse (out G n))

-- "Labels follow post-order from the root". A graph has at most 128 nodes.
unfoldable pub order_of : Graph → List ℕ
unfolding targets postorder
order_of G = postorder (targets G) (length G.nodes) (replicate 128 0)

-- the edge is a conflict (conflict.rs, line 693)
abbrev pub conflicts : Edge → Bool
conflicts e = is_conflict e.weight

-- the edge is an Excluded one (conflict.rs, line 684)
abbrev pub excludes : Edge → Bool
excludes e = is_excluded e.weight

-- "not unresolved, no incoming Excluded edge, no outgoing conflict, in every run a target already installable":
-- `already` tells which nodes are
unfoldable pub can_install : Graph → (ℕ → Bool) → ℕ → Bool
unfolding out into
can_install G already n =
    not (is_unresolved (node_at G n)) && (not (any excludes (into G n)) && (not (any conflicts (out G n)) && every_run already (runs_of (out G n))))

-- "every node without outgoing conflict that has a run whose targets are all already missing"
unfoldable pub is_lacking : Graph → (ℕ → Bool) → ℕ → Bool
unfolding out
is_lacking G already n = not (any conflicts (out G n)) && some_run already (runs_of (out G n))

-- along an order: the nodes that pass are added to those that did, which are the "already" of both rules (conflict.rs, lines 673 to 718)
unfoldable pub passing : ((ℕ → Bool) → ℕ → Bool) → List ℕ → List ℕ → List ℕ
passing rule [] yet = yet
passing rule (n ∷ ns) yet = elim (rule (λ t. has t yet) n) [ true ↦ passing rule ns (n ∷ yet) | false ↦ passing rule ns yet ]

-- conflict.rs, `get_installable_set`
unfoldable pub installables : Graph → List ℕ
unfolding can_install passing order_of
installables G = passing (can_install G) (order_of G) []

-- "unresolved node 1", where it was not removed
abbrev pub has_unresolved : Graph → Bool
has_unresolved G = is_unresolved (node_at G 1)

-- "empty without an unresolved node; else that node, and .."
unfoldable pub missings : Graph → List ℕ
unfolding is_lacking passing order_of
missings G = cond (has_unresolved G) (passing (is_lacking G) (order_of G) (1 ∷ [])) []

-- node n is one of `installables`
abbrev pub installable : Graph → ℕ → Bool
installable G n = has n (installables G)

-- node n is one of `missings`
abbrev pub missing : Graph → ℕ → Bool
missing G n = has n (missings G)
