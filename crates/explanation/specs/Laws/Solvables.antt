-- A drawn graph has a node and at most 126 solvables.
use Rattle.std.specs.Prelude.{◌≡◌, refl, List, [], ◌∷◌, ℕ, suc, ◌+◌, ◌<◌, ◌≤◌, length, get_or}
use Rattle.std.proofs.Common.{sym, ap, ◌∙◌, arith}
use Rattle.basis.specs.Lists.{filter, upto}
use Rattle.basis.specs.Members.{split}
use Rattle.records.specs.Tables.{Tables}
use Rattle.store.specs.declared.ConflictNode.{ConflictNode}
use Rattle.store.specs.declared.ConflictNode.TheVariants as N
use Rattle.store.specs.Graph.{Graph, is_solvable, node_at}
use Rattle.groups.specs.Counts.{solvables}
use Rattle.shape.specs.Graphed.{Graphed}

count_solvables : (ns : List ConflictNode) (f : ℕ → ConflictNode) (a : ℕ) → ((i : ℕ) → i < length ns → f (a + i) ≡ get_or ns i N.Root)
    → length (filter (λ n. is_solvable (f n)) (upto (length ns) a)) ≡ length (filter is_solvable ns)
count_solvables [] f a h = refl
count_solvables (x ∷ ns) f a h =
    let e : f a ≡ x = (let z : a + 0 ≡ a = omega arith in ap f (sym z) ∙ h 0 (omega arith)) in
    let r = count_solvables ns f (suc a) (λ i l. let z : suc a + i ≡ a + suc i = omega arith in ap f z ∙ h (suc i) (omega arith)) in
    split (is_solvable x)
    (λ q. rw (e, q, filter) (ap suc r))
    (λ q. rw (e, q, filter) r)

pub solvables_most : (T : Tables) (G : Graph) → Graphed T G → length (solvables G) ≤ 126
unfolding solvables
solvables_most T G g =
    let e = count_solvables G.nodes (node_at G) 0 (λ i l. let z : 0 + i ≡ i = omega arith in ap (node_at G) z) in
    let m = g.solvables_most in
    rw e m

pub some_node : (T : Tables) (G : Graph) → Graphed T G → 0 < length G.nodes
some_node T G g = rw g.nodes_are (omega arith)
