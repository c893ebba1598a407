-- What `Grew` promises determines the answer and every word of the graph's table.
use Rattle.std.specs.Prelude.{◌≡◌, refl, List, ℕ, Result, Ok, Err}
use Rattle.std.proofs.Common.{sym, ap, ◌∙◌}
use Rattle.basis.specs.Members.{clash}
use Rattle.store.specs.declared.Size.{Size}
use Rattle.store.specs.Graph.{Graph}
use Rattle.store.specs.Table.{graph_in, Stored}
use Rattle.store.specs.Exact.{table_one, size_one, full_same}
use Rattle.store.specs.declared.Full.{Full}
use Rattle.linking.specs.Working.{LinkedSoFar, more_to, short_at}
use Rattle.linking.specs.Growth.{grown_in, Grew}

pub grew_one : (W : LinkedSoFar) (g h : List ℕ) (r q : Result Size Full) → Grew W g r → Grew W h q → (r ≡ q) × (g ≡ h)
grew_one W g h (Ok s) (Ok t) R Q =
    let z : more_to (graph_in g s) ≡ more_to (graph_in h t) = R.is ∙ sym Q.is in
    let e : graph_in g s ≡ graph_in h t = cc in
    (ap Ok (size_one g h s t R.growing.stored Q.growing.stored e), table_one g h s t R.growing.stored Q.growing.stored e)
grew_one W g h (Err s) (Err t) R Q =
    let z : short_at (graph_in g s.size) ≡ short_at (graph_in h t.size) = R.is ∙ sym Q.is in
    let e : graph_in g s.size ≡ graph_in h t.size = cc in (
      ap Err (full_same s t (size_one g h s.size t.size R.growing.stored Q.growing.stored e)),
      table_one g h s.size t.size R.growing.stored Q.growing.stored e,
    )
grew_one W g h (Ok s) (Err t) R Q = let z : more_to (graph_in g s) ≡ short_at (graph_in h t.size) = R.is ∙ sym Q.is in clash (cc)
grew_one W g h (Err s) (Ok t) R Q = let z : short_at (graph_in g s.size) ≡ more_to (graph_in h t) = R.is ∙ sym Q.is in clash (cc)
