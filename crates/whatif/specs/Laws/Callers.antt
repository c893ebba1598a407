-- What the answer of `ask` tells its callers.
use Rattle.std.specs.Prelude.{◌≡◌, refl, List, ℕ, Ok, Err}
use Rattle.std.proofs.Common.{sym, ap, ◌∙◌}
use Rattle.store.specs.declared.Size.{Size}
use Rattle.store.specs.Table.{graph_in}
use Rattle.links.specs.Build.{Chains}
use Rattle.labels.specs.Marks.{label_bits}
use Rattle.graph.specs.Files.{Made}
use Rattle.graph.specs.Graphs.{Outcome, drawn, refused}
use Rattle.whatif.specs.Asks.{Leaves, Asks}

module _ (X : Outcome) (g₀ w₀ m₀ g w ms : List ℕ) (m : Made) (A : Asks X g₀ w₀ m₀ g w ms m) where
  module _ (s : Size) (e : m ≡ Ok s) where
    whole : Leaves X g₀ w₀ m₀ g w ms (Ok s)
    whole = rw e at A.leaves

    pub asks_drawn : X ≡ drawn (graph_in g s)
    asks_drawn = whole.0

    pub asks_chains : Chains g s w
    asks_chains = whole.1

    pub asks_marks : ms ≡ label_bits (graph_in g s)
    asks_marks = whole.3

  pub asks_denied : (k p : ℕ) → m ≡ Err (record { number = k; place = p }) → X ≡ refused k p
  asks_denied k p e = (rw e at A.leaves).0
