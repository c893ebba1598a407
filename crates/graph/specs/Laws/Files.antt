-- What callers take from what a file makes.
use Rattle.std.specs.Prelude.{◌≡◌, refl, List, ℕ, Result, Ok, Err}
use Rattle.std.proofs.Math.Path.{sym, ap}
use Rattle.std.proofs.Common.{◌∙◌}
use Rattle.records.specs.Tables.{Tables}
use Rattle.records.specs.Read.{Reading, good, bad, read_of, tables_of}
use Rattle.index.specs.Index.{Loaded}
use Rattle.index.specs.Found.{loaded_good}
use Rattle.store.specs.declared.Size.{Size}
use Rattle.store.specs.Table.{graph_in, Stored}
use Rattle.links.specs.Build.{Chains}
use Rattle.graph.specs.Graphs.{drawn, refused, graph_of}
use Rattle.graph.specs.Files.{Made, outcome_by, outcome_of, made_in, Standing, Makes}

-- ---- for callers: what the answer tells them

module _ (file ix g w : List ℕ) (r : Made) (R : Makes file ix g w r) where
  module _ (s : Size) (e : r ≡ Ok s) where
    standing : Standing file ix g w (Ok s)
    standing = rw e at R.standing

    pub makes_loaded : Loaded file ix
    makes_loaded = standing.0

    pub makes_chains : Chains g s w
    makes_chains = standing.1

    pub makes_stored : Stored g s
    makes_stored = makes_chains.stored

    pub makes_good : read_of file ≡ good (tables_of file)
    makes_good = loaded_good file ix makes_loaded

    pub makes_graph : graph_of (tables_of file) ≡ drawn (graph_in g s)
    unfolding outcome_of
    makes_graph = ap outcome_by (sym makes_good) ∙ sym R.is ∙ ap (made_in g) e

  pub makes_outcome : (x : Made) → r ≡ x → made_in g x ≡ outcome_of file
  makes_outcome x e = ap (made_in g) (sym e) ∙ R.is

  -- a refusal comes from reading or from the graph; what is said of both in the same way, `of`, is said of the file
  pub makes_refused : {A : Type 0} (of : Reading → A) (denied : ℕ → ℕ → A) → ((k p : ℕ) → of (bad k p) ≡ denied k p)
      → ((T : Tables) (k p : ℕ) → graph_of T ≡ refused k p → of (good T) ≡ denied k p) → (k p : ℕ) → r ≡ Err (record { number = k; place = p }) → of (read_of file) ≡ denied k p
  unfolding outcome_of
  makes_refused {A} of denied f h k p e = go (read_of file) (sym R.is ∙ ap (made_in g) e)
    where
      go : (y : Reading) → outcome_by y ≡ refused k p → of y ≡ denied k p
      go (bad l i) z = let a : l ≡ k = cc in let b : i ≡ p = cc in rw (a, b) (f k p)
      go (good T) z = h T k p z
