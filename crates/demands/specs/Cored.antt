-- The clauses' numbers that a host is shown (document 02, order 3): an edge's is a core clause's, "root and unresolved show 65,535".
use Rattle.std.specs.Prelude.{◌≡◌, true, ◌||◌, ℕ, eqb}
use Rattle.basis.specs.Members.{All}
use Rattle.records.specs.Tables.{Tables}
use Rattle.records.specs.Views.{core_at}
use Rattle.store.specs.Graph.{Graph}

pub record Cored (T : Tables) (G : Graph) : Type 0 where
  pub edges : All (λ e. core_at T e.clause ≡ true) G.edges
  pub firsts : All (λ c. eqb c 65535 || core_at T c ≡ true) G.firsts
