-- The ways through the code, each with what it leaves.
use Rattle.std.specs.Prelude.{◌≡◌, refl, List, ℕ, Ok, Err}
use Rattle.std.proofs.Common.{sym, ◌∙◌, arith}
use Rattle.std.proofs.Math.Path.{ap}
use Rattle.records.specs.Tables.{Tables}
use Rattle.records.specs.Read.{tables_of}
use Rattle.store.specs.declared.Size.{Size}
use Rattle.store.specs.Table.{graph_in}
use Rattle.graph.specs.Graphs.{Outcome, drawn, refused, graph_of}
use Rattle.graph.specs.Files.{Made, Makes}
use Rattle.graph.specs.Laws.Files.{makes_good, makes_graph, makes_refused}
use Rattle.lists.specs.declared.nodes.Counted.{Counted}
use Rattle.lists.specs.Nodes.{node_entries, Nodes, entered, denied, nodes_drawn, refusal_of}
use Rattle.lists.specs.Listed.{Listed}
use Rattle.whatif.specs.Asked.{question_of, ask_drawn, ask_tables}
use Rattle.whatif.specs.Asks.{Asks}
use Rattle.whatif.specs.Laws.Callers.{asks_drawn, asks_denied}
use Rattle.lists.specs.Asked.{asked_read, asked_nodes}

denied_listed : (X : Nodes) (room : ℕ) (l : List ℕ) (r : Counted) (k p : ℕ) → X ≡ denied k p → r ≡ refusal_of k p → Listed X room l r l
denied_listed X room l r k p e q = rw e (record { counted = q; written = refl; few = rw q (omega arith); narrow = tt })

-- m is what the question leaves
module _ (T : Tables) (X : Outcome) (g₀ w₀ m₀ g w ms : List ℕ) (m : Made) (A : Asks X g₀ w₀ m₀ g w ms m) (room : ℕ) (l : List ℕ) (r : Counted) where
  pub question_denied : (k p : ℕ) → m ≡ Err (record { number = k; place = p }) → r ≡ refusal_of k p → Listed (nodes_drawn T X) room l r l
  question_denied k p e h = denied_listed (nodes_drawn T X) room l r k p (ap (nodes_drawn T) (asks_denied X g₀ w₀ m₀ g w ms m A k p e)) h

  pub question_listed : (ws : List ℕ) (s : Size) → m ≡ Ok s → Listed (entered (node_entries T (graph_in g s))) room l r ws
      → Listed (nodes_drawn T X) room l r ws
  question_listed ws s e L = let x : nodes_drawn T X ≡ entered (node_entries T (graph_in g s)) = ap (nodes_drawn T) (asks_drawn X g₀ w₀ m₀ g w ms m A s e) in rw x L

-- m is what the file makes
module _ (file ix g w : List ℕ) (m : Made) (R : Makes file ix g w m) (s r : ℕ) (room : ℕ) (l : List ℕ) (c : Counted) where
  pub file_denied : (k p : ℕ) → m ≡ Err (record { number = k; place = p }) → c ≡ refusal_of k p → Listed (asked_nodes file s r) room l c l
  unfolding asked_nodes ask_tables
  file_denied k p e h =
      denied_listed (asked_nodes file s r) room l c k p
      (makes_refused file ix g w m R (asked_read s r) denied (λ i j. refl) (λ T i j z. ap (λ (o : Outcome). nodes_drawn T (ask_drawn T s r o)) z) k p e)
      h

  pub file_listed : (ws : List ℕ) (t : Size) → m ≡ Ok t → Listed (nodes_drawn (tables_of file) (question_of (tables_of file) (graph_in g t) s r)) room l c ws
      → Listed (asked_nodes file s r) room l c ws
  unfolding asked_nodes ask_tables
  file_listed ws t e L =
      let x : asked_nodes file s r ≡ nodes_drawn (tables_of file) (question_of (tables_of file) (graph_in g t) s r) =
      rw (makes_good file ix g w m R t e, makes_graph file ix g w m R t e) in
      rw x L
