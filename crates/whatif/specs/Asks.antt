-- What `ask` leaves of a drawn graph: the graph asked for with its chains and labels, or, on a refusal, everything as it was.
use Rattle.std.specs.Prelude.{◌≡◌, refl, List, ℕ, Ok, Err}
use Rattle.std.proofs.Common.{sym, ap, ◌∙◌}
use Rattle.basis.specs.Members.{clash}
use Rattle.store.specs.declared.Size.{Size}
use Rattle.store.specs.Graph.{Graph}
use Rattle.store.specs.Table.{graph_in}
use Rattle.store.specs.Exact.{size_one, table_one}
use Rattle.links.specs.Build.{Chains, chains_of}
use Rattle.labels.specs.Marks.{label_bits}
use Rattle.graph.specs.Files.{Made}
use Rattle.graph.specs.Exact.{refused_same}
use Rattle.graph.specs.Graphs.{Outcome, drawn, refused}

-- X is what the question gives; g₀, w₀ and m₀ are the graph's table, its chains and the marks before, g, w and ms after
abbrev pub Leaves : Outcome → List ℕ → List ℕ → List ℕ → List ℕ → List ℕ → List ℕ → Made → Type 0
Leaves X g₀ w₀ m₀ g w ms (Ok s) = (X ≡ drawn (graph_in g s)) × (Chains g s w) × (w ≡ chains_of g s w₀) × (ms ≡ label_bits (graph_in g s))
Leaves X g₀ w₀ m₀ g w ms (Err e) = (X ≡ refused e.number e.place) × (g ≡ g₀) × (w ≡ w₀) × (ms ≡ m₀)

pub record Asks (X : Outcome) (g₀ w₀ m₀ g w ms : List ℕ) (r : Made) : Type 0 where
  pub leaves : Leaves X g₀ w₀ m₀ g w ms r

-- two results that it allows are equal
module _ (X : Outcome) (g₀ w₀ m₀ g w ms h v ns : List ℕ) where
  both : (s t : Size) → Leaves X g₀ w₀ m₀ g w ms (Ok s) → Leaves X g₀ w₀ m₀ h v ns (Ok t) → ◌≡◌ {A = Made} (Ok s) (Ok t) × (g ≡ h) × (w ≡ v) × (ms ≡ ns)
  both s t L N =
      let z : drawn (graph_in g s) ≡ drawn (graph_in h t) = sym L.0 ∙ N.0 in
      let q : graph_in g s ≡ graph_in h t = cc in
      let a : s ≡ t = size_one g h s t L.1.stored N.1.stored q in
      let b : g ≡ h = table_one g h s t L.1.stored N.1.stored q in
      (ap Ok a, b, L.2 ∙ rw (a, b) (sym N.2), L.3 ∙ ap label_bits q ∙ sym N.3)

  one_leaves : (r q : Made) → Leaves X g₀ w₀ m₀ g w ms r → Leaves X g₀ w₀ m₀ h v ns q → (r ≡ q) × (g ≡ h) × (w ≡ v) × (ms ≡ ns)
  one_leaves (Ok s) (Ok t) L N = both s t L N
  one_leaves (Ok s) (Err q) L N = let z : drawn (graph_in g s) ≡ refused q.number q.place = sym L.0 ∙ N.0 in clash (cc)
  one_leaves (Err r) (Ok t) L N = let z : refused r.number r.place ≡ drawn (graph_in h t) = sym L.0 ∙ N.0 in clash (cc)
  one_leaves (Err r) (Err q) L N =
      let z : refused r.number r.place ≡ refused q.number q.place = sym L.0 ∙ N.0 in
      let a : r.number ≡ q.number = cc in
      let b : r.place ≡ q.place = cc in
      (ap Err (refused_same r q a b), L.1 ∙ sym N.1, L.2 ∙ sym N.2, L.3 ∙ sym N.3)

pub asks_one : (X : Outcome) (g₀ w₀ m₀ g w ms h v ns : List ℕ) (r q : Made) → Asks X g₀ w₀ m₀ g w ms r → Asks X g₀ w₀ m₀ h v ns q → (r ≡ q) × (g ≡ h) × (w ≡ v)
    × (ms ≡ ns)
asks_one X g₀ w₀ m₀ g w ms h v ns r q A B = one_leaves X g₀ w₀ m₀ g w ms h v ns r q A.leaves B.leaves
