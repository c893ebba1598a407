-- What `expand` promises determines its answer and every word of the graph's table; of the triples' table and its chains it fixes what
-- they stand for.
use Rattle.std.specs.Prelude.{◌≡◌, refl, List, ℕ, length, take, Result, Ok, Err}
use Rattle.std.proofs.Common.{sym, ap, ◌∙◌, length-take-le}
use Rattle.std.proofs.lemmas.List.{length-map}
use Rattle.basis.specs.Members.{clash}
use Rattle.store.specs.declared.Size.{Size}
use Rattle.store.specs.Graph.{Graph}
use Rattle.store.specs.Table.{graph_in}
use Rattle.store.specs.Exact.{size_one, table_one, full_same}
use Rattle.expansion.specs.Triple.{Triple}
use Rattle.expansion.specs.Hashed.{triple_of, Triples, made_in, last_in, held}
use Rattle.expansion.specs.declared.Work.{Work}
use Rattle.store.specs.declared.Full.{Full}
use Rattle.expansion.specs.Expand.{Build}
use Rattle.expansion.specs.Working.{StepSoFar, on_to, stop_at}
use Rattle.expansion.specs.Lasts.{lasts_one}
use Rattle.expansion.specs.State.{build_in, Holds, Expanded}

made_count : (tr w : List ℕ) (n : ℕ) → Triples tr w n → length (made_in tr n) ≡ n
unfolding made_in
made_count tr w n T = length-map (take n tr) triple_of ∙ length-take-le n tr (held tr w n T)

work_one : (g h tr us w m : List ℕ) (k j : Work) → Holds g tr w k → Holds h us m j → build_in g tr w k ≡ build_in h us m j → k ≡ j
work_one g h tr us w m k j H I e =
    let a : k.size ≡ j.size = size_one g h k.size j.size H.growing.stored I.growing.stored (ap (λ (b : Build). b.graph) e) in
    let b : k.triples ≡ j.triples =
    sym (made_count tr w k.triples H.triples) ∙ ap (λ (b : Build). length b.made) e ∙ made_count us m j.triples I.triples in
    ap (λ (s : Size). worked s k.triples) a ∙ ap (worked j.size) b
  where
    worked : Size → ℕ → Work
    worked s n = record { size = s; triples = n }

module _ (X : StepSoFar) (g h tr us w m : List ℕ) where
  pub expanded_one : (r q : Result Work Full) → Expanded X g tr w r → Expanded X h us m q → (r ≡ q) × (g ≡ h)
  expanded_one (Ok k) (Ok j) R Q =
      let z : on_to (build_in g tr w k) ≡ on_to (build_in h us m j) = R.is ∙ sym Q.is in
      let e : build_in g tr w k ≡ build_in h us m j = cc in (
        ap Ok (work_one g h tr us w m k j R.holds Q.holds e),
        table_one g h k.size j.size R.holds.growing.stored Q.holds.growing.stored (ap (λ (b : Build). b.graph) e),
      )
  expanded_one (Err s) (Err t) R Q =
      let z : stop_at (graph_in g s.size) ≡ stop_at (graph_in h t.size) = R.is ∙ sym Q.is in
      let e : graph_in g s.size ≡ graph_in h t.size = cc in (
        ap Err (full_same s t (size_one g h s.size t.size R.holds.stored Q.holds.stored e)),
        table_one g h s.size t.size R.holds.stored Q.holds.stored e,
      )
  expanded_one (Ok k) (Err t) R Q = let z : on_to (build_in g tr w k) ≡ stop_at (graph_in h t.size) = R.is ∙ sym Q.is in clash (cc)
  expanded_one (Err s) (Ok j) R Q = let z : stop_at (graph_in g s.size) ≡ on_to (build_in h us m j) = R.is ∙ sym Q.is in clash (cc)

  -- the triples made, and the last solvable of each name, where it goes on
  pub expanded_made : (k j : Work) → Expanded X g tr w (Ok k) → Expanded X h us m (Ok j) → (made_in tr k.triples ≡ made_in us j.triples)
      × (last_in w ≡ last_in m)
  expanded_made k j R Q =
      let z : on_to (build_in g tr w k) ≡ on_to (build_in h us m j) = R.is ∙ sym Q.is in
      let e : build_in g tr w k ≡ build_in h us m j = cc in
      (ap (λ (b : Build). b.made) e, lasts_one w m (ap (λ (b : Build). b.last) e))
