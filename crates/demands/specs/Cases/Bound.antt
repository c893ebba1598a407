-- Demand 3's bound as a function of the file's bytes, and the depth of every answer within it.
use Rattle.std.specs.Prelude.{◌≡◌, refl, true, List, ℕ, ◌≤◌, length, leb}
use Rattle.std.proofs.Common.{sym, ◌∙◌, zero-le, leb-true}
use Rattle.std.proofs.Math.Option.{some}
use Rattle.basis.specs.Members.{split}
use Rattle.records.specs.Shapes.{cut, shape_of}
use Rattle.records.specs.Tables.{Tables}
use Rattle.records.specs.Read.{Reading, good, bad, read_from, read_of}
use Rattle.store.specs.Graph.{Graph}
use Rattle.groups.specs.Counts.{solvables}
use Rattle.graph.specs.Graphs.{Outcome, drawn, refused, graph_of}
use Rattle.machine.specs.Units.{Result}
use Rattle.machine.specs.Bound.{most}
use Rattle.machine.specs.Count.{groups, unmerged}
use Rattle.plan.specs.Plan.{shown_of, plan_of}
use Rattle.explanation.specs.Explain.{refusal, explain_file, explain_edition, explain_tables}
use Rattle.explanation.specs.Contract.{Drawn}
use Rattle.explanation.specs.Laws.Contract.{the_bound, file_depth}
use Rattle.calls.specs.declared.Answer.{Answer}
use Rattle.calls.specs.Says.{Says, result_by}

-- "the bound g + (g + 1) × u", with g groups and u unmerged packages among the solvable nodes; 0 where no graph is drawn
abbrev bound_in : Tables → Outcome → ℕ
bound_in T (refused k p) = 0
bound_in T (drawn G) = let P = plan_of (shown_of T G) in most P (groups P (solvables G)) (unmerged P (solvables G))

abbrev bound_read : Reading → ℕ
bound_read (bad k p) = 0
bound_read (good T) = bound_in T (graph_of T)

unfoldable pub bound_of : List ℕ → ℕ
unfolding cut shape_of read_from read_of graph_of shown_of solvables
bound_of file = bound_read (read_of file)

-- it is the contract's
pub the_bound_lem : (file : List ℕ) (opt : ℕ) (T : Tables) (G : Graph) (x : Drawn 1 file opt T G) → the_bound 1 file opt T G x ≡ bound_of file
unfolding bound_of
the_bound_lem file opt T G x = rw (x.tables, x.graph) refl

-- no answer that the contract allows is deeper
module _ (file : List ℕ) (opt : ℕ) (out left : List ℕ) (r : Answer) (S : Says 1 file opt out left r) where
  shallow : (k p : ℕ) → explain_file S.is.turns file opt (length out) ≡ some (refusal k p) → r.depth ≤ bound_of file
  shallow k p e =
      let z : r.depth ≡ 0 = same (sym S.is.so ∙ e) in
      rw z zero-le
    where
      same : {x y : Result} → some x ≡ some y → x.depth ≡ y.depth
      same q = cc

  pub says_deep : r.depth ≤ bound_of file
  says_deep = split (leb opt 1) (λ o. reading o (read_of file) refl) (λ o. shallow 12 0 (rw (o, explain_edition)))
    where
      outcome : (T : Tables) → leb opt 1 ≡ true → read_of file ≡ good T → (o : Outcome) → graph_of T ≡ o → r.depth ≤ bound_of file
      outcome T o t (refused k p) g = shallow k p (rw (o, explain_edition, t, g, explain_tables))
      outcome T o t (drawn G) g =
          let d : Drawn 1 file opt T G = record { edition = refl; option = leb-true opt 1 o; tables = t; graph = g } in
          rw (← the_bound_lem file opt T G d) (file_depth 1 file opt T G d (length out) (result_by r S.text) S.is)

      reading : leb opt 1 ≡ true → (y : Reading) → read_of file ≡ y → r.depth ≤ bound_of file
      reading o (bad k p) t = shallow k p (rw (o, explain_edition, t))
      reading o (good T) t = outcome T o t (graph_of T) refl
