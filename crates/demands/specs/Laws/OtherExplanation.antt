-- Graphs that differ in clauses' numbers alone have the same explanation, turn by turn.
use Rattle.std.specs.Prelude.{◌≡◌, refl, Bool, true, false, cond, ℕ, length}
use Rattle.std.proofs.Math.Path.{ap, fun_ext}
use Rattle.std.proofs.Common.{◌∙◌}
use mathlib.Core.List.{List, [], ◌∷◌, ◌++◌, map, reverse}
use Rattle.std.proofs.Math.Option.{Option}
use Rattle.basis.specs.Lists.{any, is_nil, concat_map, upto}
use Rattle.basis.specs.Quote.{utf8}
use Rattle.records.specs.Tables.{Tables}
use Rattle.records.specs.Views.{name_text, solvable_name}
use Rattle.store.specs.declared.Edge.{Edge}
use Rattle.store.specs.Graph.{Graph, out, node_at}
use Rattle.labels.specs.Runs.{Run, runs_of}
use Rattle.labels.specs.Labels.{installables}
use Rattle.groups.specs.Groups.{mates}
use Rattle.machine.specs.Machine.{Plan, Entry, Op, requirement, candidate, start}
use Rattle.machine.specs.Units.{Result}
use Rattle.machine.specs.Explained.{explain}
use Rattle.machine.specs.Edition.{edited}
use Rattle.texts.specs.Indent.{indent}
use Rattle.plan.specs.Plan.{Shown, shown_of, Kind, excluded, bare, conflicting, constraining, requiring, reasons_by, is_forbid, sets_by, join_set, sets_of, by_sets}
use Rattle.plan.specs.Plan.{by_reasons, is_requiring, merged_shown, lead_shown, sorted, popped, kids_of, reasons_of, line_kind, plan_of, start_of}
use Rattle.plan.specs.Display.{solvable_of}
use Rattle.lines.specs.Lines.{top_of, set_line, set_lines, package_lines, lines_of}
use Rattle.explanation.specs.Explain.{explain_shown}
use Rattle.demands.specs.Other.{renoted, other}
use Rattle.demands.specs.Laws.OtherEdges.{some, runs_same, out_same}
use Rattle.demands.specs.Laws.OtherLabels.{installables_ignore}
use Rattle.demands.specs.Laws.OtherGroups.{mates_ignores}

module _ (f : Edge → ℕ) where
  nil_same : (es : List Edge) → is_nil (map (renoted f) es) ≡ is_nil es
  nil_same [] = refl
  nil_same (e ∷ es) = refl

  sets_same : (es : List Edge) → sets_of (map (renoted f) es) ≡ sets_of es
  sets_same [] = refl
  sets_same (e ∷ es) = go (sets_by e.weight) (sets_same es)
    where
      joined : List ℕ → List ℕ → List ℕ
      joined vs rest = elim vs [ [] ↦ rest | v ∷ ws ↦ join_set v rest ]

      go : (vs : List ℕ) → sets_of (map (renoted f) es) ≡ sets_of es → joined vs (sets_of (map (renoted f) es)) ≡ joined vs (sets_of es)
      go [] z = z
      go (v ∷ vs) z = ap (join_set v) z

  by_same : (es : List Edge) (rs : List ℕ) → by_reasons (map (renoted f) es) rs ≡ by_reasons es rs
  by_same es (r ∷ rs) = refl
  by_same es [] = rw (nil_same es, some f (λ e. is_forbid e.weight) (λ e. refl) es, sets_same es)

module _ (f : Edge → ℕ) (fs : List ℕ) (h : ℕ) (T : Tables) (G : Graph) (is : List ℕ) (gs : List (List ℕ)) where
  -- both graphs with the same labels and groups
  abbrev S : Shown
  S = record { tables = T; graph = G; installable = is; groups = gs }

  abbrev R : Shown
  R = record { tables = T; graph = other f fs h G; installable = is; groups = gs }

  reasons_same : (es : List Edge) → reasons_of R (map (renoted f) es) ≡ reasons_of S es
  reasons_same [] = refl
  reasons_same (e ∷ es) = ap (λ (l : List ℕ). reasons_by e.weight (node_at G e.target) ++ l) (reasons_same es)

  kind_same : (n : ℕ) → line_kind R n ≡ line_kind S n
  kind_same n =
      ap (λ (es : List Edge). by_reasons es (reasons_of R es)) (out_same f fs h G n)
      ∙ ap (by_reasons (map (renoted f) (out G n))) (reasons_same (out G n))
      ∙ by_same f (out G n) (reasons_of S (out G n))

  popped_same : (n : ℕ) → popped R n ≡ popped S n
  popped_same n = ap (λ (rs : List Run). reverse (sorted S rs)) (ap runs_of (out_same f fs h G n) ∙ runs_same f (out G n))

  abbrev plan_by : (ℕ → Kind) → (ℕ → List Run) → Plan Run
  plan_by k rs = record { opens = λ n. is_requiring (k n); runs = rs; kids = kids_of S; merged = merged_shown S; lead = lead_shown S }

  plan_same : plan_of R ≡ plan_of S
  plan_same = ap (λ (k : ℕ → Kind). plan_by k (popped R)) (fun_ext kind_same) ∙ ap (plan_by (line_kind S)) (fun_ext popped_same)

  sets_lines : (opt : ℕ) (ms : List Bool) (vs : List ℕ) → set_lines R opt ms vs ≡ set_lines S opt ms vs
  sets_lines opt ms [] = refl
  sets_lines opt ms (v ∷ vs) = ap (λ (l : List (List ℕ)). (indent (top_of opt) (is_nil vs ∷ ms) ++ set_line S v ++ utf8 "\n") ∷ l) (sets_lines opt ms vs)

  package_same : (opt : ℕ) (ms : List Bool) (n : ℕ) (k : Kind) → package_lines R opt ms n k ≡ package_lines S opt ms n k
  package_same opt ms n (excluded r) = refl
  package_same opt ms n bare = refl
  package_same opt ms n conflicting = refl
  package_same opt ms n (constraining vs) = ap (λ (l : List (List ℕ)). package_lines S opt ms n (constraining []) ++ l) (sets_lines opt ms vs)
  package_same opt ms n requiring = refl

  lines_same : (opt : ℕ) (e : Entry Run) → lines_of R opt e ≡ lines_of S opt e
  lines_same opt e = go e.op
    where
      go : (o : Op Run) → lines_of R opt (record { op = o; marks = e.marks; branch = e.branch })
          ≡ lines_of S opt (record { op = o; marks = e.marks; branch = e.branch })
      go (requirement r) = refl
      go (candidate n) = ap (package_lines R opt e.marks n) (kind_same n) ∙ package_same opt e.marks n (line_kind S n)

  shown_same : (ed n opt room : ℕ) → explain_shown ed n R opt room ≡ explain_shown ed n S opt room
  shown_same ed n opt room =
      ap (λ (P : Plan Run). explain (edited ed P) (lines_of R opt) (solvable_of S) n (start_of R) room) plan_same
      ∙ ap (λ (ls : Entry Run → List (List ℕ)). explain (edited ed (plan_of S)) ls (solvable_of S) n (start_of R) room) (fun_ext (lines_same opt))
      ∙ ap (λ (rs : List Run). explain (edited ed (plan_of S)) (lines_of S opt) (solvable_of S) n (start rs) room) (popped_same 0)

module _ (f : Edge → ℕ) (fs : List ℕ) (h : ℕ) (T : Tables) (G : Graph) where
  abbrev shown_by : List ℕ → (ℕ → List ℕ) → Shown
  shown_by is k = record { tables = T; graph = other f fs h G; installable = is; groups = map k (upto (length G.nodes) 0) }

  abbrev name : ℕ → List ℕ
  name s = name_text T (solvable_name T s)

  labelled_same : shown_of T (other f fs h G) ≡ shown_by (installables G) (mates name G)
  unfolding shown_of
  labelled_same =
      ap (λ (is : List ℕ). shown_by is (mates name (other f fs h G))) (installables_ignore f fs h G)
      ∙ ap (shown_by (installables G)) (fun_ext (mates_ignores f fs h G name))

  -- by the rules of either edition; n: however many turns are taken
  pub explain_ignores : (ed n opt room : ℕ) → explain_shown ed n (shown_of T (other f fs h G)) opt room ≡ explain_shown ed n (shown_of T G) opt room
  unfolding shown_of
  explain_ignores ed n opt room =
      ap (λ (x : Shown). explain_shown ed n x opt room) labelled_same
      ∙ shown_same f fs h T G (installables G) (map (mates name G) (upto (length G.nodes) 0)) ed n opt room
