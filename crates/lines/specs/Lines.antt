-- The lines of an entry: the `writeln!`s of `fmt_graph`, each with its newline. Line numbers are conflict.rs's.
use Rattle.std.specs.Prelude.{Bool, cond, List, [], ◌∷◌, ◌++◌, ℕ, eqb}
use Rattle.basis.specs.Lists.{is_nil}
use Rattle.basis.specs.Quote.{utf8}
use Rattle.records.specs.Views.{name_text, set_name, set_text, requirement_text, reason_text}
use Rattle.labels.specs.Runs.{Run}
use Rattle.machine.specs.Machine.{Entry, requirement, candidate}
use Rattle.texts.specs.Indent.{indent, at_top}
use Rattle.plan.specs.Plan.{Shown, run_installable, no_candidates, Kind, excluded, bare, conflicting, constraining, requiring, line_kind}
use Rattle.plan.specs.Display.{package_text}

-- "Option 1 indents the top level"
abbrev pub top_of : ℕ → Bool
top_of opt = eqb opt 1

module _ (S : Shown) where
  -- lines 942 to 1020
  abbrev pub run_line : Bool → Run → List ℕ
  run_line top r =
      let q = requirement_text S.tables r.req in
      cond (no_candidates S r)
      (cond top (utf8 "No candidates were found for " ++ q ++ utf8 ".") (q ++ utf8 ", for which no candidates were found."))
      (cond (run_installable S r)
      (q ++ cond top (utf8 " can be installed with any of the following options:") (utf8 ", which can be installed with any of the following options:"))
      (q ++ cond top (utf8 " cannot be installed because there are no viable options:")
      (utf8 ", which cannot be installed because there are no viable options:")))

  -- lines 1138 to 1150
  abbrev pub set_line : ℕ → List ℕ
  set_line v =
      name_text S.tables (set_name S.tables v) ++ utf8 " " ++ set_text S.tables v
      ++ utf8 ", which conflicts with any installable versions previously reported"

  -- lines 1136 to 1151; "under 'would constrain' the final line is" last
  abbrev pub set_lines : ℕ → List Bool → List ℕ → List (List ℕ)
  set_lines opt ms [] = []
  set_lines opt ms (v ∷ vs) = (indent (top_of opt) (is_nil vs ∷ ms) ++ set_line v ++ utf8 "\n") ∷ set_lines opt ms vs

  -- lines 1109 to 1153
  abbrev pub package_lines : ℕ → List Bool → ℕ → Kind → List (List ℕ)
  package_lines opt ms n (excluded r) =
      (indent (top_of opt) ms ++ package_text S n ++ utf8 " is excluded because " ++ reason_text S.tables r ++ utf8 "\n") ∷ []
  package_lines opt ms n bare = (indent (top_of opt) ms ++ package_text S n ++ utf8 "\n") ∷ []
  package_lines opt ms n conflicting = (indent (top_of opt) ms ++ package_text S n ++ utf8 ", which conflicts with the versions reported above.\n") ∷ []
  package_lines opt ms n (constraining vs) = (indent (top_of opt) ms ++ package_text S n ++ utf8 " would constrain\n") ∷ set_lines opt ms vs
  package_lines opt ms n requiring = (indent (top_of opt) ms ++ package_text S n ++ utf8 " would require\n") ∷ []

  -- line 928: the lines of a requirement or of a candidate
  abbrev pub lines_of : ℕ → Entry Run → List (List ℕ)
  lines_of opt e =
      elim e.op [
        | requirement r ↦ (indent (top_of opt) e.marks ++ run_line (at_top e.marks) r ++ utf8 "\n") ∷ []
        | candidate n ↦ package_lines opt e.marks n (line_kind S n)
      ]
