-- Edition 2: "refusal 11 is never given, and all openings in the whole text together are at most g + u".
use Rattle.std.specs.Prelude.{◌≡◌, Bool, false, cond, List, [], ◌∷◌, ◌++◌, map, ℕ, zero, suc, ◌+◌, ◌≤◌, length, take}
use Rattle.std.proofs.Math.Path.{refl}
use Rattle.std.proofs.Common.{sym, ap, ◌∙◌, zero-le, zero-add, arith, length-append}
use Rattle.std.proofs.Math.Option.{Option, some}
use Rattle.std.proofs.lemmas.List.{length-map}
use Rattle.basis.specs.Lists.{concat_map, filter}
use Rattle.basis.specs.Members.{split}
use Rattle.records.specs.Read.{Reading, good, bad, read_of}
use Rattle.records.specs.Tables.{Tables}
use Rattle.store.specs.Graph.{Graph}
use Rattle.labels.specs.Runs.{Run}
use Rattle.groups.specs.Counts.{solvables}
use Rattle.graph.specs.Graphs.{Outcome, drawn, refused, graph_of}
use Rattle.machine.specs.Machine.{Op, requirement, candidate, Entry, entry, tell, openings}
use Rattle.machine.specs.Told.{Finishes}
use Rattle.machine.specs.Units.{Result}
use Rattle.machine.specs.Explained.{units_of, units_for}
use Rattle.machine.specs.Edition.{edited, opened_by, opened_in}
use Rattle.machine.specs.Laws.Silent.{never_eleven, whole_done}
use Rattle.machine.proofs.Edition.{second_silent, second_most}
use Rattle.plan.specs.Plan.{Shown, shown_of, plan_of, start_of, popped, line_kind, Kind, excluded, bare, conflicting, constraining, requiring, is_requiring}
use Rattle.plan.specs.Display.{solvable_of}
use Rattle.plan.specs.Laws.Leads.{shown_alone, shown_grouped, shown_told}
use Rattle.lines.specs.Lines.{lines_of, package_lines, set_lines}
use Rattle.explanation.specs.Openings.{is_opening, opening_lines, how_many, openings_in, openings_read, openings_of, once_in, once_read, once_of}
use Rattle.explanation.specs.Contract.{ExplainedFile, Drawn}
use Rattle.explanation.specs.Laws.Contract.{the_bound, by_file, file_demand, file_drawn}

-- ---- lines that open a package, and packages that are opened

many_append : (xs ys : List Bool) → how_many (xs ++ ys) ≡ how_many xs + how_many ys
many_append [] ys = sym (zero-add (how_many ys))
many_append (x ∷ xs) ys =
    let h = many_append xs ys in
    split x (λ q. rw (q, filter) (omega arith)) (λ q. rw (q, filter) h)

many_take : (k : ℕ) (xs : List Bool) → how_many (take k xs) ≤ how_many xs
many_take zero xs = zero-le
many_take (suc k) [] = zero-le
many_take (suc k) (x ∷ xs) =
    let h = many_take k xs in
    split x (λ q. rw (q, filter) (omega arith)) (λ q. rw (q, filter) h)

none_many : {A : Type 0} (ls : List A) → how_many (map (λ (l : A). false) ls) ≡ 0
none_many [] = refl
none_many (l ∷ ls) = none_many ls

same_lengths : {A B C : Type 0} (f : A → List B) (g : A → List C) → ((x : A) → length (f x) ≡ length (g x)) → (xs : List A)
    → length (concat_map f xs) ≡ length (concat_map g xs)
same_lengths f g h [] = refl
same_lengths f g h (x ∷ xs) = rw (length-append (f x) (concat_map f xs), length-append (g x) (concat_map g xs), h x, same_lengths f g h xs)

module _ (S : Shown) (opt : ℕ) where
  -- a "would require" line stands alone, and no other line opens
  kind_many : (ms : List Bool) (n : ℕ) (k : Kind)
      → how_many (map (λ (l : List ℕ). is_requiring k) (package_lines S opt ms n k)) ≡ length (cond (is_requiring k) (n ∷ []) [])
  kind_many ms n (excluded r) = refl
  kind_many ms n bare = refl
  kind_many ms n conflicting = refl
  kind_many ms n (constraining vs) = none_many (set_lines S opt ms vs)
  kind_many ms n requiring = refl

  entry_many : (o : Op Run) (ms : List Bool) (b : List ℕ)
      → how_many (map (λ (l : List ℕ). is_opening S opt (entry o ms b)) (lines_of S opt (entry o ms b)))
      ≡ length (opened_by (edited 2 (plan_of S)) (entry o ms b))
  entry_many (requirement r) ms b = refl
  entry_many (candidate n) ms b = kind_many ms n (line_kind S n)

  lines_many : (es : List (Entry Run)) → how_many (opening_lines S opt es) ≡ length (opened_in (edited 2 (plan_of S)) es)
  lines_many [] = refl
  lines_many (e ∷ es) =
      many_append (map (λ (l : List ℕ). is_opening S opt e) (lines_of S opt e)) (opening_lines S opt es)
      ∙ ap (λ (n : ℕ). n + how_many (opening_lines S opt es)) (entry_many e.op e.marks e.branch)
      ∙ ap (λ (n : ℕ). length (opened_by (edited 2 (plan_of S)) e) + n) (lines_many es)
      ∙ sym (length-append (opened_by (edited 2 (plan_of S)) e) (opened_in (edited 2 (plan_of S)) es))

  -- one answer a line
  pub one_each : (e : ℕ) (es : List (Entry Run)) → length (opening_lines S opt es) ≡ length (units_for (edited e (plan_of S)) (lines_of S opt) es)
  one_each e es =
      same_lengths (λ x. map (λ l. is_opening S opt x) (lines_of S opt x)) (units_of (edited e (plan_of S)) (lines_of S opt))
      (λ x.
      length-map (lines_of S opt x) (λ l. is_opening S opt x)
      ∙ sym (length-map (lines_of S opt x) (λ l. record { bytes = l; openings = openings (edited e (plan_of S)) x }))) es

-- ---- a file that is drawn

module _ (file : List ℕ) (opt : ℕ) (T : Tables) (G : Graph) (x : Drawn 2 file opt T G) where
  abbrev S : Shown
  S = shown_of T G

  -- the bound on a branch is g + u as well
  pub second_bound : the_bound 2 file opt T G x ≡ once_of file
  unfolding once_of
  second_bound = second_most (plan_of S) (solvables G) (shown_grouped T G) (shown_alone T G) ∙ rw (x.tables, x.graph) refl

  module _ (room : ℕ) (r : Result) (f : ExplainedFile 2 file opt room r) where
    drawn_never : r.number ≡ 11 → ⊥
    drawn_never =
        never_eleven (edited 2 (plan_of S)) (lines_of S opt) (solvable_of S) (popped S 0) (second_silent (plan_of S) (popped S 0)) room r
        (file_drawn 2 file opt T G x room r f)

    -- with room for all of the text it is done
    pub second_done : (file_demand 2 file opt T G x).size ≤ room → (r.number ≡ 0) × (r.place ≡ 0) × Finishes (edited 2 (plan_of S)) (start_of S)
    second_done h =
        whole_done (edited 2 (plan_of S)) (lines_of S opt) (solvable_of S) (popped S 0) (second_silent (plan_of S) (popped S 0))
        (the_bound 2 file opt T G x) (file_demand 2 file opt T G x) room r (file_drawn 2 file opt T G x room r f) h

-- ---- every file, drawn or refused

-- "In edition 2 refusal 11 is never given"
pub second_never : (file : List ℕ) (opt room : ℕ) (r : Result) → ExplainedFile 2 file opt room r → r.number ≡ 11 → ⊥
second_never file opt room r f z =
    by_file 2 file opt
    (λ q u h. u (ap (λ (x : Result). x.number) (same (h f.turns room) f.so) ∙ z))
    (λ T G d. drawn_never file opt T G d room r f z)
  where
    same : {a b : Result} {c : Option Result} → c ≡ some a → c ≡ some b → a ≡ b
    same x y = cc

-- "all openings in the whole text together are at most g + u": however many turns are taken
pub second_openings : (n : ℕ) (file : List ℕ) (opt : ℕ) → how_many (openings_of 2 n file opt) ≤ once_of file
unfolding openings_of once_of
second_openings n file opt = reading (read_of file)
  where
    outcome : (T : Tables) (o : Outcome) → how_many (openings_in 2 n T opt o) ≤ once_in T o
    outcome T (refused k p) = zero-le
    outcome T (drawn G) =
        let S : Shown = shown_of T G in
        rw (lines_many S opt (tell (edited 2 (plan_of S)) n (start_of S)).shown) (shown_told T G n (popped S 0))

    reading : (y : Reading) → how_many (openings_read 2 n opt y) ≤ once_read y
    reading (bad k p) = zero-le
    reading (good T) = outcome T (graph_of T)

-- and so are those of the lines that the room took
pub second_written : (file : List ℕ) (opt room : ℕ) (r : Result) (f : ExplainedFile 2 file opt room r)
    → how_many (take r.units (openings_of 2 f.turns file opt)) ≤ once_of file
second_written file opt room r f =
    let a = many_take r.units (openings_of 2 f.turns file opt) in
    let b = second_openings f.turns file opt in
    omega arith
