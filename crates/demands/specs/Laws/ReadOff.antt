-- A line's levels and openings are read off its bytes.
use Rattle.std.specs.Prelude.{◌≡◌, Bool, true, false, cond, ◌&&◌, List, [], ◌∷◌, ◌++◌, map, ℕ, suc, ◌+◌, ◌*◌, ◌/◌, ◌≤◌, length, eqb, leb}
use Rattle.std.proofs.Math.Path.{refl}
use Rattle.std.proofs.Common.{ap, ◌∙◌, append_assoc, arith, leb-true, ne_eqb}
use Rattle.std.proofs.lemmas.Bool.{false≢true}
use Rattle.basis.specs.Lists.{all, is_nil}
use Rattle.basis.specs.Quote.{utf8}
use Rattle.basis.specs.Members.{All, split}
use Rattle.records.specs.Tables.{Tables}
use Rattle.records.specs.Views.{reason_text}
use Rattle.index.specs.Promise.{Valid}
use Rattle.store.specs.Graph.{Graph}
use Rattle.labels.specs.Runs.{Run}
use Rattle.machine.specs.Machine.{Plan, Op, requirement, candidate, entry, openings}
use Rattle.machine.specs.Explained.{units_of}
use Rattle.plan.specs.Plan.{Shown, shown_of, Kind, excluded, bare, conflicting, constraining, requiring, is_requiring, line_kind}
use Rattle.plan.specs.Display.{package_text}
use Rattle.texts.specs.Indent.{deepest, older, above, indent, at_top}
use Rattle.lines.specs.Lines.{top_of, run_line, set_line, set_lines, package_lines, lines_of}
use Rattle.demands.specs.Rules.{plan_in, begins_one, columns, levels_of, Line, of_run, of_package, of_opening, of_set, own_levels, own_openings, Wording, ReadOff}
use Rattle.demands.specs.Laws.Texts.{in_text, Clean, all_both, all_weaker, run_clean}
use Rattle.demands.specs.Laws.Levels.{Levelled}

-- ---- texts without a tree sign

abbrev low : ℕ → Bool
low x = leb x 126

low_text : (l : List ℕ) → Clean l → all low l ≡ true
low_text l h = all_weaker in_text low (λ x t. both (leb 32 x) (leb x 126) t) l h
  where
    both : (a b : Bool) → a && b ≡ true → b ≡ true
    both true b e = e
    both false b e = absurd (false≢true e)

low_columns : (l : List ℕ) (k : ℕ) → all low l ≡ true → columns k l ≡ 0
low_columns [] k h = refl
low_columns (x ∷ l) k h =
    split (low x)
    (λ t. let m : x ≤ 126 = leb-true x 126 t in
    let e : eqb x 128 ≡ false = ne_eqb x 128 (λ z. omega arith) in
    rw (e, columns) (low_columns l (cond (begins_one x) (suc k) k) (rw (t, all) at h)))
    (λ t. absurd (false≢true (rw (t, all) at h)))

-- ---- an indent

columns_older : (m : Bool) (k : ℕ) (t : List ℕ) → columns k (older m ++ t) ≡ columns (suc (suc (suc k))) t
unfolding older
columns_older true k t = refl
columns_older false k t = refl

columns_deepest : (m : Bool) (k : ℕ) (t : List ℕ) → columns k (deepest m ++ t) ≡ suc (suc k)
unfolding deepest
columns_deepest true k t = refl
columns_deepest false k t = refl

-- three characters a level above
columns_above : (ms : List Bool) (k : ℕ) (rest t : List ℕ) → columns k (above true ms rest ++ t) ≡ columns (3 * length ms + k) (rest ++ t)
unfolding above
columns_above [] k rest t = let z : k ≡ 3 * 0 + k = omega arith in ap (λ (n : ℕ). columns n (rest ++ t)) z
columns_above (m ∷ ms) k rest t =
    let z : suc (suc (suc (3 * length ms + k))) ≡ 3 * suc (length ms) + k = omega arith in
    columns_above ms k (older m ++ rest) t
    ∙ ap (columns (3 * length ms + k)) (append_assoc (older m) rest t)
    ∙ columns_older m (3 * length ms + k) (rest ++ t)
    ∙ ap (λ (n : ℕ). columns n (rest ++ t)) z

-- the top level is not shown
columns_flat : (m : Bool) (ms : List Bool) (k : ℕ) (rest t : List ℕ) → columns k (above false (m ∷ ms) rest ++ t) ≡ columns (3 * length ms + k) (rest ++ t)
unfolding above
columns_flat m [] k rest t = let z : k ≡ 3 * 0 + k = omega arith in ap (λ (n : ℕ). columns n (rest ++ t)) z
columns_flat m (n ∷ ms) k rest t =
    let z : suc (suc (suc (3 * length ms + k))) ≡ 3 * suc (length ms) + k = omega arith in
    columns_flat n ms k (older m ++ rest) t
    ∙ ap (columns (3 * length ms + k)) (append_assoc (older m) rest t)
    ∙ columns_older m (3 * length ms + k) (rest ++ t)
    ∙ ap (λ (n : ℕ). columns n (rest ++ t)) z

levels_top : (m : Bool) (ms : List Bool) (t : List ℕ) → (columns 0 (indent true (m ∷ ms) ++ t) + 1) / 3 + 0 ≡ suc (length ms)
unfolding indent
levels_top m ms t =
    let c : columns 0 (above true ms (deepest m) ++ t) ≡ suc (suc (3 * length ms + 0)) = columns_above ms 0 (deepest m) t
    ∙ columns_deepest m (3 * length ms + 0) t in
    rw c (omega arith)

levels_flat : (m n : Bool) (ms : List Bool) (t : List ℕ) → (columns 0 (indent false (m ∷ n ∷ ms) ++ t) + 1) / 3 + 1 ≡ suc (suc (length ms))
unfolding indent
levels_flat m n ms t =
    let c : columns 0 (above false (n ∷ ms) (deepest m) ++ t) ≡ suc (suc (3 * length ms + 0)) = columns_flat n ms 0 (deepest m) t
    ∙ columns_deepest m (3 * length ms + 0) t in
    rw c (omega arith)

levels_first : (m : Bool) (t : List ℕ) → all low t ≡ true → (columns 0 (indent false (m ∷ []) ++ t) + 1) / 3 + 1 ≡ 1
unfolding indent above
levels_first m t h = rw (low_columns t 0 h)

-- a line's levels stand in its bytes; at the top level without the option its text has no tree sign
by_top : (b : Bool) (ms : List Bool) (t : List ℕ) → 1 ≤ length ms → (length ms ≡ 1 → all low t ≡ true)
    → (columns 0 (indent b ms ++ t) + 1) / 3 + cond b 0 1 ≡ length ms
by_top b [] t h f = let z : ⊥ = omega arith in absurd z
by_top true (m ∷ ms) t h f = levels_top m ms t
by_top false (m ∷ []) t h f = levels_first m t (f refl)
by_top false (m ∷ n ∷ ms) t h f = levels_flat m n ms t

pub levels_are : (opt : ℕ) (ms : List Bool) (t : List ℕ) → 1 ≤ length ms → (length ms ≡ 1 → all low t ≡ true)
    → levels_of opt (indent (top_of opt) ms ++ t) ≡ length ms
levels_are opt ms t h f = by_top (top_of opt) ms t h f

-- ---- the lines of an entry

behind3 : (i w t n : List ℕ) → i ++ w ++ t ++ n ≡ i ++ (w ++ t ++ n)
behind3 i w t n = rw (append_assoc i w t, append_assoc i (w ++ t) n)

module _ (e : ℕ) (T : Tables) (valid : Valid T) (G : Graph) (opt : ℕ) where
  abbrev S : Shown
  S = shown_of T G

  abbrev P : Plan Run
  P = plan_in e T G

  shown_valid : Valid S.tables
  unfolding shown_of
  shown_valid = valid

  -- one line, behind its indent
  line_off : (l : Line) (ms : List Bool) (b : List ℕ) (bytes t : List ℕ) (n : ℕ) → bytes ≡ indent (top_of opt) ms ++ t → 1 ≤ length ms
      → (length ms ≡ 1 → all low t ≡ true)
      → length ms ≡ 2 * length b + own_levels l → n ≡ length b + own_openings l → Wording S opt ms l bytes
      → ReadOff S opt b (record { bytes = bytes; openings = n })
  line_off l ms b bytes t n e h f q o w =
      record { line = l; marks = ms; wording = w; levels = ap (levels_of opt) e ∙ levels_are opt ms t h f ∙ q; openings = o }

  -- the lines under "would constrain"
  sets_off : (ms : List Bool) (b vs : List ℕ) → length ms ≡ 2 * length b + 2
      → All (ReadOff S opt b) (map (λ l. record { bytes = l; openings = length b + 0 }) (set_lines S opt ms vs))
  sets_off ms b [] h = tt
  sets_off ms b (v ∷ vs) h = (
    line_off of_set (is_nil vs ∷ ms) b (indent (top_of opt) (is_nil vs ∷ ms) ++ set_line S v ++ utf8 "\n") (set_line S v ++ utf8 "\n") (length b + 0)
        (append_assoc (indent (top_of opt) (is_nil vs ∷ ms)) (set_line S v) (utf8 "\n")) (omega arith) (λ z. let x : ⊥ = omega arith in
        absurd x) (omega arith) refl (v, refl),
    sets_off ms b vs h,
  )

  -- a package's line that opens nothing: t behind its text
  shut_off : (ms : List Bool) (b : List ℕ) (n : ℕ) (bytes t : List ℕ) → bytes ≡ indent (top_of opt) ms ++ package_text S n ++ t → length ms ≡ 2 * length b + 2
      → is_requiring (line_kind S n) ≡ false → ReadOff S opt b (record { bytes = bytes; openings = length b + 0 })
  shut_off ms b n bytes t e h k =
      line_off of_package ms b bytes (package_text S n ++ t) (length b + 0) (e ∙ append_assoc (indent (top_of opt) ms) (package_text S n) t) (omega arith)
      (λ z. let x : ⊥ = omega arith in absurd x) h refl (n, t, k, e)

  -- a package's line that opens it
  open_off : (ms : List Bool) (b : List ℕ) (n : ℕ) → is_requiring (line_kind S n) ≡ true → length ms ≡ 2 * length b + 2
      → ReadOff S opt b (record { bytes = indent (top_of opt) ms ++ package_text S n ++ utf8 " would require\n"; openings = length b + 1 })
  open_off ms b n k h =
      let w : List ℕ = utf8 " would require\n" in
      line_off of_opening ms b (indent (top_of opt) ms ++ package_text S n ++ w) (package_text S n ++ w) (length b
      + 1) (append_assoc (indent (top_of opt) ms) (package_text S n) w)
      (omega arith) (λ z. let x : ⊥ = omega arith in absurd x) h refl (n, k, refl)

  pub opening_off : (ms : List Bool) (b : List ℕ) (n : ℕ) → is_requiring (line_kind S n) ≡ true → length ms ≡ 2 * length b + 2
      → (x : ReadOff S opt b (record { bytes = indent (top_of opt) ms ++ package_text S n ++ utf8 " would require\n"; openings = length b + 1 }))
      × (x.line ≡ of_opening) × (indent (top_of opt) ms ++ package_text S n ++ utf8 " would require\n" ≡ indent (top_of opt) x.marks ++ package_text S n
      ++ utf8 " would require\n")
  unfolding open_off line_off
  opening_off ms b n k h = (open_off ms b n k h, refl, refl)

  kind_off : (ms : List Bool) (b : List ℕ) (n : ℕ) (k : Kind) → line_kind S n ≡ k → length ms ≡ 2 * length b + 2
      → All (ReadOff S opt b) (map (λ l. record { bytes = l; openings = length b + cond (is_requiring k) 1 0 }) (package_lines S opt ms n k))
  kind_off ms b n (excluded r) q h =
      let i : List ℕ = indent (top_of opt) ms ++ package_text S n in
      let w : List ℕ = utf8 " is excluded because " in
      let t : List ℕ = reason_text S.tables r in
      (shut_off ms b n (i ++ w ++ t ++ utf8 "\n") (w ++ t ++ utf8 "\n") (behind3 i w t (utf8 "\n")) h (ap is_requiring q), tt)
  kind_off ms b n bare q h = (shut_off ms b n (indent (top_of opt) ms ++ package_text S n ++ utf8 "\n") (utf8 "\n") refl h (ap is_requiring q), tt)
  kind_off ms b n conflicting q h =
      let w : List ℕ = utf8 ", which conflicts with the versions reported above.\n" in
      (shut_off ms b n (indent (top_of opt) ms ++ package_text S n ++ w) w refl h (ap is_requiring q), tt)
  kind_off ms b n (constraining vs) q h =
      let w : List ℕ = utf8 " would constrain\n" in
      (shut_off ms b n (indent (top_of opt) ms ++ package_text S n ++ w) w refl h (ap is_requiring q), sets_off ms b vs h)
  kind_off ms b n requiring q h = (open_off ms b n (ap is_requiring q) h, tt)

  -- the lines of an entry
  pub entry_off : (o : Op Run) (ms : List Bool) (b : List ℕ) → Levelled (entry o ms b) → All (ReadOff S opt b) (units_of P (lines_of S opt) (entry o ms b))
  entry_off (requirement r) ms b h =
      let t : List ℕ = run_line S (at_top ms) r in (
        line_off of_run ms b (indent (top_of opt) ms ++ t ++ utf8 "\n") (t ++ utf8 "\n") (length b
            + 0) (append_assoc (indent (top_of opt) ms) t (utf8 "\n")) (omega arith)
            (λ z. all_both low t (utf8 "\n") (low_text t (run_clean S shown_valid (at_top ms) r)) refl) h refl (r, refl),
        tt,
      )
  entry_off (candidate n) ms b h = kind_off ms b n (line_kind S n) refl h

pub all_first : {A : Type 0} (Q : A → Type 0) (xs ys : List A) → All Q (xs ++ ys) → All Q xs
all_first Q [] ys a = tt
all_first Q (x ∷ xs) ys a = (a.0, all_first Q xs ys a.1)
