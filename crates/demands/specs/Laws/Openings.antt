-- Openings on one branch, over the lines written: the packages opened above a line were opened by lines before it.
use Rattle.std.specs.Prelude.{◌≡◌, refl, Bool, true, List, [], ◌∷◌, ◌++◌, ℕ, ◌+◌, ◌*◌, length}
use Rattle.std.proofs.Common.{sym, ap, ◌∙◌, subst, inl, inr, append-nil, append_assoc}
use Rattle.std.proofs.lemmas.Bool.{false≢true}
use Rattle.basis.specs.Lists.{concat_map, snoc}
use Rattle.basis.specs.Quote.{utf8}
use Rattle.basis.specs.Members.{In, All, all_append, all_in, in_left, in_right}
use Rattle.records.specs.Tables.{Tables}
use Rattle.index.specs.Promise.{Valid}
use Rattle.store.specs.Graph.{Graph}
use Rattle.labels.specs.Runs.{Run}
use Rattle.machine.specs.Machine.{Plan, Op, candidate, Entry, entry, shows, openings}
use Rattle.machine.specs.Units.{TextUnit}
use Rattle.machine.specs.Explained.{units_of, units_for}
use Rattle.machine.specs.Fit.{concat_append}
use Rattle.plan.specs.Plan.{Shown, shown_of, popped, Kind, excluded, bare, conflicting, constraining, requiring, is_requiring, line_kind}
use Rattle.plan.specs.Display.{package_text}
use Rattle.texts.specs.Indent.{indent}
use Rattle.lines.specs.Lines.{top_of, lines_of}
use Rattle.calls.specs.declared.Answer.{Answer}
use Rattle.demands.specs.Rules.{WholeUnits, plan_in, start_in, units_in, ReadOff, OpenedBy, AllReadOff}
use Rattle.demands.specs.Laws.Levels.{Levelled, start_levelled, shows_levelled}
use Rattle.demands.specs.Laws.Branches.{Opened, Branching, branching}
use Rattle.demands.specs.Laws.ReadOff.{entry_off, opening_off}

module _ (S : Shown) (opt : ℕ) where
  -- more lines before change nothing
  more : (us vs : List TextUnit) (b : List ℕ) → OpenedBy S opt us b → OpenedBy S opt (us ++ vs) b
  more us vs [] h = tt
  more us vs (n ∷ b) h = let x = h.0 in ((x.0, in_left x.0 us vs x.1, x.2), more us vs b h.1)

  -- the lines of one entry, then the others
  read_behind : (b : List ℕ) (before us vs : List TextUnit) → All (ReadOff S opt b) us → OpenedBy S opt before b → AllReadOff S opt (before ++ us) vs
      → AllReadOff S opt before (us ++ vs)
  read_behind b before [] vs a o h = subst (λ (l : List TextUnit). AllReadOff S opt l vs) (append-nil before) h
  read_behind b before (u ∷ us) vs a o h = (
    (b, a.0, o),
    read_behind b (snoc before u) us vs a.1 (more before (u ∷ []) b o)
        (subst (λ (l : List TextUnit). AllReadOff S opt l vs) (sym (append_assoc before (u ∷ []) us)) h),
  )

  pub read_first : (before us vs : List TextUnit) → AllReadOff S opt before (us ++ vs) → AllReadOff S opt before us
  read_first before [] vs h = tt
  read_first before (u ∷ us) vs h = (h.0, read_first (snoc before u) us vs h.1)

in_concat : {A B : Type 0} (f : A → List B) (x : A) (y : B) (xs : List A) → In x xs → In y (f x) → In y (concat_map f xs)
in_concat f x y [] i j = absurd i
in_concat f x y (z ∷ xs) (inl e) j = in_left y (f z) (concat_map f xs) (subst (λ (w : _). In y (f w)) e j)
in_concat f x y (z ∷ xs) (inr i) j = in_right y (f z) (concat_map f xs) (in_concat f x y xs i j)

requiring_is : (k : Kind) → is_requiring k ≡ true → k ≡ requiring
requiring_is (excluded r) e = absurd (false≢true e)
requiring_is bare e = absurd (false≢true e)
requiring_is conflicting e = absurd (false≢true e)
requiring_is (constraining vs) e = absurd (false≢true e)
requiring_is requiring e = refl

module _ (e : ℕ) (T : Tables) (valid : Valid T) (G : Graph) (opt : ℕ) where
  abbrev S : Shown
  S = shown_of T G

  abbrev P : Plan Run
  P = plan_in e T G

  abbrev units : List (Entry Run) → List TextUnit
  units es = units_for P (lines_of S opt) es

  -- the "would require" line of an entry that opens n
  opening_line : (o : Op Run) (ms : List Bool) (b : List ℕ) (n : ℕ) → o ≡ candidate n → is_requiring (line_kind S n) ≡ true
      → In (record { bytes = indent (top_of opt) ms ++ package_text S n ++ utf8 " would require\n"; openings = openings P (entry o ms b) })
      (units_of P (lines_of S opt) (entry o ms b))
  opening_line o ms b n q k = rw (q, k, requiring_is (line_kind S n) k) (inl refl)

  -- an entry's branch was opened by lines, as it was by entries
  opened_lines : (xs : List (Entry Run)) → All Levelled xs → (b : List ℕ) → Opened P xs b → OpenedBy S opt (units xs) b
  opened_lines xs a [] h = tt
  opened_lines xs a (n ∷ b) h =
      let o : Entry Run = h.0.0 in
      let q : o.op ≡ candidate n = h.0.2 in
      let k : is_requiring (line_kind S n) ≡ true = h.0.4 in
      let l : length o.marks ≡ 2 * length b + 2 = all_in Levelled xs o a h.0.1 ∙ rw (q, h.0.3) refl in
      let x = opening_off e T valid G opt o.marks b n k l in
      let m : openings P o ≡ length b + 1 = rw (q, k, h.0.3) refl in
      let u : TextUnit = record { bytes = indent (top_of opt) o.marks ++ package_text S n ++ utf8 " would require\n"; openings = length b + 1 } in
      let i : In u (units_of P (lines_of S opt) o) =
      subst (λ (c : ℕ). In (record { bytes = indent (top_of opt) o.marks ++ package_text S n ++ utf8 " would require\n"; openings = c })
      (units_of P (lines_of S opt) o)) m
      (opening_line o.op o.marks o.branch n q k) in
      ((u, in_concat (units_of P (lines_of S opt)) o u xs h.0.1 i, x), opened_lines xs a b h.1)

  snoc_units : (xs : List (Entry Run)) (x : Entry Run) → units (snoc xs x) ≡ units xs ++ units_of P (lines_of S opt) x
  snoc_units xs x = concat_append (units_of P (lines_of S opt)) xs (x ∷ []) ∙ ap (λ (l : List TextUnit). units xs ++ l) (append-nil (units_of P (lines_of S opt) x))

  entries_read : (xs es : List (Entry Run)) → All Levelled xs → All Levelled es → Branching P xs es → AllReadOff S opt (units xs) (units es)
  entries_read xs [] a c h = tt
  entries_read xs (x ∷ es) a c h =
      read_behind S opt x.branch (units xs) (units_of P (lines_of S opt) x) (units es)
      (entry_off e T valid G opt x.op x.marks x.branch c.0)
      (opened_lines xs a x.branch h.0)
      (subst (λ (l : List TextUnit). AllReadOff S opt l (units es)) (snoc_units xs x)
      (entries_read (snoc xs x) es (all_append Levelled xs (x ∷ []) a (c.0, tt)) c.1 h.1))

  -- every line that the rules write in n turns
  pub units_read : (n : ℕ) → AllReadOff S opt [] (units_in e T G opt n)
  units_read n =
      entries_read [] (shows P n (start_in T G)) tt (shows_levelled P n (start_in T G) (start_levelled (popped S 0))) (branching P n (popped S 0))

-- the lines written
pub written_off : (e : ℕ) (T : Tables) → Valid T → (G : Graph) (opt : ℕ) (out left : List ℕ) (r : Answer) (w : WholeUnits e T G opt out left r)
    → AllReadOff (shown_of T G) opt [] w.first
written_off e T valid G opt out left r w =
    let b = w.begins 0 in
    read_first (shown_of T G) opt [] w.first b.0
    (subst (AllReadOff (shown_of T G) opt []) b.1 (units_read e T valid G opt (w.turns + 0)))
