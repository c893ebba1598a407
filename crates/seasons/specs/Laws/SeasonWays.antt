-- The ways through the code of `urzulempa_season` and `urzulempa_join`.
use Rattle.std.specs.Prelude.{◌≡◌, refl, Bool, true, false, List, ℕ, ◌≤◌, ◌<◌, length, eqb, Err}
use Rattle.std.proofs.Common.{sym, ◌∙◌, subst, arith, eq-eqb, ne_eqb}
use Rattle.std.proofs.Math.Path.{ap}
use Rattle.basis.specs.Guard.{guard}
use Rattle.records.specs.Tables.{Tables}
use Rattle.records.specs.Read.{tables_of}
use Rattle.index.specs.Index.{Loaded}
use Rattle.index.specs.Found.{loaded_good}
use Rattle.store.specs.declared.Size.{Size}
use Rattle.store.specs.Graph.{Graph}
use Rattle.store.specs.Table.{graph_in}
use Rattle.links.specs.Build.{Chains}
use Rattle.labels.specs.Marks.{label_bits}
use Rattle.graph.specs.Graphs.{drawn, graph_of}
use Rattle.graph.specs.Files.{Made, Makes}
use Rattle.graph.specs.Laws.Files.{makes_refused}
use Rattle.shape.specs.Graphed.{Graphed}
use Rattle.plan.specs.Plan.{shown_of}
use Rattle.plan.specs.Planned.{Planned}
use Rattle.plan.specs.Marking.{read_as}
use Rattle.explanation.specs.Walk.{Ready}
use Rattle.drawing.specs.Same.{option_of}
use Rattle.season.specs.declared.Own.{Own}
use Rattle.season.specs.Report.{fits_widths}
use Rattle.season.specs.Season.{adds, share}
use Rattle.season.specs.Words.{words_of, both, join_by, join_number, join_words, share_words}
use Rattle.seasons.specs.declared.tally.Counts.{Counts}
use Rattle.seasons.specs.Tally.{counts_of, no_counts, counts_drawn, counts_read, file_counts, counts_in}
use Rattle.seasons.specs.Laws.Tally.{counts_are}
use Rattle.calls.specs.declared.Answer.{Answer}
use Rattle.calls.specs.Answers.{refusal_of}
use Rattle.calls.specs.Says.{Says, PlannedAs, Walked, edition_of}
use Rattle.calls.specs.Laws.Says.{planned_as, whole_graphed, whole_ready, whole_shows, whole_says, says_refused, says_zeroth, says_later, says_option}
use Rattle.calls.specs.Laws.Says.{says_file}
use Rattle.seasons.specs.Season.{join_answer, own_of, Enters, Entered, Adds}

-- ---- joining

pub join_via : (ws vs : List ℕ) (n : ℕ) (r : Answer) → n ≡ join_number ws vs → r ≡ refusal_of n 0 → r ≡ join_answer ws vs
join_via ws vs n r h q = q ∙ ap (λ (x : ℕ). refusal_of x 0) h

-- ---- entering

-- the chain by its number: 0 is done, and any other number stands for itself
by_number : (ws vs : List ℕ) (n : ℕ) (a : Answer) → n ≡ join_number ws vs → (n ≡ 0 → a ≡ join_by ws vs (refusal_of 10 0) (refusal_of 14 0) a)
    × ((n ≡ 0 → ⊥) → refusal_of n 0 ≡ join_by ws vs (refusal_of 10 0) (refusal_of 14 0) a)
unfolding join_by guard
by_number ws vs n a h = step (eqb (length ws) 27) (eqb (length vs) 27) (fits_widths (both ws vs)) h
  where
    step : (p q t : Bool) → ◌≡◌ {A = ℕ} n (guard p 10 (guard q 10 (guard t 14 0)))
        → (n ≡ 0 → a ≡ guard p (refusal_of 10 0) (guard q (refusal_of 10 0) (guard t (refusal_of 14 0) a)))
        × ((n ≡ 0 → ⊥) → refusal_of n 0 ≡ guard p (refusal_of 10 0) (guard q (refusal_of 10 0) (guard t (refusal_of 14 0) a)))
    step true true true k = ((λ z. refl), (λ z. absurd (z k)))
    step true true false k = ((λ z. let f : ⊥ = omega arith in absurd f), (λ z. ap (λ (x : ℕ). refusal_of x 0) k))
    step true false t k = ((λ z. let f : ⊥ = omega arith in absurd f), (λ z. ap (λ (x : ℕ). refusal_of x 0) k))
    step false q t k = ((λ z. let f : ⊥ = omega arith in absurd f), (λ z. ap (λ (x : ℕ). refusal_of x 0) k))

module _ (ws vs : List ℕ) (a : Answer) (c : Counts) (o : Own) (n : ℕ) (r : Answer) (e : o ≡ own_of a c) (h : n ≡ join_number ws (share_words o)) (g : vs
    ≡ join_words ws (share_words o)) where
  number : n ≡ join_number ws (share_words (own_of a c))
  number = h ∙ ap (λ (x : Own). join_number ws (share_words x)) e

  words : vs ≡ join_words ws (share_words (own_of a c))
  words = g ∙ ap (λ (x : Own). join_words ws (share_words x)) e

  pub enters_done : n ≡ 0 → r ≡ a → Enters ws a c vs r
  enters_done z q = record { answer = q ∙ (by_number ws (share_words (own_of a c)) n a number).0 z; report = words }

  pub enters_not : (n ≡ 0 → ⊥) → r ≡ refusal_of n 0 → Enters ws a c vs r
  enters_not z q = record { answer = q ∙ (by_number ws (share_words (own_of a c)) n a number).1 z; report = words }

pub enters_refused : (ws vs : List ℕ) (k p : ℕ) (a : Answer) (c : Counts) (r : Answer) → a ≡ refusal_of k p → c ≡ no_counts → Enters ws a c vs r
    → Enters ws (refusal_of k p) no_counts vs r
enters_refused ws vs k p a c r h g E = subst (λ (x : Counts). Enters ws (refusal_of k p) x vs r) g (subst (λ (x : Answer). Enters ws x c vs r) h E)

-- ---- a drawn graph

-- the plan as the edition reads it, and the counts of the graph
pub record CountedAs (every : Bool) (T : Tables) (G : Graph) (q k : List ℕ) (c : Counts) : Type 0 where
  pub plan : PlannedAs every (shown_of T G) q k
  pub counts : c ≡ counts_of T G

pub counted_as : (T : Tables) (g w : List ℕ) (s : Size) (p q k ms : List ℕ) (c : Counts) (every : Bool) → Chains g s w → ms ≡ label_bits (graph_in g s)
    → Planned (shown_of T (graph_in g s)) p k → length p ≡ 1280 → c ≡ counts_in p ms s → q ≡ read_as every p → CountedAs every T (graph_in g s) q k c
counted_as T g w s p q k ms c every C h P l e r =
    record { plan = planned_as (shown_of T (graph_in g s)) p q k every r P l; counts = counts_are T g s C.stored p k ms c h P e }

-- what the walk over a plan answers is added with the counts c
pub record Tells (T : Tables) (q k : List ℕ) (c : Counts) (t : Bool) (ws vs out left : List ℕ) (r : Answer) : Type 0 where
  pub own : Answer
  pub walked : Walked T q k t out left own
  pub enters : Enters ws own c vs r

pub tells : (T : Tables) (q k : List ℕ) (c : Counts) (t : Bool) (ws vs out left : List ℕ) (a r : Answer) → Walked T q k t out left a → Enters ws a c vs r
    → Tells T q k c t ws vs out left r
tells T q k c t ws vs out left a r W E = record { own = a; walked = W; enters = E }

-- the same of the graph that a file draws
pub record CountedFile (every : Bool) (file q k : List ℕ) (c : Counts) : Type 0 where
  pub index : List ℕ
  pub table : List ℕ
  pub size : Size
  pub loaded : Loaded file index
  pub draws : graph_of (tables_of file) ≡ drawn (graph_in table size)
  pub counted : CountedAs every (tables_of file) (graph_in table size) q k c

pub counted_file : (file ix g : List ℕ) (s : Size) (q k : List ℕ) (every : Bool) (c : Counts) → Loaded file ix → graph_of (tables_of file) ≡ drawn (graph_in g s)
    → CountedAs every (tables_of file) (graph_in g s) q k c → CountedFile every file q k c
counted_file file ix g s q k every c L e C = record { index = ix; table = g; size = s; loaded = L; draws = e; counted = C }

module _ (every : Bool) (file q k : List ℕ) (c : Counts) (C : CountedFile every file q k c) where
  graphed : Graphed (tables_of file) (graph_in C.table C.size)
  graphed = whole_graphed file C.index C.table C.size C.loaded C.draws

  pub counted_ready : Ready (tables_of file) q k
  counted_ready = whole_ready (tables_of file) (graph_in C.table C.size) graphed q k every C.counted.plan

  counts_file : c ≡ file_counts file
  unfolding file_counts
  counts_file = C.counted.counts ∙ rw (loaded_good file C.index C.loaded, C.draws)

  pub tells_entered : (t : Bool) (ws vs out left : List ℕ) (r : Answer) → Tells (tables_of file) q k c t ws vs out left r
      → Entered (edition_of every) file (option_of t) ws vs out left r
  tells_entered t ws vs out left r E =
      record {
        own = E.own;
        says =
            whole_says file C.index C.table C.size C.loaded C.draws every t out left E.own
            (whole_shows (tables_of file) (graph_in C.table C.size) graphed q k every C.counted.plan t out left E.own E.walked);
        enters = subst (λ (x : Counts). Enters ws E.own x vs r) counts_file E.enters;
      }

-- ---- refusals 1 to 9

module _ (file ix g w : List ℕ) (m : Made) (R : Makes file ix g w m) where
  no_counts_lem : (k p : ℕ) → m ≡ Err (record { number = k; place = p }) → file_counts file ≡ no_counts
  unfolding file_counts
  no_counts_lem k p e = makes_refused file ix g w m R counts_read (λ l i. no_counts) (λ l i. refl) (λ T l i z. ap (counts_drawn T) z) k p e

  pub entered_refused : (t every : Bool) (ws vs out : List ℕ) (r : Answer) (k p : ℕ) → m ≡ Err (record { number = k; place = p }) → Enters ws (refusal_of k p) no_counts vs r
      → Entered (edition_of every) file (option_of t) ws vs out out r
  entered_refused t every ws vs out r k p e E =
      record {
        own = refusal_of k p;
        says = says_refused file ix g w m R t every out (refusal_of k p) k p e refl;
        enters = subst (λ (x : Counts). Enters ws (refusal_of k p) x vs r) (sym (no_counts_lem k p e)) E;
      }

-- ---- 10 and 12

-- "A file refused with 1 to 9 or 12 adds nothing but its refusal": whatever graph it has
share_alike : (a : Answer) (c d : Counts) → adds a.number ≡ false → share (own_of a c) ≡ share (own_of a d)
unfolding share
share_alike a c d h = rw (h, share)

enters_bare : (ws vs : List ℕ) (a : Answer) (c d : Counts) (r : Answer) → adds a.number ≡ false → Enters ws a c vs r → Enters ws a d vs r
enters_bare ws vs a c d r h E =
    let q : share_words (own_of a c) ≡ share_words (own_of a d) = ap words_of (share_alike a c d h) in
    record {
      answer = E.answer ∙ ap (λ (x : List ℕ). join_by ws x (refusal_of 10 0) (refusal_of 14 0) a) q;
      report = E.report ∙ ap (join_words ws) q;
    }

module _ (e : ℕ) (file : List ℕ) (opt : ℕ) (ws vs out : List ℕ) (r : Answer) where
  unasked : Says e file opt out out (refusal_of 12 0) → Enters ws (refusal_of 12 0) no_counts vs r → Entered e file opt ws vs out out r
  unasked S E = record { own = refusal_of 12 0; says = S; enters = enters_bare ws vs (refusal_of 12 0) no_counts (file_counts file) r refl E }

  pub entered_zeroth : e ≡ 0 → Enters ws (refusal_of 12 0) no_counts vs r → Entered e file opt ws vs out out r
  entered_zeroth h E = unasked (says_zeroth e file opt out (refusal_of 12 0) h refl) E

  pub entered_later : 2 < e → Enters ws (refusal_of 12 0) no_counts vs r → Entered e file opt ws vs out out r
  entered_later h E = unasked (says_later e file opt out (refusal_of 12 0) h refl) E

  pub entered_option : 1 < opt → Enters ws (refusal_of 12 0) no_counts vs r → Entered e file opt ws vs out out r
  entered_option h E = unasked (says_option e file opt out (refusal_of 12 0) h refl) E

  module _ (left : List ℕ) where
    pub entered_file : (e ≡ 0 → ⊥) → e ≤ 2 → opt ≤ 1 → Entered (edition_of (eqb e 2)) file (option_of (eqb opt 1)) ws vs out left r
        → Entered e file opt ws vs out left r
    entered_file f h g E = record { own = E.own; says = says_file e file opt out left E.own f h g E.says; enters = E.enters }

    pub adds_file : length ws ≡ 27 → Entered e file opt ws vs out left r → Adds e file opt ws vs out left r
    adds_file l E = record { by = rw (eq-eqb (length ws) 27 l) E }

pub adds_short : (e : ℕ) (file : List ℕ) (opt : ℕ) (ws out : List ℕ) (r : Answer) → (length ws ≡ 27 → ⊥) → r ≡ refusal_of 10 0 → Adds e file opt ws ws out out r
adds_short e file opt ws out r h q = record { by = rw (ne_eqb (length ws) 27 h) (q, refl, refl) }
