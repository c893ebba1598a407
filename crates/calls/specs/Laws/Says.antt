-- The explanation's contract determines answer and room; how the code comes to it.
use Rattle.std.specs.Prelude.{◌≡◌, refl, Bool, true, false, ◌&&◌, List, [], ℕ, zero, suc, ◌≤◌, ◌<◌, length, get_or, leb, eqb, Err}
use Rattle.std.proofs.Common.{sym, ap, ◌∙◌, subst, zero-le, arith, length-set, le-leb, ne_eqb}
use Rattle.std.proofs.Math.Option.{Option, some}
use Rattle.std.proofs.lemmas.Bool.{lt-leb}
use Rattle.records.specs.Tables.{Tables}
use Rattle.records.specs.Read.{Reading, good, bad, tables_of}
use Rattle.index.specs.Index.{Loaded}
use Rattle.index.specs.Found.{loaded_valid, loaded_good}
use Rattle.store.specs.declared.Size.{Size}
use Rattle.store.specs.Graph.{Graph}
use Rattle.store.specs.Table.{graph_in, nodes_count}
use Rattle.links.specs.Build.{Chains}
use Rattle.labels.specs.Marks.{label_bits}
use Rattle.groups.specs.Groups.{title_of}
use Rattle.groups.specs.Groups as Groups
use Rattle.groups.specs.Leads.{leads_to, leads_at}
use Rattle.groups.specs.Naming.{name_of}
use Rattle.graph.specs.Graphs.{drawn, graph_of}
use Rattle.graph.specs.Files.{Made, Makes}
use Rattle.graph.specs.Laws.Files.{makes_refused}
use Rattle.shape.specs.Graphed.{Graphed, graphed}
use Rattle.machine.specs.Units.{Result}
use Rattle.texts.specs.Wrote.{over}
use Rattle.plan.specs.Plan.{Shown, shown_of}
use Rattle.plan.specs.Planned.{Planned}
use Rattle.plan.specs.Marking.{read_as}
use Rattle.plan.specs.Laws.Marking.{Reads, read_reads}
use Rattle.planning.specs.Exact.{PlanMade}
use Rattle.planning.specs.Assembly.{Labelled, marks_are, lead_group}
use Rattle.lines.specs.Lines.{top_of}
use Rattle.explanation.specs.declared.walk.WalkAnswer.{WalkAnswer}
use Rattle.explanation.specs.Walk.{Ready}
use Rattle.explanation.specs.Walk.{Answered, answered_one}
use Rattle.explanation.specs.Explain.{is_edition, explain_edition, explain_tables, refusal}
use Rattle.explanation.specs.Contract.{Drawn}
use Rattle.explanation.specs.Laws.Contract.{drawn_file, file_unique}
use Rattle.explanation.specs.Laws.Reading.{read_ready, read_shown}
use Rattle.drawing.specs.Same.{option_of}
use Rattle.calls.specs.declared.Answer.{Answer}
use Rattle.calls.specs.Answers.{refusal_of}
use Rattle.calls.specs.Says.{result_by, Says, Shows, edition_of, PlannedAs, told_as, Walked}

-- two results that the contract allows are equal
pub says_one : (e : ℕ) (file : List ℕ) (opt : ℕ) (out a b : List ℕ) (r q : Answer) → Says e file opt out a r → Says e file opt out b q → (r ≡ q) × (a ≡ b)
says_one e file opt out a b r q S T =
    let h : result_by r S.text ≡ result_by q T.text = file_unique e file opt (length out) (result_by r S.text) (result_by q T.text) S.is T.is in (
      ap (λ (x : Result). record { number = x.number; place = x.place; bytes = x.bytes; units = x.units; depth = x.depth }) h,
      S.room ∙ ap (λ (x : Result). over x.text out) h ∙ sym T.room,
    )

-- ---- labels and groups as the plan takes them

leads_length : (title : ℕ → List ℕ) (G : Graph) (k : ℕ) (l : List ℕ) → length (leads_to title G k l) ≡ length l
unfolding leads_to
leads_length title G zero l = refl
leads_length title G (suc k) l = simp length-set (leads_length title G k l)

pub labelled : (T : Tables) (g : List ℕ) (s : Size) (w ms ld l : List ℕ) → ms ≡ label_bits (graph_in g s)
    → ld ≡ leads_to (title_of (name_of T) (graph_in g s)) (graph_in g s) s.nodes l
    → Chains g s w → length l ≡ 128 → Labelled T g s ms ld
unfolding Groups.lead_of
labelled T g s w ms ld l q e C h =
    record {
      marks = λ n i. marks_are T g s ms q n (omega (arith, C.stored.nodes_most));
      leads = λ n i.
          ap (λ (x : List ℕ). get_or x n 0) e
          ∙ leads_at (title_of (name_of T) (graph_in g s)) (graph_in g s) s.nodes l (omega (arith, C.stored.nodes_most)) n i
          ∙ sym (lead_group T (graph_in g s) n (omega (arith, nodes_count g s C.stored)));
      long = ap length e ∙ leads_length (title_of (name_of T) (graph_in g s)) (graph_in g s) s.nodes l ∙ h;
    }

-- the plan's table stays as long as it was
pub made_long : (T : Tables) (g ls ms ld : List ℕ) (m : ℕ) (t p₀ k₀ gr p k : List ℕ) → PlanMade T g ls ms ld m t p₀ k₀ gr p k → length p ≡ 1280
made_long T g ls ms ld m t p₀ k₀ gr p k M = M.sizes.long ∙ M.nodes.p_long

pub planned_as : (S : Shown) (p q k : List ℕ) (every : Bool) → q ≡ read_as every p → Planned S p k → length p ≡ 1280 → PlannedAs every S q k
planned_as S p q k every h z l = record { before = p; plan = z; long = l; read = h }

-- ---- a drawn graph

pub told_via : (t : WalkAnswer) (b c e f : ℕ) → b ≡ t.place → c ≡ t.bytes → e ≡ t.units → f ≡ t.depth
    → ◌≡◌ {A = Answer} (record { number = t.number; place = b; bytes = c; units = e; depth = f }) (told_as t)
told_via t b c e f p q r s = rw (p, q, r, s)

pub walked : (T : Tables) (q k : List ℕ) (t : Bool) (out left : List ℕ) (a : WalkAnswer) (r : Answer) → r ≡ told_as a → Answered T q k t out left a
    → Walked T q k t out left r
walked T q k t out left a r u w = record { told = a; is = u; answered = w }

-- two results that the walk may give are equal
pub walked_one : (T : Tables) (q k : List ℕ) (t : Bool) (out a b : List ℕ) (r x : Answer) → Walked T q k t out a r → Walked T q k t out b x
    → (r ≡ x) × (a ≡ b)
walked_one T q k t out a b r x c d =
    let e = answered_one T q k t out a b c.told d.told c.answered d.answered in
    (c.is ∙ ap told_as e.0 ∙ sym d.is, e.1)

-- a known option
pub option_is : (opt : ℕ) → opt ≤ 1 → option_of (eqb opt 1) ≡ opt
option_is zero h = refl
option_is (suc zero) h = refl
option_is (suc (suc n)) h = let f : ⊥ = omega arith in absurd f

option_top : (t : Bool) → top_of (option_of t) ≡ t
option_top true = refl
option_top false = refl

pub option_low : (t : Bool) → option_of t ≤ 1
option_low true = omega arith
option_low false = zero-le

edition_is : (every : Bool) → is_edition (edition_of every) ≡ true
edition_is true = refl
edition_is false = refl

edition_every : (every : Bool) → eqb (edition_of every) 2 ≡ every
edition_every true = refl
edition_every false = refl

-- neither the edition nor the option is refused
both_asked : (every t : Bool) → is_edition (edition_of every) && leb (option_of t) 1 ≡ true
both_asked every t = rw (edition_is every) (le-leb (option_of t) 1 (option_low t))

module _ (T : Tables) (G : Graph) (g : Graphed T G) (q k : List ℕ) (every : Bool) (z : PlannedAs every (shown_of T G) q k) where
  reads : Reads every z.before q
  reads = rw z.read (read_reads every z.before z.long)

  pub whole_ready : Ready T q k
  whole_ready = read_ready T G g z.before q k z.plan every reads

  pub whole_shows : (t : Bool) (out left : List ℕ) (r : Answer) → Walked T q k t out left r → Shows (edition_of every) T G (option_of t) out left r
  whole_shows t out left r W =
      let w : Answered T q k (top_of (option_of t)) out left W.told = rw (option_top t) W.answered in
      rw W.is
      (record {
        text = w.text;
        is = read_shown T G g z.before q k z.plan every reads (edition_of every) (edition_every every) (option_of t) out left W.told w;
        room = w.room.leaves;
      })

module _ (file ix g : List ℕ) (s : Size) (L : Loaded file ix) (e : graph_of (tables_of file) ≡ drawn (graph_in g s)) where
  pub whole_graphed : Graphed (tables_of file) (graph_in g s)
  whole_graphed = (graphed (tables_of file) (loaded_valid file ix L) (graph_in g s) e).0

  -- what is shown of the graph that a file draws is its explanation
  pub whole_says : (every t : Bool) (out left : List ℕ) (r : Answer) → Shows (edition_of every) (tables_of file) (graph_in g s) (option_of t) out left r
      → Says (edition_of every) file (option_of t) out left r
  whole_says every t out left r S =
      let d : Drawn (edition_of every) file (option_of t) (tables_of file) (graph_in g s) =
      record { edition = edition_is every; option = option_low t; tables = loaded_good file ix L; graph = e } in
      record {
        text = S.text;
        is = drawn_file (edition_of every) file (option_of t) (tables_of file) (graph_in g s) d (length out) (result_by r S.text) S.is;
        room = S.room;
      }

-- ---- refusals write nothing

nothing : (e : ℕ) (file : List ℕ) (opt : ℕ) (out : List ℕ) (k p : ℕ) → explain_edition e 0 file opt (length out) ≡ some (refusal k p)
    → Says e file opt out out (refusal_of k p)
nothing e file opt out k p h = record { text = []; is = record { turns = 0; so = h }; room = refl }

-- 12
unasked : (e : ℕ) (file : List ℕ) (opt : ℕ) (out : List ℕ) (r : Answer) → is_edition e && leb opt 1 ≡ false → r ≡ refusal_of 12 0 → Says e file opt out out r
unasked e file opt out r h q = rw q (nothing e file opt out 12 0 (rw (h, explain_edition)))

either_false : (b c : Bool) → c ≡ false → b && c ≡ false
either_false true c h = h
either_false false c h = refl

pub says_option : (e : ℕ) (file : List ℕ) (opt : ℕ) (out : List ℕ) (r : Answer) → 1 < opt → r ≡ refusal_of 12 0 → Says e file opt out out r
says_option e file opt out r h q = unasked e file opt out r (either_false (is_edition e) (leb opt 1) (lt-leb opt 1 h)) q

pub says_zeroth : (e : ℕ) (file : List ℕ) (opt : ℕ) (out : List ℕ) (r : Answer) → e ≡ 0 → r ≡ refusal_of 12 0 → Says e file opt out out r
says_zeroth e file opt out r h q = unasked e file opt out r (rw h) q

pub says_later : (e : ℕ) (file : List ℕ) (opt : ℕ) (out : List ℕ) (r : Answer) → 2 < e → r ≡ refusal_of 12 0 → Says e file opt out out r
says_later e file opt out r h q =
    unasked e file opt out r (rw (ne_eqb e 1 (λ z. omega arith), ne_eqb e 2 (λ z. omega arith))) q

-- what reading leads to, before a turn is taken
abbrev says_read : ℕ → ℕ → ℕ → Reading → Option Result
says_read e opt room y = elim y [ bad k p ↦ some (refusal k p) | good T ↦ explain_tables e 0 T opt room ]

-- m is what the file makes
module _ (file ix g w : List ℕ) (m : Made) (R : Makes file ix g w m) where
  pub says_refused : (t every : Bool) (out : List ℕ) (r : Answer) (k p : ℕ) → m ≡ Err (record { number = k; place = p }) → r ≡ refusal_of k p
      → Says (edition_of every) file (option_of t) out out r
  says_refused t every out r k p e h =
      rw h
      (nothing (edition_of every) file (option_of t) out k p
      (rw (both_asked every t, explain_edition)
      (makes_refused file ix g w m R (says_read (edition_of every) (option_of t) (length out)) (λ l i. some (refusal l i)) (λ l i. refl) (λ T l i z. rw (
        z,
        explain_tables,
      )) k p e)))

-- ---- the edition and the option

pub says_file : (e : ℕ) (file : List ℕ) (opt : ℕ) (out left : List ℕ) (r : Answer) → (e ≡ 0 → ⊥) → e ≤ 2 → opt ≤ 1
    → Says (edition_of (eqb e 2)) file (option_of (eqb opt 1)) out left r
    → Says e file opt out left r
says_file e file opt out left r f h g S =
    subst (λ (o : ℕ). Says e file o out left r) (option opt g) (subst (λ (d : ℕ). Says d file (option_of (eqb opt 1)) out left r) (edition e f h) S)
  where
    edition : (n : ℕ) → (n ≡ 0 → ⊥) → n ≤ 2 → edition_of (eqb n 2) ≡ n
    edition zero f l = absurd (f refl)
    edition (suc zero) f l = refl
    edition (suc (suc zero)) f l = refl
    edition (suc (suc (suc n))) f l = let z : ⊥ = omega arith in absurd z

    option : (n : ℕ) → n ≤ 1 → option_of (eqb n 1) ≡ n
    option zero l = refl
    option (suc zero) l = refl
    option (suc (suc n)) l = let z : ⊥ = omega arith in absurd z
