-- Building over the tables: one clause, all clauses, the end. Each law is one way out of a function.
use Rattle.std.specs.Prelude.{◌≡◌, refl, Bool, true, false, List, [], ◌∷◌, ℕ, zero, suc, ◌+◌, ◌-◌, ◌<◌, ◌≤◌, length, replicate, Result, Ok, Err, Option, Some, None}
use Rattle.std.proofs.Math.Path.{sym, ap}
use Rattle.std.proofs.Common.{◌∙◌, add-one, arith}
use Rattle.std.proofs.lemmas.Bool.{false≢true}
use Rattle.std.proofs.Math.Option.{Option as Maybe, none, some}
use Rattle.basis.specs.Members.{clash}
use Rattle.records.specs.declared.Clause.{Clause}
use Rattle.records.specs.declared.Clause.TheVariants as C
use Rattle.records.specs.declared.Table.TheVariants.{Clauses}
use Rattle.records.specs.Tables.{Tables}
use Rattle.records.specs.Read.{tables_of}
use Rattle.index.specs.Index.{Loaded}
use Rattle.index.specs.Found.{loaded_valid}
use Rattle.records.specs.Views.{clause_of, core_at}
use Rattle.store.specs.declared.Size.{Size}
use Rattle.store.specs.Graph.{Graph, start_graph, settle, unreached}
use Rattle.store.specs.Table.{graph_in, Stored, Growing, taken, taken_growing, taken_graph}
use Rattle.links.specs.Build.{Chains}
use Rattle.links.specs.Queue.{lowest_node}
use Rattle.links.specs.Sweep.{swept_in, swept_whole}
use Rattle.expansion.specs.Hashed.{Triples, made_in, triples_none, made_none, clear_fresh, Clear}
use Rattle.expansion.specs.declared.Work.{Work}
use Rattle.store.specs.declared.Full.{Full}
use Rattle.expansion.specs.Expand.{Build, start_build}
use Rattle.expansion.specs.Working.{StepSoFar, on_to, stop_at, expand_in}
use Rattle.expansion.specs.Lasts.{lasts_none}
use Rattle.expansion.specs.State.{build_in, Holds, progress_in, HoldsIn, Expanded}
use Rattle.expansion.specs.Forbidding.{expand_requires, widen_on, widen_full}
use Rattle.linking.specs.Links.{requires_of, requirers}
use Rattle.linking.specs.Working.{link_all_in}
use Rattle.linking.specs.Growth.{Grew}
use Rattle.graph.specs.declared.Refusal.TheVariants as F
use Rattle.graph.specs.declared.Halt.{Halt}
use Rattle.graph.specs.declared.Stop.{Stop}
use Rattle.graph.specs.Files.{number_of}
use Rattle.graph.specs.Graphs.{is_learnt, handed, Built, built, stopped, build_of, Outcome, drawn, refused, reached_all, graph_of}
use Rattle.graph.specs.Working.{TurnedSoFar, go_to, halt_at, expanded_in, core_turn_in, turn_at_in, BuiltSoFar, built_to, stopped_at, build_from_in, build_of_in}
use Rattle.graph.specs.Working.{left_of, forget_built, forget_build}

-- ---- one clause

abbrev pub turn_in : List ℕ → List ℕ → List ℕ → Result Work Halt → TurnedSoFar
turn_in g tr w (Ok k) = go_to (build_in g tr w k)
turn_in g tr w (Err h) = halt_at (number_of h.refusal) (graph_in g h.size)

abbrev pub TurnHolds : List ℕ → List ℕ → List ℕ → Result Work Halt → Type 0
TurnHolds g tr w (Ok k) = Holds g tr w k
TurnHolds g tr w (Err h) = Growing g h.size

-- the tables and answer r hold X
pub record Turns (X : TurnedSoFar) (g tr w : List ℕ) (r : Result Work Halt) : Type 0 where
  pub is : turn_in g tr w r ≡ X
  pub holds : TurnHolds g tr w r

module _ (T : Tables) (c : Clause) (g tr w : List ℕ) (k : Work) (b : Bool) (q : b ≡ is_learnt c) where
  pub core_learnt_lem : b ≡ true → Holds g tr w k → Turns (core_turn_in T c (build_in g tr w k)) g tr w (Err (record { refusal = F.Learnt; size = k.size }))
  core_learnt_lem e H = record { is = rw ((sym q ∙ e), core_turn_in); holds = H.growing }

  module _ (h us m : List ℕ) (d : Result Work Full) (e : b ≡ false) (R : Expanded (expand_in T c (build_in g tr w k)) h us m d) where
    turned : core_turn_in T c (build_in g tr w k) ≡ expanded_in (progress_in h us m d)
    turned = rw ((sym q ∙ e), core_turn_in) (ap expanded_in (sym R.is))

    pub core_on : (n : Work) → d ≡ Ok n → Turns (core_turn_in T c (build_in g tr w k)) h us m (Ok n)
    core_on n f = record { is = sym (turned ∙ ap (λ (p : Result Work Full). expanded_in (progress_in h us m p)) f); holds = rw f at R.holds }

    -- r is the refusal of full table z
    pub core_full : (z : Full) (r : Halt) → d ≡ Err z → r ≡ record { refusal = F.NoRoom; size = z.size }
        → Turns (core_turn_in T c (build_in g tr w k)) h us m (Err r)
    core_full z r f x = rw x (record { is = sym (turned ∙ ap (λ (p : Result Work Full). expanded_in (progress_in h us m p)) f); holds = rw f at R.holds })

pub ruleset cores = (core_learnt_lem, core_on, core_full)

-- a Requires, whose links gave u
module _ (T : Tables) (g tr w h : List ℕ) (k : Work) (a q : ℕ) (u : Result Size Full) (H : Holds g tr w k)
    (R : Grew (link_all_in (requires_of T q (requirers T a)) (graph_in g k.size)) h u) where
  pub requires_on : (s : Size) → u ≡ Ok s
      → Turns (core_turn_in T (C.Requires a q) (build_in g tr w k)) h tr w (Ok (record { size = s; triples = k.triples }))
  requires_on s e =
      let n : Work = record { size = s; triples = k.triples } in
      let X : Expanded (expand_in T (C.Requires a q) (build_in g tr w k)) h tr w (Ok n) =
      expand_requires T (C.Requires a q) g tr w h tr w k a q u (Ok n) refl H R (widen_on k u s e) in
      core_on T (C.Requires a q) g tr w k false refl h tr w (Ok n) refl X n refl

  pub requires_full : (z : Full) (r : Halt) → u ≡ Err z → r ≡ record { refusal = F.NoRoom; size = z.size }
      → Turns (core_turn_in T (C.Requires a q) (build_in g tr w k)) h tr w (Err r)
  requires_full z r e x =
      let X : Expanded (expand_in T (C.Requires a q) (build_in g tr w k)) h tr w (Err z) =
      expand_requires T (C.Requires a q) g tr w h tr w k a q u (Err z) refl H R (widen_full k u z e) in
      core_full T (C.Requires a q) g tr w k false refl h tr w (Err z) refl X z r refl x

pub ruleset requirings = (requires_on, requires_full)

-- the clause that a match found
pub core_found : (T : Tables) (c d : Clause) (g tr w : List ℕ) (k : Work) (h us m : List ℕ) (r : Result Work Halt) → c ≡ d
    → Turns (core_turn_in T d (build_in g tr w k)) h us m r → Turns (core_turn_in T c (build_in g tr w k)) h us m r
core_found T c d g tr w k h us m r e R = rw e R

-- how far building came, with clause i at hand
abbrev pub hand_work : Work → ℕ → Work
hand_work k i = record { size = taken k.size i; triples = k.triples }

pub hand_holds : (g tr w : List ℕ) (k m : Work) (i : ℕ) → m ≡ hand_work k i → Holds g tr w k → Holds g tr w m
hand_holds g tr w k m i e H = rw e (record { growing = taken_growing g k.size i H.growing; triples = H.triples; few = H.few })

hand_build : (g tr w : List ℕ) (k : Work) (i : ℕ) → build_in g tr w (hand_work k i) ≡ handed i (build_in g tr w k)
hand_build g tr w k i = rw (taken_graph g k.size i)

pub clauses_most : (file ix : List ℕ) (n : ℕ) → Loaded file ix → n ≡ length (tables_of file).clauses → n ≤ 1024
clauses_most file ix n L e = omega (arith, (loaded_valid file ix L).within Clauses)

module _ (T : Tables) (i : ℕ) (g tr w : List ℕ) (k : Work) (b : Bool) (q : b ≡ core_at T i) where
  pub turn_out : b ≡ false → Holds g tr w k → Turns (turn_at_in T i (build_in g tr w k)) g tr w (Ok k)
  unfolding turn_at_in
  turn_out e H = record { is = rw ((sym q ∙ e), turn_at_in); holds = H }

  pub turn_in_lem : (c : Clause) (n : Work) (h us m : List ℕ) (d : Result Work Halt) → b ≡ true → c ≡ clause_of T i → n ≡ hand_work k i
      → Turns (core_turn_in T c (build_in g tr w n)) h us m d → Turns (turn_at_in T i (build_in g tr w k)) h us m d
  unfolding turn_at_in
  turn_in_lem c n h us m d e f o R =
      let z : build_in g tr w n ≡ handed i (build_in g tr w k) = ap (build_in g tr w) o ∙ hand_build g tr w k i in
      record {
        is = R.is ∙ ap (core_turn_in T c) z ∙ rw ((sym q ∙ e), turn_at_in) (ap (λ (x : Clause). core_turn_in T x (handed i (build_in g tr w k))) f);
        holds = R.holds;
      }

pub ruleset turns = (turn_out, turn_in_lem)

-- ---- all clauses

abbrev pub core_in : List ℕ → List ℕ → List ℕ → Result Work Stop → BuiltSoFar
core_in g tr w (Ok k) = built_to (build_in g tr w k)
core_in g tr w (Err e) = stopped_at (number_of e.refusal) e.place (graph_in g e.size)

abbrev pub CoreHolds : List ℕ → List ℕ → List ℕ → Result Work Stop → Type 0
CoreHolds g tr w (Ok k) = Holds g tr w k
CoreHolds g tr w (Err e) = Growing g e.size

pub record Builds (X : BuiltSoFar) (g tr w : List ℕ) (r : Result Work Stop) : Type 0 where
  pub is : core_in g tr w r ≡ X
  pub holds : CoreHolds g tr w r

-- the clauses from number i on, of n, lead to X
pub record ClausesLeft (X : BuiltSoFar) (T : Tables) (n i : ℕ) (g tr w : List ℕ) (k : Work) : Type 0 where
  pub left : build_from_in (n - i) T i (build_in g tr w k) ≡ X
  pub holds : Holds g tr w k
  pub low : i ≤ n

abbrev onward : ℕ → Tables → ℕ → TurnedSoFar → BuiltSoFar
onward n T i (halt_at q g) = stopped_at q i g
onward n T i (go_to b) = build_from_in n T (suc i) b

same_onward : (n : ℕ) (T : Tables) (i : ℕ) (t : TurnedSoFar) → elim t [ halt_at k g ↦ stopped_at k i g | go_to d ↦ build_from_in n T (suc i) d ] ≡ onward n T i t
same_onward n T i (halt_at q g) = refl
same_onward n T i (go_to b) = refl

build_suc : (n m : ℕ) (T : Tables) (i : ℕ) (b : Build) → m ≡ suc n → build_from_in m T i b ≡ onward n T i (turn_at_in T i b)
unfolding build_from_in
build_suc n m T i b e = rw e (same_onward n T i (turn_at_in T i b))

pub left_start : (T : Tables) (n : ℕ) (g tr w : List ℕ) (k : Work) → Holds g tr w k → ClausesLeft (build_from_in n T 0 (build_in g tr w k)) T n 0 g tr w k
left_start T n g tr w k H = let z : n - 0 ≡ n = omega arith in record { left = rw z; holds = H; low = omega arith }

module _ (X : BuiltSoFar) (T : Tables) (n i : ℕ) (g tr w h us m : List ℕ) (k : Work) (d : Result Work Halt) (L : ClausesLeft X T n i g tr w k) (l : i
    < n) (R : Turns (turn_at_in T i (build_in g tr w k)) h us m d) where
  rest : onward (n - (i + 1)) T i (turn_in h us m d) ≡ X
  rest = ap (onward (n - (i + 1)) T i) R.is ∙ sym (build_suc (n - (i + 1)) (n - i) T i (build_in g tr w k) (omega arith)) ∙ L.left

  pub left_next : (j : Work) → d ≡ Ok j → ClausesLeft X T n (i + 1) h us m j
  left_next j e =
      let z : build_from_in (n - (i + 1)) T (suc i) (build_in h us m j) ≡ X = ap (λ (t : Result Work Halt). onward (n - (i + 1)) T i (turn_in h us m t)) (sym e) ∙ rest in
      record { left = ap (λ (x : ℕ). build_from_in (n - (i + 1)) T x (build_in h us m j)) (add-one i) ∙ z; holds = rw e at R.holds; low = omega arith }

  -- p is the clause's number, wider
  pub left_stop : (e : Halt) (p : ℕ) → d ≡ Err e → p ≡ i → Builds X h us m (Err (record { refusal = e.refusal; place = p; size = e.size }))
  left_stop e p f q = rw q (record { is = ap (λ (t : Result Work Halt). onward (n - (i + 1)) T i (turn_in h us m t)) (sym f) ∙ rest; holds = rw f at R.holds })

pub left_end : (X : BuiltSoFar) (T : Tables) (n i : ℕ) (g tr w : List ℕ) (k : Work) → ClausesLeft X T n i g tr w k → n ≤ i → Builds X g tr w (Ok k)
unfolding build_from_in
left_end X T n i g tr w k L h =
    let z : n - i ≡ 0 = omega arith in
    record { is = ap (λ (m : ℕ). build_from_in m T i (build_in g tr w k)) (sym z) ∙ L.left; holds = L.holds }

pub ruleset lefts = (left_start, left_next, left_stop, left_end)

-- ---- the end

abbrev pub drawing_in : List ℕ → Result Size Stop → Outcome
drawing_in g (Ok s) = drawn (graph_in g s)
drawing_in g (Err e) = refused (number_of e.refusal) e.place

abbrev pub drawing_size : Result Size Stop → Size
drawing_size (Ok s) = s
drawing_size (Err e) = e.size

abbrev pub Chained : List ℕ → List ℕ → Result Size Stop → Type 0
Chained g w (Ok s) = Chains g s w
Chained g w (Err e) = Unit {0}

-- outcome X and graph G are what table g and answer r hold; where b asks for chains, a drawn graph is chained in w
pub record Drew (b : Bool) (X : Outcome) (G : Graph) (g w : List ℕ) (r : Result Size Stop) : Type 0 where
  pub is : drawing_in g r ≡ X
  pub holds : graph_in g (drawing_size r) ≡ G
  pub stored : Stored g (drawing_size r)
  pub chained : b ≡ true → Chained g w r

none_low : (o : Maybe ℕ) (u : Option ℕ) → u ≡ lowest_node o → u ≡ None → o ≡ none
none_low none u q e = refl
none_low (some n) u q e = let z : Some n ≡ None = sym q ∙ e in clash (cc)

some_low : (o : Maybe ℕ) (u : Option ℕ) (n : ℕ) → u ≡ lowest_node o → u ≡ Some n → o ≡ some n
some_low none u n q e = let z : None ≡ Some n = sym q ∙ e in clash (cc)
some_low (some m) u n q e = let z : Some m ≡ Some n = sym q ∙ e in let y : m ≡ n = cc in ap some y

-- u is what looking for a node that is not reached gave
module _ (g w : List ℕ) (t : Size) (u : Option ℕ) (C : Chains g t w) (q : u ≡ lowest_node (unreached (graph_in g t))) where
  pub end_drawn : u ≡ None → Drew true (reached_all (graph_in g t)) (graph_in g t) g w (Ok t)
  unfolding reached_all
  end_drawn z = record { is = rw (none_low (unreached (graph_in g t)) u q z, reached_all); holds = refl; stored = (C).stored; chained = λ _. C }

  -- p is the node's number, wider
  pub end_unreached : (n p : ℕ) → u ≡ Some n → p ≡ n → Drew true (reached_all (graph_in g t)) (graph_in g t) g w (Err (record { refusal = F.Unreached; place = p; size = t }))
  unfolding reached_all
  end_unreached n p z f =
      record { is = rw (some_low (unreached (graph_in g t)) u n q z, reached_all, f); holds = refl; stored = (C).stored; chained = λ _. tt }

-- t is what `settle` left in h
module _ (b : Bool) (g h w : List ℕ) (s t : Size) (e : graph_in h t ≡ settle (graph_in g s)) where
  pub end_settled : (d : Result Size Stop) → Drew true (reached_all (graph_in h t)) (graph_in h t) h w d
      → Drew b (reached_all (settle (graph_in g s))) (settle (graph_in g s)) h w d
  end_settled d F = rw (← e) (record { is = F.is; holds = F.holds; stored = F.stored; chained = λ _. F.chained refl })

  -- without chains: r is what one pass over the edges gave
  pub end_swept : (r : Bool) → r ≡ true → r ≡ swept_in h t → Stored h t → b ≡ false
      → Drew b (reached_all (settle (graph_in g s))) (settle (graph_in g s)) h w (Ok t)
  unfolding reached_all
  end_swept r y q S n =
      let z : unreached (settle (graph_in g s)) ≡ none = ap unreached (sym e) ∙ swept_whole h t S (sym q ∙ y) in
      record { is = rw (z, reached_all) (ap drawn e); holds = e; stored = S; chained = λ c. absurd (false≢true (sym n ∙ c)) }

-- ---- the whole

-- the tables as building starts: s is what `start` gave
pub start_holds : (g tr w : List ℕ) (s : Size) → Growing g s → length tr ≡ 1280 → w ≡ replicate 3456 0 → Holds g tr w (record { size = s; triples = 0 })
start_holds g tr w s P h e =
    record { growing = P; triples = triples_none tr w (rw e clear_fresh) h; few = omega arith }

start_build_lem : (g tr w : List ℕ) (s : Size) → graph_in g s ≡ start_graph → w ≡ replicate 3456 0 → build_in g tr w (record { size = s; triples = 0 }) ≡ start_build
start_build_lem g tr w s q e =
    let C : Clear w = rw e clear_fresh in
    rw (q, made_none tr, lasts_none w C)

module _ (T : Tables) (n : ℕ) (g tr w h us m : List ℕ) (s : Size) (r : Result Work Stop) (a : n ≡ length T.clauses) (q : graph_in g s ≡ start_graph) (e : w
    ≡ replicate 3456 0) (R : Builds (build_from_in n T 0 (build_in g tr w (record { size = s; triples = 0 }))) h us m r) where
  whole : core_in h us m r ≡ build_of_in T
  unfolding build_of_in
  whole =
      R.is ∙ ap (λ (x : ℕ). build_from_in x T 0 (build_in g tr w (record { size = s; triples = 0 }))) a
      ∙ ap (build_from_in (length T.clauses) T 0) (start_build_lem g tr w s q e)

  pub build_refused : (b : Bool) (e : Stop) → r ≡ Err e → Drew b (graph_of T) (left_of T) h m (Err e)
  unfolding graph_of left_of
  build_refused b e f =
      let y : build_of_in T ≡ stopped_at (number_of e.refusal) e.place (graph_in h e.size) = sym whole ∙ ap (core_in h us m) f in
      let P : Growing h e.size = rw f at R.holds in
      let x : build_of T ≡ stopped (number_of e.refusal) e.place = sym (forget_build T) ∙ ap forget_built y in
      record { is = rw (x, graph_of); holds = rw (y, left_of); stored = (P).stored; chained = λ _. tt }

  pub build_whole : (b : Bool) (k : Work) (j v : List ℕ) (d : Result Size Stop) → r ≡ Ok k
      → Drew b (reached_all (settle (graph_in h k.size))) (settle (graph_in h k.size)) j v d → Drew b (graph_of T) (left_of T) j v d
  unfolding graph_of left_of
  build_whole b k j v d f F =
      let y : build_of_in T ≡ built_to (build_in h us m k) = sym whole ∙ ap (core_in h us m) f in
      let x : build_of T ≡ built (build_in h us m k) = sym (forget_build T) ∙ ap forget_built y in
      record { is = F.is ∙ rw (x, graph_of); holds = F.holds ∙ rw (y, left_of); stored = F.stored; chained = F.chained }

  pub whole_growing : (k : Work) → r ≡ Ok k → Growing h k.size
  whole_growing k f = let H : Holds h us m k = rw f at R.holds in H.growing

  pub whole_wide : (k : Work) → r ≡ Ok k → length m ≡ 3456
  whole_wide k f = let H : Holds h us m k = rw f at R.holds in H.triples.chained.wide

pub ruleset builds = (build_refused, build_whole)
