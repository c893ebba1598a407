-- The core in file order, with what stays in working memory where a clause is refused: the graph as far as it came. With that graph
-- forgotten it is the building of `Graphs`.
use Rattle.std.specs.Prelude.{◌≡◌, refl, Bool, true, false, ℕ, zero, suc, length}
use Rattle.std.proofs.Common.{sym, ap, ◌∙◌}
use Rattle.basis.specs.Members.{clash}
use Rattle.records.specs.declared.Clause.{Clause}
use Rattle.records.specs.Tables.{Tables}
use Rattle.records.specs.Views.{clause_of, core_at}
use Rattle.store.specs.Graph.{Graph, settle}
use Rattle.expansion.specs.Expand.{Build, start_build, ClauseStep, on, stop, expand}
use Rattle.expansion.specs.Working.{StepSoFar, on_to, stop_at, expand_in, forget_step, forget_expand}
use Rattle.graph.specs.Graphs.{is_learnt, Turned, go, halt, expanded, core_turn, handed, turn_at}
use Rattle.graph.specs.Graphs.{Built, built, stopped, build_from, build_of}

-- ---- the definitions

-- `Turned`; a refusal's number with the graph so far
pub data TurnedSoFar : Type 0 where
  go_to : Build → TurnedSoFar
  halt_at : ℕ → Graph → TurnedSoFar

abbrev pub expanded_in : StepSoFar → TurnedSoFar
expanded_in (on_to b) = go_to b
expanded_in (stop_at g) = halt_at 8 g

abbrev pub core_turn_in : Tables → Clause → Build → TurnedSoFar
core_turn_in T c b = elim (is_learnt c) [ true ↦ halt_at 7 b.graph | false ↦ expanded_in (expand_in T c b) ]

unfoldable pub turn_at_in : Tables → ℕ → Build → TurnedSoFar
unfolding expand_in
turn_at_in T i b = elim (core_at T i) [ false ↦ go_to b | true ↦ core_turn_in T (clause_of T i) (handed i b) ]

-- `Built`; a refusal's number and place with the graph so far
pub data BuiltSoFar : Type 0 where
  built_to : Build → BuiltSoFar
  stopped_at : ℕ → ℕ → Graph → BuiltSoFar

unfoldable pub build_from_in : ℕ → Tables → ℕ → Build → BuiltSoFar
unfolding turn_at_in
build_from_in zero T i b = built_to b
build_from_in (suc n) T i b = elim (turn_at_in T i b) [ halt_at k g ↦ stopped_at k i g | go_to d ↦ build_from_in n T (suc i) d ]

unfoldable pub build_of_in : Tables → BuiltSoFar
unfolding build_from_in
build_of_in T = build_from_in (length T.clauses) T 0 start_build

-- the graph that building leaves: the drawn one; for 7 and 8 the graph so far; for 9 the one that is not reached as a whole
unfoldable pub left_of : Tables → Graph
unfolding build_of_in settle
left_of T = elim (build_of_in T) [ stopped_at k i g ↦ g | built_to b ↦ settle b.graph ]

-- ---- with the graph forgotten

abbrev pub forget_turned : TurnedSoFar → Turned
forget_turned (go_to b) = go b
forget_turned (halt_at k g) = halt k

forget_expanded : (s : StepSoFar) → forget_turned (expanded_in s) ≡ expanded (forget_step s)
forget_expanded (on_to b) = refl
forget_expanded (stop_at g) = refl

pub forget_core : (T : Tables) (c : Clause) (b : Build) → forget_turned (core_turn_in T c b) ≡ core_turn T c b
forget_core T c b = by_learnt (is_learnt c)
  where
    by_learnt : (l : Bool)
        → forget_turned (elim l as (λ _. TurnedSoFar) [ true ↦ halt_at 7 b.graph | false ↦ expanded_in (expand_in T c b) ])
        ≡ elim l as (λ _. Turned) [ true ↦ halt 7 | false ↦ expanded (expand T c b) ]
    by_learnt true = refl
    by_learnt false = forget_expanded (expand_in T c b) ∙ ap expanded (forget_expand T c b)

pub forget_turn : (T : Tables) (i : ℕ) (b : Build) → forget_turned (turn_at_in T i b) ≡ turn_at T i b
unfolding turn_at_in turn_at
forget_turn T i b = by_core (core_at T i)
  where
    by_core : (c : Bool)
        → forget_turned (elim c as (λ _. TurnedSoFar) [ false ↦ go_to b | true ↦ core_turn_in T (clause_of T i) (handed i b) ])
        ≡ elim c as (λ _. Turned) [ false ↦ go b | true ↦ core_turn T (clause_of T i) (handed i b) ]
    by_core false = refl
    by_core true = forget_core T (clause_of T i) (handed i b)

abbrev pub forget_built : BuiltSoFar → Built
forget_built (built_to b) = built b
forget_built (stopped_at k i g) = stopped k i

forget_then : (n : ℕ) (T : Tables) (i : ℕ) (t : TurnedSoFar)
    → ((d : Build) → forget_built (build_from_in n T (suc i) d) ≡ build_from n T (suc i) d)
    → forget_built (elim t [ halt_at k g ↦ stopped_at k i g | go_to d ↦ build_from_in n T (suc i) d ])
    ≡ elim (forget_turned t) [ halt k ↦ stopped k i | go d ↦ build_from n T (suc i) d ]
forget_then n T i (go_to d) f = f d
forget_then n T i (halt_at k g) f = refl

pub forget_from : (n : ℕ) (T : Tables) (i : ℕ) (b : Build) → forget_built (build_from_in n T i b) ≡ build_from n T i b
unfolding build_from_in build_from
forget_from zero T i b = refl
forget_from (suc n) T i b =
    forget_then n T i (turn_at_in T i b) (forget_from n T (suc i))
    ∙ ap (λ (t : Turned). elim t as (λ _. Built) [ halt k ↦ stopped k i | go d ↦ build_from n T (suc i) d ]) (forget_turn T i b)

pub forget_build : (T : Tables) → forget_built (build_of_in T) ≡ build_of T
unfolding build_of_in build_of
forget_build T = forget_from (length T.clauses) T 0 start_build

-- ---- the way back: what went on or was built is the same in working memory

pub goes_in : (T : Tables) (i : ℕ) (b d : Build) → turn_at T i b ≡ go d → turn_at_in T i b ≡ go_to d
goes_in T i b d e = by (turn_at_in T i b) (forget_turn T i b ∙ e)
  where
    by : (t : TurnedSoFar) → forget_turned t ≡ go d → t ≡ go_to d
    by (go_to c) q = let z : c ≡ d = cc in ap go_to z
    by (halt_at k g) q = clash (cc)
