-- The graph of a file's tables: "Core clauses go in file order", 7 and 8 on the way, then unresolved may go, then 9.
use Rattle.std.specs.Prelude.{Bool, true, false, ℕ, zero, suc, length}
use Rattle.std.proofs.Math.Option.{Option, none, some}
use Rattle.records.specs.declared.Clause.{Clause}
use Rattle.records.specs.declared.Clause.TheVariants as C
use Rattle.records.specs.Tables.{Tables}
use Rattle.records.specs.Views.{clause_of, clause_in, core_at}
use Rattle.store.specs.Graph.{Graph, handing, settle, reached, unreached}
use Rattle.expansion.specs.Expand.{Build, ClauseStep, on, stop, start_build, expand}

-- the clause is Learnt: 7, "Learnt in the core"
abbrev pub is_learnt : Clause → Bool
is_learnt C.InstallRoot = false
is_learnt (C.Excluded a b) = false
is_learnt C.Learnt = true
is_learnt (C.Requires a b) = false
is_learnt (C.Lock a b) = false
is_learnt (C.ForbidMultipleInstances a b) = false
is_learnt (C.Constrains a b c) = false
is_learnt (C.ConstrainsParent a b c) = false
is_learnt (C.ConstrainsExcluded a b c) = false
is_learnt (C.AnyOf a b) = false

-- what one clause leads to in `core_turn`: the build goes on; or a refusal's number, 7 or 8
pub data Turned : Type 0 where
  go : Build → Turned
  halt : ℕ → Turned

-- 8: "node 129 or edge 1,025 would be added"
abbrev pub expanded : ClauseStep → Turned
expanded (on b) = go b
expanded stop = halt 8

-- 7: "Learnt in the core" (`unreachable!()`, conflict.rs, line 186)
abbrev pub core_turn : Tables → Clause → Build → Turned
core_turn T c b = elim (is_learnt c) [ true ↦ halt 7 | false ↦ expanded (expand T c b) ]

-- document 02, order 3: "the number of the core clause that added it" is the clause's number among all clauses, as the places of 7 and 8
-- are. A triple made before adds nothing (`once`), so "a shared triple keeps the first one's"
abbrev pub handed : ℕ → Build → Build
handed i b = record { graph = handing i b.graph; last = b.last; made = b.made }

-- "Core clauses go in file order": one outside the core adds nothing
unfoldable pub turn_at : Tables → ℕ → Build → Turned
unfolding clause_of clause_in expand
turn_at T i b = elim (core_at T i) [ false ↦ go b | true ↦ core_turn T (clause_of T i) (handed i b) ]

-- what `build_of` gives: the graph of the whole core, or a refusal with its number and its place
pub data Built : Type 0 where
  built : Build → Built
  stopped : ℕ → ℕ → Built

-- n clauses from number i on, in `build_of`
unfoldable pub build_from : ℕ → Tables → ℕ → Build → Built
unfolding turn_at
build_from zero T i b = built b
build_from (suc n) T i b = elim (turn_at T i b) [ halt k ↦ stopped k i | go d ↦ build_from n T (suc i) d ]

-- "Core clauses go in file order, as in the Rust" (the loop of `Conflict::graph`, conflict.rs, line 165 on)
unfoldable pub build_of : Tables → Built
unfolding build_from
build_of T = build_from (length T.clauses) T 0 start_build

-- what `graph_of` gives: the finished graph, or 7, 8 or 9 with its place
pub data Outcome : Type 0 where
  drawn : Graph → Outcome
  refused : ℕ → ℕ → Outcome

-- 9: "lowest such node, numbered after unresolved may have gone" (`Bfs` and the assert, conflict.rs, lines 367 to 371)
unfoldable pub reached_all : Graph → Outcome
unfolding unreached reached
reached_all g = elim (unreached g) [ none ↦ drawn g | some n ↦ refused 9 n ]

-- `Conflict::graph` (conflict.rs, lines 44 to 378): the core, the removal of unresolved (line 359), reachability
unfoldable pub graph_of : Tables → Outcome
unfolding build_of reached_all settle
graph_of T = elim (build_of T) [ stopped k i ↦ refused k i | built b ↦ reached_all (settle b.graph) ]
