-- The air profile (document 02, order 9): "The profile takes files with at most 64 nodes (counted after unresolved may have gone), no Lock
-- in the core and no cycle in the graph."
use Rattle.std.specs.Prelude.{Bool, true, false, cond, ◌&&◌, ℕ, length, ltb}
use Rattle.std.proofs.Math.Option.{Option, none, some}
use Rattle.basis.specs.Lists.{first, upto}
use Rattle.records.specs.declared.Clause.{Clause}
use Rattle.records.specs.declared.Clause.TheVariants as C
use Rattle.records.specs.Tables.{Tables}
use Rattle.records.specs.Views.{clause_of, clause_in, core_at}
use Rattle.store.specs.Graph.{Graph}
use Rattle.cycles.specs.Cycles.{cycle_of}
use Rattle.air.specs.declared.Profile.{Profile}
use Rattle.air.specs.declared.Profile.TheVariants.{Passed, Refused}

-- the clause is a Lock: "15 for a Lock"
abbrev pub is_lock : Clause → Bool
is_lock C.InstallRoot = false
is_lock (C.Excluded a b) = false
is_lock C.Learnt = false
is_lock (C.Requires a b) = false
is_lock (C.Lock a b) = true
is_lock (C.ForbidMultipleInstances a b) = false
is_lock (C.Constrains a b c) = false
is_lock (C.ConstrainsParent a b c) = false
is_lock (C.ConstrainsExcluded a b c) = false
is_lock (C.AnyOf a b) = false

-- clause i is a Lock and in the core: "no Lock in the core"
unfoldable pub lock_at : Tables → ℕ → Bool
unfolding clause_of clause_in
lock_at T i = core_at T i && is_lock (clause_of T i)

-- "15 for a Lock, place the first": by its number among all clauses, as the places of 7 and 8 are
unfoldable pub first_lock : Tables → Option ℕ
unfolding lock_at
first_lock T = first (lock_at T) (upto (length T.clauses) 0)

-- "17 for a cycle, place the lowest node on one"
abbrev pub cycle_profile : Option ℕ → Profile
cycle_profile none = Passed
cycle_profile (some n) = Refused 17 n

-- "16 for too many nodes, place 0": of the graph that is drawn, from which unresolved may have gone
abbrev pub graph_profile : Graph → Profile
graph_profile G = cond (ltb 64 (length G.nodes)) (Refused 16 0) (cycle_profile (cycle_of G))

-- "15 for a Lock, place the first"
abbrev pub lock_profile : Option ℕ → Profile → Profile
lock_profile none x = x
lock_profile (some i) x = Refused 15 i

-- "tested in that order after 9"
unfoldable pub profile_of : Tables → Graph → Profile
unfolding first_lock cycle_of
profile_of T G = lock_profile (first_lock T) (graph_profile G)
