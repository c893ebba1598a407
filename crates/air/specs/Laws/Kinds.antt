-- What the profile's answer says of the clauses and the graph.
use Rattle.std.specs.Prelude.{◌≡◌, Bool, true, false, cond, ℕ, ◌<◌, ◌≤◌, ltb}
use Rattle.std.proofs.Math.Path.{refl}
use Rattle.std.proofs.Common.{arith}
use Rattle.std.proofs.Math.Option.{Option, none, some}
use Rattle.std.proofs.Math.ListN.{length}
use borrow.Author.Tests.{ltb-true, ltb-false}
use Rattle.basis.specs.Members.{split}
use Rattle.records.specs.Tables.{Tables}
use Rattle.store.specs.Graph.{Graph}
use Rattle.cycles.specs.Cycles.{cycle_of}
use Rattle.cycles.specs.Laws.Found.{first_some, first_none}
use Rattle.air.specs.declared.Profile.{Profile}
use Rattle.air.specs.declared.Profile.TheVariants.{Passed, Refused}
use Rattle.air.specs.Laws.Locks.{lock_past}
use Rattle.air.specs.Profile.{lock_at, first_lock, cycle_profile, graph_profile, lock_profile, profile_of}

-- the profile takes the file
pub record Taken (T : Tables) (G : Graph) : Type 0 where
  pub unlocked : first_lock T ≡ none
  pub few : length G.nodes ≤ 64
  pub free : cycle_of G ≡ none

-- the ways that the tests can go
pub data Tested (T : Tables) (G : Graph) : Profile → Type 0 where
  passed : Taken T G → Tested T G Passed
  locked : (i : ℕ) → first_lock T ≡ some i → Tested T G (Refused 15 i)
  many : first_lock T ≡ none → 64 < length G.nodes → Tested T G (Refused 16 0)
  cyclic : (n : ℕ) → first_lock T ≡ none → length G.nodes ≤ 64 → cycle_of G ≡ some n → Tested T G (Refused 17 n)

module _ (T : Tables) (G : Graph) where
  pub tested : Tested T G (profile_of T G)
  unfolding profile_of
  tested = by_lock (first_lock T) refl
    where
      by_cycle : first_lock T ≡ none → length G.nodes ≤ 64 → (o : Option ℕ) → cycle_of G ≡ o → Tested T G (cycle_profile o)
      by_cycle u l none e = passed (record { unlocked = u; few = l; free = e })
      by_cycle u l (some n) e = cyclic n u l e

      by_many : first_lock T ≡ none → (b : Bool) → ltb 64 (length G.nodes) ≡ b → Tested T G (cond b (Refused 16 0) (cycle_profile (cycle_of G)))
      by_many u true e = many u (ltb-true 64 (length G.nodes) e)
      by_many u false e = by_cycle u (ltb-false 64 (length G.nodes) e) (cycle_of G) refl

      by_lock : (o : Option ℕ) → first_lock T ≡ o → Tested T G (lock_profile o (graph_profile G))
      by_lock none e = by_many e (ltb 64 (length G.nodes)) refl
      by_lock (some i) e = locked i e

-- ---- the first Lock in the core, by the clauses

module _ (T : Tables) where
  pub lock_is : (i : ℕ) → first_lock T ≡ some i → lock_at T i ≡ true
  unfolding first_lock
  lock_is i e = (first_some (lock_at T) (length T.clauses) 0 i e).0

  pub lock_least : (i : ℕ) → first_lock T ≡ some i → (j : ℕ) → j < i → lock_at T j ≡ false
  unfolding first_lock
  lock_least i e j l = (first_some (lock_at T) (length T.clauses) 0 i e).1 j (omega arith) l

  pub unlocked_all : first_lock T ≡ none → (j : ℕ) → lock_at T j ≡ false
  unfolding first_lock
  unlocked_all e j =
      split (ltb j (length T.clauses))
      (λ t. first_none (lock_at T) (length T.clauses) 0 e j (omega arith) (omega (arith, ltb-true j (length T.clauses) t)))
      (λ t. lock_past T j (ltb-false j (length T.clauses) t))
