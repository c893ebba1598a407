-- The way through the clauses to the first Lock in the core.
use Rattle.std.specs.Prelude.{◌≡◌, refl, Bool, false, List, [], ◌∷◌, ℕ, zero, suc, ◌+◌, ◌<◌, ◌≤◌, length, get_or, eqb, ltb}
use Rattle.std.proofs.Math.Path.{sym}
use Rattle.std.proofs.Common.{ap, ◌∙◌, not-suc-le-zero, arith, eqb-true, ltb-true, ltb-false}
use Rattle.std.proofs.Math.Bool.{true}
use Rattle.std.proofs.lemmas.Bool.{false≢true, eqb-false}
use Rattle.std.proofs.Math.Option.{none, some}
use Rattle.basis.specs.Lists.{first, upto}
use Rattle.basis.specs.Members.{split}
use Rattle.records.specs.declared.Clause.{Clause}
use Rattle.records.specs.declared.Table.TheVariants.{Clauses}
use Rattle.records.specs.Shapes.{Rec}
use Rattle.records.specs.Tables.{Tables, no_rec}
use Rattle.records.specs.Read.{tables_of}
use Rattle.records.specs.Views.{clause_of, core_at}
use Rattle.index.specs.Index.{Loaded}
use Rattle.index.specs.Found.{loaded_valid}
use Rattle.links.specs.Queue.{lowest_of}
use Rattle.air.specs.Profile.{is_lock, lock_at, first_lock}

-- ---- one clause

module _ (T : Tables) (i : ℕ) (b : Bool) (q : b ≡ core_at T i) where
  pub lock_in : (c : Clause) (r : Bool) → b ≡ true → c ≡ clause_of T i → r ≡ is_lock c → r ≡ lock_at T i
  unfolding lock_at
  lock_in c r e h z = rw ((sym q ∙ e), ← h) z

  pub lock_out : b ≡ false → false ≡ lock_at T i
  unfolding lock_at
  lock_out e = rw (sym q ∙ e)

-- ---- past the last clause there is none

past : (rs : List Rec) (i : ℕ) → length rs ≤ i → get_or rs i no_rec ≡ no_rec
past [] i l = refl
past (r ∷ rs) zero l = absurd (not-suc-le-zero l)
past (r ∷ rs) (suc i) l = past rs i (omega arith)

pub lock_past : (T : Tables) (i : ℕ) → length T.clauses ≤ i → lock_at T i ≡ false
unfolding lock_at
lock_past T i l = rw (past T.clauses i l)

lock_there : (T : Tables) (i : ℕ) → lock_at T i ≡ true → i < length T.clauses
lock_there T i e =
    split (ltb i (length T.clauses))
    (λ t. ltb-true i (length T.clauses) t)
    (λ t. absurd (false≢true (sym (lock_past T i (ltb-false i (length T.clauses) t)) ∙ e)))

-- ---- the first in a row

first_at_lem : (p : ℕ → Bool) (k a i : ℕ) → a ≤ i → i < a + k → ((m : ℕ) → m < i → p m ≡ false) → p i ≡ true → first p (upto k a) ≡ some i
first_at_lem p zero a i l h f e = let z : ⊥ = omega arith in absurd z
first_at_lem p (suc k) a i l h f e =
    split (eqb a i)
    (λ t. let q : a ≡ i = eqb-true a i t in let z : p a ≡ true = rw q e in rw (z, first) (ap (λ (x : ℕ). some x) q))
    (λ t. let o : a < i = omega (arith, eqb-false a i t) in rw (f a o, first) (first_at_lem p k (suc a) i (omega arith) (omega arith) f e))

first_never : (p : ℕ → Bool) (k a : ℕ) → ((m : ℕ) → m < a + k → p m ≡ false) → first p (upto k a) ≡ none
first_never p zero a f = refl
first_never p (suc k) a f = rw (f a (omega arith), first) (first_never p k (suc a) (λ m l. f m (omega arith)))

-- ---- the loop: none of the clauses before i is one

pub record NoLock (T : Tables) (i : ℕ) : Type 0 where
  pub none_before : (m : ℕ) → m < i → lock_at T m ≡ false

pub lock_start : (T : Tables) → NoLock T 0
lock_start T = record { none_before = λ m l. absurd (not-suc-le-zero l) }

module _ (T : Tables) (i : ℕ) (N : NoLock T i) where
  pub lock_next : (t : Bool) → t ≡ lock_at T i → t ≡ false → NoLock T (i + 1)
  lock_next t q e =
      record { none_before = λ m l. split (eqb m i) (λ u. rw (eqb-true m i u) (sym q ∙ e)) (λ u. N.none_before m (omega (arith, eqb-false m i u))) }

  pub lock_found : (t : Bool) → t ≡ lock_at T i → t ≡ true → i + 1 ≡ lowest_of (first_lock T)
  unfolding first_lock
  lock_found t q e =
      let h : lock_at T i ≡ true = sym q ∙ e in
      sym (ap lowest_of (first_at_lem (lock_at T) (length T.clauses) 0 i (omega arith) (omega (arith, lock_there T i h)) N.none_before h))

  pub lock_first_is : (t : Bool) → t ≡ lock_at T i → t ≡ true → first_lock T ≡ some i
  unfolding first_lock
  lock_first_is t q e =
      let h : lock_at T i ≡ true = sym q ∙ e in
      first_at_lem (lock_at T) (length T.clauses) 0 i (omega arith) (omega (arith, lock_there T i h)) N.none_before h

pub lock_none_is : (file ix : List ℕ) (i : ℕ) → NoLock (tables_of file) i → 1024 ≤ i → Loaded file ix → first_lock (tables_of file) ≡ none
unfolding first_lock
lock_none_is file ix i N h L =
    let T : Tables = tables_of file in
    let w : length T.clauses ≤ 1024 = (loaded_valid file ix L).within Clauses in
    first_never (lock_at T) (length T.clauses) 0 (λ m l. N.none_before m (omega arith))

pub lock_none : (file ix : List ℕ) (i : ℕ) → NoLock (tables_of file) i → 1024 ≤ i → Loaded file ix → 0 ≡ lowest_of (first_lock (tables_of file))
unfolding first_lock
lock_none file ix i N h L =
    let T : Tables = tables_of file in
    let w : length T.clauses ≤ 1024 = (loaded_valid file ix L).within Clauses in
    sym (ap lowest_of (first_never (lock_at T) (length T.clauses) 0 (λ m l. N.none_before m (omega arith))))
