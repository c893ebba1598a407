-- The chains of a loaded index as lists: candidates of a requirement, partners of a gate and of an auxiliary, each in file
-- order. A stored value x is 0 for none, else a number plus one; the loop is `while 0 < x { let k = x - 1; ..; x = next(k); }`.
-- What is left to walk at x is a list, and the laws hold for every x.
use Rattle.std.specs.Prelude.{◌≡◌, Bool, true, false, cond, ◌&&◌, length, ltb}
use Rattle.std.proofs.Math.Path.{refl}
use Rattle.std.proofs.Common.{sym, ap, ◌∙◌, not-suc-le-zero, sub-one}
use mathlib.Core.List.{List, [], ◌∷◌, map}
use Rattle.std.proofs.Math.Option.{some}
use Prim.Native.Nat.{ℕ, zero, suc, ◌+◌, ◌-◌, ◌≤◌, ◌<◌}
use native.Mathlib.Omega.{arith}
use Rattle.std.proofs.Math.Dec.{eqb}
use borrow.Author.Tests.{lt-ltb, ltb-true, ltb-false, eqb-true, eqb-false, eq-eqb, ne_eqb}
use Rattle.basis.specs.Lists.{filter}
use Rattle.basis.specs.Members.{split}
use Rattle.basis.specs.Chains.{oldest, ups, oldest_hit, oldest_miss, oldest_past, ups_hit, ups_miss, ups_past}
use Rattle.basis.specs.Walks.{ups_list}
use Rattle.records.specs.declared.Table.TheVariants.{Names, Requirements, Candidates, Variables, Clauses}
use Rattle.records.specs.declared.Slot.TheVariants as S
use Rattle.records.specs.declared.Allowed.TheVariants as A
use Rattle.records.specs.declared.Shape.{Shape}
use Rattle.records.specs.Shapes.{Rec, shape_of}
use Rattle.records.specs.Tables.{Tables, at, no_rec}
use Rattle.records.specs.Views.{in_core, candidates_of, gate_partners, aux_partners}
use Rattle.index.specs.Steps.{each_kind}
use Rattle.index.specs.Promise.{Valid, Sound}
use Rattle.index.specs.Index.{key_in, candidate_key, partner_key, link_of}

-- ---- any chain

-- the items from the stored value x on
unfoldable items_from : (ℕ → ℕ) → ℕ → ℕ → ℕ → List ℕ
items_from key keys m zero = []
items_from key keys m (suc k) = k ∷ cond (ltb (key k) keys) (ups key (suc k) m (key k)) []

module _ (key : ℕ → ℕ) (keys m : ℕ) where
  jump : (c e n : ℕ) → m - e ≡ c → n < keys → items_from key keys m (oldest key e m n) ≡ ups key e m n
  unfolding items_from
  jump zero e n z h = rw (oldest_past key e m n (omega arith)) (sym (ups_past key e m n (omega arith)))
  jump (suc c) e n z h =
      let l : e < m = omega arith in
      split (eqb (key e) n)
      (λ t. let y : key e ≡ n = eqb-true (key e) n t in
      rw (oldest_hit key e m n l t, ups_hit key e m n l t) (rw (y, lt-ltb n keys h)))
      (λ t. rw (oldest_miss key e m n l t, ups_miss key e m n l t) (jump c (suc e) n (omega arith) h))

  items_start : (n : ℕ) → n < keys → items_from key keys m (oldest key 0 m n) ≡ ups key 0 m n
  items_start n h = jump (m - 0) 0 n refl h

  items_step : (k : ℕ) → items_from key keys m (suc k) ≡ k ∷ items_from key keys m (link_of key keys m k)
  unfolding items_from link_of
  items_step k =
      split (ltb (key k) keys)
      (λ t. rw t (ap (λ (l : List ℕ). k ∷ l) (sym (jump (m - suc k) (suc k) (key k) refl (ltb-true (key k) keys t)))))
      (λ t. rw t)

  items_none : items_from key keys m 0 ≡ []
  unfolding items_from
  items_none = refl

pub oldest_le : (key : ℕ → ℕ) (c e m n : ℕ) → m - e ≡ c → oldest key e m n ≤ m
oldest_le key zero e m n z = rw (oldest_past key e m n (omega arith)) (omega arith)
oldest_le key (suc c) e m n z =
    let l : e < m = omega arith in
    split (eqb (key e) n) (λ t. rw (oldest_hit key e m n l t) l) (λ t. rw (oldest_miss key e m n l t) (oldest_le key c (suc e) m n (omega arith)))

pub link_le : (key : ℕ → ℕ) (keys m k : ℕ) → link_of key keys m k ≤ m
unfolding link_of
link_le key keys m k = split (ltb (key k) keys) (λ t. rw t (oldest_le key (m - suc k) (suc k) m (key k) refl)) (λ t. rw t (omega arith))

-- a value of each item, and what is left after one
values_from_step : (f key : ℕ → ℕ) (keys m x y z : ℕ) → 0 < x → y ≡ f (x - 1) → z ≡ link_of key keys m (x - 1)
    → map f (items_from key keys m x) ≡ y ∷ map f (items_from key keys m z)
values_from_step f key keys m zero y z h p q = absurd (not-suc-le-zero h)
values_from_step f key keys m (suc k) y z h p q =
    let e : suc k - 1 ≡ k = sub-one (suc k) in
    ap (map f) (items_step key keys m k) ∙ rw (p, q, e)

values_from_end : (f key : ℕ → ℕ) (keys m x : ℕ) → x ≤ 0 → map f (items_from key keys m x) ≡ []
values_from_end f key keys m zero h = ap (map f) (items_none key keys m)
values_from_end f key keys m (suc k) h = absurd (not-suc-le-zero h)

shorter : (l m : List ℕ) (y : ℕ) → l ≡ y ∷ m → length m < length l
shorter l m y e = rw e (omega arith)

-- ---- the same of lists of records

map_twice : (f : Rec → ℕ) (g : ℕ → Rec) (l : List ℕ) → map (λ k. f (g k)) l ≡ map f (map g l)
map_twice f g [] = refl
map_twice f g (k ∷ l) = ap (λ (m : List ℕ). f (g k) ∷ m) (map_twice f g l)

filter_same : (p q : Rec → Bool) (rs : List Rec) → ((i : ℕ) → i < length rs → p (at rs i) ≡ q (at rs i)) → filter p rs ≡ filter q rs
filter_same p q [] h = refl
filter_same p q (r ∷ rs) h =
    let e : p r ≡ q r = h 0 (omega arith) in
    let t : filter p rs ≡ filter q rs = filter_same p q rs (λ i l. h (suc i) (omega arith)) in
    split (q r) (λ k. rw (e ∙ k, k, filter) (ap (λ (m : List Rec). r ∷ m) t)) (λ k. rw (e ∙ k, k, filter) t)

filter_none : (p : Rec → Bool) (rs : List Rec) → ((i : ℕ) → i < length rs → p (at rs i) ≡ false) → filter p rs ≡ []
filter_none p [] h = refl
filter_none p (r ∷ rs) h = rw (h 0 (omega arith), filter) (filter_none p rs (λ i l. h (suc i) (omega arith)))

-- the whole chain of key n, where p is what the key says of a record, and nothing passes where there is no chain
module _ (k : Rec → ℕ) (keys : ℕ) (rs : List Rec) (f : Rec → ℕ) (p : Rec → Bool) where
  values_start : (inside : Bool) (n : ℕ)
      → (inside ≡ true → n < keys) → (inside ≡ true → (i : ℕ) → i < length rs → eqb (k (at rs i)) n ≡ p (at rs i))
      → (inside ≡ false → (i : ℕ) → i < length rs → p (at rs i) ≡ false)
      → map (λ i. f (at rs i)) (items_from (λ i. k (at rs i)) keys (length rs) (cond inside (oldest (λ i. k (at rs i)) 0 (length rs) n) 0)) ≡ map f (filter p rs)
  values_start true n a b c =
      ap (map (λ i. f (at rs i))) (items_start (λ i. k (at rs i)) keys (length rs) n (a refl))
      ∙ map_twice f (at rs) (ups (λ i. k (at rs i)) 0 (length rs) n)
      ∙ ap (map f) (ups_list k rs no_rec n ∙ filter_same (λ r. eqb (k r) n) p rs (b refl))
  values_start false n a b c = ap (map (λ i. f (at rs i))) (items_none (λ i. k (at rs i)) keys (length rs)) ∙ ap (map f) (sym (filter_none p rs (c refl)))

-- ---- candidates of a requirement

-- the first candidate of requirement q, and the next after candidate k
unfoldable pub first_candidate : Tables → ℕ → ℕ
first_candidate T q = cond (ltb q 256) (oldest (candidate_key T) 0 (length T.candidates) q) 0

unfoldable pub next_candidate : Tables → ℕ → ℕ
unfolding link_of
next_candidate T k = link_of (candidate_key T) 256 (length T.candidates) k

-- its solvable
abbrev pub candidate_at : Tables → ℕ → ℕ
candidate_at T k = (at T.candidates k).b

-- the solvables from the stored value x on
unfoldable pub candidates_from : Tables → ℕ → List ℕ
unfolding items_from
candidates_from T x = map (candidate_at T) (items_from (candidate_key T) 256 (length T.candidates) x)

module _ (T : Tables) where
  candidate_names : (k : ℕ) (s : Shape) → shape_of k ≡ some s → s.table ≡ Candidates → s.a ≡ S.Names Requirements
  candidate_names =
      each_kind (λ o. (s : Shape) → o ≡ some s → s.table ≡ Candidates → s.a ≡ S.Names Requirements) (
        λ s e h. cc,
        (
          λ s e h. cc,
          (
            λ s e h. cc,
            (
              λ s e h. cc,
              (
                λ s e h. cc,
                (
                  λ s e h. cc,
                  (
                    λ s e h. cc,
                    (
                      λ s e h. cc,
                      (
                        λ s e h. cc,
                        (
                          λ s e h. cc,
                          (λ s e h. cc, (λ s e h. cc, (λ s e h. cc, (λ s e h. cc, (λ s e h. cc, (λ s e h. cc, (λ s e h. cc, (λ s e h. cc, tt)))))))),
                        ),
                      ),
                    ),
                  ),
                ),
              ),
            ),
          ),
        ),
      )
      (λ s e h. cc)

  candidate_small : Valid T → (i : ℕ) → i < length T.candidates → (at T.candidates i).a < 256
  candidate_small v i h =
      let s : Sound T Candidates i (at T.candidates i) = v.sound Candidates i h in
      let a : (at T.candidates i).a < length T.requirements = rw (candidate_names (at T.candidates i).kind s.shape s.known s.mine) at
      s.right_a in
      omega (arith, v.within Requirements)

  pub candidates_start : (q r : ℕ) → Valid T → r ≡ first_candidate T q → candidates_from T r ≡ candidates_of T q
  unfolding first_candidate candidates_from candidates_of
  candidates_start q r v e =
      rw e
      (values_start (λ g. g.a) 256 T.candidates (λ g. g.b) (λ g. eqb g.a q) (ltb q 256) q
      (λ t. ltb-true q 256 t)
      (λ t i h. refl)
      (λ t i h. ne_eqb (at T.candidates i).a q (λ z. let l : 256 ≤ q = ltb-false q 256 t in omega (arith, candidate_small v i h))))

  pub candidates_step : (x s y : ℕ) → 0 < x → s ≡ candidate_at T (x - 1) → y ≡ next_candidate T (x - 1) → candidates_from T x ≡ s ∷ candidates_from T y
  unfolding next_candidate candidates_from
  candidates_step x s y h p q = values_from_step (candidate_at T) (candidate_key T) 256 (length T.candidates) x s y h p q

  pub candidates_end : (x : ℕ) → x ≤ 0 → candidates_from T x ≡ []
  unfolding candidates_from
  candidates_end x h = values_from_end (candidate_at T) (candidate_key T) 256 (length T.candidates) x h

  pub candidates_less : (x y : ℕ) → 0 < x → y ≡ next_candidate T (x - 1) → length (candidates_from T y) < length (candidates_from T x)
  candidates_less x y h q = shorter (candidates_from T x) (candidates_from T y) (candidate_at T (x - 1)) (candidates_step x (candidate_at T (x - 1)) y h refl q)

-- ---- partners in the core

-- the first clause of the core whose key is n, for a variable v below the limit
abbrev first_at : Tables → ℕ → ℕ → ℕ
first_at T v n = cond (ltb v 1024) (oldest (partner_key T) 0 (length T.clauses) n) 0

-- the first AnyOf whose a is v; the first ConstrainsParent, the first ConstrainsExcluded whose b is v
unfoldable pub first_gate : Tables → ℕ → ℕ
first_gate T v = first_at T v v

unfoldable pub first_parent : Tables → ℕ → ℕ
first_parent T v = first_at T v (1024 + v)

unfoldable pub first_excluded : Tables → ℕ → ℕ
first_excluded T v = first_at T v (2048 + v)

-- the next after clause i
unfoldable pub next_partner : Tables → ℕ → ℕ
unfolding link_of
next_partner T i = link_of (partner_key T) 3072 (length T.clauses) i

-- the partner that clause i tells: b of an AnyOf, a of the two others
abbrev pub gate_at : Tables → ℕ → ℕ
gate_at T i = (at T.clauses i).b

abbrev pub aux_at : Tables → ℕ → ℕ
aux_at T i = (at T.clauses i).a

-- the partners from the stored value x on
unfoldable pub gates_from : Tables → ℕ → List ℕ
unfolding items_from
gates_from T x = map (gate_at T) (items_from (partner_key T) 3072 (length T.clauses) x)

unfoldable pub aux_from : Tables → ℕ → List ℕ
unfolding items_from
aux_from T x = map (aux_at T) (items_from (partner_key T) 3072 (length T.clauses) x)

-- the references by which a clause is found are below the limit of variables
record Small (r : Rec) : Type 0 where
  any_a : r.kind ≡ 25 → r.a < 1024
  parent_b : r.kind ≡ 23 → r.b < 1024
  excluded_b : r.kind ≡ 24 → r.b < 1024

any_slot : (s : Shape) → shape_of 25 ≡ some s → s.a ≡ S.Variable A.Any
unfolding shape_of
any_slot s e = cc

parent_slot : (s : Shape) → shape_of 23 ≡ some s → s.b ≡ S.Variable A.Auxiliary
unfolding shape_of
parent_slot s e = cc

excluded_slot : (s : Shape) → shape_of 24 ≡ some s → s.b ≡ S.Variable A.Auxiliary
unfolding shape_of
excluded_slot s e = cc

clause_small : (T : Tables) → Valid T → (i : ℕ) → i < length T.clauses → Small (at T.clauses i)
clause_small T v i h =
    record {
      any_a = λ k. omega (arith, v.within Variables, (rw (any_slot s.shape (rw k at s.known)) at s.right_a).0);
      parent_b = λ k. omega (arith, v.within Variables, (rw (parent_slot s.shape (rw k at s.known)) at s.right_b).0);
      excluded_b = λ k. omega (arith, v.within Variables, (rw (excluded_slot s.shape (rw k at s.known)) at s.right_b).0);
    }
  where
    s : Sound T Clauses i (at T.clauses i)
    s = v.sound Clauses i h

-- what a key says of a clause
module _ (r : Rec) (w : Small r) (v : ℕ) (h : v < 1024) where
  gate_key : eqb (key_in r) v ≡ (in_core r && (eqb r.kind 25 && eqb r.a v))
  unfolding key_in
  gate_key =
      split (in_core r)
      (λ c. split (eqb r.kind 25)
      (λ k. rw (c, k))
      (λ k. split (eqb r.kind 23)
      (λ m. rw (c, k, m) (ne_eqb (1024 + r.b) v (λ z. omega arith)))
      (λ m. split (eqb r.kind 24) (λ n. rw (c, k, m, n) (ne_eqb (2048 + r.b) v (λ z. omega arith))) (λ n. rw (
        c,
        k,
        m,
        n,
      ) (ne_eqb 3072 v (λ z. omega arith))))))
      (λ c. rw c (ne_eqb 3072 v (λ z. omega arith)))

  same_eqb : (m a b : ℕ) → eqb (m + a) (m + b) ≡ eqb a b
  same_eqb m a b =
      split (eqb a b) (λ t. rw t (eq-eqb (m + a) (m + b) (ap (λ (x : ℕ). m + x) (eqb-true a b t)))) (λ t.
      rw t (ne_eqb (m + a) (m + b) (λ z. eqb-false a b t (omega arith))))

  other_kind : (m n : ℕ) → eqb r.kind m ≡ true → eqb m n ≡ false → eqb r.kind n ≡ false
  other_kind m n k e = rw (eqb-true r.kind m k) e

  parent_key : eqb (key_in r) (1024 + v) ≡ (in_core r && (eqb r.kind 23 && eqb r.b v))
  unfolding key_in
  parent_key =
      split (in_core r)
      (λ c. split (eqb r.kind 25)
      (λ k. rw (c, k, other_kind 25 23 k refl) (ne_eqb r.a (1024 + v) (λ z. omega (arith, w.any_a (eqb-true r.kind 25 k)))))
      (λ k. split (eqb r.kind 23)
      (λ m. rw (c, k, m) (same_eqb 1024 r.b v))
      (λ m. split (eqb r.kind 24) (λ n. rw (c, k, m, n) (ne_eqb (2048 + r.b) (1024 + v) (λ z. omega arith))) (λ n. rw (
        c,
        k,
        m,
        n,
      ) (ne_eqb 3072 (1024 + v) (λ z. omega arith))))))
      (λ c. rw c (ne_eqb 3072 (1024 + v) (λ z. omega arith)))

  excluded_key : eqb (key_in r) (2048 + v) ≡ (in_core r && (eqb r.kind 24 && eqb r.b v))
  unfolding key_in
  excluded_key =
      split (in_core r)
      (λ c. split (eqb r.kind 25)
      (λ k. rw (c, k, other_kind 25 24 k refl) (ne_eqb r.a (2048 + v) (λ z. omega (arith, w.any_a (eqb-true r.kind 25 k)))))
      (λ k. split (eqb r.kind 23)
      (λ m. rw (c, k, m, other_kind 23 24 m refl) (ne_eqb (1024 + r.b) (2048 + v) (λ z. omega (arith, w.parent_b (eqb-true r.kind 23 m)))))
      (λ m. split (eqb r.kind 24) (λ n. rw (c, k, m, n) (same_eqb 2048 r.b v)) (λ n. rw (c, k, m, n) (ne_eqb 3072 (2048 + v) (λ z. omega arith))))))
      (λ c. rw c (ne_eqb 3072 (2048 + v) (λ z. omega arith)))

-- a variable past the limit has no partners
nobody : (c d e : Bool) → (d ≡ true → e ≡ false) → c && (d && e) ≡ false
nobody true true e h = h refl
nobody true false e h = refl
nobody false d e h = refl

module _ (T : Tables) where
  pub gates_start : (v r : ℕ) → Valid T → r ≡ first_gate T v → gates_from T r ≡ gate_partners T v
  unfolding first_gate gates_from gate_partners
  gates_start v r w e =
      rw e
      (values_start key_in 3072 T.clauses (λ g. g.b) (λ g. in_core g && (eqb g.kind 25 && eqb g.a v)) (ltb v 1024) v
      (λ t. omega (arith, ltb-true v 1024 t))
      (λ t i h. gate_key (at T.clauses i) (clause_small T w i h) v (ltb-true v 1024 t))
      (λ t i h. nobody (in_core (at T.clauses i)) (eqb (at T.clauses i).kind 25) (eqb (at T.clauses i).a v) (λ k.
      ne_eqb (at T.clauses i).a v (λ z. let l : 1024 ≤ v = ltb-false v 1024 t in
      omega (arith, (clause_small T w i h).any_a (eqb-true (at T.clauses i).kind 25 k))))))

  pub parents_start : (v r : ℕ) → Valid T → r ≡ first_parent T v → aux_from T r ≡ aux_partners T 23 v
  unfolding first_parent aux_from aux_partners
  parents_start v r w e =
      rw e
      (values_start key_in 3072 T.clauses (λ g. g.a) (λ g. in_core g && (eqb g.kind 23 && eqb g.b v)) (ltb v 1024) (1024 + v)
      (λ t. omega (arith, ltb-true v 1024 t))
      (λ t i h. parent_key (at T.clauses i) (clause_small T w i h) v (ltb-true v 1024 t))
      (λ t i h. nobody (in_core (at T.clauses i)) (eqb (at T.clauses i).kind 23) (eqb (at T.clauses i).b v) (λ k.
      ne_eqb (at T.clauses i).b v (λ z. let l : 1024 ≤ v = ltb-false v 1024 t in
      omega (arith, (clause_small T w i h).parent_b (eqb-true (at T.clauses i).kind 23 k))))))

  pub excluded_start : (v r : ℕ) → Valid T → r ≡ first_excluded T v → aux_from T r ≡ aux_partners T 24 v
  unfolding first_excluded aux_from aux_partners
  excluded_start v r w e =
      rw e
      (values_start key_in 3072 T.clauses (λ g. g.a) (λ g. in_core g && (eqb g.kind 24 && eqb g.b v)) (ltb v 1024) (2048 + v)
      (λ t. omega (arith, ltb-true v 1024 t))
      (λ t i h. excluded_key (at T.clauses i) (clause_small T w i h) v (ltb-true v 1024 t))
      (λ t i h. nobody (in_core (at T.clauses i)) (eqb (at T.clauses i).kind 24) (eqb (at T.clauses i).b v) (λ k.
      ne_eqb (at T.clauses i).b v (λ z. let l : 1024 ≤ v = ltb-false v 1024 t in
      omega (arith, (clause_small T w i h).excluded_b (eqb-true (at T.clauses i).kind 24 k))))))

  pub gates_step : (x s y : ℕ) → 0 < x → s ≡ gate_at T (x - 1) → y ≡ next_partner T (x - 1) → gates_from T x ≡ s ∷ gates_from T y
  unfolding next_partner gates_from
  gates_step x s y h p q = values_from_step (gate_at T) (partner_key T) 3072 (length T.clauses) x s y h p q

  pub gates_end : (x : ℕ) → x ≤ 0 → gates_from T x ≡ []
  unfolding gates_from
  gates_end x h = values_from_end (gate_at T) (partner_key T) 3072 (length T.clauses) x h

  pub gates_less : (x y : ℕ) → 0 < x → y ≡ next_partner T (x - 1) → length (gates_from T y) < length (gates_from T x)
  gates_less x y h q = shorter (gates_from T x) (gates_from T y) (gate_at T (x - 1)) (gates_step x (gate_at T (x - 1)) y h refl q)

  pub aux_step : (x s y : ℕ) → 0 < x → s ≡ aux_at T (x - 1) → y ≡ next_partner T (x - 1) → aux_from T x ≡ s ∷ aux_from T y
  unfolding next_partner aux_from
  aux_step x s y h p q = values_from_step (aux_at T) (partner_key T) 3072 (length T.clauses) x s y h p q

  pub aux_end : (x : ℕ) → x ≤ 0 → aux_from T x ≡ []
  unfolding aux_from
  aux_end x h = values_from_end (aux_at T) (partner_key T) 3072 (length T.clauses) x h

  pub aux_less : (x y : ℕ) → 0 < x → y ≡ next_partner T (x - 1) → length (aux_from T y) < length (aux_from T x)
  aux_less x y h q = shorter (aux_from T x) (aux_from T y) (aux_at T (x - 1)) (aux_step x (aux_at T (x - 1)) y h refl q)
