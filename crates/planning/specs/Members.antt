-- The members of a group along the numbers of their next members.
use Rattle.std.specs.Prelude.{◌≡◌, List, [], ◌∷◌, get_or, eqb}
use Rattle.std.proofs.Math.Path.{refl}
use Rattle.std.proofs.Common.{sym, ap, ◌∙◌, arith, sub-one, eqb-true, lt-ltb}
use Rattle.std.proofs.Math.Bool.{false}
use Prim.Native.Nat.{ℕ, zero, suc, ◌+◌, ◌-◌, ◌<◌, ◌≤◌}
use Rattle.std.proofs.Math.Dec.{ltb}
use Rattle.basis.specs.Lists.{filter, upto}
use Rattle.basis.specs.Members.{split, no_both}
use Rattle.basis.specs.Chains.{oldest, oldest_hit, oldest_miss, oldest_past, ups, ups_hit, ups_miss, ups_past}
use Rattle.plan.specs.Fields.{mate_field, mate_in, mates_from, mates_none, mates_more}

module _ (key : ℕ → ℕ) (m l : ℕ) where
  ups_filter : (c e : ℕ) → m - e ≡ c → ups key e m l ≡ filter (λ i. eqb (key i) l) (upto c e)
  ups_filter zero e z = ups_past key e m l (omega arith)
  ups_filter (suc c) e z =
      split (eqb (key e) l)
      (λ t. rw (ups_hit key e m l (omega arith) t, t, filter) (ap (λ (r : List ℕ). e ∷ r) (ups_filter c (suc e) (omega arith))))
      (λ t. rw (ups_miss key e m l (omega arith) t, t, filter) (ups_filter c (suc e) (omega arith)))

  -- the nodes of one lead
  pub ups_all : ups key 0 m l ≡ filter (λ i. eqb (key i) l) (upto m 0)
  ups_all = ups_filter m 0 (omega arith)

-- one more than the first, or 0
abbrev head_mark : List ℕ → ℕ
head_mark [] = 0
head_mark (x ∷ xs) = suc x

oldest_head : (key : ℕ → ℕ) (c e m l : ℕ) → m - e ≡ c → oldest key e m l ≡ head_mark (ups key e m l)
oldest_head key zero e m l z = rw (oldest_past key e m l (omega arith), ups_past key e m l (omega arith))
oldest_head key (suc c) e m l z =
    split (eqb (key e) l)
    (λ t. rw (oldest_hit key e m l (omega arith) t, ups_hit key e m l (omega arith) t))
    (λ t. rw (oldest_miss key e m l (omega arith) t, ups_miss key e m l (omega arith) t) (oldest_head key c (suc e) m l (omega arith)))

oldest_past_start : (key : ℕ → ℕ) (c e m l : ℕ) → m - e ≡ c → 0 < oldest key e m l → (e < oldest key e m l) × (oldest key e m l ≤ m)
oldest_past_start key zero e m l z h = absurd (never (oldest_past key e m l (omega arith)) h)
  where
    never : oldest key e m l ≡ 0 → 0 < oldest key e m l → ⊥
    never q h = omega arith
oldest_past_start key (suc c) e m l z h =
    split (eqb (key e) l)
    (λ t. rw (oldest_hit key e m l (omega arith) t) (omega arith, omega arith))
    (λ t. let q = oldest_miss key e m l (omega arith) t in
    let r = oldest_past_start key c (suc e) m l (omega arith) (rw q at h) in
    rw q (omega (arith, r.0), r.1))

module _ (p : List ℕ) (key : ℕ → ℕ) (m l : ℕ) (few : m ≤ 128) (f : (i : ℕ) → i < m → mate_field p i ≡ oldest key (suc i) m (key i)) where
  mate_is : (i : ℕ) → i < m → mate_in p i ≡ oldest key (suc i) m (key i)
  unfolding mate_in
  mate_is i h =
      let q = f i h in
      split (ltb (i + 1) (mate_field p i))
      (λ t. rw t q)
      (λ t. rw t (small (oldest key (suc i) m (key i)) (rw q at t) (λ z. (oldest_past_start key (m - suc i) (suc i) m (key i) refl z).0)))
    where
      small : (x : ℕ) → ltb (i + 1) x ≡ false → (0 < x → suc i < x) → 0 ≡ x
      small zero t g = refl
      small (suc x) t g = absurd (no_both (ltb (i + 1) (suc x)) (lt-ltb (i + 1) (suc x) (omega (arith, g (omega arith)))) t)

  walk : (c e : ℕ) → m - e ≡ c → mates_from p (oldest key e m l) ≡ ups key e m l
  walk zero e z = rw (oldest_past key e m l (omega arith), ups_past key e m l (omega arith)) (mates_none p 0 (omega arith))
  walk (suc c) e z =
      split (eqb (key e) l)
      (λ t. let k : key e ≡ l = eqb-true (key e) l t in
      rw (oldest_hit key e m l (omega arith) t, ups_hit key e m l (omega arith) t)
      (mates_more p (suc e) (omega arith) (omega arith)
      ∙ rw (sub-one (suc e)) (ap (λ (r : List ℕ). e ∷ r) (ap (mates_from p) (mate_is e (omega arith) ∙ ap (oldest key (suc e) m) k)
      ∙ walk c (suc e) (omega arith)))))
      (λ t. rw (oldest_miss key e m l (omega arith) t, ups_miss key e m l (omega arith) t) (walk c (suc e) (omega arith)))

  -- from the first, whose number is d where there is one
  pub members_walk : (d n : ℕ) → get_or (ups key 0 m l) 0 n ≡ d → (ups key 0 m l ≡ [] → ⊥) → mates_from p (d + 1) ≡ ups key 0 m l
  members_walk d n q s =
      let h : oldest key 0 m l ≡ d + 1 = oldest_head key (m - 0) 0 m l refl ∙ first (ups key 0 m l) q s in
      ap (mates_from p) (sym h) ∙ walk (m - 0) 0 refl
    where
      first : (r : List ℕ) → get_or r 0 n ≡ d → (r ≡ [] → ⊥) → head_mark r ≡ d + 1
      first [] q s = absurd (s refl)
      first (x ∷ r) q s = rw (← q) (omega arith)
