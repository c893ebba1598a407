-- What the groups of a graph are to one who knows each node's lead only: its members are the nodes of the same lead.
use Rattle.std.specs.Prelude.{◌≡◌, refl, Bool, true, false, cond, ℕ, zero, suc, ◌+◌, ◌<◌, ◌≤◌, length, get_or, ltb}
use Rattle.std.proofs.Common.{sym, ◌∙◌, inl, inr, true≢false, not-suc-le-zero, eqb-true, eq-eqb, lt-ltb}
use Rattle.std.proofs.Math.Path.{ap}
use Rattle.std.proofs.lemmas.Bool.{false≢true, eqb-false}
use mathlib.Core.List.{List, [], ◌∷◌, map}
use native.Mathlib.Omega.{arith}
use Rattle.std.proofs.Math.Dec.{eqb}
use Rattle.basis.specs.Lists.{filter, has, upto}
use Rattle.basis.specs.Members.{In, Distinct, split, either, in_filter, filter_in, in_has, has_in, and_true}
use Rattle.records.specs.Tables.{Tables}
use Rattle.records.specs.Views.{name_text, solvable_name}
use Rattle.store.specs.Graph.{Graph, node_at, is_solvable}
use Rattle.groups.specs.Groups.{sort, out_keys, in_keys, merges_by, title_of, mates_by, mates}
use Rattle.groups.specs.Small.{eq_refl, keys_refl}
use Rattle.groups.specs.Counts.{same_mates}
use Rattle.plan.specs.Plan.{shown_of, group_of, merged_shown, lead_shown}
use Rattle.plan.specs.Display.{members_of}

-- ---- small laws

pub map_upto : {A : Type 0} (f : ℕ → A) (c a i : ℕ) (d : A) → i < c → get_or (map f (upto c a)) i d ≡ f (a + i)
map_upto f zero a i d h = absurd (not-suc-le-zero h)
map_upto f (suc c) a zero d h = let z : a + 0 ≡ a = omega arith in rw z
map_upto f (suc c) a (suc i) d h = let z : a + suc i ≡ suc a + i = omega arith in rw z (map_upto f c (suc a) i d (omega arith))

pub upto_in : (c a x : ℕ) → In x (upto c a) → (a ≤ x) × (x < a + c)
upto_in zero a x i = absurd i
upto_in (suc c) a x (inl e) = (omega arith, omega arith)
upto_in (suc c) a x (inr i) = let r = upto_in c (suc a) x i in (omega (arith, r.0), omega (arith, r.1))

pub in_upto : (c a x : ℕ) → a ≤ x → x < a + c → In x (upto c a)
in_upto zero a x h l = absurd (never l)
  where
    never : x < a + 0 → ⊥
    never l = omega arith
in_upto (suc c) a x h l = split (eqb x a) (λ t. inl (eqb-true x a t)) (λ t. inr (in_upto c (suc a) x (omega (arith, eqb-false x a t)) (omega arith)))

pub upto_distinct : (c a : ℕ) → Distinct (upto c a)
upto_distinct zero a = tt
upto_distinct (suc c) a = ((λ i. late (upto_in c (suc a) a i).0), upto_distinct c (suc a))
  where
    late : suc a ≤ a → ⊥
    late h = omega arith

pub filter_distinct : (p : ℕ → Bool) (l : List ℕ) → Distinct l → Distinct (filter p l)
filter_distinct p [] d = tt
filter_distinct p (x ∷ l) d =
    split (p x)
    (λ t. rw (t, filter) ((λ i. d.0 (in_filter p x l i).1), filter_distinct p l d.1))
    (λ t. rw (t, filter) (filter_distinct p l d.1))

pub filter_agree : (p q : ℕ → Bool) (l : List ℕ) → ((x : ℕ) → In x l → p x ≡ q x) → filter p l ≡ filter q l
filter_agree p q [] h = refl
filter_agree p q (x ∷ l) h =
    let r = filter_agree p q l (λ y i. h y (inr i)) in
    let e : p x ≡ q x = h x (inl refl) in
    split (q x) (λ t. rw ((e ∙ t), t, filter) (ap (λ (m : List ℕ). x ∷ m) r)) (λ t. rw ((e ∙ t), t, filter) r)

pub filter_one : (p : ℕ → Bool) (l : List ℕ) (x : ℕ) → Distinct l → In x l → p x ≡ true → ((y : ℕ) → In y l → p y ≡ true → y ≡ x) → filter p l ≡ x ∷ []
filter_one p [] x d i t h = absurd i
filter_one p (y ∷ l) x d i t h =
    split (p y)
    (λ u. let e : y ≡ x = h y (inl refl) u in
    rw (u, filter, e) (ap (λ (m : List ℕ). x ∷ m) (none l (λ z j. split (p z) (λ v. absurd (d.0 (rw (e ∙ sym (h z (inr j) v)) j))) (λ v. v)))))
    (λ u. either i
    (λ e. absurd (false≢true (sym u ∙ ap p (sym e) ∙ t)))
    (λ j. rw (u, filter) (filter_one p l x d.1 j t (λ z k v. h z (inr k) v))))
  where
    none : (l : List ℕ) → ((z : ℕ) → In z l → p z ≡ false) → filter p l ≡ []
    none [] f = refl
    none (z ∷ l) f = rw (f z (inl refl), filter) (none l (λ y j. f y (inr j)))

head_in_list : (l : List ℕ) (d x : ℕ) → In x l → In (get_or l 0 d) l
head_in_list [] d x i = i
head_in_list (y ∷ l) d x i = inl refl

head_any : (l : List ℕ) (d e x : ℕ) → In x l → get_or l 0 d ≡ get_or l 0 e
head_any [] d e x i = absurd i
head_any (y ∷ l) d e x i = refl

-- a list that has two elements
pub two_in : (l : List ℕ) (d : ℕ) → ltb 1 (length l) ≡ true → Distinct l → (x : ℕ) × In x l × (get_or l 0 d ≡ x → ⊥)
two_in [] d t e = absurd (false≢true t)
two_in (x ∷ []) d t e = absurd (false≢true t)
two_in (x ∷ y ∷ l) d t e = (y, inr (inl refl), λ q. e.0 (inl q))

module _ (T : Tables) (G : Graph) where
  abbrev name : ℕ → List ℕ
  name s = name_text T (solvable_name T s)

  abbrev pub Node : ℕ → Type 0
  Node n = n < length G.nodes

  pub group_at : (n : ℕ) → Node n → group_of (shown_of T G) n ≡ mates name G n
  unfolding shown_of
  group_at n h = let z : 0 + n ≡ n = omega arith in map_upto (mates name G) (length G.nodes) 0 n [] h ∙ ap (mates name G) z

  record Mate (m n : ℕ) : Type 0 where
    node : Node m
    left : is_solvable (node_at G m) ≡ true
    right : is_solvable (node_at G n) ≡ true
    same : mates name G m ≡ mates name G n

  mate : (m n : ℕ) → In m (mates name G n) → Mate m n
  unfolding mates mates_by merges_by
  mate m n i =
      let f = in_filter (λ k. merges_by (title_of name G) G k n) m (upto (length G.nodes) 0) i in
      let x = and_true (is_solvable (node_at G m)) _ f.0 in
      let y = and_true (is_solvable (node_at G n)) _ x.1 in
      let l = upto_in (length G.nodes) 0 m f.1 in
      record { node = omega (arith, l.1); left = x.0; right = y.0; same = same_mates (title_of name G) G m n f.0 }

  self : (n : ℕ) → Node n → is_solvable (node_at G n) ≡ true → In n (mates name G n)
  unfolding mates mates_by merges_by
  self n h s =
      filter_in (λ k. merges_by (title_of name G) G k n) n (upto (length G.nodes) 0)
      (rw (s, eq_refl (title_of name G n), keys_refl (sort (in_keys G n)), keys_refl (sort (out_keys G n))))
      (in_upto (length G.nodes) 0 n (omega arith) (omega arith))

  mates_distinct : (n : ℕ) → Distinct (mates name G n)
  unfolding mates mates_by
  mates_distinct n = filter_distinct (λ k. merges_by (title_of name G) G k n) (upto (length G.nodes) 0) (upto_distinct (length G.nodes) 0)

  no_mates : (n : ℕ) → is_solvable (node_at G n) ≡ false → mates name G n ≡ []
  no_mates n s = empty (mates name G n) (λ m i. false≢true (sym s ∙ (mate m n i).right))
    where
      empty : (l : List ℕ) → ((x : ℕ) → In x l → ⊥) → l ≡ []
      empty [] f = refl
      empty (x ∷ l) f = absurd (f x (inl refl))

  abbrev pub lead : ℕ → ℕ
  lead n = lead_shown (shown_of T G) n

  lead_is : (n : ℕ) → Node n → lead n ≡ get_or (mates name G n) 0 n
  lead_is n h = ap (λ (l : List ℕ). get_or l 0 n) (group_at n h)

  lead_mate : (n : ℕ) → Node n → is_solvable (node_at G n) ≡ true → In (lead n) (mates name G n)
  lead_mate n h s = rw (lead_is n h) (head_in_list (mates name G n) n n (self n h s))

  lead_own : (n : ℕ) → Node n → is_solvable (node_at G n) ≡ false → lead n ≡ n
  lead_own n h s = lead_is n h ∙ ap (λ (l : List ℕ). get_or l 0 n) (no_mates n s)

  -- a lead of a solvable is a solvable
  lead_solvable : (n : ℕ) → Node n → is_solvable (node_at G n) ≡ true → is_solvable (node_at G (lead n)) ≡ true
  lead_solvable n h s = (mate (lead n) n (lead_mate n h s)).left

  mates_lead : (m n : ℕ) → Node m → Node n → is_solvable (node_at G n) ≡ true → mates name G m ≡ mates name G n → lead m ≡ lead n
  mates_lead m n g h s q =
      lead_is m g ∙ ap (λ (l : List ℕ). get_or l 0 m) q ∙ head_any (mates name G n) m n n (self n h s) ∙ sym (lead_is n h)

  lead_mates : (m n : ℕ) → Node m → Node n → is_solvable (node_at G n) ≡ true → lead m ≡ lead n → (is_solvable (node_at G m) ≡ true)
      × (mates name G m ≡ mates name G n)
  lead_mates m n g h s q =
      split (is_solvable (node_at G m))
      (λ t. (t, sym (mate (lead m) m (lead_mate m g t)).same ∙ ap (mates name G) q ∙ (mate (lead n) n (lead_mate n h s)).same))
      (λ t. absurd (false≢true (sym t ∙ ap (λ (k : ℕ). is_solvable (node_at G k)) (sym (lead_own m g t) ∙ q) ∙ lead_solvable n h s)))

  abbrev pub alikes : ℕ → List ℕ
  alikes n = filter (λ m. eqb (lead m) (lead n)) (upto (length G.nodes) 0)

  mates_alikes : (n : ℕ) → Node n → is_solvable (node_at G n) ≡ true → mates name G n ≡ alikes n
  unfolding mates mates_by
  mates_alikes n h s =
      filter_agree (λ k. merges_by (title_of name G) G k n) (λ m. eqb (lead m) (lead n)) (upto (length G.nodes) 0)
      (λ k i. let r = upto_in (length G.nodes) 0 k i in
      let g : Node k = omega (arith, r.1) in
      split (eqb (lead k) (lead n))
      (λ t. let x = lead_mates k n g h s (eqb-true (lead k) (lead n) t) in
      rw t (in_filter (λ k. merges_by (title_of name G) G k n) k (upto (length G.nodes) 0) (rw x.1 at (self k g x.0))).0)
      (λ t. split (merges_by (title_of name G) G k n)
      (λ u. let w = mate k n (filter_in (λ k. merges_by (title_of name G) G k n) k (upto (length G.nodes) 0) u i) in
      absurd (eqb-false (lead k) (lead n) t (mates_lead k n g h s w.same)))
      (λ u. rw t u)))

  own_alike : (n : ℕ) → Node n → is_solvable (node_at G n) ≡ false → alikes n ≡ n ∷ []
  own_alike n h s =
      filter_one (λ m. eqb (lead m) (lead n)) (upto (length G.nodes) 0) n (upto_distinct (length G.nodes) 0)
      (in_upto (length G.nodes) 0 n (omega arith) (omega arith))
      (eq-eqb (lead n) (lead n) refl)
      (λ m i t. let r = upto_in (length G.nodes) 0 m i in
      let g : Node m = omega (arith, r.1) in
      let q : lead m ≡ n = eqb-true (lead m) (lead n) t ∙ lead_own n h s in
      split (is_solvable (node_at G m))
      (λ u. absurd (false≢true (sym s ∙ ap (λ (k : ℕ). is_solvable (node_at G k)) (sym q) ∙ lead_solvable m g u)))
      (λ u. sym (lead_own m g u) ∙ q))

  one_left : (l : List ℕ) (n : ℕ) → In n l → ltb 1 (length l) ≡ false → l ≡ n ∷ []
  one_left [] n i t = absurd i
  one_left (x ∷ []) n (inl e) t = ap (λ (y : ℕ). y ∷ []) (sym e)
  one_left (x ∷ []) n (inr i) t = absurd i
  one_left (x ∷ y ∷ l) n i t = absurd (true≢false (sym (lt-ltb 1 (suc (suc (length l))) (omega arith)) ∙ t))

  -- the members of a node's group are the nodes of the same lead; it is merged where there are two
  pub members_alike : (n : ℕ) → Node n → members_of (shown_of T G) n ≡ alikes n
  members_alike n h =
      split (is_solvable (node_at G n))
      (λ s. split (merged_shown (shown_of T G) n)
      (λ m. rw m (group_at n h ∙ mates_alikes n h s))
      (λ m. rw m (sym (one_left (mates name G n) n (self n h s) (rw (group_at n h) at m)) ∙ mates_alikes n h s)))
      (λ s. ap (λ (l : List ℕ). cond (ltb 1 (length l)) l (n ∷ [])) (group_at n h ∙ no_mates n s) ∙ sym (own_alike n h s))

  pub merged_alike : (n : ℕ) → Node n → merged_shown (shown_of T G) n ≡ ltb 1 (length (alikes n))
  merged_alike n h =
      split (is_solvable (node_at G n))
      (λ s. ap (λ (l : List ℕ). ltb 1 (length l)) (group_at n h ∙ mates_alikes n h s))
      (λ s. ap (λ (l : List ℕ). ltb 1 (length l)) (group_at n h ∙ no_mates n s) ∙ sym (ap (λ (l : List ℕ). ltb 1 (length l)) (own_alike n h s)))

  -- ---- what demand 3 asks of groups

  -- a group is named after one of its members
  pub named_lead : (n : ℕ) → Node n → is_solvable (node_at G n) ≡ true → merged_shown (shown_of T G) n ≡ true
      → Node (lead n) × (is_solvable (node_at G (lead n)) ≡ true) × (merged_shown (shown_of T G) (lead n) ≡ true) × (lead (lead n) ≡ lead n)
  named_lead n h s m =
      let x = mate (lead n) n (lead_mate n h s) in
      (x.node, x.left, rw (group_at (lead n) x.node, x.same, ← group_at n h) m, mates_lead (lead n) n x.node h s x.same)

  -- and has another
  pub another_mate : (n : ℕ) → Node n → is_solvable (node_at G n) ≡ true → merged_shown (shown_of T G) n ≡ true
      → (m : ℕ) × Node m × (is_solvable (node_at G m) ≡ true) × (merged_shown (shown_of T G) m ≡ true) × (lead m ≡ lead n) × (lead n ≡ m → ⊥)
  another_mate n h s t =
      let y = two_in (mates name G n) n (rw (group_at n h) at t) (mates_distinct n) in
      let x = mate y.0 n y.1 in (
        y.0,
        x.node,
        x.left,
        rw (group_at y.0 x.node, x.same, ← group_at n h) t,
        mates_lead y.0 n x.node h s x.same,
        λ q. y.2 (sym (lead_is n h) ∙ q),
      )

  -- ---- for telling whether a package's group was shown

  pub group_has : (t n : ℕ) → Node t → Node n → is_solvable (node_at G t) ≡ true → has n (group_of (shown_of T G) t) ≡ eqb (lead n) (lead t)
  group_has t n g h s =
      ap (λ (l : List ℕ). has n l) (group_at t g ∙ mates_alikes t g s)
      ∙ split (eqb (lead n) (lead t))
      (λ u. rw u (in_has n (alikes t) (filter_in (λ m. eqb (lead m) (lead t)) n (upto (length G.nodes) 0) u
      (in_upto (length G.nodes) 0 n (omega arith) (omega arith)))))
      (λ u. rw u (split (has n (alikes t)) (λ v. absurd (false≢true (sym u
      ∙ (in_filter (λ m. eqb (lead m) (lead t)) n (upto (length G.nodes) 0) (has_in n (alikes t) v)).0))) (λ v. v)))

  pub merged_same : (t n : ℕ) → Node t → Node n → lead n ≡ lead t → merged_shown (shown_of T G) n ≡ merged_shown (shown_of T G) t
  merged_same t n g h q =
      merged_alike n h ∙ ap (λ (l : ℕ). ltb 1 (length (filter (λ m. eqb (lead m) l) (upto (length G.nodes) 0)))) q ∙ sym (merged_alike t g)

  -- the lead is the first of them
  pub lead_first : (n : ℕ) → Node n → get_or (alikes n) 0 n ≡ lead n
  lead_first n h =
      split (is_solvable (node_at G n))
      (λ s. ap (λ (l : List ℕ). get_or l 0 n) (sym (mates_alikes n h s)) ∙ sym (lead_is n h))
      (λ s. ap (λ (l : List ℕ). get_or l 0 n) (own_alike n h s) ∙ sym (lead_own n h s))
