-- Walking the chains: what is left to walk at a stored value, as edges of the graph. The loop is
-- `let mut e = first(n); while 0 < e { .. edge e - 1 ..; e = next(e - 1); }`. Crates above use these laws and no layout.
use Rattle.std.specs.Prelude.{◌≡◌, refl, Bool, ℕ, ◌+◌, ◌-◌, ◌<◌, ◌≤◌, length, take, ltb}
use Rattle.std.proofs.Math.Path.{sym, ap}
use Rattle.std.proofs.Common.{◌∙◌, inl, inr, arith, lt-ltb, le-ltb}
use mathlib.Core.List.{List, [], ◌∷◌, ◌++◌, map, reverse, reverse-cons, reverse-reverse}
use Rattle.std.proofs.Math.ListN.{get_or}
use Rattle.std.proofs.Math.Seq.{take-length}
use Rattle.std.proofs.Math.Dec.{eqb}
use Rattle.basis.specs.Lists.{filter}
use Rattle.basis.specs.Members.{In, split}
use Rattle.basis.specs.Guard.{guard}
use Rattle.basis.specs.Chains.{Layout, slot, downs, ups}
use Rattle.basis.specs.Walks as K
use Rattle.basis.specs.Walks.{Down, Up, up_from, up_left}
use Rattle.store.specs.declared.Edge.{Edge}
use Rattle.store.specs.declared.Size.{Size}
use Rattle.store.specs.Graph.{out, into}
use Rattle.store.specs.Table.{graph_in, edge_in, no_edge, Stored, edge_in_lem, edges_count, source_below, target_below}
use Rattle.links.specs.Build.{part_at, slot_at, out_lay, in_lay, old_lay, source_of, target_of, Chains}

-- ---- the reads: an edge's number plus one, or 0 where there is none

unfoldable pub head_at : Layout → List ℕ → ℕ → ℕ
unfolding guard
head_at L ls n = guard (ltb n L.keys) 0 (get_or ls (slot L.heads n) 0)

unfoldable pub link_at : Layout → List ℕ → ℕ → ℕ
unfolding guard
link_at L ls e = guard (ltb e L.items) 0 (get_or ls (slot L.links e) 0)

abbrev pub first_out : List ℕ → ℕ → ℕ
first_out ls n = head_at out_lay ls n

abbrev pub next_out : List ℕ → ℕ → ℕ
next_out ls e = link_at out_lay ls e

abbrev pub first_in : List ℕ → ℕ → ℕ
first_in ls n = head_at in_lay ls n

abbrev pub next_in : List ℕ → ℕ → ℕ
next_in ls e = link_at in_lay ls e

abbrev pub first_old : List ℕ → ℕ → ℕ
first_old ls n = head_at old_lay ls n

abbrev pub next_old : List ℕ → ℕ → ℕ
next_old ls e = link_at old_lay ls e

module _ (L : Layout) (ls : List ℕ) (n r : ℕ) where
  pub head_read : n < L.keys → r ≡ get_or ls (slot L.heads n) 0 → r ≡ head_at L ls n
  unfolding head_at guard
  head_read h q = rw (lt-ltb n L.keys h, guard) q

  pub head_none : L.keys ≤ n → 0 ≡ head_at L ls n
  unfolding head_at guard
  head_none h = rw (le-ltb n L.keys h, guard)

  head_is : n < L.keys → r ≡ head_at L ls n → r ≡ get_or ls (slot L.heads n) 0
  unfolding head_at guard
  head_is h q = rw (lt-ltb n L.keys h, guard) at q

  pub link_read : n < L.items → r ≡ get_or ls (slot L.links n) 0 → r ≡ link_at L ls n
  unfolding link_at guard
  link_read h q = rw (lt-ltb n L.items h, guard) q

  pub link_none : L.items ≤ n → 0 ≡ link_at L ls n
  unfolding link_at guard
  link_none h = rw (le-ltb n L.items h, guard)

  link_is : n < L.items → r ≡ link_at L ls n → r ≡ get_or ls (slot L.links n) 0
  unfolding link_at guard
  link_is h q = rw (lt-ltb n L.items h, guard) at q

-- in the part that begins at b
pub part_head : (ls : List ℕ) (b n r : ℕ) → n < 128 → r ≡ get_or ls (b + 1024 + n) 0 → r ≡ head_at (part_at b) ls n
part_head ls b n r h q = head_read (part_at b) ls n r h (rw (slot_at (b + 1024) n) q)

pub part_link : (ls : List ℕ) (b n r : ℕ) → n < 1024 → r ≡ get_or ls (b + n) 0 → r ≡ link_at (part_at b) ls n
part_link ls b n r h q = link_read (part_at b) ls n r h (rw (slot_at b n) q)

pub ruleset parts = (part_head, part_link, head_none, link_none)

pub ruleset reads = (head_read, head_none, link_read, link_none)

-- ---- where a walk stands: e is 0, or one more than an edge of n's chain

pub record Out (g : List ℕ) (s : Size) (ls : List ℕ) (n e : ℕ) : Type 0 where
  pub chains : Chains g s ls
  pub at : Down out_lay (source_of g) ls s.edges n e

pub record Into (g : List ℕ) (s : Size) (ls : List ℕ) (n e : ℕ) : Type 0 where
  pub chains : Chains g s ls
  pub at : Down in_lay (target_of g) ls s.edges n e

pub record Old (g : List ℕ) (s : Size) (ls : List ℕ) (n e : ℕ) : Type 0 where
  pub chains : Chains g s ls
  pub at : Up old_lay (source_of g) ls s.edges n e

-- ---- what is left to walk

unfoldable pub out_left : List ℕ → ℕ → ℕ → List Edge
out_left g n e = map (edge_in g) (downs (source_of g) e n)

unfoldable pub into_left : List ℕ → ℕ → ℕ → List Edge
into_left g n e = map (edge_in g) (downs (target_of g) e n)

unfoldable pub targets_left : List ℕ → Size → ℕ → ℕ → List ℕ
targets_left g s n e = map (λ (x : Edge). x.target) (map (edge_in g) (up_from (source_of g) s.edges n e))

-- the measure of a walk oldest first
unfoldable pub old_left : Size → ℕ → ℕ
old_left s e = up_left s.edges e

-- ---- lists

map_on : {X : Type 0} (f h : ℕ → X) (l : List ℕ) → ((i : ℕ) → In i l → f i ≡ h i) → map f l ≡ map h l
map_on f h [] q = refl
map_on f h (i ∷ l) q = rw (q i (inl refl), map_on f h l (λ j k. q j (inr k)))

filter_append : {X : Type 0} (p : X → Bool) (xs ys : List X) → filter p (xs ++ ys) ≡ filter p xs ++ filter p ys
filter_append p [] ys = refl
filter_append p (x ∷ xs) ys =
    split (p x) (λ t. rw (t, filter) (ap (λ (l : List _). x ∷ l) (filter_append p xs ys))) (λ t. rw (t, filter) (filter_append p xs ys))

append-nil : {X : Type 0} (xs : List X) → xs ++ [] ≡ xs
append-nil [] = refl
append-nil (x ∷ xs) = ap (λ (l : List _). x ∷ l) (append-nil xs)

filter_reverse : {X : Type 0} (p : X → Bool) (xs : List X) → filter p (reverse xs) ≡ reverse (filter p xs)
filter_reverse p [] = refl
filter_reverse p (x ∷ xs) =
    rw (reverse-cons x xs, filter_append p (reverse xs) (x ∷ []), filter_reverse p xs)
    (split (p x) (λ t. rw (t, filter) (sym (reverse-cons x (filter p xs)))) (λ t. rw (t, filter) (append-nil (reverse (filter p xs)))))

-- ---- the chains hold the graph's edges

module _ (g : List ℕ) (s : Size) (S : Stored g s) (n : ℕ) where
  abbrev edges_in : List Edge
  edges_in = (graph_in g s).edges

  whole : take s.edges edges_in ≡ edges_in
  whole = ap (λ (k : ℕ). take k edges_in) (sym (edges_count g s S)) ∙ take-length edges_in

  enough : s.edges ≤ length edges_in
  enough = omega (arith, edges_count g s S)

  out_edges : map (edge_in g) (downs (source_of g) s.edges n) ≡ out (graph_in g s) n
  unfolding out source_of
  out_edges =
      map_on (edge_in g) (λ e. get_or edges_in e no_edge) (downs (source_of g) s.edges n) (λ i j. edge_in_lem g s S i (K.downs_in (source_of g) i s.edges n j).0)
      ∙ K.downs_take (λ (x : Edge). x.source) edges_in no_edge (source_of g) n s.edges enough
      (record { agree = λ e h. ap (λ (x : Edge). x.source) (edge_in_lem g s S e h) })
      ∙ ap (λ (l : List Edge). filter (λ (x : Edge). eqb x.source n) (reverse l)) whole

  into_edges : map (edge_in g) (downs (target_of g) s.edges n) ≡ into (graph_in g s) n
  unfolding into target_of
  into_edges =
      map_on (edge_in g) (λ e. get_or edges_in e no_edge) (downs (target_of g) s.edges n) (λ i j. edge_in_lem g s S i (K.downs_in (target_of g) i s.edges n j).0)
      ∙ K.downs_take (λ (x : Edge). x.target) edges_in no_edge (target_of g) n s.edges enough
      (record { agree = λ e h. ap (λ (x : Edge). x.target) (edge_in_lem g s S e h) })
      ∙ ap (λ (l : List Edge). filter (λ (x : Edge). eqb x.target n) (reverse l)) whole

  old_targets : map (λ (x : Edge). x.target) (map (edge_in g) (ups (source_of g) 0 s.edges n)) ≡ map (λ (x : Edge). x.target) (reverse (out (graph_in g s) n))
  unfolding out source_of
  old_targets =
      ap (map (λ (x : Edge). x.target))
      (map_on (edge_in g) (λ e. get_or edges_in e no_edge) (ups (source_of g) 0 s.edges n) (λ i j. edge_in_lem g s S i (K.ups_in_lem (source_of g) i 0 s.edges n j).1)
      ∙ K.ups_take (λ (x : Edge). x.source) edges_in no_edge (source_of g) n s.edges enough
      (record { agree = λ e h. ap (λ (x : Edge). x.source) (edge_in_lem g s S e h) })
      ∙ ap (filter (λ (x : Edge). eqb x.source n)) whole
      ∙ sym (ap reverse (filter_reverse (λ (x : Edge). eqb x.source n) edges_in) ∙ reverse-reverse (filter (λ (x : Edge). eqb x.source n) edges_in)))

-- ---- outgoing, newest first

module _ (g : List ℕ) (s : Size) (ls : List ℕ) (n : ℕ) where
  out_head : (r : ℕ) → Chains g s ls → n < s.nodes → r ≡ first_out ls n → r ≡ get_or ls (slot out_lay.heads n) 0
  out_head r C h q = head_is out_lay ls n r (omega (arith, C.stored.nodes_most)) q

  out_link : (e r : ℕ) → Out g s ls n e → 0 < e → r ≡ next_out ls (e - 1) → r ≡ get_or ls (slot out_lay.links (e - 1)) 0
  out_link e r O h q = link_is out_lay ls (e - 1) r (omega (arith, O.at.low, O.chains.stored.edges_most)) q

  pub out_start : (r : ℕ) → Chains g s ls → n < s.nodes → r ≡ first_out ls n → Out g s ls n r
  out_start r C h q =
      record { chains = C; at = K.down_start out_lay (source_of g) ls s.edges n r C.out (omega (arith, C.stored.nodes_most)) (out_head r C h q) }

  pub out_all : (r : ℕ) → Chains g s ls → n < s.nodes → r ≡ first_out ls n → out_left g n r ≡ out (graph_in g s) n
  unfolding out_left
  out_all r C h q =
      ap (map (edge_in g)) (K.down_all out_lay (source_of g) ls s.edges n r C.out (omega (arith, C.stored.nodes_most)) (out_head r C h q))
      ∙ out_edges g s C.stored n

  pub out_next : (e r : ℕ) → Out g s ls n e → 0 < e → r ≡ next_out ls (e - 1) → Out g s ls n r
  out_next e r O h q = record { chains = O.chains; at = K.down_next out_lay (source_of g) ls s.edges n e r O.at h (out_link e r O h q) }

  pub out_less : (e r : ℕ) → Out g s ls n e → 0 < e → r ≡ next_out ls (e - 1) → r < e
  out_less e r O h q = K.down_less out_lay (source_of g) ls s.edges n e r O.at h (out_link e r O h q)

  pub out_cons : (e r : ℕ) → Out g s ls n e → 0 < e → r ≡ next_out ls (e - 1) → out_left g n e ≡ edge_in g (e - 1) ∷ out_left g n r
  unfolding out_left
  out_cons e r O h q = ap (map (edge_in g)) (K.down_cons out_lay (source_of g) ls s.edges n e r O.at h (out_link e r O h q))

  pub out_edge : (e : ℕ) → Out g s ls n e → 0 < e → e - 1 < s.edges
  out_edge e O h = K.down_below out_lay (source_of g) ls s.edges n e O.at h

  pub out_source : (e : ℕ) → Out g s ls n e → 0 < e → (edge_in g (e - 1)).source ≡ n
  unfolding source_of
  out_source e O h = K.down_key out_lay (source_of g) ls s.edges n e O.at h

  -- r, the target that a read gave
  pub out_target : (e r : ℕ) → Out g s ls n e → 0 < e → r ≡ (edge_in g (e - 1)).target → r < s.nodes
  out_target e r O h q = rw q (target_below g s O.chains.stored (e - 1) (out_edge e O h))

pub out_end : (g : List ℕ) (n e : ℕ) → e ≤ 0 → out_left g n e ≡ []
unfolding out_left
out_end g n e h = ap (map (edge_in g)) (K.down_end (source_of g) n e h)

-- ---- incoming, newest first

module _ (g : List ℕ) (s : Size) (ls : List ℕ) (n : ℕ) where
  into_head : (r : ℕ) → Chains g s ls → n < s.nodes → r ≡ first_in ls n → r ≡ get_or ls (slot in_lay.heads n) 0
  into_head r C h q = head_is in_lay ls n r (omega (arith, C.stored.nodes_most)) q

  into_link : (e r : ℕ) → Into g s ls n e → 0 < e → r ≡ next_in ls (e - 1) → r ≡ get_or ls (slot in_lay.links (e - 1)) 0
  into_link e r O h q = link_is in_lay ls (e - 1) r (omega (arith, O.at.low, O.chains.stored.edges_most)) q

  pub into_start : (r : ℕ) → Chains g s ls → n < s.nodes → r ≡ first_in ls n → Into g s ls n r
  into_start r C h q =
      record { chains = C; at = K.down_start in_lay (target_of g) ls s.edges n r C.into (omega (arith, C.stored.nodes_most)) (into_head r C h q) }

  pub into_all : (r : ℕ) → Chains g s ls → n < s.nodes → r ≡ first_in ls n → into_left g n r ≡ into (graph_in g s) n
  unfolding into_left
  into_all r C h q =
      ap (map (edge_in g)) (K.down_all in_lay (target_of g) ls s.edges n r C.into (omega (arith, C.stored.nodes_most)) (into_head r C h q))
      ∙ into_edges g s C.stored n

  pub into_next : (e r : ℕ) → Into g s ls n e → 0 < e → r ≡ next_in ls (e - 1) → Into g s ls n r
  into_next e r O h q = record { chains = O.chains; at = K.down_next in_lay (target_of g) ls s.edges n e r O.at h (into_link e r O h q) }

  pub into_less : (e r : ℕ) → Into g s ls n e → 0 < e → r ≡ next_in ls (e - 1) → r < e
  into_less e r O h q = K.down_less in_lay (target_of g) ls s.edges n e r O.at h (into_link e r O h q)

  pub into_cons : (e r : ℕ) → Into g s ls n e → 0 < e → r ≡ next_in ls (e - 1) → into_left g n e ≡ edge_in g (e - 1) ∷ into_left g n r
  unfolding into_left
  into_cons e r O h q = ap (map (edge_in g)) (K.down_cons in_lay (target_of g) ls s.edges n e r O.at h (into_link e r O h q))

  pub into_edge : (e : ℕ) → Into g s ls n e → 0 < e → e - 1 < s.edges
  into_edge e O h = K.down_below in_lay (target_of g) ls s.edges n e O.at h

  pub into_target : (e : ℕ) → Into g s ls n e → 0 < e → (edge_in g (e - 1)).target ≡ n
  unfolding target_of
  into_target e O h = K.down_key in_lay (target_of g) ls s.edges n e O.at h

  -- r, the source that a read gave
  pub into_source : (e r : ℕ) → Into g s ls n e → 0 < e → r ≡ (edge_in g (e - 1)).source → r < 128
  into_source e r O h q = rw q (source_below g s O.chains.stored (e - 1) (into_edge e O h))

pub into_end : (g : List ℕ) (n e : ℕ) → e ≤ 0 → into_left g n e ≡ []
unfolding into_left
into_end g n e h = ap (map (edge_in g)) (K.down_end (target_of g) n e h)

-- ---- outgoing, oldest first

module _ (g : List ℕ) (s : Size) (ls : List ℕ) (n : ℕ) where
  old_head : (r : ℕ) → Chains g s ls → n < s.nodes → r ≡ first_old ls n → r ≡ get_or ls (slot old_lay.heads n) 0
  old_head r C h q = head_is old_lay ls n r (omega (arith, C.stored.nodes_most)) q

  old_link : (e r : ℕ) → Old g s ls n e → 0 < e → r ≡ next_old ls (e - 1) → r ≡ get_or ls (slot old_lay.links (e - 1)) 0
  old_link e r O h q = link_is old_lay ls (e - 1) r (omega (arith, O.at.low, O.chains.stored.edges_most)) q

  pub old_start : (r : ℕ) → Chains g s ls → n < s.nodes → r ≡ first_old ls n → Old g s ls n r
  old_start r C h q =
      record { chains = C; at = K.up_start old_lay (source_of g) ls s.edges n r C.old (omega (arith, C.stored.nodes_most)) (old_head r C h q) }

  pub old_all : (r : ℕ) → Chains g s ls → n < s.nodes → r ≡ first_old ls n → targets_left g s n r ≡ map (λ (x : Edge). x.target) (reverse (out (graph_in g s) n))
  unfolding targets_left
  old_all r C h q =
      ap (λ (l : List ℕ). map (λ (x : Edge). x.target) (map (edge_in g) l))
      (K.up_all old_lay (source_of g) ls s.edges n r C.old (omega (arith, C.stored.nodes_most)) (old_head r C h q))
      ∙ old_targets g s C.stored n

  pub old_next : (e r : ℕ) → Old g s ls n e → 0 < e → r ≡ next_old ls (e - 1) → Old g s ls n r
  old_next e r O h q = record { chains = O.chains; at = K.up_next old_lay (source_of g) ls s.edges n e r O.at h (old_link e r O h q) }

  pub old_less : (e r : ℕ) → Old g s ls n e → 0 < e → r ≡ next_old ls (e - 1) → old_left s r < old_left s e
  unfolding old_left
  old_less e r O h q = K.up_less old_lay (source_of g) ls s.edges n e r O.at h (old_link e r O h q)

  pub old_cons : (e r : ℕ) → Old g s ls n e → 0 < e → r ≡ next_old ls (e - 1) → targets_left g s n e ≡ (edge_in g (e - 1)).target ∷ targets_left g s n r
  unfolding targets_left
  old_cons e r O h q =
      ap (λ (l : List ℕ). map (λ (x : Edge). x.target) (map (edge_in g) l)) (K.up_cons old_lay (source_of g) ls s.edges n e r O.at h (old_link e r O h q))

  pub old_edge : (e : ℕ) → Old g s ls n e → 0 < e → e - 1 < s.edges
  old_edge e O h = K.up_below old_lay (source_of g) ls s.edges n e O.at h

  pub old_source : (e : ℕ) → Old g s ls n e → 0 < e → (edge_in g (e - 1)).source ≡ n
  unfolding source_of
  old_source e O h = K.up_key old_lay (source_of g) ls s.edges n e O.at h

  pub old_target : (e r : ℕ) → Old g s ls n e → 0 < e → r ≡ (edge_in g (e - 1)).target → r < s.nodes
  old_target e r O h q = rw q (target_below g s O.chains.stored (e - 1) (old_edge e O h))

pub old_end : (g : List ℕ) (s : Size) (n e : ℕ) → e ≤ 0 → targets_left g s n e ≡ []
unfolding targets_left
old_end g s n e h = ap (λ (l : List ℕ). map (λ (x : Edge). x.target) (map (edge_in g) l)) (K.up_end (source_of g) s.edges n e h)

pub ruleset outs = (out_start, out_next, out_less, out_target)

pub ruleset intos = (into_start, into_next, into_less, into_source)

pub ruleset olds = (old_start, old_next, old_less, old_target)
