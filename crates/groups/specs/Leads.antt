-- Each node's first member, found among the earlier nodes; what the code compares first, and the ways through it.
use Rattle.std.specs.Prelude.{◌≡◌, ℕ, zero, suc, ◌+◌, ◌*◌, ◌<◌, ◌≤◌, Bool, true, false, cond, not, ◌&&◌, ◌⊎◌, List, [], ◌∷◌, length, ◌==◌, ◌≢◌, nat_eq, slice_index, slice_index_or, slice_set}
use Rattle.std.proofs.Math.Path.{refl, sym, ap}
use Rattle.std.proofs.Common.{◌∙◌, true≢false, not-suc-le-zero, arith, length-set, get_or-set_same, get_or-set_other}
use Rattle.std.proofs.Math.Logic.{inl, inr}
use Rattle.std.proofs.lemmas.Bool.{false≢true}
use Rattle.std.proofs.Math.Numerals.{add-one}
use borrow.Author.Tests.{eqb-true, eqb-false, eq-eqb, ne_eqb}
use Rattle.basis.specs.Lists.{filter, eq_list, upto}
use Rattle.basis.specs.Members.{In, split, either, no_both, in_filter, and_true}
use Rattle.store.specs.declared.ConflictNode.{ConflictNode}
use Rattle.store.specs.declared.ConflictNode.TheVariants as N
use Rattle.store.specs.declared.Size.{Size}
use Rattle.store.specs.Graph.{Graph, node_at, is_solvable}
use Rattle.store.specs.Table.{graph_in, node_in, Stored, nodes_count, node_in_lem}
use Rattle.links.specs.Build.{Chains}
use Rattle.groups.specs.Small.{eq_refl, keys_refl, filter_same}
use Rattle.groups.specs.Groups.{sort, out_keys, in_keys, merges_by, title_of, mates_by, head_or, lead_by}
use Rattle.groups.specs.Counts.{NodesAlike, alike, same_row}
use Rattle.groups.specs.Codes.{stored_ends, in_same, out_same}
use Rattle.groups.specs.Multi.{same_codes}
use Rattle.groups.specs.Keys.{keys_in, same_in, same_edges}
use Rattle.groups.specs.Prints.{print_of, Printed}
use Rattle.groups.specs.Laws.Prints.{print_sorted, twins_to, alone}

-- a table that gives each node the number of its name's text stands for the texts: equal numbers, equal texts
unfoldable pub title_in : List ℕ → ℕ → List ℕ
title_in ids n = slice_index ids n ∷ []

-- the leads of the first k nodes in a table; the entries behind stay
unfoldable pub leads_to : (ℕ → List ℕ) → Graph → ℕ → List ℕ → List ℕ
leads_to title G zero l = l
leads_to title G (suc k) l = slice_set (leads_to title G k l) k (lead_by title G k)

-- ---- the first that merges

-- no node below m merges with n
pub record None (title : ℕ → List ℕ) (G : Graph) (n m : ℕ) : Type 0 where
  pub each : (j : ℕ) → j < m → merges_by title G j n ≡ false

-- the table holds the leads of the nodes below k
pub record Led (title : ℕ → List ℕ) (G : Graph) (leads : List ℕ) (k : ℕ) : Type 0 where
  pub lead : (j : ℕ) → j < k → slice_index leads j ≡ lead_by title G j

least : (p : ℕ → Bool) (k a d m : ℕ) → a ≤ m → m < a + k → p m ≡ true → (p (head_or d (filter p (upto k a))) ≡ true) × (head_or d (filter p (upto k a)) ≤ m)
least p zero a d m h l e = absurd (never h l)
  where
    never : a ≤ m → m < a + 0 → ⊥
    never h l = omega arith
least p (suc k) a d m h l e =
    split (p a) (λ t. rw (t, filter) (t, h))
    (λ t. rw (t, filter) (least p k (suc a) d m (later t) (omega arith) e))
  where
    later : p a ≡ false → suc a ≤ m
    later t = split (a == m) (λ u. no_both (p m) e (rw (eqb-true a m u) at t)) (λ u. omega (arith, eqb-false a m u))

filter_none : (p : ℕ → Bool) (l : List ℕ) → ((x : ℕ) → p x ≡ false) → filter p l ≡ []
filter_none p [] h = refl
filter_none p (x ∷ l) h = rw (h x, filter) (filter_none p l h)

module _ (title : ℕ → List ℕ) (G : Graph) where
  merges_self : (n : ℕ) → is_solvable (node_at G n) ≡ true → merges_by title G n n ≡ true
  unfolding merges_by
  merges_self n e = rw (e, eq_refl (title n), keys_refl (sort (in_keys G n)), keys_refl (sort (out_keys G n)))

  lead_least : (n m : ℕ) → m < length G.nodes → merges_by title G m n ≡ true → (merges_by title G (lead_by title G n) n ≡ true) × (lead_by title G n ≤ m)
  unfolding lead_by mates_by
  lead_least n m h e = least (λ j. merges_by title G j n) (length G.nodes) 0 n m (omega arith) (omega arith) e

  found : (n m : ℕ) → m < length G.nodes → None title G n m → merges_by title G m n ≡ true → lead_by title G n ≡ m
  found n m h none e =
      let l = lead_least n m h e in
      split (lead_by title G n == m) (λ t. eqb-true (lead_by title G n) m t)
      (λ t. no_both (merges_by title G (lead_by title G n) n) l.0 (none.each (lead_by title G n) (let z : lead_by title G n ≤ m = l.1 in
      omega (arith, eqb-false (lead_by title G n) m t))))

  lead_alone : (n : ℕ) → is_solvable (node_at G n) ≡ false → lead_by title G n ≡ n
  unfolding lead_by mates_by merges_by
  lead_alone n e = rw (filter_none (λ j. merges_by title G j n) (upto (length G.nodes) 0) (λ j. rw e (no (is_solvable (node_at G j)))))
    where
      no : (b : Bool) → b && false ≡ false
      no true = refl
      no false = refl

  lead_own : (n : ℕ) → n < length G.nodes → None title G n n → lead_by title G n ≡ n
  lead_own n h none = split (is_solvable (node_at G n)) (λ t. found n n h none (merges_self n t)) (λ t. lead_alone n t)

  -- a node's first member is not later than the node
  pub lead_le : (n : ℕ) → n < length G.nodes → lead_by title G n ≤ n
  lead_le n h =
      split (is_solvable (node_at G n)) (λ t. (lead_least n n h (merges_self n t)).1) (λ t. let z : lead_by title G n ≡ n = lead_alone n t in omega arith)

  -- a node that is not its own first member was passed when its first member was
  none_next : (n m : ℕ) → m < length G.nodes → None title G n m → (lead_by title G m == m) && merges_by title G m n ≡ false → None title G n (suc m)
  none_next n m h none e = record { each = each }
    where
      here : merges_by title G m n ≡ true → merges_by title G m n ≡ false
      here t =
          let a = alike title G m n t in
          let l = lead_least m m h (merges_self m a.left_is) in
          let x : merges_by title G (lead_by title G m) n ≡ true = sym (same_row title G m n (lead_by title G m) a) ∙ l.0 in
          split (lead_by title G m == m)
          (λ u. absurd (true≢false (rw (u, t) at e)))
          (λ u. no_both (merges_by title G (lead_by title G m) n) x (none.each (lead_by title G m) (let z : lead_by title G m ≤ m = l.1 in
          omega (arith, eqb-false (lead_by title G m) m u))))

      each : (j : ℕ) → j < suc m → merges_by title G j n ≡ false
      each j l = split (j == m) (λ t. rw (eqb-true j m t) (split (merges_by title G m n) here (λ u. u))) (λ t. none.each j (omega (arith, eqb-false j m t)))

-- ---- what is compared first

merges_print : (title : ℕ → List ℕ) (G : Graph) (m n : ℕ) → merges_by title G m n ≡ true → print_of G m ≡ print_of G n
merges_print title G m n t = let a = alike title G m n t in print_sorted G m n a.outs a.ins

-- all that finding node n's lead needs
pub record Ready (g : List ℕ) (s : Size) (ls ids prints leads : List ℕ) (n : ℕ) : Type 0 where
  pub chains : Chains g s ls
  pub printed : Printed (graph_in g s) prints
  pub led : Led (title_in ids) (graph_in g s) leads n
  pub node : n < s.nodes
  pub small : n < 128

-- the cheap part: equal fingerprints, the same name, and m a first member
unfoldable pub alike_of : List ℕ → List ℕ → List ℕ → ℕ → ℕ → Bool
alike_of ids prints leads m n = slice_index prints m == slice_index prints n && (slice_index ids m == slice_index ids n && slice_index leads m == m)

module _ (ids prints leads : List ℕ) (m n : ℕ) where
  pub alike_print : (slice_index prints m ≢ slice_index prints n) → false ≡ alike_of ids prints leads m n
  unfolding alike_of
  alike_print f = rw (ne_eqb (slice_index prints m) (slice_index prints n) f)

  pub alike_id : (slice_index ids m ≢ slice_index ids n) → slice_index prints m ≡ slice_index prints n → false ≡ alike_of ids prints leads m n
  unfolding alike_of
  alike_id f e = rw (eq-eqb (slice_index prints m) (slice_index prints n) e, ne_eqb (slice_index ids m) (slice_index ids n) f)

  pub alike_lead : (l : ℕ) → slice_index ids m ≡ slice_index ids n → slice_index prints m ≡ slice_index prints n → l ≡ slice_index leads m → (l == m) ≡ alike_of ids prints leads m n
  unfolding alike_of
  alike_lead l f e q = rw (eq-eqb (slice_index prints m) (slice_index prints n) e, eq-eqb (slice_index ids m) (slice_index ids n) f, q)

  record AlikeAll : Type 0 where
    print : slice_index_or prints m 0 ≡ slice_index prints n
    id : slice_index_or ids m 0 ≡ slice_index ids n
    lead : nat_eq (slice_index leads m) m ≡ true

  alike_all : alike_of ids prints leads m n ≡ true → AlikeAll
  unfolding alike_of
  alike_all e =
      let x = and_true (slice_index prints m == slice_index prints n) (slice_index ids m == slice_index ids n && slice_index leads m == m) e in
      let y = and_true (slice_index ids m == slice_index ids n) (slice_index leads m == m) x.1 in
      record { print = eqb-true (slice_index prints m) (slice_index prints n) x.0; id = eqb-true (slice_index ids m) (slice_index ids n) y.0; lead = y.1 }

  alike_none : alike_of ids prints leads m n ≡ false → (slice_index prints m ≢ slice_index prints n)
      ⊎ ((slice_index ids m ≢ slice_index ids n) ⊎ ((slice_index leads m == m) ≡ false))
  unfolding alike_of
  alike_none e =
      split (slice_index prints m == slice_index prints n)
      (λ t. split (slice_index ids m == slice_index ids n)
      (λ u. inr (inr (rw (t, u) at e)))
      (λ u. inr (inl (eqb-false (slice_index ids m) (slice_index ids n) u))))
      (λ t. inl (eqb-false (slice_index prints m) (slice_index prints n) t))

-- m leads, and merges with n
unfoldable pub fits_of : Graph → List ℕ → List ℕ → ℕ → ℕ → Bool
fits_of G ids leads m n = slice_index leads m == m && merges_by (title_in ids) G m n

-- a node's kind
pub is_solvable_lem : (t x : Bool) → t ≡ true → t ≡ x → x ≡ true
is_solvable_lem t x e q = sym q ∙ e

module _ (g : List ℕ) (s : Size) (ls ids prints leads : List ℕ) (n : ℕ) (R : Ready g s ls ids prints leads n) where
  count_is : length (graph_in g s).nodes ≡ s.nodes
  count_is = nodes_count g s R.chains.stored

  kind_is : (m : ℕ) → m < s.nodes → is_solvable (node_in g m) ≡ is_solvable (node_at (graph_in g s) m)
  kind_is m h = ap is_solvable (node_in_lem g s R.chains.stored m h)

  pub small_is : n < 128
  small_is = R.small

  -- what is no solvable does not merge
  pub lead_kind : (t : Bool) → t ≡ false → t ≡ is_solvable (node_in g n) → n ≡ lead_by (title_in ids) (graph_in g s) n
  lead_kind t z q = sym (lead_alone (title_in ids) (graph_in g s) n (sym (kind_is n R.node) ∙ sym q ∙ z))

  -- no earlier node has its fingerprint
  pub lead_lone : (c : ℕ) → c ≡ 0 → c ≡ twins_to prints (slice_index prints n) n → n ≡ lead_by (title_in ids) (graph_in g s) n
  lead_lone c z q = sym (lead_own (title_in ids) (graph_in g s) n (rw count_is R.node) (record { each = each }))
    where
      differs : (j : ℕ) → j < n → merges_by (title_in ids) (graph_in g s) j n ≢ true
      differs j l e =
          alone prints (slice_index prints n) n j (sym q ∙ z) l
          (R.printed.print j (omega (arith, R.small)) ∙ merges_print (title_in ids) (graph_in g s) j n e ∙ sym (R.printed.print n R.small))

      each : (j : ℕ) → j < n → merges_by (title_in ids) (graph_in g s) j n ≡ false
      each j l = split (merges_by (title_in ids) (graph_in g s) j n) (λ t. absurd (differs j l t)) (λ t. t)

  module _ (m : ℕ) (lt : m < n) where
    m_node : m < s.nodes
    m_node = omega (arith, R.node)

    wrong : merges_by (title_in ids) (graph_in g s) m n ≡ false → false ≡ fits_of (graph_in g s) ids leads m n
    unfolding fits_of
    wrong e = rw e (no (slice_index leads m == m))
      where
        no : (b : Bool) → false ≡ b && false
        no true = refl
        no false = refl

    never_merges : (merges_by (title_in ids) (graph_in g s) m n ≢ true) → false ≡ fits_of (graph_in g s) ids leads m n
    never_merges f = wrong (split (merges_by (title_in ids) (graph_in g s) m n) (λ t. absurd (f t)) (λ t. t))

    pub fits_unlike : (t : Bool) → t ≡ false → t ≡ alike_of ids prints leads m n → false ≡ fits_of (graph_in g s) ids leads m n
    unfolding fits_of title_in
    fits_unlike t z q =
        either (alike_none ids prints leads m n (sym q ∙ z))
        (λ f. never_merges (λ e. f (R.printed.print m (omega (arith, R.small)) ∙ merges_print (title_in ids) (graph_in g s) m n e
        ∙ sym (R.printed.print n R.small))))
        (λ f. either f (λ f. never_merges (λ e. f (heads (alike (title_in ids) (graph_in g s) m n e).titles))) (λ f. rw f))
      where
        heads : slice_index_or ids m 0 ∷ [] ≡ slice_index ids n ∷ [] → slice_index ids m ≡ slice_index ids n
        heads e = cc

    module _ (v : Bool) (k : v ≡ is_solvable (node_in g m)) where
      pub fits_kind : v ≡ false → false ≡ fits_of (graph_in g s) ids leads m n
      fits_kind w =
          never_merges (λ e. no_both (is_solvable (node_at (graph_in g s) m)) (alike (title_in ids) (graph_in g s) m n e).left_is (sym (kind_is m m_node) ∙ sym k
          ∙ w))

      -- the full comparison decides
      pub fits_edges : (r t : Bool) → r ≡ same_edges (graph_in g s) m n → v ≡ true → t ≡ true → t ≡ alike_of ids prints leads m n → is_solvable (node_in g n) ≡ true
          → r ≡ fits_of (graph_in g s) ids leads m n
      unfolding fits_of same_edges same_in same_codes keys_in merges_by title_in
      fits_edges r t q w z a i =
          let cheap = alike_all ids prints leads m n (sym a ∙ z) in
          let E = stored_ends g s in
          rw (
            q,
            cheap.lead,
            sym (kind_is m m_node) ∙ sym k ∙ w,
            sym (kind_is n R.node) ∙ i,
            cheap.id,
            eq-eqb (slice_index ids n) (slice_index ids n) refl,
            eq_list,
            in_same (graph_in g s) E m n,
            out_same (graph_in g s) E m n,
          )

  -- ---- the search

  pub none_none : None (title_in ids) (graph_in g s) n 0
  none_none = record { each = λ j l. absurd (not-suc-le-zero l) }

  module _ (m : ℕ) (none : None (title_in ids) (graph_in g s) n m) where
    pub none_more : (t : Bool) → t ≡ false → t ≡ fits_of (graph_in g s) ids leads m n → m < n → None (title_in ids) (graph_in g s) n (m + 1)
    unfolding fits_of
    none_more t z q lt =
        rw add-one
        (none_next (title_in ids) (graph_in g s) n m (rw count_is (omega (arith, R.node))) none (rw (← R.led.lead m lt) (sym q ∙ z)))

    pub lead_found : (t : Bool) → t ≡ true → t ≡ fits_of (graph_in g s) ids leads m n → m < n → m ≡ lead_by (title_in ids) (graph_in g s) n
    unfolding fits_of
    lead_found t z q lt =
        sym (found (title_in ids) (graph_in g s) n m (rw count_is (omega (arith, R.node))) none
        (right (slice_index leads m == m) (merges_by (title_in ids) (graph_in g s) m n) (sym q ∙ z)))
      where
        right : (a b : Bool) → a && b ≡ true → b ≡ true
        right true b e = e
        right false b e = absurd (false≢true e)

    pub lead_last : m ≤ n → n ≤ m → n ≡ lead_by (title_in ids) (graph_in g s) n
    lead_last a b = let z : m ≡ n = omega arith in sym (lead_own (title_in ids) (graph_in g s) n (rw count_is R.node) (rw z at none))

-- ---- all nodes

pub leads_none : (title : ℕ → List ℕ) (G : Graph) (l : List ℕ) → l ≡ leads_to title G 0 l
unfolding leads_to
leads_none title G l = refl

leads_long : (title : ℕ → List ℕ) (G : Graph) (k : ℕ) (l : List ℕ) → length (leads_to title G k l) ≡ length l
unfolding leads_to
leads_long title G zero l = refl
leads_long title G (suc k) l = rw length-set (leads_long title G k l)

pub leads_at : (title : ℕ → List ℕ) (G : Graph) (k : ℕ) (l : List ℕ) → k ≤ length l → (j : ℕ) → j < k → slice_index (leads_to title G k l) j ≡ lead_by title G j
unfolding leads_to
leads_at title G zero l h j i = absurd (not-suc-le-zero i)
leads_at title G (suc k) l h j i =
    split (j == k) (λ t. rw (eqb-true j k t) (get_or-set_same (leads_to title G k l) k (lead_by title G k) 0 (rw leads_long (omega arith))))
    (λ t. get_or-set_other (leads_to title G k l) k j (lead_by title G k) 0 (eqb-false j k t)
    ∙ leads_at title G k l (omega arith) j (omega (arith, eqb-false j k t)))

pub ready_at : (g : List ℕ) (s : Size) (ls ids prints leads l : List ℕ) (n : ℕ) → leads ≡ leads_to (title_in ids) (graph_in g s) n l → Chains g s ls
    → Printed (graph_in g s) prints → length l ≡ 128 → n < s.nodes → Ready g s ls ids prints leads n
ready_at g s ls ids prints leads l n q c S k h =
    record {
      chains = c;
      printed = S;
      led = record { lead = λ j i. rw q (leads_at (title_in ids) (graph_in g s) n l (omega (arith, c.stored.nodes_most)) j i) };
      node = h;
      small = omega (arith, c.stored.nodes_most);
    }

pub leads_next : (title : ℕ → List ℕ) (G : Graph) (leads l : List ℕ) (n r : ℕ) → leads ≡ leads_to title G n l → r ≡ lead_by title G n
    → slice_set leads n r ≡ leads_to title G (n + 1) l
unfolding leads_to
leads_next title G leads l n r q e = rw (add-one, q, e)

pub leads_all : (title : ℕ → List ℕ) (G : Graph) (leads l : List ℕ) (n k : ℕ) → leads ≡ leads_to title G n l → n ≤ k → k ≤ n → leads ≡ leads_to title G k l
leads_all title G leads l n k q a b = let z : n ≡ k = omega arith in rw z at q

-- ---- numbers for texts

-- two ways to name the nodes that tell the same solvables apart
pub record SameNames (G : Graph) (t u : ℕ → List ℕ) : Type 0 where
  pub same : (m n : ℕ) → is_solvable (node_at G m) ≡ true → is_solvable (node_at G n) ≡ true → eq_list (t m) (t n) ≡ eq_list (u m) (u n)

module _ (G : Graph) (t u : ℕ → List ℕ) (S : SameNames G t u) where
  merges_same : (m n : ℕ) → merges_by t G m n ≡ merges_by u G m n
  unfolding merges_by
  merges_same m n =
      split (is_solvable (node_at G m))
      (λ a. rw a (split (is_solvable (node_at G n)) (λ b. rw (b, S.same m n a b)) (λ b. rw b)))
      (λ a. rw a)

  pub lead_same : (n : ℕ) → lead_by t G n ≡ lead_by u G n
  unfolding lead_by mates_by
  lead_same n = ap (head_or n) (filter_same (λ m. merges_by t G m n) (λ m. merges_by u G m n) (upto (length G.nodes) 0) (λ m. merges_same m n))

  -- so the code's table of numbers gives the leads by the names' texts
  pub leads_same : (k : ℕ) (l : List ℕ) → leads_to t G k l ≡ leads_to u G k l
  unfolding leads_to
  leads_same zero l = refl
  leads_same (suc k) l = rw (leads_same k l, lead_same k)

-- the table gives solvable nodes equal numbers exactly where the texts of their names are equal
pub record Numbered (name : ℕ → List ℕ) (G : Graph) (ids : List ℕ) : Type 0 where
  pub alike_named : (m n s t : ℕ) → node_at G m ≡ N.Solvable s → node_at G n ≡ N.Solvable t → (slice_index ids m == slice_index ids n) ≡ eq_list (name s) (name t)

eq_one : (a b : ℕ) → eq_list (a ∷ []) (b ∷ []) ≡ (a == b)
eq_one a b = split (a == b) (λ t. rw (t, eq_list)) (λ t. rw (t, eq_list))

solvable_is : (x : ConflictNode) → is_solvable x ≡ true → (s : ℕ) × (x ≡ N.Solvable s)
solvable_is N.Root e = absurd (false≢true e)
solvable_is (N.Solvable s) e = (s, refl)
solvable_is N.UnresolvedDependency e = absurd (false≢true e)
solvable_is (N.Excluded r) e = absurd (false≢true e)

title_is : (name : ℕ → List ℕ) (G : Graph) (n s : ℕ) → node_at G n ≡ N.Solvable s → name s ≡ title_of name G n
title_is name G n s e = rw (e, title_of)

numbered : (name : ℕ → List ℕ) (G : Graph) (ids : List ℕ) → Numbered name G ids → SameNames G (title_in ids) (title_of name G)
unfolding title_in
numbered name G ids R = record { same = names }
  where
    names : (m n : ℕ) → is_solvable (node_at G m) ≡ true → is_solvable (node_at G n) ≡ true
        → eq_list (slice_index ids m ∷ []) (slice_index ids n ∷ []) ≡ eq_list (title_of name G m) (title_of name G n)
    names m n a b =
        let x = solvable_is (node_at G m) a in
        let y = solvable_is (node_at G n) b in
        eq_one (slice_index ids m) (slice_index ids n) ∙ R.alike_named m n x.0 y.0 x.1 y.1
        ∙ ap (λ (u : List ℕ). eq_list u (name y.0)) (title_is name G m x.0 x.1)
        ∙ ap (λ (u : List ℕ). eq_list (title_of name G m) u) (title_is name G n y.0 y.1)

-- what `group` leaves, by the names
pub leads_named : (name : ℕ → List ℕ) (G : Graph) (ids : List ℕ) (k : ℕ) (l : List ℕ) → Numbered name G ids
    → leads_to (title_in ids) G k l ≡ leads_to (title_of name G) G k l
leads_named name G ids k l R = leads_same G (title_in ids) (title_of name G) (numbered name G ids R) k l
