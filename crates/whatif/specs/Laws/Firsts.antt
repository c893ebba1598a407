-- Every node has the clause that first added it, while the graph grows and after; and by what a node stands for, that clause is the same in
-- the graph asked for and in the rebuilt one.
use Rattle.std.specs.Prelude.{◌≡◌, ◌⊎◌, true, false, List, [], ◌∷◌, ◌++◌, length, get_or, drop, ltb, Option, Some, None}
use Rattle.std.proofs.Math.Path.{refl}
use Rattle.std.proofs.Common.{sym, ap, ◌∙◌, subst, inl, inr, arith, length-append}
use Rattle.std.proofs.Math.Option.{Option as Maybe, none, some}
use Prim.Native.Nat.{ℕ, zero, suc, ◌+◌, ◌<◌, ◌≤◌}
use Rattle.basis.specs.Lists.{any, place, snoc}
use Rattle.basis.specs.Members.{In, Distinct, split, either, clash, no_both, any_in, any_some}
use Rattle.records.specs.declared.Clause.{Clause}
use Rattle.records.specs.declared.Clause.TheVariants as C
use Rattle.records.specs.Tables.{Tables}
use Rattle.records.specs.Views.{origin_of, clause_of, core_at}
use Rattle.store.specs.declared.ConflictNode.{ConflictNode}
use Rattle.store.specs.declared.ConflictNode.TheVariants as N
use Rattle.store.specs.declared.ConflictCause.TheVariants as K
use Rattle.store.specs.declared.ConflictEdge.{ConflictEdge}
use Rattle.store.specs.declared.ConflictEdge.TheVariants as W
use Rattle.store.specs.declared.Edge.{Edge}
use Rattle.store.specs.Graph.{Graph, Added, added, full, same_node, add_node, add_edge, add_link, node_at, first_at, last_one, front, settle}
use Rattle.store.specs.Words.{same_true, same_refl}
use Rattle.expansion.specs.Triple.{Triple, same_triple}
use Rattle.linking.specs.Links.{party_of, solvable_in, name_forbidden, requirers, Link, Linked, more, short, link_all, requires_of, excluded_links, lock_links}
use Rattle.linking.specs.Links.{constrains_links, previous_links, forbid_all}
use Rattle.expansion.specs.declared.Side.{Side}
use Rattle.expansion.specs.declared.Side.TheVariants.{Parent, Candidate}
use Rattle.expansion.specs.Expand.{Build, ClauseStep, on, stop, start_build, kept_beside, noted, once, once_all, triples_of, others, pair, pair_all, lastly, forbid}
use Rattle.expansion.specs.Expand.{forbid_in, expand}
use Rattle.graph.specs.Graphs.{is_learnt, Turned, go, halt, expanded, core_turn, handed, turn_at, Built, built, stopped, build_from, build_of}
use Rattle.shape.specs.Shaped.{Shaped}
use Rattle.shape.specs.Graphed.{graphed_settle}
use Rattle.whatif.specs.Asked.{has_node, nodes_with, with_first, asked}
use Rattle.whatif.specs.Laws.Settling.{stays, settle_from, settle_to, stays_same}

-- ---- as many clauses as nodes

abbrev pub Matched : Graph → Type 0
Matched g = length g.firsts ≡ length g.nodes

-- of a step's answer: its graph has as many, where there was room
abbrev AddedMatched : Added → Type 0
AddedMatched (added i g) = Matched g
AddedMatched full = Unit {0}

abbrev LinkedMatched : Linked → Type 0
LinkedMatched (more g) = Matched g
LinkedMatched short = Unit {0}

abbrev StepMatched : ClauseStep → Type 0
StepMatched (on b) = Matched b.graph
StepMatched stop = Unit {0}

abbrev TurnMatched : Turned → Type 0
TurnMatched (go b) = Matched b.graph
TurnMatched (halt k) = Unit {0}

abbrev BuiltMatched : Built → Type 0
BuiltMatched (built b) = Matched b.graph
BuiltMatched (stopped k i) = Unit {0}

both_more : (ns : List ConflictNode) (fs : List ℕ) (x : ConflictNode) (c : ℕ) → length fs ≡ length ns → length (snoc fs c) ≡ length (snoc ns x)
both_more ns fs x c m = rw (length-append fs (c ∷ []), length-append ns (x ∷ [])) (omega (arith, m))

node_matched : (g : Graph) (x : ConflictNode) → Matched g → AddedMatched (add_node g x)
unfolding add_node
node_matched g x m = by (place (same_node x) g.nodes 0) refl
  where
    by : (o : Maybe ℕ) → place (same_node x) g.nodes 0 ≡ o → AddedMatched (add_node g x)
    by (some i) q = rw (q, add_node) m
    by none q =
        split (ltb (length g.nodes) 128)
        (λ t. rw (q, add_node, t) (both_more g.nodes g.firsts x g.hand m))
        (λ t. rw (q, add_node, t) tt)

edge_matched : (g : Graph) (e : Edge) → Matched g → AddedMatched (add_edge g e)
unfolding add_edge
edge_matched g e m = split (ltb (length g.edges) 1024) (λ t. rw t m) (λ t. rw t tt)

link_matched : (g : Graph) (x y : ConflictNode) (w : ConflictEdge) → Matched g → AddedMatched (add_link g x y w)
unfolding add_link
link_matched g x y w m = first (add_node g x) refl
  where
    second : (j : ℕ) (k : Graph) → add_node g x ≡ added j k → Matched k → (a : Added) → add_node k y ≡ a → AddedMatched (add_link g x y w)
    second j k p u (added n l) q =
        let v : Matched l = rw q at (node_matched k y u) in
        rw (p, add_link, q) (edge_matched l (record { source = j; target = n; weight = w; clause = l.hand }) v)
    second j k p u full q = rw (p, add_link, q) tt

    first : (a : Added) → add_node g x ≡ a → AddedMatched (add_link g x y w)
    first (added j k) p = second j k p (rw p at (node_matched g x m)) (add_node k y) refl
    first full p = rw (p, add_link) tt

link_step : (l : Link) (ls : List Link) (g : Graph) → ((h : Graph) → Matched h → LinkedMatched (link_all ls h)) → Matched g → (a : Added)
    → add_link g l.source l.target l.weight ≡ a → LinkedMatched (link_all (l ∷ ls) g)
unfolding link_all
link_step l ls g f m (added i h) q = rw (q, link_all) (f h (rw q at (link_matched g l.source l.target l.weight m)))
link_step l ls g f m full q = rw (q, link_all) tt

links_matched : (ls : List Link) (g : Graph) → Matched g → LinkedMatched (link_all ls g)
unfolding link_all
links_matched [] g m = m
links_matched (l ∷ ls) g m = link_step l ls g (λ h u. links_matched ls h u) m (add_link g l.source l.target l.weight) refl

kept_matched : (b : Build) (l : Linked) → LinkedMatched l → StepMatched (kept_beside b l)
kept_matched b (more g) m = m
kept_matched b short m = m

noted_matched : (b : Build) (t : Triple) (a : Added) → AddedMatched a → StepMatched (noted b t a)
noted_matched b t (added i g) m = m
noted_matched b t full m = m

lastly_matched : (b : Build) (n s : ℕ) (l : Linked) → LinkedMatched l → StepMatched (lastly b n s l)
lastly_matched b n s (more g) m = m
lastly_matched b n s short m = m

once_matched : (b : Build) (t : Triple) → Matched b.graph → StepMatched (once b t)
unfolding once
once_matched b t m =
    split (any (same_triple t) b.made)
    (λ h. rw (h, once) m)
    (λ h. rw (h, once)
    (noted_matched b t (add_link b.graph t.parent t.candidate (W.Conflict (K.Constrains t.vset)))
    (link_matched b.graph t.parent t.candidate (W.Conflict (K.Constrains t.vset)) m)))

once_step : (t : Triple) (ts : List Triple) (b : Build) → ((c : Build) → Matched c.graph → StepMatched (once_all ts c)) → Matched b.graph
    → (s : ClauseStep) → once b t ≡ s → StepMatched (once_all (t ∷ ts) b)
unfolding once_all
once_step t ts b f m (on c) q = rw (q, once_all) (f c (rw q at (once_matched b t m)))
once_step t ts b f m stop q = rw (q, once_all) tt

onces_matched : (ts : List Triple) (b : Build) → Matched b.graph → StepMatched (once_all ts b)
unfolding once_all
onces_matched [] b m = m
onces_matched (t ∷ ts) b m = once_step t ts b (λ c u. onces_matched ts c u) m (once b t) refl

forbid_matched : (g : Graph) (p : Maybe ℕ) (s : ℕ) → Matched g → LinkedMatched (forbid_all g p s)
unfolding forbid_all
forbid_matched g p s m = by (add_node g (N.Solvable s)) refl
  where
    by : (a : Added) → add_node g (N.Solvable s) ≡ a → LinkedMatched (forbid_all g p s)
    by (added i h) q = rw (q, forbid_all) (links_matched (previous_links p s) h (rw q at (node_matched g (N.Solvable s) m)))
    by full q = rw (q, forbid_all) tt

forbids_matched : (b : Build) (ss ns : List ℕ) → Matched b.graph → StepMatched (forbid_in b ss ns)
forbids_matched b [] ns m = m
forbids_matched b (s ∷ ss) [] m = m
forbids_matched b (s ∷ ss) (n ∷ ns) m =
    lastly_matched b n s (forbid_all b.graph (get_or b.last n none) s) (forbid_matched b.graph (get_or b.last n none) s m)

module _ (T : Tables) where
  pairs_matched : (side : Side) (b v : ℕ) (p : Option ConflictNode) (d : Build) → Matched d.graph → StepMatched (pair_all T side b v p d)
  pairs_matched side b v None d m = m
  pairs_matched side b v (Some n) d m = onces_matched (triples_of side n v (others T side b)) d m

  expand_matched : (c : Clause) (d : Build) → Matched d.graph → StepMatched (expand T c d)
  unfolding expand forbid pair
  expand_matched C.InstallRoot d m = m
  expand_matched (C.Excluded x r) d m = kept_matched d (link_all (excluded_links T x r) d.graph) (links_matched (excluded_links T x r) d.graph m)
  expand_matched C.Learnt d m = m
  expand_matched (C.Requires x q) d m =
      kept_matched d (link_all (requires_of T q (requirers T x)) d.graph) (links_matched (requires_of T q (requirers T x)) d.graph m)
  expand_matched (C.Lock x y) d m = kept_matched d (link_all (lock_links T x y) d.graph) (links_matched (lock_links T x y) d.graph m)
  expand_matched (C.ForbidMultipleInstances x y) d m = forbids_matched d (solvable_in (origin_of T x)) (name_forbidden (origin_of T y)) m
  expand_matched (C.Constrains x y v) d m = kept_matched d (link_all (constrains_links T x y v) d.graph) (links_matched (constrains_links T x y v) d.graph m)
  expand_matched (C.ConstrainsParent x y v) d m = pairs_matched Parent y v (party_of T x) d m
  expand_matched (C.ConstrainsExcluded x y v) d m = pairs_matched Candidate y v (party_of T x) d m
  expand_matched (C.AnyOf x y) d m = m

  expanded_matched : (s : ClauseStep) → StepMatched s → TurnMatched (expanded s)
  expanded_matched (on b) m = m
  expanded_matched stop m = m

  turn_matched : (i : ℕ) (b : Build) → Matched b.graph → TurnMatched (turn_at T i b)
  unfolding turn_at
  turn_matched i b m =
      split (core_at T i)
      (λ t. split (is_learnt (clause_of T i))
      (λ u. rw (t, turn_at, u, core_turn) tt)
      (λ u. rw (t, turn_at, u, core_turn) (expanded_matched (expand T (clause_of T i) (handed i b)) (expand_matched (clause_of T i) (handed i b) m))))
      (λ t. rw (t, turn_at) m)

  build_step : (n i : ℕ) (b : Build) → ((c : Build) → Matched c.graph → BuiltMatched (build_from n T (suc i) c)) → Matched b.graph → (t : Turned)
      → turn_at T i b ≡ t → BuiltMatched (build_from (suc n) T i b)
  unfolding build_from
  build_step n i b f m (go c) q = rw (q, build_from) (f c (rw q at (turn_matched i b m)))
  build_step n i b f m (halt k) q = rw (q, build_from) tt

  from_matched : (n i : ℕ) (b : Build) → Matched b.graph → BuiltMatched (build_from n T i b)
  unfolding build_from
  from_matched zero i b m = m
  from_matched (suc n) i b m = build_step n i b (λ c u. from_matched n (suc i) c u) m (turn_at T i b) refl

  pub build_matched : (b : Build) → build_of T ≡ built b → Matched b.graph
  unfolding build_of
  build_matched b q = rw q at (from_matched (length T.clauses) 0 start_build refl)

-- ---- a node with its clause

-- x is one of the nodes, and f its clause
abbrev pub First : List ConflictNode → List ℕ → ConflictNode → ℕ → Type 0
First [] fs x f = ⊥
First (n ∷ ns) [] x f = ⊥
First (n ∷ ns) (c ∷ cs) x f = ((x ≡ n) × (f ≡ c)) ⊎ First ns cs x f

first_at_lem : (ns : List ConflictNode) (fs : List ℕ) → length fs ≡ length ns → (n : ℕ) → n < length ns → First ns fs (get_or ns n N.Root) (get_or fs n 65535)
first_at_lem [] fs m n h = let f : ⊥ = omega arith in absurd f
first_at_lem (x ∷ ns) [] m n h = let f : ⊥ = omega arith in absurd f
first_at_lem (x ∷ ns) (c ∷ fs) m zero h = inl (refl, refl)
first_at_lem (x ∷ ns) (c ∷ fs) m (suc n) h = inr (first_at_lem ns fs (omega (arith, m)) n (omega arith))

first_in_lem : (ns : List ConflictNode) (fs : List ℕ) (x : ConflictNode) (f : ℕ) → First ns fs x f → In x ns
first_in_lem [] fs x f p = absurd p
first_in_lem (n ∷ ns) [] x f p = absurd p
first_in_lem (n ∷ ns) (c ∷ fs) x f p = either p (λ e. inl e.0) (λ q. inr (first_in_lem ns fs x f q))

first_one : (ns : List ConflictNode) (fs : List ℕ) (x : ConflictNode) (f g : ℕ) → Distinct ns → First ns fs x f → First ns fs x g → f ≡ g
first_one [] fs x f g d p q = absurd p
first_one (n ∷ ns) [] x f g d p q = absurd p
first_one (n ∷ ns) (c ∷ fs) x f g d p q =
    either p
    (λ e. either q (λ u. e.1 ∙ sym u.1) (λ v. absurd (d.0 (rw (← e.0) (first_in_lem ns fs x g v)))))
    (λ r. either q (λ u. absurd (d.0 (rw (← u.0) (first_in_lem ns fs x f r)))) (λ v. first_one ns fs x f g d.1 r v))

first_append : (ns ks : List ConflictNode) (fs gs : List ℕ) (x : ConflictNode) (f : ℕ) → length fs ≡ length ns → First (ns ++ ks) (fs ++ gs) x f
    → First ns fs x f ⊎ First ks gs x f
first_append [] ks [] gs x f m p = inr p
first_append [] ks (c ∷ fs) gs x f m p = let z : ⊥ = omega (arith, m) in absurd z
first_append (n ∷ ns) ks [] gs x f m p = let z : ⊥ = omega (arith, m) in absurd z
first_append (n ∷ ns) ks (c ∷ fs) gs x f m p =
    either p (λ e. inl (inl e)) (λ q. either (first_append ns ks fs gs x f (omega (arith, m)) q) (λ u. inl (inr u)) (λ v. inr v))

-- ---- the last before the others

moved : {A : Type 0} (l : List A) → length (last_one l ++ front l) ≡ length l
moved l = rw (length-append (last_one l) (front l)) (count l)
  where
    count : {A : Type 0} (l : List A) → length (last_one l) + length (front l) ≡ length l
    count [] = refl
    count (x ∷ []) = refl
    count (x ∷ y ∷ l) = omega (arith, count (y ∷ l))

last_snoc : {A : Type 0} (l : List A) (z : A) → last_one (snoc l z) ≡ z ∷ []
last_snoc [] z = refl
last_snoc (x ∷ []) z = refl
last_snoc (x ∷ y ∷ l) z = last_snoc (y ∷ l) z

front_snoc : {A : Type 0} (l : List A) (z : A) → front (snoc l z) ≡ l
front_snoc [] z = refl
front_snoc (x ∷ []) z = refl
front_snoc {A = A} (x ∷ y ∷ l) z = ap (λ (k : List A). x ∷ k) (front_snoc (y ∷ l) z)

gone_snoc : {A : Type 0} (l : List A) (z : A) → last_one (snoc l z) ++ front (snoc l z) ≡ z ∷ l
gone_snoc {A = A} l z = ap (λ (k : List A). k ++ front (snoc l z)) (last_snoc l z) ∙ ap (λ (k : List A). z ∷ k) (front_snoc l z)

last_first : (ns : List ConflictNode) (fs : List ℕ) (x : ConflictNode) (f : ℕ) → length fs ≡ length ns → First (last_one ns) (last_one fs) x f → First ns fs x f
last_first [] fs x f m p = absurd p
last_first (n ∷ ns) [] x f m p = let z : ⊥ = omega (arith, m) in absurd z
last_first (n ∷ []) (c ∷ []) x f m p = p
last_first (n ∷ []) (c ∷ d ∷ fs) x f m p = let z : ⊥ = omega (arith, m) in absurd z
last_first (n ∷ k ∷ ns) (c ∷ []) x f m p = let z : ⊥ = omega (arith, m) in absurd z
last_first (n ∷ k ∷ ns) (c ∷ d ∷ fs) x f m p = inr (last_first (k ∷ ns) (d ∷ fs) x f (omega (arith, m)) p)

front_first : (ns : List ConflictNode) (fs : List ℕ) (x : ConflictNode) (f : ℕ) → length fs ≡ length ns → First (front ns) (front fs) x f → First ns fs x f
front_first [] fs x f m p = absurd p
front_first (n ∷ ns) [] x f m p = let z : ⊥ = omega (arith, m) in absurd z
front_first (n ∷ []) (c ∷ fs) x f m p = absurd p
front_first (n ∷ k ∷ ns) (c ∷ []) x f m p = let z : ⊥ = omega (arith, m) in absurd z
front_first (n ∷ k ∷ ns) (c ∷ d ∷ fs) x f m p = either p (λ e. inl e) (λ q. inr (front_first (k ∷ ns) (d ∷ fs) x f (omega (arith, m)) q))

last_same : (ns : List ConflictNode) (fs : List ℕ) → length fs ≡ length ns → length (last_one fs) ≡ length (last_one ns)
last_same [] [] m = refl
last_same [] (c ∷ fs) m = let z : ⊥ = omega (arith, m) in absurd z
last_same (n ∷ ns) [] m = let z : ⊥ = omega (arith, m) in absurd z
last_same (n ∷ []) (c ∷ []) m = refl
last_same (n ∷ []) (c ∷ d ∷ fs) m = let z : ⊥ = omega (arith, m) in absurd z
last_same (n ∷ k ∷ ns) (c ∷ []) m = let z : ⊥ = omega (arith, m) in absurd z
last_same (n ∷ k ∷ ns) (c ∷ d ∷ fs) m = last_same (k ∷ ns) (d ∷ fs) (omega (arith, m))

gone_first : (ns : List ConflictNode) (fs : List ℕ) (x : ConflictNode) (f : ℕ) → length fs ≡ length ns
    → First (last_one ns ++ front ns) (last_one fs ++ front fs) x f → First ns fs x f
gone_first ns fs x f m p =
    either (first_append (last_one ns) (front ns) (last_one fs) (front fs) x f (last_same ns fs m) p) (λ u. last_first ns fs x f m u) (λ v.
    front_first ns fs x f m v)

-- ---- one more node, with the clause that adds it

data Adds (ns : List ConflictNode) (fs : List ℕ) (x : ConflictNode) (c : ℕ) : List ConflictNode → List ℕ → Type 0 where
  old : In x ns → Adds ns fs x c ns fs
  new : (In x ns → ⊥) → Adds ns fs x c (snoc ns x) (snoc fs c)

adds : (ns : List ConflictNode) (fs : List ℕ) (x : ConflictNode) (c : ℕ) → Adds ns fs x c (nodes_with ns x) (with_first ns x fs c)
adds ns fs x c =
    split (has_node ns x)
    (λ t. let r = any_some (same_node x) ns t in rw (t, nodes_with, with_first) (old (rw (same_true x r.0 r.2) r.1)))
    (λ t. rw (t, nodes_with, with_first) (new (λ i. no_both (has_node ns x) (any_in (same_node x) x ns (same_refl x) i) t)))

adds_matched : (ns : List ConflictNode) (fs : List ℕ) (x : ConflictNode) (c : ℕ) → length fs ≡ length ns → (ms : List ConflictNode) (gs : List ℕ)
    → Adds ns fs x c ms gs → length gs ≡ length ms
adds_matched ns fs x c m ms gs (old i) = m
adds_matched ns fs x c m ms gs (new f) = both_more ns fs x c m

-- ---- where unresolved goes

abbrev gone_nodes : List ConflictNode → List ConflictNode
gone_nodes ns = N.Root ∷ last_one (drop 2 ns) ++ front (drop 2 ns)

abbrev gone_firsts : List ℕ → List ℕ
gone_firsts fs = 65535 ∷ last_one (drop 2 fs) ++ front (drop 2 fs)

gone_matched : (ns : List ConflictNode) (fs : List ℕ) → 2 ≤ length ns → length fs ≡ length ns → length (gone_firsts fs) ≡ length (gone_nodes ns)
gone_matched [] fs h m = let z : ⊥ = omega arith in absurd z
gone_matched (a ∷ []) fs h m = let z : ⊥ = omega arith in absurd z
gone_matched (a ∷ b ∷ ns) [] h m = let z : ⊥ = omega (arith, m) in absurd z
gone_matched (a ∷ b ∷ ns) (c ∷ []) h m = let z : ⊥ = omega (arith, m) in absurd z
gone_matched (a ∷ b ∷ ns) (c ∷ d ∷ fs) h m = ap suc (moved fs ∙ omega (arith, m) ∙ sym (moved ns))

-- asking behind the removal and removing behind the question: each node keeps its clause
gone_adds : (ns : List ConflictNode) (fs : List ℕ) (x : ConflictNode) (c : ℕ) → 2 ≤ length ns → length fs ≡ length ns → (In x (gone_nodes ns) → In x ns)
    → (In x ns → In x (gone_nodes ns))
    → (ms ks : List ConflictNode) (gs hs : List ℕ) → Adds (gone_nodes ns) (gone_firsts fs) x c ms gs → Adds ns fs x c ks hs → (y : ConflictNode) (f : ℕ)
    → First ms gs y f → First (gone_nodes ks) (gone_firsts hs) y f
gone_adds ns fs x c h m to back ms ks gs hs (old i) (old j) y f p = p
gone_adds ns fs x c h m to back ms ks gs hs (old i) (new g) y f p = absurd (g (to i))
gone_adds ns fs x c h m to back ms ks gs hs (new g) (old j) y f p = absurd (g (back j))
gone_adds ns fs x c h m to back ms ks gs hs (new g) (new k) y f p = by ns fs h m p
  where
    by : (ns : List ConflictNode) (fs : List ℕ) → 2 ≤ length ns → length fs ≡ length ns → First (snoc (gone_nodes ns) x) (snoc (gone_firsts fs) c) y f
        → First (gone_nodes (snoc ns x)) (gone_firsts (snoc fs c)) y f
    by [] fs h m p = let z : ⊥ = omega arith in absurd z
    by (a ∷ []) fs h m p = let z : ⊥ = omega arith in absurd z
    by (a ∷ b ∷ ns) [] h m p = let z : ⊥ = omega (arith, m) in absurd z
    by (a ∷ b ∷ ns) (d ∷ []) h m p = let z : ⊥ = omega (arith, m) in absurd z
    by (a ∷ b ∷ ns) (d ∷ e ∷ fs) h m p =
        let l : length fs ≡ length ns = omega (arith, m) in
        subst (λ (k : List ℕ). First (gone_nodes (snoc (a ∷ b ∷ ns) x)) (65535 ∷ k) y f) (sym (gone_snoc fs c))
        (subst (λ (k : List ConflictNode). First (N.Root ∷ k) (65535 ∷ c ∷ fs) y f) (sym (gone_snoc ns x))
        (either (first_append (gone_nodes (a ∷ b ∷ ns)) (x ∷ []) (gone_firsts (d ∷ e ∷ fs)) (c ∷ []) y f (ap suc (moved fs ∙ l ∙ sym (moved ns))) p)
        (λ u. either u (λ q. inl q) (λ q. inr (inr (gone_first ns fs y f l q))))
        (λ u. either u (λ q. inr (inl q)) (λ z. absurd z))))

settle_stays : (G : Graph) → stays G ≡ true → settle G ≡ G
unfolding settle
settle_stays G t = rw t

gone_nodes_lem : (G : Graph) → stays G ≡ false → (settle G).nodes ≡ gone_nodes G.nodes
unfolding settle
gone_nodes_lem G t = rw t

gone_firsts_lem : (G : Graph) → stays G ≡ false → (settle G).firsts ≡ gone_firsts G.firsts
unfolding settle
gone_firsts_lem G t = rw t

settle_matched : (G : Graph) → 2 ≤ length G.nodes → Matched G → Matched (settle G)
settle_matched G h m =
    split (stays G)
    (λ t. rw (settle_stays G t) m)
    (λ t. ap length (gone_firsts_lem G t) ∙ gone_matched G.nodes G.firsts h m ∙ sym (ap length (gone_nodes_lem G t)))

asked_adds : (G : Graph) (cl s r : ℕ) → Adds G.nodes G.firsts (N.Excluded r) cl (asked G cl s r).nodes (asked G cl s r).firsts
unfolding asked
asked_adds G cl s r = adds G.nodes G.firsts (N.Excluded r) cl

asked_matched : (G : Graph) (cl s r : ℕ) → Matched G → Matched (asked G cl s r)
asked_matched G cl s r m = adds_matched G.nodes G.firsts (N.Excluded r) cl m (asked G cl s r).nodes (asked G cl s r).firsts (asked_adds G cl s r)

-- ---- the theorem

module _ (T : Tables) (H : Graph) (cl s r : ℕ) (S : Shaped T H) (i : In (N.Solvable s) H.nodes) (S⁺ : Shaped T (asked H cl s r)) (m : Matched H) where
  two : (G : Graph) → Shaped T G → 2 ≤ length G.nodes
  two G P = let l : length G.nodes ≡ suc (suc (length P.rest)) = ap length P.nodes_are in omega arith

  on_by : stays H ≡ false → (x : ConflictNode) (f : ℕ) → First (asked (settle H) cl s r).nodes (asked (settle H) cl s r).firsts x f
      → First (settle (asked H cl s r)).nodes (settle (asked H cl s r)).firsts x f
  on_by t x f p =
      let u : stays (asked H cl s r) ≡ false = stays_same T H cl s r S i S⁺ ∙ t in
      let a : Adds (gone_nodes H.nodes) (settle H).firsts (N.Excluded r) cl (asked (settle H) cl s r).nodes (asked (settle H) cl s r).firsts =
      subst (λ (l : List ConflictNode). Adds l (settle H).firsts (N.Excluded r) cl (asked (settle H) cl s r).nodes (asked (settle H) cl s r).firsts)
      (gone_nodes_lem H t) (asked_adds (settle H) cl s r) in
      let b : Adds (gone_nodes H.nodes) (gone_firsts H.firsts) (N.Excluded r) cl (asked (settle H) cl s r).nodes (asked (settle H) cl s r).firsts =
      subst (λ (l : List ℕ). Adds (gone_nodes H.nodes) l (N.Excluded r) cl (asked (settle H) cl s r).nodes (asked (settle H) cl s r).firsts)
      (gone_firsts_lem H t) a in
      let q : First (gone_nodes (asked H cl s r).nodes) (gone_firsts (asked H cl s r).firsts) x f =
      gone_adds H.nodes H.firsts (N.Excluded r) cl (two H S) m
      (λ j. (settle_from T H S (N.Excluded r) (subst (λ (l : List ConflictNode). In (N.Excluded r) l) (sym (gone_nodes_lem H t)) j)).0)
      (λ j. subst (λ (l : List ConflictNode). In (N.Excluded r) l) (gone_nodes_lem H t) (settle_to T H S (N.Excluded r) j (λ e. clash (cc))))
      (asked (settle H) cl s r).nodes (asked H cl s r).nodes (asked (settle H) cl s r).firsts (asked H cl s r).firsts b (asked_adds H cl s r) x f p in
      subst (λ (l : List ℕ). First (settle (asked H cl s r)).nodes l x f) (sym (gone_firsts_lem (asked H cl s r) u))
      (subst (λ (l : List ConflictNode). First l (gone_firsts (asked H cl s r).firsts) x f) (sym (gone_nodes_lem (asked H cl s r) u)) q)

  firsts_on : (x : ConflictNode) (f : ℕ) → First (asked (settle H) cl s r).nodes (asked (settle H) cl s r).firsts x f
      → First (settle (asked H cl s r)).nodes (settle (asked H cl s r)).firsts x f
  firsts_on x f p =
      split (stays H)
      (λ t. let q : First (asked H cl s r).nodes (asked H cl s r).firsts x f = subst (λ (G : Graph).
      First (asked G cl s r).nodes (asked G cl s r).firsts x f) (settle_stays H t) p in
      subst (λ (G : Graph). First G.nodes G.firsts x f) (sym (settle_stays (asked H cl s r) (stays_same T H cl s r S i S⁺ ∙ t))) q)
      (λ t. on_by t x f p)

  -- two nodes that stand for the same were first added by the same clause
  pub asked_firsts : (n j : ℕ) → n < length (asked (settle H) cl s r).nodes → j < length (settle (asked H cl s r)).nodes
      → node_at (asked (settle H) cl s r) n ≡ node_at (settle (asked H cl s r)) j → first_at (asked (settle H) cl s r) n ≡ first_at (settle (asked H cl s r)) j
  asked_firsts n j h k e =
      let mK : Matched (asked (settle H) cl s r) = asked_matched (settle H) cl s r (settle_matched H (two H S) m) in
      let mM : Matched (settle (asked H cl s r)) = settle_matched (asked H cl s r) (two (asked H cl s r) S⁺) (asked_matched H cl s r m) in
      let p = firsts_on (node_at (asked (settle H) cl s r) n) (first_at (asked (settle H) cl s r) n)
      (first_at_lem (asked (settle H) cl s r).nodes (asked (settle H) cl s r).firsts mK n h) in
      let q : First (settle (asked H cl s r)).nodes (settle (asked H cl s r)).firsts (node_at (settle (asked H cl s r)) j)
      (first_at (asked (settle H) cl s r) n) = subst (λ (y : ConflictNode).
      First (settle (asked H cl s r)).nodes (settle (asked H cl s r)).firsts y (first_at (asked (settle H) cl s r) n)) e p in
      first_one (settle (asked H cl s r)).nodes (settle (asked H cl s r)).firsts (node_at (settle (asked H cl s r)) j) (first_at (asked (settle H) cl s r) n)
      (first_at (settle (asked H cl s r)) j) (graphed_settle T (asked H cl s r) S⁺).once
      q (first_at_lem (settle (asked H cl s r)).nodes (settle (asked H cl s r)).firsts mM j k)
