-- (C) A graph whose nodes are given other numbers: the labels go along, and so does "no cycle".
use Rattle.std.specs.Prelude.{◌≡◌, refl, ◌⊎◌, Bool, true, false, not, ◌&&◌, ◌||◌, List, [], ◌∷◌, map, reverse, ℕ, zero, suc, ◌<◌, ◌≤◌, length, get_or, ltb}
use Rattle.std.proofs.Common.{sym, ap, ◌∙◌, subst, inl, inr, arith, eqb-true, eq-eqb, ne_eqb, ltb-true, ltb-false}
use Rattle.std.proofs.Math.ListN.{get_or-eq_default}
use Rattle.std.proofs.Math.Dec.{eqb}
use Rattle.std.proofs.lemmas.Bool.{eqb-false}
use Rattle.basis.specs.Lists.{any, all, filter}
use Rattle.basis.specs.Members.{In, split, either, no_both, clash, in_reverse}
use Rattle.store.specs.declared.ConflictNode.{ConflictNode}
use Rattle.store.specs.declared.ConflictNode.TheVariants as N
use Rattle.store.specs.declared.Edge.{Edge}
use Rattle.store.specs.Graph.{Graph, out, into, node_at, is_unresolved}
use Rattle.labels.specs.Runs.{Run, runs_of, every_run, some_run}
use Rattle.labels.specs.Ordered.{Leads, edge, onto, Acyclic}
use Rattle.labels.specs.Labels.{targets, order_of, conflicts, excludes, can_install, is_lacking, installable, missing, has_unresolved}
use Rattle.labels.specs.Facts.{order_ordered, missing_none}
use Rattle.labels.proofs.Local.{install_local, lacking_local}
use Rattle.whatif.specs.Laws.Well.{induct}
use Rattle.whatif.specs.Laws.Moving.{move_edge, map_reverse, any_map, filter_map, every_moved, some_moved}
use Rattle.whatif.specs.Laws.Laid.{GraphLaid, edge_of, edge_target', runs_at_lem, target_below, laid_sound, in_order, laid_installable, laid_missing}

-- f gives the number in G of each node of H
pub record Carried (f : ℕ → ℕ) (H G : Graph) : Type 0 where
  pub edges_are : G.edges ≡ map (move_edge f) H.edges
  pub inside : (m : ℕ) → m < length H.nodes → f m < length G.nodes
  pub stands : (m : ℕ) → m < length H.nodes → node_at G (f m) ≡ node_at H m
  pub one : (m k : ℕ) → m < length H.nodes → k < length H.nodes → f m ≡ f k → m ≡ k
  pub all : (n : ℕ) → n < length G.nodes → (m : ℕ) × (m < length H.nodes) × (f m ≡ n)

eqb_moved : (f : ℕ → ℕ) (m k : ℕ) → (f m ≡ f k → m ≡ k) → eqb (f m) (f k) ≡ eqb m k
eqb_moved f m k inj =
    split (eqb m k)
    (λ t. rw t (eq-eqb (f m) (f k) (ap f (eqb-true m k t))))
    (λ t. rw t (ne_eqb (f m) (f k) (λ q. eqb-false m k t (inj q))))

unresolved_is : (x : ConflictNode) → is_unresolved x ≡ true → x ≡ N.UnresolvedDependency
unresolved_is N.Root e = clash (cc)
unresolved_is (N.Solvable s) e = clash (cc)
unresolved_is N.UnresolvedDependency e = refl
unresolved_is (N.Excluded r) e = clash (cc)

node_there : (G : Graph) (n : ℕ) → is_unresolved (node_at G n) ≡ true → n < length G.nodes
node_there G n e =
    split (ltb n (length G.nodes))
    (λ t. ltb-true n (length G.nodes) t)
    (λ t. let z : node_at G n ≡ N.Root = get_or-eq_default G.nodes N.Root (ltb-false n (length G.nodes) t) in
    let y : is_unresolved N.Root ≡ true = rw z at e in clash (cc))

map_in_back : {A B : Type 0} (f : A → B) (l : List A) (y : B) → In y (map f l) → (x : A) × In x l × (y ≡ f x)
map_in_back f [] y i = absurd i
map_in_back f (x ∷ l) y (inl e) = (x, inl refl, e)
map_in_back f (x ∷ l) y (inr i) = let r = map_in_back f l y i in (r.0, inr r.1, r.2)

module _ (f : ℕ → ℕ) (H G : Graph) (L : GraphLaid H) (K : GraphLaid G) (c : Carried f H G) where
  -- ---- what stands around a node

  out_moved : (m : ℕ) → m < length H.nodes → out G (f m) ≡ map (move_edge f) (out H m)
  unfolding out
  out_moved m h =
      rw (c.edges_are, map_reverse (move_edge f) H.edges)
      (filter_map (move_edge f) (λ e. eqb e.source (f m)) (λ e. eqb e.source m) (reverse H.edges)
      (λ e i. eqb_moved f e.source m (λ q. c.one e.source m (runs_at_lem H L e (in_reverse e H.edges i)).from h q)))

  into_moved : (m : ℕ) → m < length H.nodes → into G (f m) ≡ map (move_edge f) (into H m)
  unfolding into
  into_moved m h =
      rw (c.edges_are, map_reverse (move_edge f) H.edges)
      (filter_map (move_edge f) (λ e. eqb e.target (f m)) (λ e. eqb e.target m) (reverse H.edges)
      (λ e i. eqb_moved f e.target m (λ q. c.one e.target m (runs_at_lem H L e (in_reverse e H.edges i)).to h q)))

  install_moved : (p : ℕ → Bool) (m : ℕ) → m < length H.nodes → can_install G p (f m) ≡ can_install H (λ t. p (f t)) m
  unfolding can_install
  install_moved p m h =
      rw (
        c.stands m h,
        out_moved m h,
        into_moved m h,
        any_map (move_edge f) excludes (into H m),
        any_map (move_edge f) conflicts (out H m),
        every_moved f p (out H m),
      )

  lacking_moved : (p : ℕ → Bool) (m : ℕ) → m < length H.nodes → is_lacking G p (f m) ≡ is_lacking H (λ t. p (f t)) m
  unfolding is_lacking
  lacking_moved p m h = rw (out_moved m h, any_map (move_edge f) conflicts (out H m), some_moved f p (out H m))

  unresolved_moved : has_unresolved H ≡ true → (f 1 ≡ 1) × (has_unresolved G ≡ true)
  unresolved_moved u =
      let h : 1 < length H.nodes = node_there H 1 u in
      let e : f 1 ≡ 1 = K.unresolved (f 1) (c.inside 1 h) (c.stands 1 h ∙ unresolved_is (node_at H 1) u) in
      (e, subst (λ (k : ℕ). is_unresolved (node_at G k) ≡ true) e (ap is_unresolved (c.stands 1 h) ∙ u))

  unresolved_back : has_unresolved G ≡ true → has_unresolved H ≡ true
  unresolved_back u =
      let r = c.all 1 (node_there G 1 u) in
      let q : node_at G (f r.0) ≡ N.UnresolvedDependency = ap (node_at G) r.2 ∙ unresolved_is (node_at G 1) u in
      let e : node_at H r.0 ≡ N.UnresolvedDependency = sym (c.stands r.0 r.1) ∙ q in
      let z : r.0 ≡ 1 = L.unresolved r.0 r.1 e in
      let y : node_at H 1 ≡ N.UnresolvedDependency = rw z at e in
      rw y

  unresolved_same : has_unresolved G ≡ has_unresolved H
  unresolved_same =
      split (has_unresolved H)
      (λ t. (unresolved_moved t).1 ∙ sym t)
      (λ t. split (has_unresolved G) (λ u. no_both (has_unresolved H) (unresolved_back u) t) (λ u. u ∙ sym t))

  -- ---- no cycle

  record Led (a b : ℕ) : Type 0 where
    x : ℕ
    y : ℕ
    at_a : a ≡ f x
    at_b : b ≡ f y
    below : y < length H.nodes
    under : x < length H.nodes
    path : Leads (targets H) x y

  step_back : (a b : ℕ) → In b (targets G a) → (e : Edge) × In e H.edges × (a ≡ f e.source) × (b ≡ f e.target)
  step_back a b i =
      let r = edge_of G a b i in
      let s = map_in_back (move_edge f) H.edges r.0 (subst (λ (es : List Edge). In r.0 es) c.edges_are r.1) in
      (s.0, s.1, sym r.2 ∙ ap (λ (e : Edge). e.source) s.2, sym r.3 ∙ ap (λ (e : Edge). e.target) s.2)

  led : (a b : ℕ) → Leads (targets G) a b → Led a b
  led a b (edge i) =
      let r = step_back a b i in
      let R = runs_at_lem H L r.0 r.1 in
      record {
        x = r.0.source;
        y = r.0.target;
        at_a = r.2;
        at_b = r.3;
        below = R.to;
        under = R.from;
        path = edge (edge_target' H r.0.source r.0.target r.0 r.1 refl refl);
      }
  led a b (onto {b = d} p i) =
      let w = led a d p in
      let r = step_back d b i in
      let R = runs_at_lem H L r.0 r.1 in
      let q : r.0.source ≡ w.y = c.one r.0.source w.y R.from w.below (sym r.2 ∙ w.at_b) in
      record {
        x = w.x;
        y = r.0.target;
        at_a = w.at_a;
        at_b = r.3;
        below = R.to;
        under = w.under;
        path = onto w.path (edge_target' H w.y r.0.target r.0 r.1 q refl);
      }

  pub carried_acyclic : Acyclic (targets H) → Acyclic (targets G)
  carried_acyclic a n p =
      let w = led n n p in
      let q : w.x ≡ w.y = c.one w.x w.y w.under w.below (sym w.at_a ∙ w.at_b) in
      a w.y (subst (λ (k : ℕ). Leads (targets H) k w.y) q w.path)

  -- ---- the labels

  module _ (a : Acyclic (targets H)) where
    pub carried_installable : (m : ℕ) → m < length H.nodes → installable G (f m) ≡ installable H m
    carried_installable m h =
        induct (targets H) (Acyclic (targets H)) a (λ m. m < length H.nodes
        → installable G (f m) ≡ installable H m) step (order_of H) (order_ordered H (laid_sound H L)) m (in_order H L a m h) h
      where
        step : (n : ℕ) → ((t : ℕ) → In t (targets H n) → t < length H.nodes → installable G (f t) ≡ installable H t) → n < length H.nodes
            → installable G (f n) ≡ installable H n
        step n ih l =
            laid_installable G K (carried_acyclic a) (f n) (c.inside n l)
            ∙ install_moved (installable G) n l
            ∙ install_local H n (λ t. installable G (f t)) (installable H) (λ t i. ih t i (target_below H L n t i))
            ∙ sym (laid_installable H L a n l)

    pub carried_missing : (m : ℕ) → m < length H.nodes → missing G (f m) ≡ missing H m
    carried_missing m h =
        split (has_unresolved H)
        (λ u. induct (targets H) (Acyclic (targets H)) a (λ m. m < length H.nodes
        → missing G (f m) ≡ missing H m) (step u) (order_of H) (order_ordered H (laid_sound H L)) m (in_order H L a m h) h)
        (λ u. missing_none G (laid_sound G K) (carried_acyclic a) (unresolved_same ∙ u) (f m) ∙ sym (missing_none H (laid_sound H L) a u m))
      where
        first : has_unresolved H ≡ true → (n : ℕ) → n < length H.nodes → eqb (f n) 1 ≡ eqb n 1
        first u n l =
            let e : f 1 ≡ 1 = (unresolved_moved u).0 in
            subst (λ (k : ℕ). eqb (f n) k ≡ eqb n 1) e (eqb_moved f n 1 (λ q. c.one n 1 l (node_there H 1 u) q))

        step : has_unresolved H ≡ true → (n : ℕ) → ((t : ℕ) → In t (targets H n) → t < length H.nodes → missing G (f t) ≡ missing H t) → n < length H.nodes
            → missing G (f n) ≡ missing H n
        step u n ih l =
            laid_missing G K (carried_acyclic a) (f n) (c.inside n l) (unresolved_moved u).1
            ∙ ap (λ (b : Bool). b || is_lacking G (missing G) (f n)) (first u n l)
            ∙ ap (λ (b : Bool). eqb n 1 || b) (lacking_moved (missing G) n l
            ∙ lacking_local H n (λ t. missing G (f t)) (missing H) (λ t i. ih t i (target_below H L n t i)))
            ∙ sym (laid_missing H L a n l u)
