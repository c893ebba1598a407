-- The marks that `relabel` leaves are the labels of the graph asked for.
use Rattle.std.specs.Prelude.{◌≡◌, ◌⊎◌, Bool, cond, ◌&&◌, ◌||◌, ℕ, zero, suc, ◌+◌, ◌%◌, ◌<◌, ◌≤◌, set, replicate, ltb}
use Rattle.std.proofs.Math.Path.{refl, sym}
use Rattle.std.proofs.Common.{ap, ◌∙◌, subst, inl, inr, length-set, get_or-set_same, get_or-set_other}
use Rattle.std.proofs.Math.Bool.{true, false, not}
use Rattle.std.proofs.lemmas.Bool.{false≢true}
use mathlib.Core.List.{List, [], ◌∷◌, ◌++◌, map, reverse}
use native.Mathlib.Omega.{arith}
use Rattle.std.proofs.Math.ListN.{length, get_or}
use Rattle.std.proofs.lemmas.List.{length-replicate, length-map}
use Rattle.std.proofs.Math.Seq.{ext_get_or}
use Rattle.std.proofs.Math.Dec.{eqb}
use borrow.Author.Tests.{eqb-true, eqb-false, eq-eqb, ne_eqb, ltb-true, ltb-false}
use Rattle.basis.specs.Lists.{any, has, snoc, upto}
use Rattle.basis.specs.Members.{In, split, either, clash, no_both, in_append, in_left, in_right, in_filter, in_reverse, map_in, has_in, has_out}
use Rattle.store.specs.declared.ConflictNode.{ConflictNode}
use Rattle.store.specs.declared.ConflictNode.TheVariants as N
use Rattle.store.specs.declared.Edge.{Edge}
use Rattle.store.specs.Graph.{Graph, node_at, out, into, is_unresolved}
use Rattle.links.specs.Paths.{Path, here}
use Rattle.labels.specs.Laws.Paths.{leads_path}
use Rattle.shape.specs.Shaped.{Runs, is_end}
use Rattle.labels.specs.Runs.{runs_of, every_run, some_run}
use Rattle.labels.specs.Ordered.{Leads, edge, onto, Acyclic, Ordered, none, more}
use Rattle.labels.specs.Labels.{targets, order_of, conflicts, excludes, can_install, is_lacking, passing, installables, missings, installable, missing}
use Rattle.labels.specs.Labels.{has_unresolved}
use Rattle.labels.specs.Facts.{blank, order_ordered, missing_none, has_other}
use Rattle.labels.proofs.Local.{install_local, lacking_local}
use Rattle.labels.specs.Marks.{bits_of, inst_at, miss_at, anew, label_bits, marks_at_lem}
use Rattle.labels.specs.Bounds.{order_below}
use Rattle.labels.proofs.Scanned.{some_none}
use Rattle.whatif.specs.Laws.Well.{begins, before}
use Rattle.whatif.specs.Laws.Laid.{GraphLaid, runs_at_lem, edge_of, edge_target', laid_sound, in_order, laid_installable, laid_missing}
use Rattle.whatif.specs.Asked.{asked}
use Rattle.whatif.specs.Relabel.{Pass, touched, turn, turns, relabel, stored}
use Rattle.whatif.specs.Laws.Asked.{chosen, reason, longer, asked_laid, asked_acyclic, which_target, old_target, ends_there, out_chosen, into_reason}
use Rattle.whatif.specs.Laws.Asked.{Aside, stays_installable, stays_missing, unresolved_same, reason_node, nodes_kept, apart, two, old_node, chosen_below}
use Rattle.whatif.specs.Laws.Asked.{chosen_node}
use Rattle.whatif.specs.Laws.Relabel.{turns_last, turn_yes, turn_no, Right, Up, touched_up, up_touched, right_turns, right_turn, below, not_rewritten}
use Rattle.whatif.specs.Laws.Relabel.{stored_to, inst_bits, miss_bits, nothing, first_edge}

abbrev pub label_mark : Graph → ℕ → ℕ
label_mark G n = bits_of (installable G n) (missing G n)

unresolved_is : (x : ConflictNode) → is_unresolved x ≡ true → x ≡ N.UnresolvedDependency
unresolved_is N.Root e = clash (cc)
unresolved_is (N.Solvable s) e = clash (cc)
unresolved_is N.UnresolvedDependency e = refl
unresolved_is (N.Excluded r) e = clash (cc)

marks_long : (G : Graph) → length (label_bits G) ≡ 128
unfolding label_bits
marks_long G = refl

-- ---- where no label is

outside : (rule : (ℕ → Bool) → ℕ → Bool) (l : List ℕ) (n : ℕ) (yet : List ℕ) → (In n l → ⊥) → has n (passing rule l yet) ≡ has n yet
unfolding passing
outside rule [] n yet f = refl
outside rule (m ∷ l) n yet f =
    split (rule (λ t. has t yet) m)
    (λ e. rw (e, passing) (outside rule l n (m ∷ yet) (λ i. f (inr i)) ∙ has_other n m yet (λ q. f (inl q))))
    (λ e. rw (e, passing) (outside rule l n yet (λ i. f (inr i))))

module _ (G : Graph) (n : ℕ) where
  no_install : (p : ℕ → Bool) → any conflicts (out G n) ≡ true → can_install G p n ≡ false
  unfolding can_install
  no_install p e = rw e (go (is_unresolved (node_at G n)) (any excludes (into G n)))
    where
      go : (x y : Bool) → not x && (not y && false) ≡ false
      go true y = refl
      go false true = refl
      go false false = refl

  no_install_into : (p : ℕ → Bool) → any excludes (into G n) ≡ true → can_install G p n ≡ false
  unfolding can_install
  no_install_into p e = rw e (go (is_unresolved (node_at G n)))
    where
      go : (x : Bool) → not x && false ≡ false
      go true = refl
      go false = refl

  no_lacking : (p : ℕ → Bool) → any conflicts (out G n) ≡ true → is_lacking G p n ≡ false
  unfolding is_lacking
  no_lacking p e = rw e

  lacking_empty : (p : ℕ → Bool) → out G n ≡ [] → is_lacking G p n ≡ false
  unfolding is_lacking
  lacking_empty p e = rw e

  lacking_none : (p : ℕ → Bool) → ((t : ℕ) → p t ≡ false) → is_lacking G p n ≡ false
  unfolding is_lacking
  lacking_none p f = rw (some_none p f (out G n)) (go (any conflicts (out G n)))
    where
      go : (b : Bool) → not b && false ≡ false
      go true = refl
      go false = refl

module _ (G : Graph) (L : GraphLaid G) where
  out_empty : (n : ℕ) → ((t : ℕ) → In t (targets G n) → ⊥) → out G n ≡ []
  unfolding out
  out_empty n f =
      nothing (out G n)
      (λ e j. let w = in_filter (λ (x : Edge). eqb x.source n) e (reverse G.edges) j in
      f e.target (edge_target' G n e.target e (in_reverse e G.edges w.1) (eqb-true e.source n w.0) refl))

  one_there : has_unresolved G ≡ true → 1 < length G.nodes → node_at G 1 ≡ N.UnresolvedDependency
  one_there u h = unresolved_is (node_at G 1) u

  past : (n : ℕ) → 1 < length G.nodes → length G.nodes ≤ n → label_mark G n ≡ 0
  unfolding installables missings
  past n l h =
      let f : In n (order_of G) → ⊥ = λ j. let b : n < length G.nodes = order_below G (laid_sound G L) n j in omega arith in
      let p : installable G n ≡ false = outside (can_install G) (order_of G) n [] f in
      let q : missing G n ≡ false = split (has_unresolved G) (λ u. rw (u, cond) (outside (is_lacking G) (order_of G) n (1 ∷ []) f
      ∙ rw (ne_eqb n 1 (λ z. omega arith), any))) (λ u. rw (u, cond)) in
      rw (p, q)

module _ (G : Graph) (cl s r : ℕ) (L : GraphLaid G) (i : In (N.Solvable s) G.nodes) (m : length (asked G cl s r).nodes
    ≤ 128) (c : Acyclic (targets G)) where
  abbrev K : Graph
  K = asked G cl s r

  abbrev a : ℕ
  a = chosen G cl s r

  M : GraphLaid K
  M = asked_laid G cl s r L i m

  d : Acyclic (targets K)
  d = asked_acyclic G cl s r L i c

  not_one : (n : ℕ) → has_unresolved K ≡ true → (node_at K n ≡ N.UnresolvedDependency → ⊥) → eqb n 1 ≡ false
  not_one n u f = ne_eqb n 1 (λ q. f (rw q (unresolved_is (node_at K 1) u)))

  -- the chosen one has no label, and neither has the reason
  pub chosen_bare : label_mark K a ≡ 0
  chosen_bare =
      let h : a < length K.nodes = omega (arith, longer G cl s r, chosen_below G cl s r L i) in
      let e : any conflicts (out K a) ≡ true = out_chosen G cl s r L i in
      let p : installable K a ≡ false = laid_installable K M d a h ∙ no_install K a (installable K) e in
      let q : missing K a ≡ false = split (has_unresolved K)
      (λ u. laid_missing K M d a h u ∙ rw (
        not_one a u (λ z. let y : N.Solvable s
            ≡ N.UnresolvedDependency = sym (old_node G cl s r a (chosen_below G cl s r L i) ∙ chosen_node G cl s r L i) ∙ z in clash (cc)),
        no_lacking K a (missing K) e,
      ))
      (λ u. missing_none K (laid_sound K M) d u a) in
      rw (p, q)

  pub reason_bare : label_mark K (reason G cl s r) ≡ 0
  reason_bare =
      let h : reason G cl s r < length K.nodes = (nodes_kept G cl s r).inside in
      let p : installable K (reason G cl s r) ≡ false = laid_installable K M d (reason G cl s r) h
      ∙ no_install_into K (reason G cl s r) (installable K) (into_reason G cl s r L i) in
      let q : missing K (reason G cl s r) ≡ false = split (has_unresolved K)
      (λ u. laid_missing K M d (reason G cl s r) h u ∙ rw (
        not_one (reason G cl s r) u (λ z. let y : N.Excluded r
            ≡ N.UnresolvedDependency = sym (reason_node G cl s r) ∙ z in clash (cc)),
        lacking_empty K (reason G cl s r) (missing K) (out_empty K M (reason G cl s r) (ends_there G cl s r L i)),
      ))
      (λ u. missing_none K (laid_sound K M) d u (reason G cl s r)) in
      rw (p, q)

  aside : (n : ℕ) → (Up G cl s r L i n → ⊥) → Aside G cl s r L i n
  aside n f = record { other = λ q. f (inl q); far = λ p. f (inr p) }

  -- a node with an edge is not unresolved
  up_resolved : (n : ℕ) → Up G cl s r L i n → node_at K n ≡ N.UnresolvedDependency → ⊥
  up_resolved n (inl q) z =
      let y : N.Solvable s ≡ N.UnresolvedDependency = sym (old_node G cl s r a (chosen_below G cl s r L i) ∙ chosen_node G cl s r L i) ∙ ap (node_at K) (sym q)
      ∙ z in clash (cc)
  up_resolved n (inr p) z =
      let w = first_edge (targets G) p in
      let e = edge_of G n w.0 w.1 in
      let R = runs_at_lem G L e.0 e.1 in
      let h : n < length G.nodes = rw (← e.2) R.from in
      let q : node_at G e.0.source ≡ N.UnresolvedDependency = ap (node_at G) e.2 ∙ sym (old_node G cl s r n h) ∙ z in
      let y : is_end N.UnresolvedDependency ≡ true = rw q at R.source_end in
      clash (cc)

  -- worked out again from marks that are right for its targets
  anew_right : (ms : List ℕ) (n : ℕ) → n < length G.nodes → Up G cl s r L i n → ((t : ℕ) → In t (targets G n) → get_or ms t 0 ≡ label_mark K t)
      → anew K ms n ≡ label_mark K n
  unfolding anew inst_at miss_at
  anew_right ms n h u f =
      split (eqb n a)
      (λ t. let q : n ≡ a = eqb-true n a t in
      rw q (rw (no_install K a (inst_at ms) (out_chosen G cl s r L i), no_lacking K a (miss_at ms) (out_chosen G cl s r L i)) (sym chosen_bare)))
      (λ t. let g : (k : ℕ) → In k (targets K n) → get_or ms k 0 ≡ label_mark K k = λ k j.
      either (which_target G cl s r L i n k j) (λ x. f k x) (λ x. absurd (eqb-false n a t x.0)) in
      let hk : n < length K.nodes = omega (arith, longer G cl s r) in
      let p : can_install K (inst_at ms) n ≡ installable K n = install_local K n (inst_at ms) (installable K) (λ k j.
      rw (g k j) (inst_bits (installable K k) (missing K k))) ∙ sym (laid_installable K M d n hk) in
      let o : is_lacking K (miss_at ms) n ≡ is_lacking K (missing K) n =
      lacking_local K n (miss_at ms) (missing K) (λ k j. rw (g k j) (miss_bits (installable K k) (missing K k))) in
      let q : is_lacking K (missing K) n ≡ missing K n = split (has_unresolved K)
      (λ v. sym (laid_missing K M d n hk v ∙ rw (not_one n v (up_resolved n u))))
      (λ v. lacking_none K n (missing K) (λ k. missing_none K (laid_sound K M) d v k) ∙ sym (missing_none K (laid_sound K M) d v n)) in
      rw (p, o, q))

  abbrev start : Pass
  start = record { marks = label_bits G; up = replicate 128 0 }

  -- the new node is never touched
  untouched : (up : List ℕ) → touched K a up (reason G cl s r) ≡ false
  unfolding touched
  untouched up =
      let e : targets K (reason G cl s r) ≡ [] = nothing (targets K (reason G cl s r)) (ends_there G cl s r L i) in
      rw (e, ne_eqb (reason G cl s r) a (λ q. apart G cl s r L i (sym q)))

  wide : 1 < length G.nodes
  wide = two G cl s r L i

  -- past the nodes of G there is no label
  late : (t : ℕ) → length G.nodes ≤ t → label_mark K t ≡ 0
  late t h =
      split (ltb t (length K.nodes))
      (λ e. either ((nodes_kept G cl s r).which t (ltb-true t (length K.nodes) e)) (λ l. let f : ⊥ = omega arith in absurd f) (λ q. rw q reason_bare))
      (λ e. past K M t (omega (arith, longer G cl s r, wide)) (ltb-false t (length K.nodes) e))

  module _ (k : List ℕ) (n : ℕ) (o : Ordered (targets G) (Acyclic (targets G)) k) (once : In n k → ⊥) (behind : (t : ℕ) → In t (targets G n)
      → In t k) (b : (t : ℕ) → In t (snoc k n) → t < length K.nodes) (earlier : (t : ℕ) → In t k → get_or (turns K a k start).marks t 0 ≡ label_mark K t) where
    abbrev w : Pass
    w = turns K a k start

    small : n < 128
    small = omega (arith, b n (in_right n k (n ∷ []) (inl refl)))

    R : Right G cl s r L i (label_bits G) k w
    R = right_turns G cl s r L i (Acyclic (targets G)) c (label_bits G) k o (λ u x. omega (arith, b u (in_left u k (n ∷ []) x)))

    long : n < length w.marks
    long = rw R.long_marks (omega (arith, marks_long G, small))

    -- a node that is touched is one of G
    low : touched K a w.up n ≡ true → n < length G.nodes
    low e =
        either ((nodes_kept G cl s r).which n (b n (in_right n k (n ∷ []) (inl refl)))) (λ h. h)
        (λ q. no_both (touched K a w.up n) e (ap (touched K a w.up) q ∙ untouched w.up))

    same : (Up G cl s r L i n → ⊥) → label_mark G n ≡ label_mark K n
    same f =
        split (ltb n (length G.nodes))
        (λ e. let h : n < length G.nodes = ltb-true n (length G.nodes) e in
        rw (stays_installable G cl s r L i m c n h (aside n f), stays_missing G cl s r L i m c n h (aside n f)))
        (λ e. let h : length G.nodes ≤ n = ltb-false n (length G.nodes) e in past G L n wide h ∙ sym (late n h))

    done_step : (t : ℕ) → In t (snoc k n) → get_or (turn K a n w).marks t 0 ≡ label_mark K t
    done_step t j =
        split (touched K a w.up n)
        (λ e. rw (turn_yes K a n w e) (split (eqb t n)
        (λ q. rw (eqb-true t n q) (get_or-set_same w.marks n (anew K w.marks n) 0 long
        ∙ anew_right w.marks n (low e) (touched_up G cl s r L i (label_bits G) k w R n e) (λ u x. earlier u (behind u x))))
        (λ q. get_or-set_other w.marks n t (anew K w.marks n) 0 (eqb-false t n q) ∙ earlier t (before_n q))))
        (λ e. rw (turn_no K a n w e) (split (eqb t n)
        (λ q. rw (eqb-true t n q) (R.later n once ∙ marks_at_lem G n small
        ∙ same (λ u. no_both (touched K a w.up n) (up_touched G cl s r L i (label_bits G) k w R n behind u) e)))
        (λ q. earlier t (before_n q))))
      where
        before_n : eqb t n ≡ false → In t k
        before_n q = either (in_append t k (n ∷ []) j) (λ x. x) (λ x. either x (λ e. absurd (eqb-false t n q e)) (λ z. absurd z))

  done : (l : List ℕ) → Ordered (targets G) (Acyclic (targets G)) l → ((t : ℕ) → In t l → t < length K.nodes) → (t : ℕ) → In t l
      → get_or (turns K a l start).marks t 0 ≡ label_mark K t
  done l none b t j = absurd j
  done l (more {l = k} n o once behind) b t j =
      rw (turns_last K a k n start) (done_step k n o once (behind c) b (λ u x. done k o (λ v y. b v (in_left v k (n ∷ []) y)) u x) t j)

  -- along any order of the nodes in which targets come first
  pub relabelled_along : (l : List ℕ) → Ordered (targets G) (Acyclic (targets G)) l → ((t : ℕ) → In t l → t < length (asked G cl s r).nodes)
      → ((t : ℕ) → t < length G.nodes → In t l) → relabel (asked G cl s r) (chosen G cl s r) l (label_bits G) ≡ label_bits (asked G cl s r)
  unfolding relabel
  relabelled_along l o b f =
      ext_get_or 0 (turns K a l start).marks (label_bits K) (R.long_marks ∙ marks_long G ∙ sym (marks_long K)) each
    where
      R : Right G cl s r L i (label_bits G) l (turns K a l start)
      R = right_turns G cl s r L i (Acyclic (targets G)) c (label_bits G) l o (λ t j. omega (arith, b t j))

      each : (t : ℕ) → t < length (turns K a l start).marks → get_or (turns K a l start).marks t 0 ≡ get_or (label_bits K) t 0
      each t h =
          let x : t < 128 = rw (← marks_long G) (rw R.long_marks at h) in
          split (has t l)
          (λ e. done l o b t (has_in t l e) ∙ sym (marks_at_lem K t x))
          (λ e. let j : In t l → ⊥ = has_out t l e in
          let g : length G.nodes ≤ t = split (ltb t (length G.nodes)) (λ u. absurd (j (f t (ltb-true t (length G.nodes) u)))) (λ u.
          ltb-false t (length G.nodes) u) in
          R.later t j ∙ marks_at_lem G t x ∙ past G L t wide g ∙ sym (late t g) ∙ sym (marks_at_lem K t x))

  -- "Labels are worked out again only for packages from which the chosen one can be reached": and they are right. Along the order that
  -- the labels of G were found in,
  pub relabelled : relabel (asked G cl s r) (chosen G cl s r) (order_of G) (label_bits G) ≡ label_bits (asked G cl s r)
  relabelled =
      relabelled_along (order_of G) (order_ordered G (laid_sound G L)) (λ t j. let h : t < length G.nodes = order_below G (laid_sound G L) t j in
      omega (arith, longer G cl s r)) (λ t h. in_order G L c t h)

  fewer : (l : List ℕ) → Ordered (targets K) (Acyclic (targets K)) l → Ordered (targets G) (Acyclic (targets G)) l
  fewer l none = none
  fewer l (more {l = k} n o once behind) = more n (fewer k o) once (λ z t j. behind d t (old_target G cl s r L i n t j))

  -- or along that of the graph asked for
  pub relabelled_anew : relabel (asked G cl s r) (chosen G cl s r) (order_of (asked G cl s r)) (label_bits G) ≡ label_bits (asked G cl s r)
  relabelled_anew =
      relabelled_along (order_of K) (fewer (order_of K) (order_ordered K (laid_sound K M))) (order_below K (laid_sound K M)) (λ t h.
      in_order K M d t (omega (arith, longer G cl s r)))

  -- "the labels of every package from which the chosen one can't be reached are not rewritten": from any marks at all, the mark of such a
  -- node is the one that it had. No working out could meet that; only leaving the word alone does
  pub kept_anew : (ms : List ℕ) (n : ℕ) → (Path G n (chosen G cl s r) → ⊥)
      → get_or (relabel (asked G cl s r) (chosen G cl s r) (order_of (asked G cl s r)) ms) n 0 ≡ get_or ms n 0
  kept_anew ms n f =
      not_rewritten G cl s r L i (Acyclic (targets G)) c (order_of K) (fewer (order_of K) (order_ordered K (laid_sound K M))) small ms n (λ u. f (up_path n u))
    where
      small : (t : ℕ) → In t (order_of K) → t < 128
      small t j = let h : t < length K.nodes = order_below K (laid_sound K M) t j in omega (arith, m)

      up_path : (n : ℕ) → Up G cl s r L i n → Path G n (chosen G cl s r)
      up_path n (inl q) = rw q here
      up_path n (inr p) = leads_path G p

  -- and the table of stores has a 1 for no other node than those from which it can
  pub stored_anew : (ms : List ℕ) (n : ℕ) → get_or (stored (asked G cl s r) (chosen G cl s r) (order_of (asked G cl s r)) ms) n 0 ≡ 1 → Path G n (chosen G cl s r)
  unfolding stored
  stored_anew ms n e =
      either (stored_to G cl s r L i (Acyclic (targets G)) c (order_of K) (fewer (order_of K) (order_ordered K (laid_sound K M))) (λ t j. below_all t j) ms n
      e).1
      (λ q. rw q here)
      (λ p. leads_path G p)
    where
      below_all : (t : ℕ) → In t (order_of K) → t < 128
      below_all t j = let h : t < length K.nodes = order_below K (laid_sound K M) t j in omega (arith, m)
