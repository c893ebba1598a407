-- "If unresolved has no incoming edge it is removed, and the last node takes number 1": petgraph's `remove_node`, word by word.
-- The last node's word goes to place 1, and the ends that were the last number become 1; edges keep their order.
use Rattle.std.specs.Prelude.{◌≡◌, Bool, ◌||◌, List, [], ◌∷◌, ◌++◌, map, get_or, take, drop, set, eqb, ltb}
use Rattle.std.proofs.Math.Path.{refl, sym, ap}
use Rattle.std.proofs.Common.{◌∙◌, not-suc-le-zero, add-one, arith, length-drop, get_or-set_same, get_or-drop}
use Rattle.std.proofs.Math.Bool.{true, false, not}
use Rattle.std.proofs.lemmas.Bool.{false≢true}
use Rattle.std.proofs.lemmas.List.{map-append, take-set-le, drop-set-add, set-get_or}
use Prim.Native.Nat.{ℕ, zero, suc, ◌+◌, ◌*◌, ◌-◌, ◌/◌, ◌%◌, ◌<◌, ◌≤◌}
use Rattle.std.proofs.Math.ListN.{length, length-set}
use Rattle.std.proofs.Math.Seq.{take-suc, take-suc-set, drop-set-lt, get_or-set_other}
use borrow.Author.Tests.{eqb-true, eqb-false, eq-eqb, ne_eqb, ltb-true, ltb-false, not-true}
use Rattle.basis.specs.Lists.{any}
use Rattle.basis.specs.Members.{split}
use Rattle.basis.specs.Below.{all_below, below_step, below_fails, below_at}
use Rattle.store.specs.declared.ConflictNode.{ConflictNode}
use Rattle.store.specs.declared.ConflictNode.TheVariants as N
use Rattle.store.specs.declared.Edge.{Edge}
use Rattle.store.specs.declared.Size.{Size}
use Rattle.store.specs.Direct.{entry_in, entered}
use Rattle.store.specs.Laws.Direct.{edge_same, entered_length, entered_node, entered_nodes, entered_edges, entered_low, entered_own, entered_other}
use Rattle.store.specs.Graph.{renumber, renumber_edge, last_one, front, settle}
use Rattle.store.specs.Words.{word_of, node_of, first_clause, edge_word, edge_of, weight_word}
use Rattle.store.specs.Table.{node_words, graph_in, edge_in, Stored, Growing, nodes_count}

-- ---- does an edge lead to node 1

unfoldable pub spares : List ℕ → ℕ → Bool
spares g i = not (eqb (edge_in g i).target 1)

pub spare_next : (g : List ℕ) (i : ℕ) → all_below (spares g) i ≡ true → (get_or g i 0 / 256 % 256 ≡ 1 → ⊥) → all_below (spares g) (i + 1) ≡ true
unfolding spares edge_in
spare_next g i h d = below_step (spares g) i h (rw (ne_eqb (get_or g i 0 / 256 % 256) 1 d))

pub spare_stop : (g : List ℕ) (i m : ℕ) → get_or g i 0 / 256 % 256 ≡ 1 → i < m → false ≡ all_below (spares g) m
unfolding spares edge_in
spare_stop g i m z h = below_fails (spares g) i m h (rw (eq-eqb (get_or g i 0 / 256 % 256) 1 z))

spared : (g : List ℕ) (e : ℕ) → spares g e ≡ true → get_or g e 0 / 256 % 256 ≡ 1 → ⊥
unfolding spares edge_in
spared g e h q = let z : false ≡ true = sym (rw (eq-eqb (get_or g e 0 / 256 % 256) 1 q)) ∙ h in let f : ◌≡◌ {A = ℕ} 0 1 = cc in omega arith

any_snoc : (p : Edge → Bool) (xs : List Edge) (x : Edge) → any p xs ≡ false → any p (xs ++ (x ∷ [])) ≡ p x
any_snoc p [] x h = split (p x) (λ t. rw (t, any)) (λ t. rw (t, any))
any_snoc p (y ∷ xs) x h = split (p y) (λ t. no (rw (t, any) at h)) (λ t. rw (t, any) (any_snoc p xs x (rw (t, any) at h)))
  where
    no : true ≡ false → any p ((y ∷ xs) ++ (x ∷ [])) ≡ p x
    no z = let f : ◌≡◌ {A = ℕ} 0 1 = cc in let b : ⊥ = omega arith in absurd b

any_stays : (p : Edge → Bool) (xs : List Edge) (x : Edge) → any p xs ≡ true → any p (xs ++ (x ∷ [])) ≡ true
any_stays p [] x h = let f : ◌≡◌ {A = ℕ} 0 1 = cc in let b : ⊥ = omega arith in absurd b
any_stays p (y ∷ xs) x h = split (p y) (λ t. rw (t, any)) (λ t. rw (t, any) (any_stays p xs x (rw (t, any) at h)))

abbrev to_one : Edge → Bool
to_one e = eqb e.target 1

spares_any : (g : List ℕ) (m : ℕ) → m ≤ length g → not (any to_one (map edge_of (take m g))) ≡ all_below (spares g) m
unfolding all_below spares edge_in
spares_any g zero h = refl
spares_any g (suc m) h =
    let r : not (any to_one (map edge_of (take m g))) ≡ all_below (spares g) m = spares_any g m (omega arith) in
    rw (take-suc g m 0 h, map-append, ← r)
    (split (any to_one (map edge_of (take m g)))
    (λ t. rw (t, any_stays to_one (map edge_of (take m g)) (edge_of (get_or g m 0)) t))
    (λ t. rw (t, any_snoc to_one (map edge_of (take m g)) (edge_of (get_or g m 0)) t)))

-- ---- the ends anew

abbrev pub renumber_word : ℕ → ℕ → ℕ
renumber_word last w = renumber last (w % 256) + 256 * renumber last (w / 256 % 256) + 65536 * (w / 65536)

-- edge i renumbered
unfoldable pub renumber_at : ℕ → List ℕ → ℕ → List ℕ
renumber_at last g i = set g i (renumber_word last (get_or g i 0))

-- an end of the edge is the last number
unfoldable pub touches : ℕ → ℕ → Bool
touches last w = eqb (w % 256) last || eqb (w / 256 % 256) last

pub touch_source : (last w : ℕ) → w % 256 ≡ last → true ≡ touches last w
unfolding touches
touch_source last w q = rw (eq-eqb (w % 256) last q)

pub touch_target : (last w : ℕ) → (w % 256 ≡ last → ⊥) → eqb (w / 256 % 256) last ≡ touches last w
unfolding touches
touch_target last w d = rw (ne_eqb (w % 256) last d)

pub ruleset touchings = (touch_source, touch_target)

-- neither end is the last number: the word stays
untouched : (last w : ℕ) → touches last w ≡ false → renumber_word last w ≡ w
unfolding touches
untouched last w e =
    split (eqb (w % 256) last)
    (λ t. absurd (false≢true (sym (rw t at e))))
    (λ t. split (eqb (w / 256 % 256) last) (λ u. absurd (false≢true (sym (rw (t, u) at e)))) (λ u. rw (t, u) whole))
  where
    whole : w % 256 + 256 * (w / 256 % 256) + 65536 * (w / 65536) ≡ w
    whole = omega arith

-- what is there need not be stored
pub renumber_kept : (last : ℕ) (g : List ℕ) (i : ℕ) (b : Bool) → not b ≡ true → b ≡ touches last (get_or g i 0) → g ≡ renumber_at last g i
unfolding renumber_at
renumber_kept last g i b f q = sym (ap (set g i) (untouched last (get_or g i 0) (sym q ∙ not-true b f)) ∙ set-get_or g i 0)

-- r is what a call gave for word i
pub renumber_stored : (last : ℕ) (g : List ℕ) (i r : ℕ) → r ≡ renumber_word last (get_or g i 0) → set g i r ≡ renumber_at last g i
unfolding renumber_at
renumber_stored last g i r q = rw q

-- the first i edges renumbered, one after the other
unfoldable pub renumber_to : ℕ → List ℕ → ℕ → List ℕ
renumber_to last g zero = g
renumber_to last g (suc i) = set (renumber_to last g i) i (renumber_word last (get_or (renumber_to last g i) i 0))

pub renumber_none : (last : ℕ) (g : List ℕ) → g ≡ renumber_to last g 0
unfolding renumber_to
renumber_none last g = refl

-- k is what a call left of h, word i renumbered
pub renumber_next : (last : ℕ) (g h k : List ℕ) (i : ℕ) → h ≡ renumber_to last g i → k ≡ renumber_at last h i → k ≡ renumber_to last g (i + 1)
unfolding renumber_to renumber_at
renumber_next last g h k i q e = rw (add-one i, e, q)

pub renumber_all : (last : ℕ) (g h : List ℕ) (i m : ℕ) → h ≡ renumber_to last g i → i ≤ m → m ≤ i → h ≡ renumber_to last g m
renumber_all last g h i m q a b = let z : m ≡ i = omega arith in rw z q

pub ruleset renumbers = (renumber_none, renumber_next, renumber_all)

-- x is the last number, or not
pub renumber_last : (last x : ℕ) → x ≡ last → 1 ≡ renumber last x
renumber_last last x q = rw (eq-eqb x last q)

pub renumber_other : (last x : ℕ) → (x ≡ last → ⊥) → x ≡ renumber last x
renumber_other last x d = rw (ne_eqb x last d)

renumber_small : (last x : ℕ) → x < 256 → renumber last x < 256
renumber_small last x h = split (eqb x last) (λ t. rw t (omega arith)) (λ t. rw t h)

module _ (s t r : ℕ) (hs : s < 256) (ht : t < 256) where
  f0 : (s + 256 * t + 65536 * r) % 256 ≡ s
  f0 = omega arith

  f1 : (s + 256 * t + 65536 * r) / 256 % 256 ≡ t
  f1 = omega arith

  f2 : (s + 256 * t + 65536 * r) / 65536 ≡ r
  f2 = omega arith

  f3 : (w : ℕ) → r ≡ w / 65536 → (s + 256 * t + 65536 * r) / 16777216 ≡ w / 16777216
  f3 w q = omega arith

  f4 : (w : ℕ) → r ≡ w / 65536 → (s + 256 * t + 65536 * r) / 1099511627776 ≡ w / 1099511627776
  f4 w q = omega arith

  f5 : (w : ℕ) → r ≡ w / 65536 → (s + 256 * t + 65536 * r) / 72057594037927936 ≡ w / 72057594037927936
  f5 w q = omega arith

  f6 : (b : ℕ) → r < 1099511627776 → s + 256 * t + 65536 * r ≡ (s + 256 * t + 65536 * (r + 1099511627776 * b)) % 72057594037927936
  f6 b l = omega arith

-- the entry above an edge stays
entry_renumbered : (last w : ℕ) → renumber_word last w / 72057594037927936 ≡ w / 72057594037927936
entry_renumbered last w =
    f5 (renumber last (w % 256)) (renumber last (w / 256 % 256)) (w / 65536) (renumber_small last (w % 256) (omega arith))
    (renumber_small last (w / 256 % 256) (omega arith)) w refl

edge_renumbered : (last w : ℕ) → edge_of (renumber_word last w) ≡ renumber_edge last (edge_of w)
edge_renumbered last w =
    let hs : renumber last (w % 256) < 256 = renumber_small last (w % 256) (omega arith) in
    let ht : renumber last (w / 256 % 256) < 256 = renumber_small last (w / 256 % 256) (omega arith) in
    rw (
      f0 (renumber last (w % 256)) (renumber last (w / 256 % 256)) (w / 65536) hs ht,
      f1 (renumber last (w % 256)) (renumber last (w / 256 % 256)) (w / 65536) hs ht,
      f2 (renumber last (w % 256)) (renumber last (w / 256 % 256)) (w / 65536) hs ht,
      f3 (renumber last (w % 256)) (renumber last (w / 256 % 256)) (w / 65536) hs ht w refl,
      f4 (renumber last (w % 256)) (renumber last (w / 256 % 256)) (w / 65536) hs ht w refl,
    )

edges_renumbered : (last : ℕ) (ws : List ℕ) → map edge_of (map (renumber_word last) ws) ≡ map (renumber_edge last) (map edge_of ws)
edges_renumbered last [] = refl
edges_renumbered last (w ∷ ws) = rw (edge_renumbered last w, edges_renumbered last ws)

module _ (last : ℕ) (g : List ℕ) where
  to_length : (i : ℕ) → length (renumber_to last g i) ≡ length g
  unfolding renumber_to
  to_length zero = refl
  to_length (suc i) = rw length-set (to_length i)

  to_past : (i j : ℕ) → i ≤ j → get_or (renumber_to last g i) j 0 ≡ get_or g j 0
  unfolding renumber_to
  to_past zero j h = refl
  to_past (suc i) j h =
      get_or-set_other (renumber_to last g i) i j (renumber_word last (get_or (renumber_to last g i) i 0)) 0 (λ q. omega arith) ∙ to_past i j (omega arith)

  to_done : (i j : ℕ) → j < i → i ≤ length g → get_or (renumber_to last g i) j 0 ≡ renumber_word last (get_or g j 0)
  unfolding renumber_to
  to_done zero j h l = absurd (not-suc-le-zero h)
  to_done (suc i) j h l =
      split (eqb j i)
      (λ t. rw (eqb-true j i t) (get_or-set_same (renumber_to last g i) i (renumber_word last (get_or (renumber_to last g i) i 0)) 0 (omega (arith, to_length i))
      ∙ ap (renumber_word last) (to_past i i (omega arith))))
      (λ t. let d : j ≡ i → ⊥ = eqb-false j i t in
      get_or-set_other (renumber_to last g i) i j (renumber_word last (get_or (renumber_to last g i) i 0)) 0 d ∙ to_done i j (omega (arith, d)) (omega arith))

  to_nodes : (i : ℕ) → i ≤ 1024 → drop 1024 (renumber_to last g i) ≡ drop 1024 g
  unfolding renumber_to
  to_nodes zero h = refl
  to_nodes (suc i) h = drop-set-lt 1024 (renumber_to last g i) i (renumber_word last (get_or (renumber_to last g i) i 0)) h ∙ to_nodes i (omega arith)

  to_edges : (i : ℕ) → i ≤ length g → take i (renumber_to last g i) ≡ map (renumber_word last) (take i g)
  unfolding renumber_to
  to_edges zero h = refl
  to_edges (suc i) h =
      take-suc-set (renumber_to last g i) i (renumber_word last (get_or (renumber_to last g i) i 0)) (omega (arith, to_length i))
      ∙ rw (to_edges i (omega arith), to_past i i (omega arith), take-suc g i 0 h, map-append)

-- ---- the nodes anew

last_snoc : {A : Type 0} (xs : List A) (x : A) → last_one (xs ++ (x ∷ [])) ≡ x ∷ []
last_snoc [] x = refl
last_snoc (y ∷ []) x = refl
last_snoc (y ∷ z ∷ xs) x = last_snoc (z ∷ xs) x

front_snoc : {A : Type 0} (xs : List A) (x : A) → front (xs ++ (x ∷ [])) ≡ xs
front_snoc [] x = refl
front_snoc (y ∷ []) x = refl
front_snoc (y ∷ z ∷ xs) x = rw (front_snoc (z ∷ xs) x)

abbrev moved : {A : Type 0} → A → List A → List A
moved a xs = a ∷ last_one (drop 2 xs) ++ front (drop 2 xs)

-- f reads the node, or its clause, off a word; a is the root's
words_moved : {A : Type 0} (f : ℕ → A) (a : A) (d : List ℕ) (l : ℕ) → f (get_or d 0 0) ≡ a → suc l < length d
    → map f (take (suc l) (set d 1 (get_or d (suc l) 0))) ≡ moved a (map f (take (suc (suc l)) d))
words_moved f a [] l z h = let f : ⊥ = omega arith in absurd f
words_moved f a (x ∷ []) l z h = let f : ⊥ = omega arith in absurd f
words_moved f a (x ∷ y ∷ r) zero z h = rw z
words_moved f a (x ∷ y ∷ r) (suc l) z h =
    let q : l < length r = omega arith in
    rw (
      z,
      take-suc r l 0 q,
      map-append f (take l r) (get_or r l 0 ∷ []),
      last_snoc (map f (take l r)) (f (get_or r l 0)),
      front_snoc (map f (take l r)) (f (get_or r l 0)),
    )

-- ---- the table after it: the last node's word at place 1, its own place free, its entry 2, every edge renumbered

abbrev vacated : List ℕ → ℕ → List ℕ
vacated g last = set (set g 1025 (get_or g (1024 + last) 0)) (1024 + last) 0

abbrev named : List ℕ → ℕ → List ℕ
named g last = entered (vacated g last) (get_or g (1024 + last) 0 % 262144) 2

abbrev gone : List ℕ → ℕ → ℕ → List ℕ
gone g last m = renumber_to last (named g last) m

-- the same, shut
unfoldable pub removed : List ℕ → ℕ → ℕ → List ℕ
removed g last m = gone g last m

-- h is the table with the moved node's new entry, k what the renumbering left
pub removed_is : (g h k : List ℕ) (last m : ℕ) → k ≡ renumber_to last h m
    → h ≡ entered (set (set g 1025 (get_or g (1024 + last) 0)) (1024 + last) 0) (get_or g (1024 + last) 0 % 262144) 2 → k ≡ removed g last m
unfolding removed
removed_is g h k last m e d = rw (e, d)

abbrev pub gone_size : Size → Size
gone_size s = record { nodes = s.nodes - 1; edges = s.edges; hand = s.hand }

upper : (s t r w : ℕ) → s < 256 → t < 256 → s + 256 * t + 65536 * r ≡ w → r ≡ w / 65536
upper s t r w hs ht q = omega arith

-- a word that is its edge's own, below the entry, stays so
packed_renumbered : (last w : ℕ) → edge_word (edge_of w) ≡ w % 72057594037927936
    → edge_word (edge_of (renumber_word last w)) ≡ renumber_word last w % 72057594037927936
packed_renumbered last w q =
    let a : w % 256 + 256 * (w / 256 % 256) + 65536 * (weight_word (edge_of w).weight + 16777216 * (edge_of w).clause) ≡ w % 72057594037927936 = q in
    let z : weight_word (edge_of w).weight + 16777216 * (edge_of w).clause ≡ w % 72057594037927936 / 65536 =
    upper (w % 256) (w / 256 % 256) (weight_word (edge_of w).weight + 16777216 * (edge_of w).clause) (w % 72057594037927936) (omega arith) (omega arith) a in
    let p : w % 72057594037927936 / 65536 + 1099511627776 * (w / 72057594037927936) ≡ w / 65536 = omega arith in
    let l : w % 72057594037927936 / 65536 < 1099511627776 = omega arith in
    ap edge_word (edge_renumbered last w)
    ∙ ap (λ (n : ℕ). renumber last (w % 256) + 256 * renumber last (w / 256 % 256) + 65536 * n) z
    ∙ f6 (renumber last (w % 256)) (renumber last (w / 256 % 256)) (w % 72057594037927936 / 65536) (renumber_small last (w % 256) (omega arith))
    (renumber_small last (w / 256 % 256) (omega arith)) (w / 72057594037927936) l
    ∙ ap (λ (n : ℕ). (renumber last (w % 256) + 256 * renumber last (w / 256 % 256) + 65536 * n) % 72057594037927936) p

module _ (g : List ℕ) (s : Size) (P : Growing g s) where
  pub settle_kept : (b : Bool) → b ≡ all_below (spares g) s.edges → not b ≡ true → graph_in g s ≡ settle (graph_in g s)
  unfolding settle graph_in
  settle_kept b q f =
      let z : any to_one (map edge_of (take s.edges g)) ≡ true = is_true (any to_one (map edge_of (take s.edges g)))
      (spares_any g s.edges (omega (arith, P.stored.long, P.stored.edges_most)) ∙ sym q) in
      rw z
    where
      is_true : (a : Bool) → not a ≡ b → a ≡ true
      is_true true e = refl
      is_true false e = sym (sym f ∙ ap not (sym e))

  abbrev last : ℕ
  last = s.nodes - 1

  module _ (b : Bool) (q : b ≡ all_below (spares g) s.edges) (f : not b ≡ false) where
    is_false : (a : Bool) → not a ≡ b → a ≡ false
    is_false true e = ap not e ∙ f
    is_false false e = refl

    unled : any to_one (map edge_of (take s.edges g)) ≡ false
    unled = is_false (any to_one (map edge_of (take s.edges g))) (spares_any g s.edges (omega (arith, P.stored.long, P.stored.edges_most)) ∙ sym q)

    all_spare : all_below (spares g) s.edges ≡ true
    all_spare = sym q ∙ is b f
      where
        is : (b : Bool) → not b ≡ false → b ≡ true
        is true e = refl
        is false e = sym e

    abbrev u : ℕ
    u = get_or g (1024 + last) 0 % 262144

    abbrev h : List ℕ
    h = named g last

    abbrev k : List ℕ
    k = set g 1025 (get_or g (1024 + last) 0)

    h_edges : map edge_of (take s.edges h) ≡ map edge_of (take s.edges g)
    h_edges =
        entered_edges (vacated g last) u 2 s.edges
        ∙ ap (map edge_of) (take-set-le s.edges k (1024 + last) 0 (omega (arith, P.stored.edges_most))
        ∙ take-set-le s.edges g 1025 (get_or g (1024 + last) 0) (omega (arith, P.stored.edges_most)))

    h_nodes : take last (drop 1024 h) ≡ take last (set (drop 1024 g) 1 (get_or (drop 1024 g) last 0))
    h_nodes =
        ap (take last) (entered_nodes (vacated g last) u 2)
        ∙ ap (take last) (drop-set-add 1024 k last 0)
        ∙ take-set-le last (drop 1024 k) last 0 (omega arith)
        ∙ ap (take last) (drop-set-add 1024 g 1 (get_or g (1024 + last) 0) ∙ ap (set (drop 1024 g) 1) (sym (get_or-drop 1024 g last 0)))

    bare_length : length (vacated g last) ≡ 1152
    bare_length = length-set k (1024 + last) 0 ∙ length-set g 1025 (get_or g (1024 + last) 0) ∙ P.stored.long

    h_length : length h ≡ 1152
    h_length = entered_length (vacated g last) u 2 ∙ bare_length

    gone_words : {A : Type 0} (f : ℕ → A) (y : A) → f 17179607040 ≡ y
        → map f (take last (drop 1024 (gone g last s.edges))) ≡ moved y (map f (take s.nodes (drop 1024 g)))
    gone_words f y o =
        let a : last ≡ suc (s.nodes - 2) = omega (arith, P.two) in
        let c : s.nodes ≡ suc (suc (s.nodes - 2)) = omega (arith, P.two) in
        let r : f (get_or (drop 1024 g) 0 0) ≡ y = ap f (get_or-drop 1024 g 0 0 ∙ P.stored.root) ∙ o in
        let n : suc (s.nodes - 2) < length (drop 1024 g) = rw length-drop (omega (arith, P.two, P.stored.long, P.stored.nodes_most)) in
        ap (λ (l : List ℕ). map f (take last l)) (to_nodes last h s.edges P.stored.edges_most)
        ∙ ap (map f) h_nodes
        ∙ ap (λ (j : ℕ). map f (take j (set (drop 1024 g) 1 (get_or (drop 1024 g) j 0)))) a
        ∙ words_moved f y (drop 1024 g) (s.nodes - 2) r n
        ∙ ap (λ (j : ℕ). moved y (map f (take j (drop 1024 g)))) (sym c)

    gone_edges : map edge_of (take s.edges (gone g last s.edges)) ≡ map (renumber_edge last) (map edge_of (take s.edges g))
    gone_edges =
        ap (map edge_of) (to_edges last h s.edges (omega (arith, h_length, P.stored.edges_most)))
        ∙ edges_renumbered last (take s.edges h)
        ∙ ap (map (renumber_edge last)) h_edges

    settle_gone : graph_in (gone g last s.edges) (gone_size s) ≡ settle (graph_in g s)
    unfolding settle graph_in
    settle_gone =
        let c : length (map node_of (node_words g s.nodes)) ≡ s.nodes = nodes_count g s P.stored in
        rw (unled, gone_words node_of N.Root refl, gone_words first_clause 65535 refl, gone_edges, c)

    settle_stored : Stored (gone g last s.edges) (gone_size s)
    settle_stored =
        record {
          long = to_length last h s.edges ∙ h_length;
          some = omega (arith, P.two);
          nodes_most = omega (arith, P.stored.nodes_most);
          edges_most = P.stored.edges_most;
          root = first;
          word = words;
          no_node = no_node;
          packed = packed;
          no_edge_lem = no_edge_lem;
          source = sources;
          target =
              targets;
          direct = record { told = told; stands = stands };
        }
      where
        past : (j : ℕ) → get_or (gone g last s.edges) (1024 + j) 0 ≡ get_or (vacated g last) (1024 + j) 0
        past j = to_past last h s.edges (1024 + j) (omega (arith, P.stored.edges_most)) ∙ entered_node (vacated g last) u 2 j

        place : (j : ℕ) → (j ≡ last → ⊥) → (j ≡ 1 → ⊥) → get_or (gone g last s.edges) (1024 + j) 0 ≡ get_or g (1024 + j) 0
        place j d o =
            past j ∙ get_or-set_other k (1024 + last) (1024 + j) 0 0 (λ z. d (omega arith))
            ∙ get_or-set_other g 1025 (1024 + j) (get_or g (1024 + last) 0) 0 (λ z. o (omega arith))

        one : 1 < last → get_or (gone g last s.edges) 1025 0 ≡ get_or g (1024 + last) 0
        one l =
            past 1 ∙ get_or-set_other k (1024 + last) 1025 0 0 (λ z. omega arith)
            ∙ get_or-set_same g 1025 (get_or g (1024 + last) 0) 0 (omega (arith, P.stored.long))

        free : get_or (gone g last s.edges) (1024 + last) 0 ≡ 0
        free = past last ∙ get_or-set_same k (1024 + last) 0 0 (omega (arith, length-set g 1025 (get_or g (1024 + last) 0), P.stored.long, P.stored.nodes_most))

        first : get_or (gone g last s.edges) 1024 0 ≡ 17179607040
        first = place 0 (λ z. omega (arith, P.two)) (λ z. omega arith) ∙ P.stored.root

        words : (j : ℕ) → j < s.nodes - 1 → word_of (node_of (get_or (gone g last s.edges) (1024 + j) 0))
            + 262144 * first_clause (get_or (gone g last s.edges) (1024 + j) 0) ≡ get_or (gone g last s.edges) (1024 + j) 0
        words j l =
            split (eqb j 1)
            (λ t. let y : j ≡ 1 = eqb-true j 1 t in rw (y, one (omega arith)) (P.stored.word last (omega (arith, P.two))))
            (λ t. rw (place j (λ z. omega arith) (eqb-false j 1 t)) (P.stored.word j (omega arith)))

        no_node : (j : ℕ) → s.nodes - 1 ≤ j → j < 128 → get_or (gone g last s.edges) (1024 + j) 0 ≡ 0
        no_node j l m =
            split (eqb j last)
            (λ t. rw (eqb-true j last t) free)
            (λ t. let d : j ≡ last → ⊥ = eqb-false j last t in place j d (λ z. omega (arith, d, P.two)) ∙ P.stored.no_node j (omega (arith, d)) m)

        apart : (e : ℕ) → e < 1024 → get_or (vacated g last) e 0 ≡ get_or g e 0
        apart e l = get_or-set_other k (1024 + last) e 0 0 (λ z. omega arith) ∙ get_or-set_other g 1025 e (get_or g (1024 + last) 0) 0 (λ z. omega arith)

        under : (e : ℕ) → e < 1024 → get_or h e 0 % 72057594037927936 ≡ get_or g e 0 % 72057594037927936
        under e l = entered_low (vacated g last) u 2 bare_length e ∙ ap (λ (n : ℕ). n % 72057594037927936) (apart e l)

        edge : (e : ℕ) → e < s.edges → edge_of (get_or h e 0) ≡ edge_of (get_or g e 0)
        edge e l = edge_same (get_or h e 0) (get_or g e 0) (under e (omega (arith, P.stored.edges_most)))

        renumbered : (e : ℕ) → e < s.edges → get_or (gone g last s.edges) e 0 ≡ renumber_word last (get_or h e 0)
        renumbered e l = to_done last h s.edges e l (omega (arith, h_length, P.stored.edges_most))

        packed : (e : ℕ) → e < s.edges → edge_word (edge_of (get_or (gone g last s.edges) e 0)) ≡ get_or (gone g last s.edges) e 0 % 72057594037927936
        packed e l =
            rw (renumbered e l)
            (packed_renumbered last (get_or h e 0) (ap edge_word (edge e l) ∙ P.stored.packed e l ∙ sym (under e (omega (arith, P.stored.edges_most)))))

        no_edge_lem : (e : ℕ) → s.edges ≤ e → e < 1024 → get_or (gone g last s.edges) e 0 % 72057594037927936 ≡ 0
        no_edge_lem e l m = ap (λ (n : ℕ). n % 72057594037927936) (to_past last h s.edges e l) ∙ under e m ∙ P.stored.no_edge_lem e l m

        word : (e : ℕ) → e < s.edges → edge_of (get_or (gone g last s.edges) e 0) ≡ renumber_edge last (edge_of (get_or g e 0))
        word e l = ap edge_of (renumbered e l) ∙ edge_renumbered last (get_or h e 0) ∙ ap (renumber_edge last) (edge e l)

        low : ℕ → ℕ
        low n = n % 262144

        high : ℕ → ℕ
        high n = n / 72057594037927936

        entry : (j : ℕ) → entry_in (gone g last s.edges) j ≡ entry_in h j
        entry j =
            split (ltb j s.edges)
            (λ t. ap high (renumbered j (ltb-true j s.edges t)) ∙ entry_renumbered last (get_or h j 0))
            (λ t. ap high (to_past last h s.edges j (ltb-false j s.edges t)))

        own : (j : ℕ) → j < 1024 → u ≡ 1 + 2 * j → entry_in (gone g last s.edges) j ≡ 2
        own j m z = entry j ∙ entered_own (vacated g last) u 2 bare_length j m z

        other : (j : ℕ) → j < 1024 → (u ≡ 1 + 2 * j → ⊥) → entry_in (gone g last s.edges) j ≡ entry_in g j
        other j m d = entry j ∙ entered_other (vacated g last) u 2 j d ∙ ap high (apart j m)

        told : (i j : ℕ) → i < s.nodes - 1 → j < 1024 → get_or (gone g last s.edges) (1024 + i) 0 % 262144 ≡ 1 + 2 * j
            → entry_in (gone g last s.edges) j ≡ i + 1
        told i j l m z =
            split (eqb i 1)
            (λ t. let y : i ≡ 1 = eqb-true i 1 t in
            let x : u ≡ 1 + 2 * j = ap low (sym (one (omega arith))) ∙ ap (λ (n : ℕ). get_or (gone g last s.edges) (1024 + n) 0 % 262144) (sym y) ∙ z in
            own j m x ∙ ap (λ (n : ℕ). n + 1) (sym y))
            (λ t. let x : get_or g (1024 + i) 0 % 262144 ≡ 1 + 2 * j = ap low (sym (place i (λ y. omega arith) (eqb-false i 1 t))) ∙ z in
            other j m (λ y. P.unlike i last l (omega (arith, P.two)) (x ∙ sym y))
            ∙ P.stored.direct.told i j (omega arith) m x)

        second : get_or g 1025 0 % 262144 ≡ 2
        second = ap low P.second

        stands : (i j : ℕ) → j < 1024 → entry_in (gone g last s.edges) j ≡ i + 1 → (i < s.nodes - 1)
            × (get_or (gone g last s.edges) (1024 + i) 0 % 262144 ≡ 1 + 2 * j)
        stands i j m z =
            split (eqb u (1 + 2 * j))
            (λ t. let y : u ≡ 1 + 2 * j = eqb-true u (1 + 2 * j) t in
            let x : ◌≡◌ {A = ℕ} 2 (i + 1) = sym (own j m y) ∙ z in
            let w : i ≡ 1 = omega arith in
            let n : last ≡ 1 → ⊥ = λ a. (let b : ◌≡◌ {A = ℕ} 2 (1 + 2 * j) = sym second ∙ ap (λ (n : ℕ). get_or g (1024 + n) 0 % 262144) (sym a) ∙ y in
            omega arith) in
            let l : 1 < last = omega (arith, n, P.two) in
            (rw w l, rw w (ap low (one l) ∙ y)))
            (λ t. let d : u ≡ 1 + 2 * j → ⊥ = eqb-false u (1 + 2 * j) t in
            let x : (i < s.nodes) × (get_or g (1024 + i) 0 % 262144 ≡ 1 + 2 * j) = P.stored.direct.stands i j m (sym (other j m d) ∙ z) in
            let a : i ≡ last → ⊥ = λ b. d (ap (λ (n : ℕ). get_or g (1024 + n) 0 % 262144) (sym b) ∙ x.1) in
            let o : i ≡ 1 → ⊥ = λ b. (let c : ◌≡◌ {A = ℕ} 2 (1 + 2 * j) = sym second ∙ ap (λ (n : ℕ). get_or g (1024 + n) 0 % 262144) (sym b) ∙ x.1 in
            omega arith) in
            (omega (arith, a, x.0), ap low (place i a o) ∙ x.1))

        sources : (e : ℕ) → e < s.edges → get_or (gone g last s.edges) e 0 % 256 < 128
        sources e l =
            let z : get_or (gone g last s.edges) e 0 % 256 ≡ renumber last (get_or g e 0 % 256) = ap (λ (x : Edge). x.source) (word e l) in
            rw z (split (eqb (get_or g e 0 % 256) last) (λ t. rw t (omega arith)) (λ t. rw t (P.stored.source e l)))

        targets : (e : ℕ) → e < s.edges → get_or (gone g last s.edges) e 0 / 256 % 256 < s.nodes - 1
        targets e l =
            let z : get_or (gone g last s.edges) e 0 / 256 % 256 ≡ renumber last (get_or g e 0 / 256 % 256) = ap (λ (x : Edge). x.target) (word e l) in
            let d : get_or g e 0 / 256 % 256 ≡ 1 → ⊥ = spared g e (below_at (spares g) s.edges all_spare e l) in
            rw z
            (split (eqb (get_or g e 0 / 256 % 256) last)
            (λ t. rw t (omega (arith, P.two, d, eqb-true (get_or g e 0 / 256 % 256) last t)))
            (λ t. rw t (omega (arith, P.stored.target e l, eqb-false (get_or g e 0 / 256 % 256) last t))))

module _ (g k : List ℕ) (s : Size) (b : Bool) (e : k ≡ removed g (s.nodes - 1) s.edges) (P : Growing g s) (q : b
    ≡ all_below (spares g) s.edges) (f : not b ≡ false) where
  pub gone_graph : graph_in k (gone_size s) ≡ settle (graph_in g s)
  unfolding removed
  gone_graph = rw e (settle_gone g s P b q f)

  pub gone_stored : Stored k (gone_size s)
  unfolding removed
  gone_stored = rw e (settle_stored g s P b q f)

pub ruleset settles = (settle_kept, gone_graph, gone_stored)
