-- The triples made, one word each in a table, chained by hash; and, in the table of those chains, the last solvable under each
-- forbidden name.
use Rattle.std.specs.Prelude.{◌≡◌, refl, Bool, true, false, ◌&&◌, List, [], ◌∷◌, map, ℕ, suc, ◌+◌, ◌*◌, ◌/◌, ◌%◌, ◌<◌, ◌≤◌, length, get_or, set, take, drop, replicate, eqb, ltb}
use Rattle.std.proofs.Common.{sym, ap, ◌∙◌, add-one, arith, length-set, length-drop, take-suc-set, drop-set-lt, get_or-set_same, get_or-set_other, get_or-take, get_or-drop, length-take-le, ext_get_or, eqb-true, eq-eqb, ne_eqb, ltb-true, ltb-false}
use Rattle.std.proofs.lemmas.Bool.{false≢true, eqb-false}
use Rattle.std.proofs.lemmas.List.{map-append, length-replicate, get_or-replicate, drop-set-add}
use Rattle.std.proofs.Math.ListN.{get_or-eq_default}
use Rattle.std.proofs.Math.Seq.{take-set-lt}
use Rattle.basis.specs.Lists.{any, snoc}
use Rattle.basis.specs.Members.{split, and_true}
use Rattle.basis.specs.Chains.{Layout, fits_before, Chained, Outside, linked, keyed, chain_add, chain_put, chain_none}
use Rattle.store.specs.declared.ConflictNode.{ConflictNode}
use Rattle.store.specs.Graph.{same_node}
use Rattle.store.specs.declared.ConflictNode.TheVariants as N
use Rattle.store.specs.Words.{word_of, node_of, NodeWord, node_back, same_true, same_refl}
use Rattle.store.specs.Numbers.{node_number}
use Rattle.expansion.specs.Triple.{Triple, triple, same_triple}

-- ---- the words: parent + 2^18 candidate + 2^36 version set

abbrev pub packed : Triple → ℕ
packed t = word_of t.parent + 262144 * word_of t.candidate + 68719476736 * t.vset

abbrev pub triple_of : ℕ → Triple
triple_of w = triple (node_of (w % 262144)) (node_of (w / 262144 % 262144)) (w / 68719476736)

-- a word that is the one of its triple
pub record WordWhole (w : ℕ) : Type 0 where
  pub parent_word : word_of (node_of (w % 262144)) ≡ w % 262144
  pub candidate_word : word_of (node_of (w / 262144 % 262144)) ≡ w / 262144 % 262144

-- r is the word of a triple whose numbers fit 16 bits
pub record TripleWord (t : Triple) (r : ℕ) : Type 0 where
  pub is : r ≡ packed t
  pub parent_fits : node_number t.parent < 65536
  pub candidate_fits_lem : node_number t.candidate < 65536
  pub vset_fits : t.vset < 65536

word_small : (x : ConflictNode) → node_number x < 65536 → word_of x < 262144
word_small N.Root h = omega arith
word_small (N.Solvable s) h = omega arith
word_small N.UnresolvedDependency h = omega arith
word_small (N.Excluded r) h = omega arith

-- the parts of a word
module _ (p d v r : ℕ) (q : r ≡ p + 262144 * d + 68719476736 * v) (hp : p < 262144) (hd : d < 262144) where
  parent_part : r % 262144 ≡ p
  parent_part = omega arith

  rest_part : r / 262144 ≡ d + 262144 * v
  rest_part = omega arith

  candidate_part : r / 262144 % 262144 ≡ d
  candidate_part = rw rest_part (omega arith)

  vset_part : r / 68719476736 ≡ v
  vset_part = omega arith

module _ (t : Triple) (r : ℕ) (W : TripleWord t r) where
  at_parent : r % 262144 ≡ word_of t.parent
  at_parent =
      parent_part (word_of t.parent) (word_of t.candidate) t.vset r W.is (word_small t.parent W.parent_fits)
      (word_small t.candidate W.candidate_fits_lem)

  at_candidate : r / 262144 % 262144 ≡ word_of t.candidate
  at_candidate =
      candidate_part (word_of t.parent) (word_of t.candidate) t.vset r W.is (word_small t.parent W.parent_fits)
      (word_small t.candidate W.candidate_fits_lem)

  at_vset : r / 68719476736 ≡ t.vset
  at_vset =
      vset_part (word_of t.parent) (word_of t.candidate) t.vset r W.is (word_small t.parent W.parent_fits)
      (word_small t.candidate W.candidate_fits_lem)

  -- the round trip
  back : triple_of r ≡ t
  back = rw (at_parent, at_candidate, at_vset, node_back t.parent W.parent_fits, node_back t.candidate W.candidate_fits_lem)

  whole : WordWhole r
  whole =
      record {
        parent_word = rw (at_parent, node_back t.parent W.parent_fits);
        candidate_word = rw (at_candidate, node_back t.candidate W.candidate_fits_lem);
      }

same_triple_lem : (s t : Triple) → same_triple s t ≡ true → s ≡ t
same_triple_lem s t e =
    let a = and_true (same_node s.parent t.parent) (same_node s.candidate t.candidate && eqb s.vset t.vset) e in
    let b = and_true (same_node s.candidate t.candidate) (eqb s.vset t.vset) a.1 in
    let x : s.parent ≡ t.parent = same_true s.parent t.parent a.0 in
    let y : s.candidate ≡ t.candidate = same_true s.candidate t.candidate b.0 in
    let z : s.vset ≡ t.vset = eqb-true s.vset t.vset b.1 in
    ap (λ (n : ConflictNode). triple n s.candidate s.vset) x ∙ ap (λ (n : ConflictNode). triple t.parent n s.vset) y
    ∙ ap (λ (n : ℕ). triple t.parent t.candidate n) z

own_triple : (t : Triple) → same_triple t t ≡ true
own_triple t = rw (same_refl t.parent, same_refl t.candidate, eq-eqb t.vset t.vset refl)

packed_whole : (w : ℕ) → WordWhole w → packed (triple_of w) ≡ w
packed_whole w h = rw (h.parent_word, h.candidate_word) (omega arith)

-- words are equal where their triples are
same_packed : (t : Triple) (r w : ℕ) → TripleWord t r → WordWhole w → eqb r w ≡ same_triple t (triple_of w)
same_packed t r w W h =
    split (same_triple t (triple_of w))
    (λ e. rw e (eq-eqb r w (W.is ∙ ap packed (same_triple_lem t (triple_of w) e) ∙ packed_whole w h)))
    (λ e. rw e (ne_eqb r w (λ q. let z : t ≡ triple_of w = sym (back t r W) ∙ ap triple_of q in
    false≢true (sym e ∙ ap (same_triple t) (sym z) ∙ own_triple t))))

-- ---- the table of triples

-- a table of numbers: links 0 to 1023, heads 1024 to 3071, the last solvables 3072 to 3199
abbrev pub triple_lay : Layout
triple_lay = record { links = 0; items = 1024; heads = 1024; keys = 2048; size = 3456 }

abbrev pub hash_of : ℕ → ℕ
hash_of w = w % 2039

-- the first n triples, in the order made
unfoldable pub made_in : List ℕ → ℕ → List Triple
made_in tr n = map triple_of (take n tr)

-- 1 + the last solvable under each forbidden name, or 0
unfoldable pub last_in : List ℕ → List ℕ
last_in w = take 128 (drop 3072 w)

-- the promise: n words, each the one of its triple, chained by hash
pub record Triples (tr w : List ℕ) (n : ℕ) : Type 0 where
  pub long : length tr ≡ 1280
  pub chained : Chained triple_lay (keyed hash_of tr) w n
  pub good : (i : ℕ) → i < n → WordWhole (get_or tr i 0)

any_packed : (t : Triple) (r : ℕ) → TripleWord t r → (ws : List ℕ) → ((i : ℕ) → i < length ws → WordWhole (get_or ws i 0))
    → any (eqb r) ws ≡ any (same_triple t) (map triple_of ws)
any_packed t r W [] h = refl
any_packed t r W (w ∷ ws) h =
    let z : any (eqb r) ws ≡ any (same_triple t) (map triple_of ws) = any_packed t r W ws (λ i l. h (suc i) (omega arith)) in
    let y : eqb r w ≡ same_triple t (triple_of w) = same_packed t r w W (h 0 (omega arith)) in
    split (same_triple t (triple_of w)) (λ e. let u : eqb r w ≡ true = y ∙ e in rw (u, e, any)) (λ e. let u : eqb r w ≡ false = y ∙ e in rw (u, e, any) z)

-- a triple was made before just where its word stands in the table
pub made_before : (tr w : List ℕ) (n : ℕ) (t : Triple) (r : ℕ) → Triples tr w n → TripleWord t r → any (eqb r) (take n tr) ≡ any (same_triple t) (made_in tr n)
unfolding made_in
made_before tr w n t r T W =
    let l : length (take n tr) ≡ n = length-take-le n tr (omega (arith, T.long, T.chained.most)) in
    any_packed t r W (take n tr) (λ i h. let k : i < n = omega arith in rw (get_or-take n tr i 0 k) (T.good i k))

-- one triple more
pub made_new : (tr us w : List ℕ) (n : ℕ) (t : Triple) (r : ℕ) → Triples tr w n → us ≡ set tr n r → TripleWord t r → n < 1024
    → made_in us (n + 1) ≡ snoc (made_in tr n) t
unfolding made_in
made_new tr us w n t r T q W h =
    rw (q, add-one n, take-suc-set tr n r (omega (arith, T.long)), map-append, back t r W)

pub triples_add : (tr us w l : List ℕ) (n : ℕ) (t : Triple) (r : ℕ) → Triples tr w n → us ≡ set tr n r → l ≡ linked triple_lay w n (hash_of r) → TripleWord t r
    → n < 1024 → Triples us l (n + 1)
triples_add tr us w l n t r T q e W h =
    record {
      long = rw (q, length-set) T.long;
      chained = chain_add triple_lay hash_of tr us w l n (hash_of r) r T.chained q e refl (omega arith) h (omega (arith, T.long));
      good = goods;
    }
  where
    goods : (i : ℕ) → i < n + 1 → WordWhole (get_or us i 0)
    goods i k =
        rw q
        (split (eqb i n)
        (λ z. rw (eqb-true i n z, get_or-set_same tr n r 0 (omega (arith, T.long))) (whole t r W))
        (λ z. let d : i ≡ n → ⊥ = eqb-false i n z in rw (get_or-set_other tr n i r 0 d) (T.good i (omega (arith, d)))))

-- ---- the last solvable under each forbidden name

last_off : (n : ℕ) → n < 128 → Outside triple_lay (3072 + n)
last_off n h = record { off_links = λ e l q. omega arith; off_heads = λ e l q. omega arith }

pub last_get : (w : List ℕ) (n : ℕ) → n < 128 → get_or w (3072 + n) 0 ≡ get_or (last_in w) n 0
unfolding last_in
last_get w n h = sym (get_or-take 128 (drop 3072 w) n 0 h ∙ get_or-drop 3072 w n 0)

pub last_put : (w l : List ℕ) (n v : ℕ) → l ≡ set w (3072 + n) v → n < 128 → last_in l ≡ set (last_in w) n v
unfolding last_in
last_put w l n v q h = rw (q, drop-set-add 3072 w n v, take-set-lt 128 (drop 3072 w) n v h)

pub triples_put : (tr w l : List ℕ) (m n v : ℕ) → Triples tr w m → l ≡ set w (3072 + n) v → n < 128 → Triples tr l m
triples_put tr w l m n v T q h =
    record { long = T.long; chained = chain_put triple_lay (keyed hash_of tr) w l m (3072 + n) v T.chained (last_off n h) q; good = T.good }

-- the chains stand before them
pub last_linked : (w l : List ℕ) (n h : ℕ) → l ≡ linked triple_lay w n h → n < 1024 → h < 2048 → last_in l ≡ last_in w
unfolding last_in
last_linked w l n h q a b =
    rw (q, drop-set-lt 3072 (set w n (get_or w (1024 + h) 0)) (1024 + h) (n + 1) (omega arith), drop-set-lt 3072 w n (get_or w (1024 + h) 0) (omega arith))

-- ---- a table of zeros holds none

pub record Clear (w : List ℕ) : Type 0 where
  pub wide : length w ≡ 3456
  pub zeros : (s : ℕ) → get_or w s 0 ≡ 0

pub triples_none : (tr w : List ℕ) → Clear w → length tr ≡ 1280 → Triples tr w 0
triples_none tr w C h =
    record {
      long = h;
      chained = chain_none triple_lay (keyed hash_of tr) w (fits_before triple_lay (omega arith) (omega arith)) C.wide (λ n l. C.zeros (1024 + n));
      good = λ i l. absurd (never i l);
    }
  where
    never : (i : ℕ) → i < 0 → ⊥
    never i l = omega arith

pub made_none : (tr : List ℕ) → made_in tr 0 ≡ []
unfolding made_in
made_none tr = refl

pub last_none : (w : List ℕ) → Clear w → last_in w ≡ replicate 128 0
unfolding last_in
last_none w C =
    let n : length (drop 3072 w) ≡ 384 = rw length-drop (omega (arith, C.wide)) in
    let a : length (take 128 (drop 3072 w)) ≡ 128 = length-take-le 128 (drop 3072 w) (omega arith) in
    ext_get_or 0 (take 128 (drop 3072 w)) (replicate 128 0) (a ∙ sym (length-replicate {A = ℕ} 128 0))
    (λ i l. let k : i < 128 = omega arith in
    get_or-take 128 (drop 3072 w) i 0 k ∙ get_or-drop 3072 w i 0 ∙ C.zeros (3072 + i) ∙ sym (get_or-replicate 128 i 0 0 k))

pub clear_fresh : Clear (replicate 3456 0)
clear_fresh = record { wide = length-replicate {A = ℕ} 3456 0; zeros = zero_at }
  where
    zero_at : (s : ℕ) → ◌≡◌ {A = ℕ} (get_or (replicate 3456 0) s 0) 0
    zero_at s =
        split (ltb s 3456)
        (λ e. get_or-replicate 3456 s 0 0 (ltb-true s 3456 e))
        (λ e. let h : length (replicate {A = ℕ} 3456 0) ≤ s = rw (length-replicate {A = ℕ} 3456 0) (ltb-false s 3456 e) in
        get_or-eq_default (replicate 3456 0) 0 h)

-- ---- packing, as the code does it

-- r is the word of a node whose number fits 16 bits
pub word_packed : (p d : ConflictNode) (v a b : ℕ) → NodeWord p a → NodeWord d b → v < 65536 → TripleWord (triple p d v) (a + 262144 * b + 68719476736 * v)
word_packed p d v a b P D f =
    record { is = rw (P.is, D.is); parent_fits = P.fits; candidate_fits_lem = D.fits; vset_fits = f }

pub held : (tr w : List ℕ) (n : ℕ) → Triples tr w n → n ≤ length tr
held tr w n T = omega (arith, T.long, T.chained.most)

-- the chain's number as a call gave it
pub hash_linked : (w l : List ℕ) (n h t : ℕ) → l ≡ linked triple_lay w n h → h ≡ hash_of t → l ≡ linked triple_lay w n (hash_of t)
hash_linked w l n h t q e = rw (← e) q

-- two words that the relation allows are equal
pub word_one : (t : Triple) (r w : ℕ) → TripleWord t r → TripleWord t w → r ≡ w
word_one t r w p q = p.is ∙ sym q.is
