-- Which number a node has in a table, by its word: a walk over the nodes' words, and the direct table, which gives the same without one.
use Rattle.std.specs.Prelude.{◌≡◌, refl, Bool, true, false, List, ℕ, zero, suc, ◌+◌, ◌*◌, ◌-◌, ◌/◌, ◌%◌, ◌<◌, ◌≤◌, get_or, drop, eqb}
use Rattle.std.proofs.Common.{sym, ap, ◌∙◌, arith, drop_of_length-le, drop-cons, length-take-le, eqb-true, eq-eqb, ne_eqb}
use Rattle.std.proofs.Math.Option.{Option, none, some}
use Rattle.std.proofs.Math.Numerals.{add-one}
use Rattle.std.proofs.Math.ListN.{length, length-drop}
use Rattle.std.proofs.Math.Seq.{get_or-take, get_or-drop}
use Rattle.std.proofs.lemmas.Bool.{eqb-false}
use Rattle.basis.specs.Lists.{place}
use Rattle.basis.specs.Members.{split}
use Rattle.store.specs.declared.Size.{Size}
use Rattle.store.specs.Direct.{entry_in}
use Rattle.store.specs.Table.{node_words, Stored, Growing}

-- ---- what is looked for

-- the word of node i, the clause that first added it left out
abbrev pub word_at : List ℕ → ℕ → ℕ
word_at g i = get_or g (1024 + i) 0 % 262144

-- v is word w, whatever its clause
abbrev pub is_word : ℕ → ℕ → Bool
is_word w v = eqb w (v % 262144)

-- the place that was found, or k
abbrev pub placed : Option ℕ → ℕ → ℕ
placed none k = k
placed (some i) k = i

-- the number of the first node, of k, that has word w, or k
unfoldable pub find_of : List ℕ → ℕ → ℕ → ℕ
find_of g k w = placed (place (is_word w) (node_words g k) 0) k

-- the same, looked for from node i on
unfoldable pub find_left : List ℕ → ℕ → ℕ → ℕ → ℕ
find_left g k w i = placed (place (is_word w) (drop i (node_words g k)) i) k

-- ---- the walk: looking from the first node on is looking; at node i it is found, or is the same from the next one on; the last was the
-- last chance

pub find_start : (g : List ℕ) (k w : ℕ) → find_left g k w 0 ≡ find_of g k w
unfolding find_left find_of
find_start g k w = refl

module _ (g : List ℕ) (k w i W : ℕ) (inv : find_left g k w i ≡ W) (h : i < k) (m : k ≤ 128) (l : length g ≡ 1152) where
  opened : placed (elim (eqb w (word_at g i)) [ true ↦ some i | false ↦ place (is_word w) (drop (suc i) (node_words g k)) (suc i) ]) k ≡ W
  unfolding find_left
  opened =
      let a : k ≤ length (drop 1024 g) = rw length-drop (omega arith) in
      let z : i < length (node_words g k) = rw (length-take-le k (drop 1024 g) a) h in
      rw (drop-cons (node_words g k) i 0 z, get_or-take k (drop 1024 g) i 0 h, get_or-drop 1024 g i 0) at inv

  pub find_hit : word_at g i ≡ w → i ≡ W
  find_hit e = rw (eq-eqb w (word_at g i) (sym e)) at opened

  pub find_next : (word_at g i ≡ w → ⊥) → find_left g k w (i + 1) ≡ W
  unfolding find_left
  find_next e = rw add-one (rw (ne_eqb w (word_at g i) (λ q. e (sym q))) at opened)

pub find_end : (g : List ℕ) (k w i W : ℕ) → find_left g k w i ≡ W → k ≤ i → k ≤ 128 → length g ≡ 1152 → k ≡ W
unfolding find_left
find_end g k w i W inv l m q =
    let a : k ≤ length (drop 1024 g) = rw length-drop (omega arith) in
    let z : length (node_words g k) ≤ i = rw (length-take-le k (drop 1024 g) a) l in
    rw (drop_of_length-le (node_words g k) z) at inv

pub ruleset finds = (find_start, find_hit, find_next, find_end)

-- ---- where a word stands is where it is found

-- node n has word w and no node before it does
first_near : (g : List ℕ) (s : Size) (w n : ℕ) → Stored g s → n < s.nodes → word_at g n ≡ w
    → ((i : ℕ) → i < n → word_at g i ≡ w → ⊥) → n ≡ find_of g s.nodes w
first_near g s w n S h e u = find_hit g s.nodes w n (find_of g s.nodes w) (left n (omega arith)) h S.nodes_most S.long e
  where
    left : (i : ℕ) → i ≤ n → find_left g s.nodes w i ≡ find_of g s.nodes w
    left zero l = find_start g s.nodes w
    left (suc i) l =
        let z : find_left g s.nodes w (i + 1) ≡ find_of g s.nodes w =
        find_next g s.nodes w i (find_of g s.nodes w) (left i (omega arith)) (omega arith) S.nodes_most S.long
        (u i (omega arith)) in
        rw add-one at z

-- no node has word w
find_none : (g : List ℕ) (s : Size) (w : ℕ) → Stored g s → ((i : ℕ) → i < s.nodes → word_at g i ≡ w → ⊥) → s.nodes ≡ find_of g s.nodes w
find_none g s w S u =
    find_end g s.nodes w s.nodes (find_of g s.nodes w) (left s.nodes (omega arith)) (omega arith) S.nodes_most S.long
  where
    left : (i : ℕ) → i ≤ s.nodes → find_left g s.nodes w i ≡ find_of g s.nodes w
    left zero h = find_start g s.nodes w
    left (suc i) h =
        let z : find_left g s.nodes w (i + 1) ≡ find_of g s.nodes w =
        find_next g s.nodes w i (find_of g s.nodes w) (left i (omega arith)) (omega arith) S.nodes_most S.long
        (u i (omega arith)) in
        rw add-one at z

-- while the graph grows no two nodes have one word: node n has word w
pub find_near : (g : List ℕ) (s : Size) (w n : ℕ) → Growing g s → n < s.nodes → word_at g n ≡ w → n ≡ find_of g s.nodes w
find_near g s w n P h e = first_near g s w n P.stored h e (λ i l q. P.unlike i n l h (q ∙ sym e))

-- ---- the direct table: entry e of an odd word w below 2,048 is one more than the number, and 0 where no node has the word

module _ (g : List ℕ) (s : Size) (w e : ℕ) (S : Stored g s) (q : e ≡ entry_in g (w / 2)) (o : w % 2 ≡ 1) (h : w < 2048) where
  pub settled_found : (e ≡ 0 → ⊥) → (e - 1) ≡ find_of g s.nodes w
  settled_found d =
      let a : entry_in g (w / 2) ≡ (e - 1) + 1 = sym q ∙ back e d in
      let z : ((e - 1) < s.nodes) × (word_at g (e - 1) ≡ 1 + 2 * (w / 2)) = S.direct.stands (e - 1) (w / 2) (omega arith) a in
      first_near g s w (e - 1) S z.0 (z.1 ∙ omega arith)
      (λ i l y. let b : entry_in g (w / 2) ≡ i + 1 = S.direct.told i (w / 2) (omega (arith, z.0)) (omega arith) (y ∙ omega arith) in
      let c : (e - 1) + 1 ≡ i + 1 = sym a ∙ b in omega arith)
    where
      back : (e : ℕ) → (e ≡ 0 → ⊥) → e ≡ (e - 1) + 1
      back e d = omega (arith, d)

  pub settled_none : e ≡ 0 → s.nodes ≡ find_of g s.nodes w
  settled_none z =
      find_none g s w S
      (λ i l y. let a : entry_in g (w / 2) ≡ i + 1 = S.direct.told i (w / 2) l (omega arith) (y ∙ omega arith) in
      let b : ◌≡◌ {A = ℕ} 0 (i + 1) = sym z ∙ q ∙ a in omega arith)

pub ruleset settled_directs = (settled_found, settled_none)

-- the same while the graph grows
module _ (g : List ℕ) (s : Size) (w e : ℕ) (P : Growing g s) (q : e ≡ entry_in g (w / 2)) (o : w % 2 ≡ 1) (h : w < 2048) where
  pub direct_found : (e ≡ 0 → ⊥) → (e - 1) ≡ find_of g s.nodes w
  direct_found d = settled_found g s w e P.stored q o h d

  pub direct_none : e ≡ 0 → s.nodes ≡ find_of g s.nodes w
  direct_none z = settled_none g s w e P.stored q o h z

-- root and unresolved have the words 0 and 2, and the numbers 0 and 1
pub direct_few : (g : List ℕ) (s : Size) (w : ℕ) → Growing g s → w ≤ 2 → (w % 2 ≡ 1 → ⊥) → w / 2 ≡ find_of g s.nodes w
direct_few g s w P h d =
    split (eqb w 0)
    (λ t. let z : w ≡ 0 = eqb-true w 0 t in rw z (find_near g s 0 0 P P.stored.some (ap (λ (n : ℕ). n % 262144) P.stored.root)))
    (λ t. let f : w ≡ 0 → ⊥ = eqb-false w 0 t in
    let z : w ≡ 2 = two_is w h d f in
    rw z (find_near g s 2 1 P P.two (ap (λ (n : ℕ). n % 262144) P.second)))
  where
    two_is : (w : ℕ) → w ≤ 2 → (w % 2 ≡ 1 → ⊥) → (w ≡ 0 → ⊥) → w ≡ 2
    two_is zero h d f = absurd (f refl)
    two_is (suc zero) h d f = absurd (d refl)
    two_is (suc (suc w)) h d f = omega arith

pub ruleset directs = (direct_found, direct_none, direct_few)
