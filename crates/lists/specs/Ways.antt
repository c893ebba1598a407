-- The ways through the code, each with what it leaves.
use Rattle.std.specs.Prelude.{◌≡◌, refl, Bool, true, false, cond, set, ltb, Ok, Err}
use Rattle.std.proofs.Math.Path.{sym, ap}
use Rattle.std.proofs.Common.{◌∙◌, arith, drop-cons, lt-ltb, le-ltb}
use mathlib.Core.List.{List, [], ◌∷◌, ◌++◌, map}
use Prim.Native.Nat.{ℕ, zero, suc, ◌+◌, ◌/◌, ◌%◌, ◌<◌, ◌≤◌}
use Rattle.std.proofs.Math.ListN.{length, get_or, drop, length-map}
use Rattle.std.proofs.Math.Seq.{append_snoc}
use Rattle.std.proofs.lemmas.List.{set_at}
use Rattle.basis.specs.Guard.{guard}
use Rattle.basis.specs.Lists.{upto}
use Rattle.records.specs.Tables.{Tables}
use Rattle.records.specs.Read.{read_of, tables_of}
use Rattle.store.specs.declared.ConflictNode.{ConflictNode}
use Rattle.store.specs.declared.Size.{Size}
use Rattle.store.specs.Graph.{Graph, node_at, first_at}
use Rattle.store.specs.Table.{graph_in, Stored, nodes_count, number_fits, first_in, first_in_lem}
use Rattle.links.specs.Build.{Chains}
use Rattle.graph.specs.Files.{Made, Makes}
use Rattle.graph.specs.Laws.Files.{makes_good, makes_graph, makes_refused}
use Rattle.labels.specs.Labels.{installable, missing}
use Rattle.labels.specs.Marks.{bits_of, label_bits, marks_at_lem}
use Rattle.groups.specs.Groups.{title_of, lead_by, lead_of}
use Rattle.groups.specs.Leads.{leads_to, leads_at, lead_le}
use Rattle.groups.specs.Naming.{name_of}
use Rattle.lists.specs.Listing.{entries_to, kind_small}
use Rattle.store.specs.Numbers.{node_kind}
use Rattle.lists.specs.Listing as W
use Rattle.lists.specs.Entry.{word_of, Narrow, Narrows}
use Rattle.lists.specs.declared.entries.NodeEntry.{NodeEntry}
use Rattle.lists.specs.declared.nodes.Counted.{Counted}
use Rattle.lists.specs.Nodes.{flag, node_entry, node_entries, Nodes, entered, denied, nodes_drawn, nodes_read, nodes_of, refusal_of}
use Rattle.lists.specs.Listed.{words_over, Listed}

-- ---- numbers in a row

length_upto : (k a : ℕ) → length (upto k a) ≡ k
length_upto zero a = refl
length_upto (suc k) a = ap suc (length_upto k (suc a))

module _ {A : Type 0} (f : ℕ → A) where
  map_last : (k a : ℕ) → map f (upto (suc k) a) ≡ map f (upto k a) ++ (f (a + k) ∷ [])
  map_last zero a = let z : a ≡ a + 0 = omega arith in ap (λ (n : ℕ). f n ∷ []) z
  map_last (suc k) a =
      let z : suc a + k ≡ a + suc k = omega arith in
      ap (λ (t : List A). f a ∷ t) (map_last k (suc a) ∙ ap (λ (n : ℕ). map f (upto k (suc a)) ++ (f n ∷ [])) z)

  map_same : (h : ℕ → A) (k a : ℕ) → ((n : ℕ) → n < a + k → f n ≡ h n) → map f (upto k a) ≡ map h (upto k a)
  map_same h zero a e = refl
  map_same h (suc k) a e =
      ap (λ (x : A). x ∷ map f (upto k (suc a))) (e a (omega arith))
      ∙ ap (λ (t : List A). h a ∷ t) (map_same h k (suc a) (λ n i. e n (omega arith)))

map_twice : (f : ℕ → NodeEntry) (l : List ℕ) → map word_of (map f l) ≡ map (λ n. word_of (f n)) l
map_twice f [] = refl
map_twice f (n ∷ l) = ap (λ (t : List ℕ). word_of (f n) ∷ t) (map_twice f l)

narrow_all : (f : ℕ → NodeEntry) (k a : ℕ) → ((n : ℕ) → n < a + k → Narrow (f n)) → Narrows (map f (upto k a))
narrow_all f zero a e = tt
narrow_all f (suc k) a e = (e a (omega arith), narrow_all f k (suc a) (λ n i. e n (omega arith)))

-- ---- one node's word

bits_first : (a b : Bool) → bits_of a b % 2 ≡ flag a
bits_first true true = refl
bits_first true false = refl
bits_first false true = refl
bits_first false false = refl

bits_second : (a b : Bool) → bits_of a b / 2 % 2 ≡ flag b
bits_second true true = refl
bits_second true false = refl
bits_second false true = refl
bits_second false false = refl

flag_small : (b : Bool) → flag b < 256
flag_small true = omega arith
flag_small false = omega arith

kind_fits : (x : ConflictNode) → node_kind x < 256
kind_fits x = omega (arith, kind_small x)

-- a clause's number is one of 16 bits
first_fits : (g : List ℕ) (s : Size) → Stored g s → (n : ℕ) → n < s.nodes → first_at (graph_in g s) n < 65536
unfolding first_in guard
first_fits g s S n h =
    let z : first_in g n < 65536 = rw (lt-ltb n 128 (omega (arith, S.nodes_most)), guard) (omega arith) in
    rw (first_in_lem g s S n h) at z

module _ (T : Tables) (g : List ℕ) (s : Size) (S : Stored g s) where
  pub entries_count : length (node_entries T (graph_in g s)) ≡ s.nodes
  unfolding node_entries
  entries_count =
      length-map (upto (length (graph_in g s).nodes) 0) (node_entry T (graph_in g s))
      ∙ length_upto (length (graph_in g s).nodes) 0
      ∙ nodes_count g s S

  narrow_entry : (n : ℕ) → n < s.nodes → Narrow (node_entry T (graph_in g s) n)
  unfolding node_entry lead_of
  narrow_entry n h =
      let G : Graph = graph_in g s in
      let c : length G.nodes ≡ s.nodes = nodes_count g s S in
      let l : lead_by (title_of (name_of T) G) G n ≤ n = lead_le (title_of (name_of T) G) G n (omega (arith, c)) in
      record {
        kind_fits = kind_fits (node_at G n);
        number_fits = number_fits g s n;
        group_fits = omega (arith, l, S.nodes_most);
        installable_fits = flag_small (installable G n);
        missing_fits = flag_small (missing G n);
        clause_fits = first_fits g s S n h;
      }

  pub narrow_entries : Narrows (node_entries T (graph_in g s))
  unfolding node_entries
  narrow_entries =
      narrow_all (node_entry T (graph_in g s)) (length (graph_in g s).nodes) 0 (λ n h. narrow_entry n (omega (arith, nodes_count g s S)))

-- ---- all nodes' words

-- node n's word, from the tables of marks and leads
abbrev word_at : Graph → List ℕ → List ℕ → ℕ → ℕ
word_at G marks leads n = W.node_word (node_at G n) (get_or marks n 0) (get_or leads n 0) (first_at G n)

words_front : (G : Graph) (marks leads : List ℕ) (k : ℕ) (l : List ℕ) → k ≤ length l
    → entries_to G marks leads k l ≡ map (word_at G marks leads) (upto k 0) ++ drop k l
unfolding entries_to
words_front G marks leads zero l h = refl
words_front G marks leads (suc k) l h =
    let f : ℕ → ℕ = word_at G marks leads in
    let z : 0 + k ≡ k = omega arith in
    let e : map f (upto (suc k) 0) ≡ map f (upto k 0) ++ (f k ∷ []) = map_last f k 0 ∙ ap (λ (n : ℕ). map f (upto k 0) ++ (f n ∷ [])) z in
    ap (λ (t : List ℕ). set t k (f k)) (words_front G marks leads k l (omega arith) ∙ ap (λ (t : List ℕ). map f (upto k 0) ++ t) (drop-cons l k 0 h))
    ∙ (set_at (map f (upto k 0)) (get_or l k 0) (drop (suc k) l) (f k) k (length-map (upto k 0) f ∙ length_upto k 0)
    ∙ (sym (append_snoc (map f (upto k 0)) (f k) (drop (suc k) l)) ∙ ap (λ (t : List ℕ). t ++ drop (suc k) l) (sym e)))

module _ (T : Tables) (g : List ℕ) (s : Size) (ls marks leads l m words : List ℕ) (C : Chains g s ls) (q : marks ≡ label_bits (graph_in g s)) (p : leads
    ≡ leads_to (title_of (name_of T) (graph_in g s)) (graph_in g s) s.nodes m) (b : length m ≡ 128) where
  word_is_lem : (n : ℕ) → n < s.nodes → word_at (graph_in g s) marks leads n ≡ word_of (node_entry T (graph_in g s) n)
  unfolding W.node_word node_entry lead_of
  word_is_lem n h =
      let G : Graph = graph_in g s in
      let i : get_or marks n 0 ≡ bits_of (installable G n) (missing G n) = ap (λ (t : List ℕ). get_or t n 0) q
      ∙ marks_at_lem G n (omega (arith, C.stored.nodes_most)) in
      let j : get_or leads n 0 ≡ lead_by (title_of (name_of T) G) G n = ap (λ (t : List ℕ). get_or t n 0) p
      ∙ leads_at (title_of (name_of T) G) G s.nodes m (omega (arith, b, C.stored.nodes_most)) n h in
      let k : lead_by (title_of (name_of T) G) G n ≤ n = lead_le (title_of (name_of T) G) G n (omega (arith, nodes_count g s C.stored)) in
      let o : lead_by (title_of (name_of T) G) G n % 256 ≡ lead_by (title_of (name_of T) G) G n = omega (arith, k, C.stored.nodes_most) in
      rw (i, j, o, bits_first (installable G n) (missing G n), bits_second (installable G n) (missing G n))

  words_whole : words ≡ entries_to (graph_in g s) marks leads s.nodes l → length l ≡ 128 → words ≡ words_over (node_entries T (graph_in g s)) l
  unfolding node_entries
  words_whole e a =
      let G : Graph = graph_in g s in
      let N : ℕ = length G.nodes in
      let c : s.nodes ≡ N = sym (nodes_count g s C.stored) in
      let many : length (map (node_entry T G) (upto N 0)) ≡ N = length-map (upto N 0) (node_entry T G) ∙ length_upto N 0 in
      e ∙ ap (λ (k : ℕ). entries_to G marks leads k l) c
      ∙ words_front G marks leads N l (omega (arith, a, c, C.stored.nodes_most))
      ∙ ap (λ (t : List ℕ). t ++ drop N l)
      (map_same (word_at G marks leads) (λ n. word_of (node_entry T G n)) N 0 (λ n h. word_is_lem n (omega (arith, c))) ∙ sym (map_twice (node_entry T G) (upto N 0)))
      ∙ ap (λ (k : ℕ). map word_of (map (node_entry T G) (upto N 0)) ++ drop k l) (sym many)

-- ---- a graph that is drawn

module _ (T : Tables) (g : List ℕ) (s : Size) (ls l : List ℕ) (room : ℕ) (C : Chains g s ls) where
  short_room : room < s.nodes → ltb room (length (node_entries T (graph_in g s))) ≡ true
  short_room h = rw (entries_count T g s C.stored) (lt-ltb room s.nodes h)

  pub listed_short : (r : Counted) → r ≡ refusal_of 10 0 → room < s.nodes → Listed (entered (node_entries T (graph_in g s))) room l r l
  listed_short r q h =
      let t : ltb room (length (node_entries T (graph_in g s))) ≡ true = short_room h in
      record { counted = rw (t, cond) q; written = rw (t, cond) refl; few = rw q (omega arith); narrow = rw (t, cond) tt }

  module _ (marks leads m words : List ℕ) (q : marks ≡ label_bits (graph_in g s)) (p : leads
      ≡ leads_to (title_of (name_of T) (graph_in g s)) (graph_in g s) s.nodes m) (e : words ≡ entries_to (graph_in g s) marks leads s.nodes l) where
    pub listed_whole : s.nodes ≤ room → length m ≡ 128 → length l ≡ 128
        → Listed (entered (node_entries T (graph_in g s))) room l (record { number = 0; place = 0; units = 1; count = s.nodes }) words
    listed_whole h b a =
        let k : length (node_entries T (graph_in g s)) ≡ s.nodes = entries_count T g s C.stored in
        let t : ltb room (length (node_entries T (graph_in g s))) ≡ false = rw k (le-ltb room s.nodes h) in
        record {
          counted = rw (t, cond, k);
          written = rw (t, cond) (words_whole T g s ls marks leads l m words C q p b e a);
          few = C.stored.nodes_most;
          narrow = rw (t, cond) (narrow_entries T g s C.stored);
        }

-- ---- a file

denied_listed : (X : Nodes) (room : ℕ) (l : List ℕ) (r : Counted) (k p : ℕ) → X ≡ denied k p → r ≡ refusal_of k p → Listed X room l r l
denied_listed X room l r k p e q = rw e (record { counted = q; written = refl; few = rw q (omega arith); narrow = tt })

-- m is what the file makes
module _ (file ix g w : List ℕ) (m : Made) (R : Makes file ix g w m) (room : ℕ) (l : List ℕ) (r : Counted) where
  pub listed_refused : (k p : ℕ) → m ≡ Err (record { number = k; place = p }) → r ≡ refusal_of k p → Listed (nodes_of file) room l r l
  unfolding nodes_of
  listed_refused k p e h =
      denied_listed (nodes_of file) room l r k p
      (makes_refused file ix g w m R nodes_read denied (λ i j. refl) (λ T i j z. ap (nodes_drawn T) z) k p e)
      h

  pub listed_drawn : (ws : List ℕ) (s : Size) → m ≡ Ok s → Listed (entered (node_entries (tables_of file) (graph_in g s))) room l r ws
      → Listed (nodes_of file) room l r ws
  unfolding nodes_of
  listed_drawn ws s e L =
      let x : nodes_of file ≡ entered (node_entries (tables_of file) (graph_in g s)) = rw (makes_good file ix g w m R s e, makes_graph file ix g w m R s e) in
      rw x L
