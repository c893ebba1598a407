-- The table of the first two nodes, root and unresolved, made from an empty one: it holds the start graph, which can grow.
use Rattle.std.specs.Prelude.{◌≡◌, refl, List, [], ◌∷◌, ◌++◌, ℕ, zero, suc, ◌+◌, ◌*◌, ◌/◌, ◌%◌, ◌<◌, length, get_or, take, drop, set, replicate}
use Rattle.std.proofs.Common.{sym, ap, ◌∙◌, arith, length-set, length-drop, take-suc-set, get_or-set_same, get_or-set_other}
use Rattle.std.proofs.lemmas.List.{length-replicate, drop-set-add}
use Rattle.store.specs.declared.Size.{Size}
use Rattle.store.specs.Direct.{entry_in}
use Rattle.store.specs.Graph.{start_graph}
use Rattle.store.specs.Words.{word_of, node_of, first_clause}
use Rattle.store.specs.Table.{graph_in, Growing}
use Rattle.store.specs.Finding.{word_at}

abbrev two : Size
two = record { nodes = 2; edges = 0; hand = 65535 }

-- the words of root and unresolved, 0 and 2, with clause 65,535 at 2^18
abbrev begun : List ℕ → List ℕ
begun g = set (set g 1024 17179607040) 1025 17179607042

blank_long : (g : List ℕ) → g ≡ replicate 1152 0 → length g ≡ 1152
blank_long g z = ap length z ∙ length-replicate {A = ℕ} 1152 0

blank_at_lem : (k i : ℕ) → ◌≡◌ {A = ℕ} (get_or (replicate k 0) i 0) 0
blank_at_lem zero i = refl
blank_at_lem (suc k) zero = refl
blank_at_lem (suc k) (suc i) = blank_at_lem k i

pub start_graph_lem : (g : List ℕ) → g ≡ replicate 1152 0 → graph_in (begun g) two ≡ start_graph
unfolding graph_in
start_graph_lem g z =
    let l : length g ≡ 1152 = blank_long g z in
    let n : length (drop 1024 g) ≡ 128 = rw length-drop (omega arith) in
    let a : drop 1024 (begun g) ≡ set (set (drop 1024 g) 0 17179607040) 1 17179607042 =
    drop-set-add 1024 (set g 1024 17179607040) 1 17179607042
    ∙ ap (λ (v : List ℕ). set v 1 17179607042) (drop-set-add 1024 g 0 17179607040) in
    let b : take 2 (set (set (drop 1024 g) 0 17179607040) 1 17179607042) ≡ take 1 (set (drop 1024 g) 0 17179607040) ++ (17179607042 ∷ []) =
    take-suc-set (set (drop 1024 g) 0 17179607040) 1 17179607042 (rw length-set (omega arith)) in
    let c : take 1 (set (drop 1024 g) 0 17179607040) ≡ 17179607040 ∷ [] = take-suc-set (drop 1024 g) 0 17179607040 (omega arith) in
    rw (a, b, c)

pub start_growing : (g : List ℕ) → g ≡ replicate 1152 0 → Growing (begun g) two
start_growing g z =
    record {
      stored = record {
        long = rw (length-set, length-set) (blank_long g z);
        some = omega arith;
        nodes_most = omega arith;
        edges_most = omega arith;
        root = first;
        word = words;
        no_node = λ i h m. other (1024 + i) (λ q. omega arith) (λ q. omega arith);
        packed = λ e h. absurd (none e h);
        no_edge_lem = λ e h m. ap (λ (n : ℕ). n % 72057594037927936) (other e (λ q. omega arith) (λ q. omega arith));
        source = λ e h. absurd (none e h);
        target = λ e h. absurd (none e h);
        direct = record { told = told; stands = stands };
      };
      two = omega arith;
      second = second;
      unlike = unlike;
    }
  where
    none : (e : ℕ) → e < 0 → ⊥
    none e h = omega arith

    other : (i : ℕ) → (i ≡ 1025 → ⊥) → (i ≡ 1024 → ⊥) → get_or (begun g) i 0 ≡ 0
    other i a b =
        get_or-set_other (set g 1024 17179607040) 1025 i 17179607042 0 a ∙ get_or-set_other g 1024 i 17179607040 0 b ∙ rw z (blank_at_lem 1152 i)

    first : get_or (begun g) 1024 0 ≡ 17179607040
    first =
        get_or-set_other (set g 1024 17179607040) 1025 1024 17179607042 0 (λ q. omega arith)
        ∙ get_or-set_same g 1024 17179607040 0 (omega (arith, blank_long g z))

    second : get_or (begun g) 1025 0 ≡ 17179607042
    second = get_or-set_same (set g 1024 17179607040) 1025 17179607042 0 (rw length-set (omega (arith, blank_long g z)))

    words : (i : ℕ) → i < 2
        → word_of (node_of (get_or (begun g) (1024 + i) 0)) + 262144 * first_clause (get_or (begun g) (1024 + i) 0) ≡ get_or (begun g) (1024 + i) 0
    words zero h = rw first
    words (suc zero) h = rw second
    words (suc (suc i)) h = let f : ⊥ = omega arith in absurd f

    unlike : (i j : ℕ) → i < j → j < 2 → word_at (begun g) i ≡ word_at (begun g) j → ⊥
    unlike zero zero b c q = omega arith
    unlike zero (suc zero) b c q =
        let z : ◌≡◌ {A = ℕ} 0 2 = ap (λ (n : ℕ). n % 262144) (sym first) ∙ q ∙ ap (λ (n : ℕ). n % 262144) second in omega arith
    unlike zero (suc (suc j)) b c q = omega arith
    unlike (suc i) j b c q = omega arith

    told : (i k : ℕ) → i < 2 → k < 1024 → word_at (begun g) i ≡ 1 + 2 * k → entry_in (begun g) k ≡ i + 1
    told zero k h m q =
        let z : ◌≡◌ {A = ℕ} 0 (1 + 2 * k) = ap (λ (n : ℕ). n % 262144) (sym first) ∙ q in let f : ⊥ = omega arith in absurd f
    told (suc zero) k h m q =
        let z : ◌≡◌ {A = ℕ} 2 (1 + 2 * k) = ap (λ (n : ℕ). n % 262144) (sym second) ∙ q in let f : ⊥ = omega arith in absurd f
    told (suc (suc i)) k h m q = let f : ⊥ = omega arith in absurd f

    stands : (i k : ℕ) → k < 1024 → entry_in (begun g) k ≡ i + 1 → (i < 2) × (word_at (begun g) i ≡ 1 + 2 * k)
    stands i k m q =
        let z : ◌≡◌ {A = ℕ} 0 (i + 1) =
        ap (λ (n : ℕ). n / 72057594037927936) (sym (other k (λ y. omega arith) (λ y. omega arith))) ∙ q in
        let f : ⊥ = omega arith in absurd f

pub ruleset starts = (start_graph_lem, start_growing)
