-- Equal sorted lists of edges have equal fingerprints, and one pass over all edges gives the fingerprint of every node.
use Rattle.std.specs.Prelude.{◌≡◌, ℕ, zero, suc, ◌+◌, ◌*◌, ◌%◌, ◌^◌, ◌<◌, ◌≤◌, Bool, true, false, List, [], ◌∷◌, ◌++◌, map, reverse, length, take, replicate, ◌==◌, ◌≢◌, nat_eq, slice_index, slice_index_or, slice_set}
use Rattle.std.proofs.Math.Path.{refl}
use Rattle.std.proofs.Common.{sym, ap, ◌∙◌, add-one, length-set, get_or-set_same, get_or-set_other, take-suc}
use mathlib.Core.List.{reverse-cons}
use Rattle.std.proofs.Math.Option.{Option}
use Rattle.std.proofs.Math.Nat.{not-suc-le-zero}
use native.Mathlib.Omega.{arith}
use Rattle.std.proofs.lemmas.List.{length-replicate, get_or-replicate}
use Rattle.std.proofs.Math.Seq.{take-length}
use borrow.Author.Tests.{eqb-true, eqb-false, eq-eqb, ne_eqb}
use Rattle.basis.specs.Lists.{filter}
use Rattle.basis.specs.Members.{split}
use Rattle.store.specs.declared.Edge.{Edge}
use Rattle.store.specs.declared.Size.{Size}
use Rattle.store.specs.Graph.{Graph, out, into}
use Rattle.store.specs.Table.{graph_in, edge_in, no_edge, Stored, edges_count, edge_in_lem, source_below, target_below}
use Rattle.groups.specs.Groups.{key_le, insert, sort, out_keys, in_keys}
use Rattle.groups.specs.Codes.{key_code, out_code, in_code, out_codes, in_codes, out_codes_lem, in_codes_lem}
use Rattle.groups.specs.Multi.{bump}
use Rattle.groups.specs.Keys.{key_at}
use Rattle.groups.specs.Prints.{mix_of, total_of, print_of, Printed}

-- ---- "Equal lists must have equal fingerprints"

-- the total of a list of keys
abbrev keys_total : Bool → List (Option ℕ × ℕ) → ℕ
keys_total d l = total_of d (map key_code l)

total_insert : (d : Bool) (x : Option ℕ × ℕ) (l : List (Option ℕ × ℕ)) → keys_total d (insert x l) ≡ mix_of d (key_code x) + keys_total d l
unfolding total_of
total_insert d x [] = refl
total_insert d x (y ∷ l) = split (key_le x y) (λ t. rw (t, insert)) (λ t. rw (t, insert, total_insert d x l) (omega arith))

total_sort : (d : Bool) (l : List (Option ℕ × ℕ)) → keys_total d (sort l) ≡ keys_total d l
unfolding total_of
total_sort d [] = refl
total_sort d (x ∷ l) = total_insert d x (sort l) ∙ ap (λ (t : ℕ). mix_of d (key_code x) + t) (total_sort d l)

-- a total does not see the order
total_sorted : (d : Bool) (X Y : List (Option ℕ × ℕ)) → sort X ≡ sort Y → keys_total d X ≡ keys_total d Y
total_sorted d X Y e = sym (total_sort d X) ∙ ap (keys_total d) e ∙ total_sort d Y

pub print_sorted : (G : Graph) (m n : ℕ)
    → sort (out_keys G m) ≡ sort (out_keys G n) → sort (in_keys G m) ≡ sort (in_keys G n) → print_of G m ≡ print_of G n
unfolding print_of
print_sorted G m n o i =
    rw (← out_codes_lem G m, ← out_codes_lem G n, ← in_codes_lem G m, ← in_codes_lem G n)
    (rw (total_sorted true (out_keys G m) (out_keys G n) o, total_sorted false (in_keys G m) (in_keys G n) i))

-- ---- the number made from a key

unfoldable pub square_of : ℕ → ℕ
square_of x = x * x % 2 ^ 32

mul_le : (x y m : ℕ) → x ≤ y → x * m ≤ y * m
mul_le x y zero h = omega arith
mul_le x y (suc m) h = omega (arith, mul_le x y m h)

pub square_fits : (x : ℕ) → x ≤ 67108866 → x * x < 2 ^ 64
square_fits x h = let a : x * x ≤ 67108866 * x = mul_le x 67108866 x h in omega arith

pub square_is : (x : ℕ) → x * x % 4294967296 ≡ square_of x
unfolding square_of
square_is x = refl

pub mix_out : (d : Bool) (k r : ℕ) → d ≡ true → r ≡ square_of (2 * k + 1) → r ≡ mix_of d k
unfolding mix_of square_of
mix_out d k r e q = rw (e, q)

pub mix_in : (d : Bool) (k r : ℕ) → d ≡ false → r ≡ square_of (2 * k + 2) → r ≡ mix_of d k
unfolding mix_of square_of
mix_in d k r e q = rw (e, q)

-- ---- one pass over the edges

abbrev pub part : Bool → ℕ → ℕ
part true t = t
part false t = 0

-- what an edge adds to node n's total
unfoldable pub share_of : ℕ → Edge → ℕ
share_of n e = part (e.source == n) (mix_of true (out_code e)) + part (e.target == n) (mix_of false (in_code e))

unfoldable pub sum_over : ℕ → List Edge → ℕ
unfolding share_of
sum_over n [] = 0
sum_over n (e ∷ l) = share_of n e + sum_over n l

sum_append : (n : ℕ) (l k : List Edge) → sum_over n (l ++ k) ≡ sum_over n l + sum_over n k
unfolding sum_over
sum_append n [] k = omega arith
sum_append n (e ∷ l) k = rw (sum_append n l k) (omega arith)

sum_reverse : (n : ℕ) (l : List Edge) → sum_over n (reverse l) ≡ sum_over n l
unfolding sum_over
sum_reverse n [] = refl
sum_reverse n (e ∷ l) = rw (reverse-cons e l, sum_append n (reverse l) (e ∷ []), sum_reverse n l) (omega arith)

-- both totals of a node at once
sum_both : (n : ℕ) (l : List Edge)
    → total_of true (map out_code (filter (λ e. nat_eq e.source n) l)) + total_of false (map in_code (filter (λ e. nat_eq e.target n) l))
    ≡ sum_over n l
unfolding sum_over share_of total_of
sum_both n [] = refl
sum_both n (e ∷ l) =
    split (e.source == n)
    (λ t. split (e.target == n)
    (λ u. rw (t, u, filter) (omega (arith, sum_both n l)))
    (λ u. rw (t, u, filter) (omega (arith, sum_both n l))))
    (λ t. split (e.target == n)
    (λ u. rw (t, u, filter) (omega (arith, sum_both n l)))
    (λ u. rw (t, u, filter) (omega (arith, sum_both n l))))

print_sum : (G : Graph) (n : ℕ) → sum_over n G.edges % 2 ^ 32 ≡ print_of G n
unfolding print_of out_codes in_codes out into
print_sum G n = ap (λ (t : ℕ). t % 2 ^ 32) (sym (sum_both n (reverse G.edges) ∙ sum_reverse n G.edges))

-- a table with t added to n's entry
unfoldable pub plus_at : List ℕ → ℕ → ℕ → List ℕ
plus_at P n t = slice_set P n ((slice_index P n + t) % 2 ^ 32)

-- a table with an edge's numbers added to those of its ends
unfoldable pub plus_edge : List ℕ → ℕ → List ℕ → List ℕ
unfolding plus_at
plus_edge g e P = plus_at (plus_at P (edge_in g e).source (mix_of true (key_at g true e))) (edge_in g e).target (mix_of false (key_at g false e))

plus_long : (P : List ℕ) (n t : ℕ) → length (plus_at P n t) ≡ length P
unfolding plus_at
plus_long P n t = length-set P n ((slice_index P n + t) % 2 ^ 32)

plus_get : (P : List ℕ) (a t n X : ℕ) → n < length P → slice_index P n ≡ X % 2 ^ 32 → slice_index (plus_at P a t) n ≡ (X + part (a == n) t) % 2 ^ 32
unfolding plus_at
plus_get P a t n X h q =
    split (a == n)
    (λ u. rw (u, eqb-true a n u, get_or-set_same P n ((slice_index P n + t) % 2 ^ 32) 0 h, q) (wrap X t))
    (λ u. rw (u, get_or-set_other P a n ((slice_index P a + t) % 2 ^ 32) 0 (other u), q) (omega arith))
  where
    wrap : (x y : ℕ) → (x % 2 ^ 32 + y) % 2 ^ 32 ≡ (x + y) % 2 ^ 32
    wrap x y = omega arith

    other : nat_eq a n ≡ false → n ≢ a
    other u e = eqb-false a n u (sym e)

-- the table holds the totals over the first i edges
pub record Summed (g : List ℕ) (s : Size) (P : List ℕ) (i : ℕ) : Type 0 where
  pub stored : Stored g s
  pub long : length P ≡ 128
  pub sum : (n : ℕ) → n < 128 → slice_index P n ≡ sum_over n (take i (graph_in g s).edges) % 2 ^ 32

module _ (g : List ℕ) (s : Size) (P : List ℕ) where
  pub sum_none : Stored g s → P ≡ replicate 128 0 → Summed g s P 0
  unfolding sum_over
  sum_none S q = record { stored = S; long = rw q (length-replicate {A = ℕ} 128 0); sum = λ n h. rw q (get_or-replicate {A = ℕ} 128 n 0 0 h) }

  sum_take : (i n : ℕ) → Stored g s → i < s.edges
      → sum_over n (take (suc i) (graph_in g s).edges) ≡ sum_over n (take i (graph_in g s).edges) + share_of n (edge_in g i)
  unfolding sum_over
  sum_take i n S h =
      let k : i < length (graph_in g s).edges = omega (arith, edges_count g s S) in
      rw (take-suc (graph_in g s).edges i no_edge k, sum_append n (take i (graph_in g s).edges) (slice_index_or (graph_in g s).edges i no_edge ∷ []), ← edge_in_lem g s S i h)
      (omega arith)

  share : (i n x : ℕ) → x + share_of n (edge_in g i)
      ≡ x + part ((edge_in g i).source == n) (mix_of true (key_at g true i)) + part ((edge_in g i).target == n) (mix_of false (key_at g false i))
  unfolding share_of key_at
  share i n x = omega arith

  pub sum_next : (Q : List ℕ) (i : ℕ) → Summed g s P i → Q ≡ plus_edge g i P → i < s.edges → Summed g s Q (i + 1)
  unfolding plus_edge
  sum_next Q i M q h = rw (q, add-one) (record { stored = M.stored; long = long; sum = each })
    where
      step : List ℕ
      step = plus_at P (edge_in g i).source (mix_of true (key_at g true i))

      long : length (plus_at step (edge_in g i).target (mix_of false (key_at g false i))) ≡ 128
      long = plus_long step (edge_in g i).target (mix_of false (key_at g false i)) ∙ plus_long P (edge_in g i).source (mix_of true (key_at g true i)) ∙ M.long

      each : (n : ℕ) → n < 128
          → slice_index (plus_at step (edge_in g i).target (mix_of false (key_at g false i))) n ≡ sum_over n (take (suc i) (graph_in g s).edges) % 2 ^ 32
      each n l =
          plus_get step (edge_in g i).target (mix_of false (key_at g false i)) n
          (sum_over n (take i (graph_in g s).edges) + part ((edge_in g i).source == n) (mix_of true (key_at g true i)))
          (omega (arith, plus_long P (edge_in g i).source (mix_of true (key_at g true i)), M.long))
          (plus_get P (edge_in g i).source (mix_of true (key_at g true i)) n (sum_over n (take i (graph_in g s).edges)) (omega (arith, M.long)) (M.sum n l))
          ∙ ap (λ (t : ℕ). t % 2 ^ 32) (sym (sum_take i n M.stored h ∙ share i n (sum_over n (take i (graph_in g s).edges))))

  pub sum_all : (i : ℕ) → Summed g s P i → i ≤ s.edges → s.edges ≤ i → Printed (graph_in g s) P
  sum_all i M a b =
      let z : i ≡ length (graph_in g s).edges = omega (arith, edges_count g s M.stored) in
      record {
        long = M.long;
        print = λ n h.
            M.sum n h
            ∙ ap (λ (l : List Edge). sum_over n l % 2 ^ 32) (ap (λ (k : ℕ). take k (graph_in g s).edges) z ∙ take-length (graph_in g s).edges)
            ∙ print_sum (graph_in g s) n;
      }

-- ---- the reads and stores of one edge

pub source_fits : (g : List ℕ) (s : Size) (e r : ℕ) → Stored g s → e < s.edges → r ≡ (edge_in g e).source → r < 128
source_fits g s e r S h q = rw q (source_below g s S e h)

pub target_fits : (g : List ℕ) (s : Size) (e r : ℕ) → Stored g s → e < s.edges → r ≡ (edge_in g e).target → r < 128
target_fits g s e r S h q = let z : (edge_in g e).target < s.nodes = target_below g s S e h in omega (arith, S.nodes_most, q)

pub plus_is : (P : List ℕ) (n t y r : ℕ) → r ≡ (y + t) % 2 ^ 32 → y ≡ slice_index P n → slice_set P n r ≡ plus_at P n t
unfolding plus_at
plus_is P n t y r q p = rw (q, p)

pub plus_kept : (P : List ℕ) (n r : ℕ) → length P ≡ 128 → length (slice_set P n r) ≡ 128
plus_kept P n r q = length-set P n r ∙ q

pub sum_long : (g : List ℕ) (s : Size) (P : List ℕ) (i : ℕ) → Summed g s P i → length P ≡ 128
sum_long g s P i M = M.long

pub edge_plus : (g : List ℕ) (e : ℕ) (P Q R : List ℕ) (a b x y t u : ℕ)
    → R ≡ plus_at Q b u → Q ≡ plus_at P a t → a ≡ (edge_in g e).source → b ≡ (edge_in g e).target
    → t ≡ mix_of true x → u ≡ mix_of false y → x ≡ key_at g true e → y ≡ key_at g false e → R ≡ plus_edge g e P
unfolding plus_edge
edge_plus g e P Q R a b x y t u qr qq qa qb qt qu qx qy = rw (qr, qq, qa, qb, qt, qu, qx, qy)

-- ---- how many nodes below m have fingerprint y

unfoldable pub twins_to : List ℕ → ℕ → ℕ → ℕ
twins_to P y zero = 0
twins_to P y (suc m) = bump (slice_index P m == y) (twins_to P y m)

module _ (P : List ℕ) (y : ℕ) where
  pub twins_none : 0 ≡ twins_to P y 0
  unfolding twins_to
  twins_none = refl

  pub twins_next : (c m t x : ℕ) → c ≡ twins_to P y m → t ≡ bump (x == y) 0 → x ≡ slice_index P m → c + t ≡ twins_to P y (m + 1)
  unfolding twins_to
  twins_next c m t x q qt qx = rw (add-one, q, qt, qx) (plus (slice_index P m == y) (twins_to P y m))
    where
      plus : (b : Bool) (k : ℕ) → k + bump b 0 ≡ bump b k
      plus true k = omega arith
      plus false k = omega arith

  pub twins_all : (c m n : ℕ) → c ≡ twins_to P y m → m ≤ n → n ≤ m → c ≡ twins_to P y n
  twins_all c m n q a b = let z : m ≡ n = omega arith in rw z at q

  -- none has it
  pub alone : (m j : ℕ) → twins_to P y m ≡ 0 → j < m → slice_index P j ≢ y
  unfolding twins_to
  alone zero j z h e = not-suc-le-zero h
  alone (suc m) j z h e =
      split (slice_index P m == y)
      (λ t. clash (rw t at z))
      (λ t. split (j == m) (λ u. eqb-false (slice_index P m) y t (rw (eqb-true j m u) at e)) (λ u. alone m j (rw t at z) (omega (arith, eqb-false j m u)) e))
    where
      clash : suc (twins_to P y m) ≡ 0 → ⊥
      clash z = omega arith
