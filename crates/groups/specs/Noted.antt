-- The work tables: each node's name, and what is compared before its text is.
use Rattle.std.specs.Prelude.{◌≡◌, ℕ, ◌+◌, ◌-◌, ◌<◌, ◌≤◌, Bool, true, false, cond, List, length, ◌==◌, ◌≢◌, slice_index, slice_set}
use Rattle.std.proofs.Common.{sym, ap, ◌∙◌, not-suc-le-zero, arith, length-set, get_or-set_same, get_or-set_other, eqb-true, lt-ltb, le-ltb}
use Rattle.std.proofs.lemmas.Bool.{eqb-false}
use Rattle.basis.specs.Lists.{eq_list}
use Rattle.basis.specs.Members.{split}
use Rattle.store.specs.declared.ConflictNode.{ConflictNode}
use Rattle.store.specs.declared.ConflictNode.TheVariants as N
use Rattle.store.specs.declared.Size.{Size}
use Rattle.store.specs.Graph.{Graph, node_at}
use Rattle.store.specs.Table.{graph_in, node_in, Stored, node_in_lem}
use Rattle.records.specs.Tables.{Tables}
use Rattle.records.specs.Views.{name_text, solvable_name}
use Rattle.groups.specs.Small.{eq_true, eq_refl}
use Rattle.groups.specs.Firsts.{firsts_to, firsts_all, firsts_same}
use Rattle.groups.specs.Naming.{name_of_node, text_at, ids_to, packed, key_of}

-- the texts that a table of names gives
unfoldable pub text_in : Tables → List ℕ → ℕ → List ℕ
text_in T names n = name_text T (slice_index names n)

-- both tables hold what they should of the nodes below k
pub record Noted (T : Tables) (G : Graph) (names keys : List ℕ) (k : ℕ) : Type 0 where
  pub names_long : length names ≡ 128
  pub keys_long : length keys ≡ 128
  pub name : (j : ℕ) → j < k → slice_index names j ≡ name_of_node T (node_at G j)
  pub key : (j : ℕ) → j < k → slice_index keys j ≡ key_of (text_in T names j)

-- all that finding node n's number needs
pub record Ready (T : Tables) (names keys : List ℕ) (n : ℕ) : Type 0 where
  pub keyed : (j : ℕ) → j < n + 1 → slice_index keys j ≡ key_of (text_in T names j)
  pub small : n < 128

-- ---- one text

pub key_short : (t : List ℕ) (r a b c : ℕ) → length t < 4 → r ≡ packed a b c 0 → a ≡ slice_index t 0 → b ≡ slice_index t 1 → c ≡ slice_index t 2 → r ≡ key_of t
unfolding key_of
key_short t r a b c h q x y z = rw (q, x, y, z, lt-ltb (length t) 4 h, cond)

pub key_long : (t : List ℕ) (r a b c d : ℕ) → 4 ≤ length t → r ≡ packed a b c d → a ≡ slice_index t 0 → b ≡ slice_index t (length t - 3) → c ≡ slice_index t (length t - 2)
    → d ≡ slice_index t (length t - 1) → r ≡ key_of t
unfolding key_of
key_long t r a b c d h q x y z w = rw (q, x, y, z, w, le-ltb (length t) 4 h, cond)

pub key_via : (T : Tables) (n r : ℕ) (t : List ℕ) → r ≡ key_of t → t ≡ name_text T n → r ≡ key_of (name_text T n)
key_via T n r t q e = q ∙ ap key_of e

-- ---- a node's name

module _ (T : Tables) (r x : ConflictNode) where
  pub name_root : r ≡ N.Root → r ≡ x → 128 ≡ name_of_node T x
  name_root e q = rw (← q, e)

  pub name_solvable : (s n : ℕ) → r ≡ N.Solvable s → r ≡ x → n ≡ solvable_name T s → n ≡ name_of_node T x
  name_solvable s n e q z = rw (← q, e) z

  pub name_unresolved : r ≡ N.UnresolvedDependency → r ≡ x → 128 ≡ name_of_node T x
  name_unresolved e q = rw (← q, e)

  pub name_reason : (s : ℕ) → r ≡ N.Excluded s → r ≡ x → 128 ≡ name_of_node T x
  name_reason s e q = rw (← q, e)

-- ---- filling the tables

pub noted_none : (T : Tables) (G : Graph) (names keys : List ℕ) → length names ≡ 128 → length keys ≡ 128 → Noted T G names keys 0
noted_none T G names keys a b =
    record { names_long = a; keys_long = b; name = λ j l. absurd (not-suc-le-zero l); key = λ j l. absurd (not-suc-le-zero l) }

pub noted_next : (T : Tables) (g : List ℕ) (s : Size) (names keys : List ℕ) (i a v : ℕ) → Noted T (graph_in g s) names keys i → Stored g s → i < s.nodes
    → a ≡ name_of_node T (node_in g i) → v ≡ key_of (name_text T a) → Noted T (graph_in g s) (slice_set names i a) (slice_set keys i v) (i + 1)
unfolding text_in
noted_next T g s names keys i a v R S h qa qv =
    record { names_long = rw length-set R.names_long; keys_long = rw length-set R.keys_long; name = name; key = key }
  where
    in_names : i < length names
    in_names = omega (arith, R.names_long, S.nodes_most)

    in_keys_lem : i < length keys
    in_keys_lem = omega (arith, R.keys_long, S.nodes_most)

    name : (j : ℕ) → j < i + 1 → slice_index (slice_set names i a) j ≡ name_of_node T (node_at (graph_in g s) j)
    name j l =
        split (j == i)
        (λ t. rw (eqb-true j i t, get_or-set_same names i a 0 in_names) (qa ∙ ap (name_of_node T) (node_in_lem g s S i h)))
        (λ t. rw (get_or-set_other names i j a 0 (eqb-false j i t)) (R.name j (omega (arith, eqb-false j i t))))

    key : (j : ℕ) → j < i + 1 → slice_index (slice_set keys i v) j ≡ key_of (name_text T (slice_index (slice_set names i a) j))
    key j l =
        split (j == i)
        (λ t. rw (eqb-true j i t, get_or-set_same keys i v 0 in_keys_lem, get_or-set_same names i a 0 in_names) qv)
        (λ t. rw (get_or-set_other keys i j v 0 (eqb-false j i t), get_or-set_other names i j a 0 (eqb-false j i t)) (R.key j (omega (arith, eqb-false j i t))))

pub noted_all : (T : Tables) (G : Graph) (names keys : List ℕ) (i k : ℕ) → Noted T G names keys i → k ≤ i → Noted T G names keys k
noted_all T G names keys i k R h =
    record { names_long = R.names_long; keys_long = R.keys_long; name = λ j l. R.name j (omega arith); key = λ j l. R.key j (omega arith) }

-- ---- comparing two nodes

pub same_number : (T : Tables) (a b : ℕ) → a ≡ b → true ≡ eq_list (name_text T a) (name_text T b)
same_number T a b e = rw e (sym (eq_refl (name_text T b)))

pub same_via : (T : Tables) (a b : ℕ) (x y : List ℕ) (r : Bool) → r ≡ eq_list x y → x ≡ name_text T a → y ≡ name_text T b
    → r ≡ eq_list (name_text T a) (name_text T b)
same_via T a b x y r q p w = q ∙ rw (p, w)

module _ (T : Tables) (names keys : List ℕ) (m n : ℕ) (R : Ready T names keys n) (lt : m < n) where
  pub alike_key : (slice_index keys m ≢ slice_index keys n) → false ≡ eq_list (text_in T names m) (text_in T names n)
  alike_key f = split (eq_list (text_in T names m) (text_in T names n)) (λ t. absurd (f (equal (eq_true (text_in T names m) (text_in T names n) t)))) (λ t. sym t)
    where
      equal : text_in T names m ≡ text_in T names n → slice_index keys m ≡ slice_index keys n
      equal e = R.keyed m (omega arith) ∙ ap key_of e ∙ sym (R.keyed n (omega arith))

pub alike_text : (T : Tables) (names : List ℕ) (m n : ℕ) (r : Bool) → r ≡ eq_list (name_text T (slice_index names m)) (name_text T (slice_index names n))
    → r ≡ eq_list (text_in T names m) (text_in T names n)
unfolding text_in
alike_text T names m n r q = q

pub ready_at : (T : Tables) (g : List ℕ) (s : Size) (names keys : List ℕ) (n : ℕ) → Noted T (graph_in g s) names keys s.nodes → Stored g s → n < s.nodes
    → Ready T names keys n
ready_at T g s names keys n R S h = record { keyed = λ j l. R.key j (omega arith); small = omega (arith, S.nodes_most) }

-- the names in the table are the nodes' own
pub ids_end : (T : Tables) (G : Graph) (names keys ids l : List ℕ) (n k : ℕ) → Noted T G names keys k → ids ≡ firsts_to (text_in T names) n l → n ≤ k → k ≤ n
    → ids ≡ ids_to T G k l
unfolding ids_to text_in text_at
ids_end T G names keys ids l n k R q a b =
    firsts_all (text_in T names) ids l n k q a b
    ∙ firsts_same (text_in T names) (text_at T G) k (λ j h. ap (name_text T) (R.name j h)) k l (omega arith)
