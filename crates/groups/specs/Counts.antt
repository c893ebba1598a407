-- The solvable nodes, and what merging is: being equal in all that counts.
use Rattle.std.specs.Prelude.{◌≡◌, ℕ, Bool, true, ◌&&◌, List, length}
use Rattle.basis.specs.Lists.{filter, eq_list, upto}
use Rattle.basis.specs.Members.{In, in_filter, and_true}
use Rattle.store.specs.Graph.{Graph, node_at, is_solvable}
use Rattle.groups.specs.Small.{eq_true, keys_true, filter_same}
use Rattle.groups.specs.Groups.{sort, same_keys, out_keys, in_keys, merges_by, mates_by}

-- the solvable nodes
unfoldable pub solvables : Graph → List ℕ
solvables G = filter (λ n. is_solvable (node_at G n)) (upto (length G.nodes) 0)

-- ---- merging is being equal in all that counts

module _ (title : ℕ → List ℕ) (G : Graph) where
  pub record NodesAlike (m n : ℕ) : Type 0 where
    pub left_is : is_solvable (node_at G m) ≡ true
    pub right_is : is_solvable (node_at G n) ≡ true
    pub titles : title m ≡ title n
    pub ins : sort (in_keys G m) ≡ sort (in_keys G n)
    pub outs : sort (out_keys G m) ≡ sort (out_keys G n)

  pub alike : (m n : ℕ) → merges_by title G m n ≡ true → NodesAlike m n
  unfolding merges_by
  alike m n e =
      let c : Bool = same_keys (sort (in_keys G m)) (sort (in_keys G n)) && same_keys (sort (out_keys G m)) (sort (out_keys G n)) in
      let x = and_true (is_solvable (node_at G m)) (is_solvable (node_at G n) && (eq_list (title m) (title n) && c)) e in
      let y = and_true (is_solvable (node_at G n)) (eq_list (title m) (title n) && c) x.1 in
      let z = and_true (eq_list (title m) (title n)) c y.1 in
      let v = and_true (same_keys (sort (in_keys G m)) (sort (in_keys G n))) (same_keys (sort (out_keys G m)) (sort (out_keys G n))) z.1 in
      record {
        left_is = x.0;
        right_is = y.0;
        titles = eq_true (title m) (title n) z.0;
        ins = keys_true (sort (in_keys G m)) (sort (in_keys G n)) v.0;
        outs = keys_true (sort (out_keys G m)) (sort (out_keys G n)) v.1;
      }

  pub same_row : (m n k : ℕ) → NodesAlike m n → merges_by title G k m ≡ merges_by title G k n
  unfolding merges_by
  same_row m n k a = rw (a.left_is, a.right_is, a.titles, a.ins, a.outs)

  pub same_mates : (m n : ℕ) → merges_by title G m n ≡ true → mates_by title G m ≡ mates_by title G n
  unfolding mates_by
  same_mates m n e = filter_same (λ k. merges_by title G k m) (λ k. merges_by title G k n) (upto (length G.nodes) 0) (λ k. same_row m n k (alike m n e))

  pub in_mates : (m n : ℕ) → In m (mates_by title G n) → (merges_by title G m n ≡ true) × In m (upto (length G.nodes) 0)
  unfolding mates_by
  in_mates m n i = in_filter (λ k. merges_by title G k n) m (upto (length G.nodes) 0) i
