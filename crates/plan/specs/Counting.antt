-- What demand 3 asks of a graph's groups: they are named after members and have two or more, and the kids of any run are solvable nodes.
use Rattle.std.specs.Prelude.{◌≡◌, true, cond, List, [], ◌∷◌, ◌++◌, ℕ, zero, suc, ◌<◌, length, get_or, eqb}
use Rattle.std.proofs.Common.{sym, ◌∙◌, inl, inr, arith, eqb-true, ne_eqb}
use Rattle.std.proofs.lemmas.Bool.{false≢true}
use Rattle.basis.specs.Lists.{filter, has, upto}
use Rattle.basis.specs.Members.{In, Distinct, split, either, in_filter, filter_in, in_reverse, and_true}
use Rattle.records.specs.Tables.{Tables}
use Rattle.store.specs.declared.ConflictNode.{ConflictNode}
use Rattle.store.specs.declared.ConflictNode.TheVariants as N
use Rattle.store.specs.Graph.{Graph, node_at, is_solvable}
use Rattle.groups.specs.Counts.{solvables}
use Rattle.labels.specs.Runs.{Run}
use Rattle.machine.specs.Machine.{Plan}
use Rattle.machine.specs.Count.{Grouped}
use Rattle.plan.specs.Plan.{Shown, shown_of, merged_shown, lead_shown, offered, dedup, kids_of, no_candidates, run_installable, is_installable, group_of}
use Rattle.plan.specs.Mates.{in_upto, upto_in, upto_distinct, filter_distinct, named_lead, another_mate}

-- past the nodes stands the root
pub node_solvable : (xs : List ConflictNode) (n : ℕ) → is_solvable (get_or xs n N.Root) ≡ true → n < length xs
node_solvable [] n s = absurd (false≢true s)
node_solvable (x ∷ xs) zero s = omega arith
node_solvable (x ∷ xs) (suc n) s = omega (arith, node_solvable xs n s)

module _ (T : Tables) (G : Graph) where
  pub solvable_in_lem : (n : ℕ) → n < length G.nodes → is_solvable (node_at G n) ≡ true → In n (solvables G)
  unfolding solvables
  solvable_in_lem n h s = filter_in (λ n. is_solvable (node_at G n)) n (upto (length G.nodes) 0) s (in_upto (length G.nodes) 0 n (omega arith) (omega arith))

  pub in_solvable : (n : ℕ) → In n (solvables G) → (n < length G.nodes) × (is_solvable (node_at G n) ≡ true)
  unfolding solvables
  in_solvable n i =
      let f = in_filter (λ n. is_solvable (node_at G n)) n (upto (length G.nodes) 0) i in
      let r = upto_in (length G.nodes) 0 n f.1 in
      (omega (arith, r.1), f.0)

  solvables_distinct : Distinct (solvables G)
  unfolding solvables
  solvables_distinct = filter_distinct (λ n. is_solvable (node_at G n)) (upto (length G.nodes) 0) (upto_distinct (length G.nodes) 0)

  -- groups by merged and lead: whatever the runs are called
  pub grouped : {R : Type 0} (P : Plan R) → ((n : ℕ) → n < length G.nodes → P.merged n ≡ merged_shown (shown_of T G) n)
      → ((n : ℕ) → n < length G.nodes → P.lead n ≡ lead_shown (shown_of T G) n)
      → Grouped P (solvables G)
  grouped P m l =
      record {
        distinct = solvables_distinct;
        named = λ n i t. let s = in_solvable n i in
            let x = named_lead T G n s.0 s.1 (sym (m n s.0) ∙ t) in
            rw (l n s.0) (
              solvable_in_lem (lead_shown (shown_of T G) n) x.0 x.1,
              m (lead_shown (shown_of T G) n) x.0 ∙ x.2,
              l (lead_shown (shown_of T G) n) x.0 ∙ x.3,
            );
        another = λ n i t. let s = in_solvable n i in
            let b = and_true (P.merged n) (eqb (P.lead n) n) t in
            let q : lead_shown (shown_of T G) n ≡ n = sym (l n s.0) ∙ eqb-true (P.lead n) n b.1 in
            let x = another_mate T G n s.0 s.1 (sym (m n s.0) ∙ b.0) in
            let e : P.lead x.0 ≡ n = l x.0 x.1 ∙ x.4 ∙ q in
            (x.0, solvable_in_lem x.0 x.1 x.2, rw (m x.0 x.1, x.3, ne_eqb (P.lead x.0) x.0 (λ y. x.5 (q ∙ sym e ∙ y))), e);
      }

  -- ---- the kids of any run are solvable nodes

  module _ (S : Shown) where
    pub in_dedup : (ns seen : List ℕ) (n : ℕ) → In n (dedup S ns seen) → In n ns
    in_dedup [] seen n i = i
    in_dedup (m ∷ ns) seen n i =
        split (has m seen)
        (λ t. inr (in_dedup ns seen n (rw (t, dedup) at i)))
        (λ t. either (rw (t, dedup) at i) (λ e. inl e) (λ j. inr (in_dedup ns (cond (merged_shown S m) (group_of S m ++ seen) seen) n j)))

    kid_offered : (q : Run) (n : ℕ) → In n (kids_of S q) → is_solvable (node_at S.graph n) ≡ true
    kid_offered q n i =
        split (no_candidates S q)
        (λ t. absurd (rw t at i))
        (λ t. (in_filter (λ n. is_solvable (node_at S.graph n)) n (cond (run_installable S q) (filter (is_installable S) q.to) q.to)
        (in_dedup (offered S q) [] n (in_reverse n (dedup S (offered S q) []) (rw t at i)))).0)

    pub kid_solvable : (q : Run) (n : ℕ) → In n (kids_of S q) → (n < length S.graph.nodes) × (is_solvable (node_at S.graph n) ≡ true)
    kid_solvable q n i = let s = kid_offered q n i in (node_solvable S.graph.nodes n s, s)
