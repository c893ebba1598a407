-- The numbers tell the solvables' names apart as their texts do, so the groups by number are the groups by text.
use Rattle.std.specs.Prelude.{◌≡◌, ℕ, ◌<◌, ◌≤◌, List, length, ◌==◌, nat_eq, nat_lt, slice_index}
use Rattle.std.proofs.Math.Path.{ap}
use Rattle.std.proofs.Common.{◌∙◌, arith, ltb-true, ltb-false}
use Rattle.std.proofs.Math.ListN.{get_or-eq_default}
use Rattle.basis.specs.Lists.{eq_list}
use Rattle.basis.specs.Members.{split, no_both}
use Rattle.store.specs.declared.ConflictNode.{ConflictNode}
use Rattle.store.specs.declared.ConflictNode.TheVariants as N
use Rattle.store.specs.declared.Size.{Size}
use Rattle.store.specs.Graph.{Graph, node_at, is_solvable}
use Rattle.store.specs.Table.{graph_in, Stored, nodes_count}
use Rattle.links.specs.Build.{Chains}
use Rattle.records.specs.Tables.{Tables}
use Rattle.records.specs.Views.{name_text}
use Rattle.groups.specs.Groups.{title_of, lead_of}
use Rattle.groups.specs.Leads.{title_in, leads_to, leads_at, Numbered, leads_named}
use Rattle.groups.specs.Firsts.{first_like, firsts_at, firsts_past, first_alike}
use Rattle.groups.specs.Naming.{name_of, name_of_node, text_at, ids_to}

-- ---- the table, entry by entry

module _ (T : Tables) (G : Graph) (k : ℕ) (l : List ℕ) where
  pub ids_at : k ≤ length l → (j : ℕ) → j < k → slice_index (ids_to T G k l) j ≡ first_like (text_at T G) j
  unfolding ids_to
  ids_at h j i = firsts_at (text_at T G) k l h j i

-- ---- solvables

-- a solvable node is one of the graph's
solvable_below : (G : Graph) (n s : ℕ) → node_at G n ≡ N.Solvable s → n < length G.nodes
solvable_below G n s e =
    split (nat_lt n (length G.nodes)) (λ t. ltb-true n (length G.nodes) t)
    (λ t. no_both (is_solvable (node_at G n)) (ap is_solvable e) (ap is_solvable (get_or-eq_default G.nodes N.Root (ltb-false n (length G.nodes) t))))

text_is : (T : Tables) (G : Graph) (n s : ℕ) → node_at G n ≡ N.Solvable s → text_at T G n ≡ name_of T s
unfolding text_at
text_is T G n s e = ap (λ (x : ConflictNode). name_text T (name_of_node T x)) e

-- two solvable nodes have equal numbers exactly where the texts of their names are equal
pub ids_numbered : (T : Tables) (G : Graph) (k : ℕ) (l : List ℕ) → length G.nodes ≤ k → k ≤ length l → Numbered (name_of T) G (ids_to T G k l)
ids_numbered T G k l h b = record { alike_named = each }
  where
    at : (n s : ℕ) → node_at G n ≡ N.Solvable s → slice_index (ids_to T G k l) n ≡ first_like (text_at T G) n
    at n s e = ids_at T G k l b n (omega (arith, solvable_below G n s e))

    each : (m n s t : ℕ) → node_at G m ≡ N.Solvable s → node_at G n ≡ N.Solvable t
        → (slice_index (ids_to T G k l) m == slice_index (ids_to T G k l) n) ≡ eq_list (name_of T s) (name_of T t)
    each m n s t p q =
        ap (λ (x : ℕ). nat_eq x (slice_index (ids_to T G k l) n)) (at m s p)
        ∙ ap (λ (x : ℕ). nat_eq (first_like (text_at T G) m) x) (at n t q)
        ∙ first_alike (text_at T G) m n
        ∙ ap (λ (u : List ℕ). eq_list u (text_at T G n)) (text_is T G m s p)
        ∙ ap (λ (u : List ℕ). eq_list (name_of T s) u) (text_is T G n t q)

-- ---- what `name_ids` and then `group` leave

module _ (T : Tables) (g : List ℕ) (s : Size) (ids i : List ℕ) (S : Stored g s) (long : length i ≡ 128) (q : ids ≡ ids_to T (graph_in g s) s.nodes i) where
  pub named_ids : Numbered (name_of T) (graph_in g s) ids
  named_ids =
      rw q
      (ids_numbered T (graph_in g s) s.nodes i (omega (arith, nodes_count g s S)) (omega (arith, S.nodes_most)))

  module _ (leads l : List ℕ) (e : leads ≡ leads_to (title_in ids) (graph_in g s) s.nodes l) where
    pub named_leads : leads ≡ leads_to (title_of (name_of T) (graph_in g s)) (graph_in g s) s.nodes l
    named_leads = e ∙ leads_named (name_of T) (graph_in g s) ids s.nodes l named_ids

    -- "group the node number of its first member, the node's own if unmerged"
    pub named_lead : length l ≡ 128 → (n : ℕ) → n < s.nodes → slice_index leads n ≡ lead_of (name_of T) (graph_in g s) n
    unfolding lead_of
    named_lead w n h =
        ap (λ (x : List ℕ). slice_index x n) named_leads
        ∙ leads_at (title_of (name_of T) (graph_in g s)) (graph_in g s) s.nodes l (omega (arith, S.nodes_most)) n h

-- as the code comes to it
pub group_via : (T : Tables) (g : List ℕ) (s : Size) (ls ids i leads l : List ℕ) → leads ≡ leads_to (title_in ids) (graph_in g s) s.nodes l
    → ids ≡ ids_to T (graph_in g s) s.nodes i → Chains g s ls → length i ≡ 128 → leads ≡ leads_to (title_of (name_of T) (graph_in g s)) (graph_in g s) s.nodes l
group_via T g s ls ids i leads l e q c long = named_leads T g s ids i c.stored long q leads l e
