-- What a crate above reads off the graph's promise.
use Rattle.std.specs.Prelude.{◌≡◌, refl, Bool, true, false, List, [], ◌∷◌, ℕ, zero, suc, ◌<◌, length, get_or}
use Rattle.std.proofs.Common.{sym, ap, ◌∙◌, inl, inr, arith}
use Rattle.basis.specs.Members.{clash, In, All, Distinct, all_in}
use Rattle.records.specs.Tables.{Tables}
use Rattle.store.specs.declared.ConflictNode.{ConflictNode}
use Rattle.store.specs.declared.ConflictNode.TheVariants as N
use Rattle.store.specs.declared.ConflictCause.TheVariants as K
use Rattle.store.specs.declared.ConflictEdge.{ConflictEdge}
use Rattle.store.specs.declared.ConflictEdge.TheVariants as W
use Rattle.store.specs.declared.Edge.{Edge}
use Rattle.store.specs.Graph.{Graph, node_at, is_excluded}
use Rattle.shape.specs.Shaped.{Known, is_end, fits_target, Runs}
use Rattle.shape.specs.Graphed.{Graphed, at_in}

-- no node stands at two numbers
pub one_number : (ns : List ConflictNode) → Distinct ns → (n m : ℕ) → n < length ns → m < length ns → get_or ns n N.Root ≡ get_or ns m N.Root → n ≡ m
one_number [] d n m h k e = let f : ⊥ = omega arith in absurd f
one_number (x ∷ ns) d zero zero h k e = refl
one_number (x ∷ ns) d zero (suc m) h k e = absurd (d.0 (rw e (at_in ns m (omega arith))))
one_number (x ∷ ns) d (suc n) zero h k e = absurd (d.0 (rw (sym e) (at_in ns n (omega arith))))
one_number (x ∷ ns) d (suc n) (suc m) h k e = ap suc (one_number ns d.1 n m (omega arith) (omega arith) e)

fits_excluded : (w : ConflictEdge) (y : ConflictNode) → is_excluded w ≡ true → fits_target w y ≡ true → (r : ℕ) × (y ≡ N.Excluded r)
fits_excluded (W.Requires q) y e f = clash (cc)
fits_excluded (W.Conflict (K.Locked l)) y e f = clash (cc)
fits_excluded (W.Conflict (K.Constrains v)) y e f = clash (cc)
fits_excluded (W.Conflict K.ForbidMultipleInstances) y e f = clash (cc)
fits_excluded (W.Conflict K.Excluded) N.Root e f = clash (cc)
fits_excluded (W.Conflict K.Excluded) (N.Solvable s) e f = clash (cc)
fits_excluded (W.Conflict K.Excluded) N.UnresolvedDependency e f = clash (cc)
fits_excluded (W.Conflict K.Excluded) (N.Excluded r) e f = (r, refl)

module _ (T : Tables) (G : Graph) (P : Graphed T G) where
  pub same_number : (n m : ℕ) → n < length G.nodes → m < length G.nodes → node_at G n ≡ node_at G m → n ≡ m
  same_number n m h k e = one_number G.nodes P.once n m h k e

  pub some_node : 0 < length G.nodes
  some_node = rw P.nodes_are (omega arith)

  pub root_first : node_at G 0 ≡ N.Root
  root_first = rw P.nodes_are

  pub only_root : (n : ℕ) → n < length G.nodes → node_at G n ≡ N.Root → n ≡ 0
  only_root n h e = same_number n 0 h some_node (e ∙ sym root_first)

  pub node_known : (n : ℕ) → n < length G.nodes → Known T (node_at G n)
  node_known n h = all_in (Known T) G.nodes (node_at G n) P.known (at_in G.nodes n h)

  pub solvable_known : (n s : ℕ) → n < length G.nodes → node_at G n ≡ N.Solvable s → s < length T.solvables
  solvable_known n s h e = rw e at (node_known n h)

  pub reason_known : (n r : ℕ) → n < length G.nodes → node_at G n ≡ N.Excluded r → r < length T.reasons
  reason_known n r h e = rw e at (node_known n h)

  pub edge_runs : (e : Edge) → In e G.edges → Runs G.nodes e
  edge_runs e i = all_in (Runs G.nodes) G.edges e P.edges i

  -- an Excluded edge leads to an Excluded node
  pub excluded_leads : (e : Edge) → In e G.edges → is_excluded e.weight ≡ true → (r : ℕ) × (node_at G e.target ≡ N.Excluded r)
  excluded_leads e i x = fits_excluded e.weight (node_at G e.target) x (edge_runs e i).target_fits
