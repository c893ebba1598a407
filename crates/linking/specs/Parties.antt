-- Parties: what a variable names, whether some partner of a gate or an auxiliary is one, and which one is recovered from the clause that
-- assigned a variable. Each law is one way out of a function.
use Rattle.std.specs.Prelude.{◌≡◌, refl, Bool, true, false, List, [], ◌∷◌, ◌++◌, ℕ, suc, ◌-◌, Option, Some, None}
use Rattle.std.proofs.Common.{sym, ◌∙◌, arith}
use Rattle.std.proofs.Math.Path.{ap}
use Rattle.std.proofs.Math.Option.{Option as Maybe, none, some}
use Rattle.basis.specs.Lists.{any, concat_map, or_else}
use Rattle.basis.specs.Members.{split, clash}
use Rattle.records.specs.declared.Origin.{Origin}
use Rattle.records.specs.declared.Origin.TheVariants as O
use Rattle.records.specs.declared.Clause.{Clause}
use Rattle.records.specs.declared.Clause.TheVariants as C
use Rattle.records.specs.Tables.{Tables}
use Rattle.records.specs.Views.{origin_of, clause_of, assigned_by}
use Rattle.index.specs.Found.{assigned_mark}
use Rattle.store.specs.declared.ConflictNode.{ConflictNode}
use Rattle.store.specs.declared.ConflictNode.TheVariants as N
use Rattle.linking.specs.Links.{party_by, party_of, as_list, nodes_named, any_of_in, parent_in, excluded_in}
use Rattle.linking.specs.Links.{gate_reason, parent_reason, excluded_reason, partners_or}

-- ---- what variable v names, by its origin o

module _ (T : Tables) (v : ℕ) (o : Origin) (q : o ≡ origin_of T v) where
  pub party_root : o ≡ O.Root → Some N.Root ≡ party_of T v
  unfolding party_of
  party_root e = ap party_by (sym e ∙ q)

  pub party_solvable : (s : ℕ) → o ≡ O.Solvable s → Some (N.Solvable s) ≡ party_of T v
  unfolding party_of
  party_solvable s e = ap party_by (sym e ∙ q)

  pub party_forbid : (n : ℕ) → o ≡ O.ForbidMultiple n → None ≡ party_of T v
  unfolding party_of
  party_forbid n e = ap party_by (sym e ∙ q)

  pub party_gate : o ≡ O.RequiresGate → None ≡ party_of T v
  unfolding party_of
  party_gate e = ap party_by (sym e ∙ q)

  pub party_auxiliary : o ≡ O.ConstrainsAuxiliary → None ≡ party_of T v
  unfolding party_of
  party_auxiliary e = ap party_by (sym e ∙ q)

  pub party_other : o ≡ O.Other → None ≡ party_of T v
  unfolding party_of
  party_other e = ap party_by (sym e ∙ q)

pub ruleset parties = (party_root, party_solvable, party_forbid, party_gate, party_auxiliary, party_other)

-- whether it names a node; r is what was answered of it
abbrev pub is_node : Option ConflictNode → Bool
is_node (Some n) = true
is_node None = false

pub node_true : (T : Tables) (v : ℕ) (r : Option ConflictNode) (n : ConflictNode) → r ≡ party_of T v → r ≡ Some n → true ≡ is_node (party_of T v)
node_true T v r n q e = ap is_node (sym e ∙ q)

pub node_false : (T : Tables) (v : ℕ) (r : Option ConflictNode) → r ≡ party_of T v → r ≡ None → false ≡ is_node (party_of T v)
node_false T v r q e = ap is_node (sym e ∙ q)

-- ---- whether some partner is kept: one of the variables vs names a node

unfoldable pub any_node : Tables → List ℕ → Bool
any_node T vs = any (λ v. is_node (party_of T v)) vs

-- v is the first of vs, and b whether it names a node: then some does, else it is the same of the rest
module _ (T : Tables) (vs rest : List ℕ) (v : ℕ) (c : vs ≡ v ∷ rest) (b : Bool) (q : b ≡ is_node (party_of T v)) where
  pub any_hit : b ≡ true → any_node T vs ≡ true
  unfolding any_node
  any_hit h = rw c (rw ((sym q ∙ h), any))

  pub any_miss : b ≡ false → any_node T vs ≡ any_node T rest
  unfolding any_node
  any_miss h = rw c (rw ((sym q ∙ h), any))

pub any_none : (T : Tables) (vs : List ℕ) → vs ≡ [] → false ≡ any_node T vs
unfolding any_node
any_none T vs e = rw e

-- for the two laws below
not_node : (r : Option ConflictNode) → is_node r ≡ false → as_list r ≡ []
not_node (Some n) e = clash (cc)
not_node None e = refl

is_node_lem : (r : Option ConflictNode) (l : List ConflictNode) (m : List ConflictNode) → is_node r ≡ true → or_else (as_list r ++ l) m ≡ as_list r ++ l
is_node_lem (Some n) l m e = refl
is_node_lem None l m e = clash (cc)

-- where some partner is kept the partners count, else the recovered party p
pub or_kept : (T : Tables) (vs : List ℕ) (p : Option ConflictNode) → any_node T vs ≡ true → partners_or T vs p ≡ concat_map (nodes_named T) vs
unfolding any_node partners_or
or_kept T [] p e = clash (cc)
or_kept T (v ∷ vs) p e =
    split (is_node (party_of T v))
    (λ h. is_node_lem (party_of T v) (concat_map (nodes_named T) vs) (as_list p) h)
    (λ h. let z : as_list (party_of T v) ≡ [] = not_node (party_of T v) h in rw (z, ◌++◌) (or_kept T vs p (rw (h, any) at e)))

pub or_none : (T : Tables) (vs : List ℕ) (p : Option ConflictNode) → any_node T vs ≡ false → partners_or T vs p ≡ as_list p
unfolding any_node partners_or
or_none T [] p e = refl
or_none T (v ∷ vs) p e =
    split (is_node (party_of T v))
    (λ h. let z : true ≡ false = rw (h, any) at e in clash (cc))
    (λ h. let z : as_list (party_of T v) ≡ [] = not_node (party_of T v) h in rw (z, ◌++◌) (or_none T vs p (rw (h, any) at e)))

-- ---- what is recovered of variable v: i is what `assigned_by` gave, one more than the clause's number or 0

-- for the laws below
mark_none : (T : Tables) (v i : ℕ) → i ≡ assigned_mark T v → i ≡ 0 → assigned_by T v ≡ none
unfolding assigned_mark
mark_none T v i q e = go (assigned_by T v) (sym q ∙ e)
  where
    go : (o : Maybe ℕ) → ◌≡◌ {A = ℕ} (elim o [ none ↦ 0 | some i ↦ suc i ]) 0 → o ≡ none
    go none h = refl
    go (some j) h = let f : ⊥ = omega arith in absurd f

mark_some : (T : Tables) (v i : ℕ) → i ≡ assigned_mark T v → (i ≡ 0 → ⊥) → assigned_by T v ≡ some (i - 1)
unfolding assigned_mark
mark_some T v i q e = go (assigned_by T v) q
  where
    go : (o : Maybe ℕ) → i ≡ elim o [ none ↦ 0 | some j ↦ suc j ] → o ≡ some (i - 1)
    go none h = absurd (e h)
    go (some j) h = let z : j ≡ i - 1 = omega arith in ap some z

module _ (T : Tables) (v i : ℕ) (q : i ≡ assigned_mark T v) where
  -- no clause assigned it: neither
  pub gate_unassigned : i ≡ 0 → None ≡ gate_reason T v
  unfolding gate_reason
  gate_unassigned e = rw (mark_none T v i q e, gate_reason)

  pub parent_unassigned : i ≡ 0 → None ≡ parent_reason T v
  unfolding parent_reason
  parent_unassigned e = rw (mark_none T v i q e, parent_reason)

  pub excluded_unassigned : i ≡ 0 → None ≡ excluded_reason T v
  unfolding excluded_reason
  excluded_unassigned e = rw (mark_none T v i q e, excluded_reason)

  -- clause c did: what it names, where it is of the kind that is looked for, else neither
  module _ (n : i ≡ 0 → ⊥) (c : Clause) (d : c ≡ clause_of T (i - 1)) where
    pub gate_other : any_of_in T c ≡ None → None ≡ gate_reason T v
    unfolding gate_reason
    gate_other e = rw (mark_some T v i q n, gate_reason, ← d) (sym e)

    pub gate_assigned : (a b : ℕ) (r : Option ConflictNode) → c ≡ C.AnyOf a b → r ≡ party_of T b → r ≡ gate_reason T v
    unfolding gate_reason
    gate_assigned a b r e p = rw (mark_some T v i q n, gate_reason, ← d, e) p

    pub parent_other : parent_in T c ≡ None → None ≡ parent_reason T v
    unfolding parent_reason
    parent_other e = rw (mark_some T v i q n, parent_reason, ← d) (sym e)

    pub parent_assigned : (a b k : ℕ) (r : Option ConflictNode) → c ≡ C.ConstrainsParent a b k → r ≡ party_of T a → r ≡ parent_reason T v
    unfolding parent_reason
    parent_assigned a b k r e p = rw (mark_some T v i q n, parent_reason, ← d, e) p

    pub excluded_other : excluded_in T c ≡ None → None ≡ excluded_reason T v
    unfolding excluded_reason
    excluded_other e = rw (mark_some T v i q n, excluded_reason, ← d) (sym e)

    pub excluded_assigned : (a b k : ℕ) (r : Option ConflictNode) → c ≡ C.ConstrainsExcluded a b k → r ≡ party_of T a → r ≡ excluded_reason T v
    unfolding excluded_reason
    excluded_assigned a b k r e p = rw (mark_some T v i q n, excluded_reason, ← d, e) p
