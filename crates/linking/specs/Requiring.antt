-- Requires: the links of one requirer to its candidates, of all requirers of a gate, of the whole clause. Each law is one way out of a
-- function: what the code did gives a graph that grew by these links.
use Rattle.std.specs.Prelude.{◌≡◌, Bool, ℕ, ◌-◌, ◌<◌, ◌≤◌, Result, Ok, Err, Option, Some, None}
use Rattle.std.proofs.Math.Path.{refl, sym, ap}
use Rattle.std.proofs.Common.{◌∙◌, arith}
use Rattle.std.proofs.Math.Bool.{true, false}
use mathlib.Core.List.{List, [], ◌∷◌, ◌++◌, map, append-nil, append_assoc}
use Rattle.basis.specs.Lists.{concat_map}
use Rattle.records.specs.declared.Origin.{Origin}
use Rattle.records.specs.declared.Origin.TheVariants as O
use Rattle.records.specs.Tables.{Tables}
use Rattle.records.specs.Read.{tables_of}
use Rattle.records.specs.Views.{origin_of, candidates_of, gate_partners}
use Rattle.index.specs.Index.{Loaded}
use Rattle.index.specs.Found.{loaded_valid}
use Rattle.views.specs.Walks.{first_candidate, next_candidate, candidate_at, candidates_from, candidates_start, candidates_step, candidates_end}
use Rattle.views.specs.Walks.{first_gate, next_partner, gate_at, gates_from, gates_start, gates_step, gates_end}
use Rattle.store.specs.declared.ConflictNode.{ConflictNode}
use Rattle.store.specs.declared.ConflictNode.TheVariants as N
use Rattle.store.specs.declared.ConflictEdge.TheVariants as E
use Rattle.store.specs.declared.Size.{Size}
use Rattle.store.specs.Table.{graph_in, Growing}
use Rattle.store.specs.declared.Full.{Full}
use Rattle.linking.specs.Links.{party_of, as_list, nodes_named, gate_reason, partners_or, requirers, requirers_by}
use Rattle.linking.specs.Links.{Link, link, require_link, require_links, requires_of}
use Rattle.linking.specs.Working.{LinkedSoFar, link_all_in}
use Rattle.linking.specs.Growth.{Grew, LinksLeft, left_next, left_stop, left_start, left_end, grew_none, grew_as}
use Rattle.linking.specs.Parties.{is_node, any_node, any_hit, any_miss, any_none, or_kept, or_none}

-- ---- the links that are spoken of

-- adding the links ls to the graph in table g led to table h and answer r
abbrev pub GrewBy : List Link → List ℕ → Size → List ℕ → Result Size Full → Type 0
GrewBy ls g s h r = Grew (link_all_in ls (graph_in g s)) h r

-- of requirer p to the candidates from the stored value x on
unfoldable pub candidate_links : Tables → ℕ → ConflictNode → ℕ → List Link
candidate_links T q p x = map (require_link q p) (candidates_from T x)

-- of requirer p, all
unfoldable pub require_of : Tables → ℕ → ConflictNode → List Link
require_of T q p = require_links q (candidates_of T q) p

-- of a gate's partners from the stored value x on
unfoldable pub gate_links : Tables → ℕ → ℕ → List Link
gate_links T q x = requires_of T q (concat_map (nodes_named T) (gates_from T x))

-- the requirers of gate v: its partners, or the one that is recovered
unfoldable pub gate_of : Tables → ℕ → List ConflictNode
gate_of T v = partners_or T (gate_partners T v) (gate_reason T v)

-- ---- one requirer p of requirement q: x is the first candidate plus one, 0 where there is none

module _ (file ix : List ℕ) (L : Loaded file ix) (q x : ℕ) (f : x ≡ first_candidate (tables_of file) q)
    (p : ConflictNode) (g k : List ℕ) (s : Size) (r : Result Size Full) where
  abbrev T : Tables
  T = tables_of file

  all_candidates : candidates_from T x ≡ candidates_of T q
  all_candidates = candidates_start T q x (loaded_valid file ix L) f

  -- none: the link to unresolved is all
  pub require_none : x ≡ 0 → GrewBy (link p N.UnresolvedDependency (E.Requires q) ∷ []) g s k r
      → GrewBy (require_of (tables_of file) q p) g s k r
  unfolding require_of
  require_none e R =
      let z : candidates_of T q ≡ [] = sym all_candidates ∙ candidates_end T x (omega arith) in
      rw z R

  -- some: their links are all
  pub require_some : (x ≡ 0 → ⊥) → GrewBy (candidate_links (tables_of file) q p x) g s k r → GrewBy (require_of (tables_of file) q p) g s k r
  unfolding require_of candidate_links
  require_some e R =
      let a : candidates_from T x ≡ candidate_at T (x - 1) ∷ candidates_from T (next_candidate T (x - 1)) =
      candidates_step T x (candidate_at T (x - 1)) (next_candidate T (x - 1)) (omega (arith, e)) refl refl in
      let z : candidates_of T q ≡ candidate_at T (x - 1) ∷ candidates_from T (next_candidate T (x - 1)) = sym all_candidates ∙ a in
      rw z (rw a at R)

pub ruleset requires_one = (require_none, require_some)

-- ---- a party r of requirement q: the links of its node, none where it names neither

module _ (T : Tables) (q : ℕ) (g k : List ℕ) (s : Size) where
  one_require : (p : ConflictNode) → requires_of T q (p ∷ []) ≡ require_of T q p
  unfolding requires_of require_of
  one_require p = append-nil (require_links q (candidates_of T q) p)

  pub party_none : (r : Option ConflictNode) → r ≡ None → Growing g s → GrewBy (requires_of T q (as_list r)) g s g (Ok s)
  unfolding requires_of
  party_none r e P = grew_none (requires_of T q (as_list r)) g s (rw e) P

  pub party_some : (r : Option ConflictNode) (p : ConflictNode) (d : Result Size Full) → GrewBy (require_of T q p) g s k d → r ≡ Some p
      → GrewBy (requires_of T q (as_list r)) g s k d
  party_some r p d R e =
      grew_as (requires_of T q (as_list r)) (require_of T q p) g k s d R (ap (λ (z : Option ConflictNode). requires_of T q (as_list z)) e ∙ one_require p)

-- ---- whether a gate keeps some partner, from the stored value x on: v is the partner at hand, b whether it names a node, W the answer

module _ (T : Tables) (x v : ℕ) (b : Bool) (W : Bool) (i : any_node T (gates_from T x) ≡ W) (h : 0 < x)
    (p : v ≡ gate_at T (x - 1)) (q : b ≡ is_node (party_of T v)) where
  pub gate_hit : b ≡ true → true ≡ W
  gate_hit e =
      sym (any_hit T (gates_from T x) (gates_from T (next_partner T (x - 1))) v (gates_step T x v (next_partner T (x - 1)) h p refl) b q e) ∙ i

  pub gate_miss : (y : ℕ) → b ≡ false → y ≡ next_partner T (x - 1) → any_node T (gates_from T y) ≡ W
  gate_miss y e z = sym (any_miss T (gates_from T x) (gates_from T y) v (gates_step T x v y h p z) b q e) ∙ i

-- `gate_miss`, as `grind` takes it
pub gate_past : (T : Tables) (x : ℕ) → 0 < x → is_node (party_of T (gate_at T (x - 1))) ≡ false
    → any_node T (gates_from T x) ≡ any_node T (gates_from T (next_partner T (x - 1)))
gate_past T x h e =
    any_miss T (gates_from T x) (gates_from T (next_partner T (x - 1))) (gate_at T (x - 1))
    (gates_step T x (gate_at T (x - 1)) (next_partner T (x - 1)) h refl refl) (is_node (party_of T (gate_at T (x - 1)))) refl e

pub gate_out : (T : Tables) (x : ℕ) (W : Bool) → any_node T (gates_from T x) ≡ W → x ≤ 0 → false ≡ W
gate_out T x W i h = any_none T (gates_from T x) (gates_end T x h) ∙ i

pub ruleset gates_kept = (gate_hit, gate_miss, gate_out)

-- ---- the links of a gate's partners, one partner after another: v is the partner at hand, r the party that it names, d what adding its
-- links gave

module _ (T : Tables) (q : ℕ) where
  gate_step : (x v y : ℕ) → 0 < x → v ≡ gate_at T (x - 1) → y ≡ next_partner T (x - 1)
      → gate_links T q x ≡ requires_of T q (as_list (party_of T v)) ++ gate_links T q y
  unfolding gate_links requires_of
  gate_step x v y h e z =
      ap (λ (l : List ℕ). concat_map (require_links q (candidates_of T q)) (concat_map (nodes_named T) l)) (gates_step T x v y h e z)
      ∙ concat_append (require_links q (candidates_of T q)) (as_list (party_of T v)) (concat_map (nodes_named T) (gates_from T y))
    where
      concat_append : {A B : Type 0} (f : A → List B) (xs ys : List A) → concat_map f (xs ++ ys) ≡ concat_map f xs ++ concat_map f ys
      concat_append f [] ys = refl
      concat_append f (x ∷ xs) ys =
          ap (λ (l : List _). f x ++ l) (concat_append f xs ys) ∙ sym (append_assoc (f x) (concat_map f xs) (concat_map f ys))

  -- there was room: what is left is the rest
  pub gate_next : (W : LinkedSoFar) (g k : List ℕ) (s t : Size) (r : Option ConflictNode) (d : Result Size Full) (x v y : ℕ) → LinksLeft W (gate_links T q x) g s → 0 < x
      → v ≡ gate_at T (x - 1) → r ≡ party_of T v → GrewBy (requires_of T q (as_list r)) g s k d → d ≡ Ok t → y ≡ next_partner T (x - 1)
      → LinksLeft W (gate_links T q y) k t
  gate_next W g k s t r d x v y L h e p R o z =
      left_next W (gate_links T q x) (requires_of T q (as_list r)) (gate_links T q y) g k s d t L R o
      (gate_step x v y h e z ∙ ap (λ (u : Option ConflictNode). requires_of T q (as_list u) ++ gate_links T q y) (sym p))

  -- there was none: that is the answer
  pub gate_stop : (W : LinkedSoFar) (g k : List ℕ) (s : Size) (b : Full) (r : Option ConflictNode) (d : Result Size Full) (x v : ℕ) → LinksLeft W (gate_links T q x) g s
      → 0 < x → v ≡ gate_at T (x - 1) → r ≡ party_of T v → GrewBy (requires_of T q (as_list r)) g s k d → d ≡ Err b → Grew W k (Err b)
  gate_stop W g k s b r d x v L h e p R o =
      left_stop W (gate_links T q x) (requires_of T q (as_list r)) (gate_links T q (next_partner T (x - 1))) g k s d b L R o
      (gate_step x v (next_partner T (x - 1)) h e refl
      ∙ ap (λ (u : Option ConflictNode). requires_of T q (as_list u) ++ gate_links T q (next_partner T (x - 1))) (sym p))

  -- no partner is left
  pub gate_end : (W : LinkedSoFar) (g : List ℕ) (s : Size) (x : ℕ) → LinksLeft W (gate_links T q x) g s → x ≤ 0 → Grew W g (Ok s)
  unfolding gate_links requires_of
  gate_end W g s x L h =
      left_end W (gate_links T q x) g s L
      (ap (λ (l : List ℕ). concat_map (require_links q (candidates_of T q)) (concat_map (nodes_named T) l)) (gates_end T x h))

pub ruleset gates = (left_start, gate_next, gate_stop, gate_end)

-- ---- gate v: x is its first partner plus one, b whether some partner is kept

module _ (file ix : List ℕ) (L : Loaded file ix) (v x : ℕ) (f : x ≡ first_gate (tables_of file) v) (b : Bool)
    (e : b ≡ any_node (tables_of file) (gates_from (tables_of file) x)) (q : ℕ) (g k : List ℕ) (s : Size) (r : Result Size Full) where
  all_gates : gates_from (tables_of file) x ≡ gate_partners (tables_of file) v
  all_gates = gates_start (tables_of file) v x (loaded_valid file ix L) f

  -- the partners' links are all
  pub gate_some : b ≡ true → GrewBy (gate_links (tables_of file) q x) g s k r
      → GrewBy (requires_of (tables_of file) q (gate_of (tables_of file) v)) g s k r
  unfolding gate_of gate_links
  gate_some t R =
      let a : any_node (tables_of file) (gate_partners (tables_of file) v) ≡ true = ap (any_node (tables_of file)) (sym all_gates) ∙ sym e ∙ t in
      rw (or_kept (tables_of file) (gate_partners (tables_of file) v) (gate_reason (tables_of file) v) a) (rw all_gates at R)

  -- those of the recovered party p are
  pub gate_recovered : (p : Option ConflictNode) → b ≡ false → p ≡ gate_reason (tables_of file) v → GrewBy (requires_of (tables_of file) q (as_list p)) g s k r
      → GrewBy (requires_of (tables_of file) q (gate_of (tables_of file) v)) g s k r
  unfolding gate_of
  gate_recovered p t z R =
      let a : any_node (tables_of file) (gate_partners (tables_of file) v) ≡ false = ap (any_node (tables_of file)) (sym all_gates) ∙ sym e ∙ t in
      rw (or_none (tables_of file) (gate_partners (tables_of file) v) (gate_reason (tables_of file) v) a) (rw z at R)

pub ruleset gate_ways = (gate_some, gate_recovered)

-- ---- the whole clause: by the origin o of its first variable a, the links of the root, of a solvable, of a gate, or none

module _ (T : Tables) (a q : ℕ) (o : Origin) (z : o ≡ origin_of T a) (g : List ℕ) (s : Size) where
  by_origin : (p : Origin) → o ≡ p → requirers T a ≡ requirers_by T a p
  unfolding requirers
  by_origin p e = ap (requirers_by T a) (sym z ∙ e)

  pub requires_root : (k : List ℕ) (r : Result Size Full) → o ≡ O.Root → GrewBy (require_of T q N.Root) g s k r
      → GrewBy (requires_of T q (requirers T a)) g s k r
  requires_root k r e R =
      grew_as (requires_of T q (requirers T a)) (require_of T q N.Root) g k s r R
      (ap (requires_of T q) (by_origin O.Root e) ∙ one_require T q g k s N.Root)

  pub requires_solvable : (k : List ℕ) (r : Result Size Full) (n : ℕ) → o ≡ O.Solvable n → GrewBy (require_of T q (N.Solvable n)) g s k r
      → GrewBy (requires_of T q (requirers T a)) g s k r
  requires_solvable k r n e R =
      grew_as (requires_of T q (requirers T a)) (require_of T q (N.Solvable n)) g k s r R
      (ap (requires_of T q) (by_origin (O.Solvable n) e) ∙ one_require T q g k s (N.Solvable n))

  pub requires_gate : (k : List ℕ) (r : Result Size Full) → o ≡ O.RequiresGate → GrewBy (requires_of T q (gate_of T a)) g s k r
      → GrewBy (requires_of T q (requirers T a)) g s k r
  unfolding gate_of
  requires_gate k r e R =
      grew_as (requires_of T q (requirers T a)) (requires_of T q (gate_of T a)) g k s r R (ap (requires_of T q) (by_origin O.RequiresGate e))

  no_requirers : requirers T a ≡ [] → Growing g s → GrewBy (requires_of T q (requirers T a)) g s g (Ok s)
  unfolding requires_of
  no_requirers e P = grew_none (requires_of T q (requirers T a)) g s (ap (requires_of T q) e) P

  pub requires_forbid : (n : ℕ) → o ≡ O.ForbidMultiple n → Growing g s → GrewBy (requires_of T q (requirers T a)) g s g (Ok s)
  requires_forbid n e P = no_requirers (by_origin (O.ForbidMultiple n) e) P

  pub requires_auxiliary : o ≡ O.ConstrainsAuxiliary → Growing g s → GrewBy (requires_of T q (requirers T a)) g s g (Ok s)
  requires_auxiliary e P = no_requirers (by_origin O.ConstrainsAuxiliary e) P

  pub requires_other : o ≡ O.Other → Growing g s → GrewBy (requires_of T q (requirers T a)) g s g (Ok s)
  requires_other e P = no_requirers (by_origin O.Other e) P

pub ruleset requirings = (requires_root, requires_solvable, requires_gate, requires_forbid, requires_auxiliary, requires_other)
