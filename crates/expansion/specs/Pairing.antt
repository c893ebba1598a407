-- Clauses 23 and 24: one triple, triples one after another, the partners of an auxiliary, the whole clause. Each law is one way out of a
-- function: what the code did leaves tables and an answer that hold what the definition says.
use Rattle.std.specs.Prelude.{◌≡◌, Bool, true, false, ℕ, suc, ◌+◌, ◌-◌, ◌<◌, ◌≤◌, set, take, eqb, Result, Ok, Err, Option, Some, None}
use Rattle.std.proofs.Math.Path.{refl, sym, ap}
use Rattle.std.proofs.Common.{◌∙◌, arith}
use mathlib.Core.List.{List, [], ◌∷◌, ◌++◌, map, map-append}
use Rattle.basis.specs.Lists.{any, concat_map}
use Rattle.basis.specs.Chains.{linked}
use Rattle.records.specs.Tables.{Tables}
use Rattle.records.specs.Read.{tables_of}
use Rattle.records.specs.Views.{aux_partners}
use Rattle.index.specs.Index.{Loaded}
use Rattle.index.specs.Found.{loaded_valid}
use Rattle.views.specs.Walks.{first_parent, first_excluded, next_partner, aux_at, aux_from, parents_start, excluded_start, aux_step, aux_end}
use Rattle.store.specs.declared.ConflictNode.{ConflictNode}
use Rattle.store.specs.declared.ConflictCause.TheVariants as K
use Rattle.store.specs.declared.ConflictEdge.TheVariants as E
use Rattle.store.specs.declared.Size.{Size}
use Rattle.store.specs.declared.Put.{Put}
use Rattle.store.specs.Working.{AddedSoFar, added_to, full_at, add_link_in}
use Rattle.store.specs.Table.{graph_in, Growing, added_in, size_of, edges_count}
use Rattle.expansion.specs.Triple.{Triple, triple, same_triple}
use Rattle.expansion.specs.Hashed.{TripleWord, triple_lay, hash_of, made_in, made_before, made_new, triples_add}
use Rattle.linking.specs.Links.{party_of, as_list, nodes_named, parent_reason, excluded_reason, partners_or}
use Rattle.linking.specs.Growth.{edges_link}
use Rattle.linking.specs.Parties.{is_node, any_node, any_hit, any_miss, any_none, or_kept, or_none, parent_unassigned, excluded_unassigned}
use Rattle.index.specs.Found.{assigned_mark}
use Rattle.expansion.specs.declared.Side.{Side}
use Rattle.expansion.specs.declared.Side.TheVariants.{Parent, Candidate}
use Rattle.expansion.specs.declared.Work.{Work}
use Rattle.store.specs.declared.Full.{Full}
use Rattle.expansion.specs.Expand.{Build, triple_by, triples_of, others}
use Rattle.expansion.specs.Working.{StepSoFar, on_to, stop_at, once_in, once_all_in, pair_in}
use Rattle.expansion.specs.Lasts.{lasts_linked}
use Rattle.expansion.specs.State.{build_in, Holds, progress_in, Expanded}

-- ---- what is spoken of

-- making the triples ts from the build in tables g, tr, w led to tables g', tr', w' and answer r
abbrev pub ExpandedBy : List Triple → List ℕ → List ℕ → List ℕ → Work → List ℕ → List ℕ → List ℕ → Result Work Full → Type 0
ExpandedBy ts g tr w k g' tr' w' r = Expanded (once_all_in ts (build_in g tr w k)) g' tr' w' r

-- making the triples ts gives X: what is left of a loop
pub record Pending (X : StepSoFar) (ts : List Triple) (g tr w : List ℕ) (k : Work) : Type 0 where
  pub left : once_all_in ts (build_in g tr w k) ≡ X
  pub holds : Holds g tr w k

-- the triple of node n with the partner that clause i tells, none where that names neither
unfoldable pub triples_at : Tables → Side → ConflictNode → ℕ → ℕ → List Triple
triples_at T side n v i = triples_of side n v (nodes_named T (aux_at T i))

-- the triples of node n with an auxiliary's partners from the stored value x on
unfoldable pub pairs_from : Tables → Side → ConflictNode → ℕ → ℕ → List Triple
pairs_from T side n v x = triples_of side n v (concat_map (nodes_named T) (aux_from T x))

-- the other side of auxiliary v: its first partner plus one, and what is recovered where none is kept
abbrev pub first_other : Tables → Side → ℕ → ℕ
first_other T Parent v = first_excluded T v
first_other T Candidate v = first_parent T v

abbrev pub other_reason : Tables → Side → ℕ → Option ConflictNode
other_reason T Parent v = excluded_reason T v
other_reason T Candidate v = parent_reason T v

-- ---- one triple: t is its word, b whether it was made before, a what the link gave and h the table then

module _ (g tr w : List ℕ) (k : Work) (p d : ConflictNode) (v t : ℕ) (H : Holds g tr w k) (W : TripleWord (triple p d v) t)
    (b : Bool) (q : b ≡ any (eqb t) (take k.triples tr)) where
  sought : b ≡ any (same_triple (triple p d v)) (made_in tr k.triples)
  sought = q ∙ made_before tr w k.triples (triple p d v) t H.triples W

  -- made before: nothing is added
  pub once_old : b ≡ true → Expanded (once_in (build_in g tr w k) (triple p d v)) g tr w (Ok k)
  unfolding once_in
  once_old e = record { is = rw ((sym sought ∙ e), once_in); holds = H }

  module _ (h : List ℕ) (a : Result Put Full) (n : b ≡ false)
      (l : added_in h a ≡ add_link_in (graph_in g k.size) p d (E.Conflict (K.Constrains v))) (G : Growing h (size_of a)) where
    -- no room for the link
    pub once_full : (z : Full) → a ≡ Err z → Expanded (once_in (build_in g tr w k) (triple p d v)) h tr w (Err z)
    unfolding once_in
    once_full z e =
        let y : add_link_in (graph_in g k.size) p d (E.Conflict (K.Constrains v)) ≡ full_at (graph_in h z.size) = sym l ∙ ap (added_in h) e in
        record { is = rw ((sym sought ∙ n), once_in, y); holds = rw e at G }

    module _ (i : Put) (e : a ≡ Ok i) where
      went : add_link_in (graph_in g k.size) p d (E.Conflict (K.Constrains v)) ≡ added_to i.place (graph_in h i.size)
      went = sym l ∙ ap (added_in h) e

      grown : i.size.edges ≡ suc k.size.edges
      grown =
          let S : Growing h i.size = rw e at G in
          sym (edges_count h i.size S.stored)
          ∙ edges_link (graph_in g k.size) (graph_in h i.size) p d (E.Conflict (K.Constrains v)) i.place went
          ∙ ap suc (edges_count g k.size H.growing.stored)

      -- the link went in, so there is room for the triple
      pub once_room : k.triples < 1024
      once_room = let S : Growing h i.size = rw e at G in omega (arith, grown, H.few, S.stored.edges_most)

      -- and the triple is noted
      pub once_new : (us m : List ℕ) → us ≡ set tr k.triples t → m ≡ linked triple_lay w k.triples (hash_of t)
          → Expanded (once_in (build_in g tr w k) (triple p d v)) h us m (Ok (record { size = i.size; triples = k.triples + 1 }))
      unfolding once_in
      once_new us m f j =
          record {
            is = rw (
              (sym sought ∙ n),
              once_in,
              went,
              made_new tr us w k.triples (triple p d v) t H.triples f W once_room,
              lasts_linked w m k.triples (hash_of t) j once_room (omega arith),
            );
            holds = record {
              growing = rw e at G;
              triples = triples_add tr us w m k.triples (triple p d v) t H.triples f j W once_room;
              few = omega (arith, grown, H.few);
            };
          }

pub ruleset onces = (once_old, once_full, once_new)

-- ---- triples one after another: for the proofs

abbrev pub and_then : StepSoFar → List Triple → StepSoFar
and_then (on_to b) ts = once_all_in ts b
and_then (stop_at g) ts = stop_at g

pub once_append : (xs ys : List Triple) (b : Build) → once_all_in (xs ++ ys) b ≡ and_then (once_all_in xs b) ys
unfolding once_all_in
once_append [] ys b = refl
once_append (x ∷ xs) ys b = after (once_append xs ys) (once_in b x)
  where
    after : ((c : Build) → once_all_in (xs ++ ys) c ≡ and_then (once_all_in xs c) ys) → (s : StepSoFar)
        → elim s [ stop_at g ↦ stop_at g | on_to c ↦ once_all_in (xs ++ ys) c ]
        ≡ and_then (elim s [ stop_at g ↦ stop_at g | on_to c ↦ once_all_in xs c ]) ys
    after f (on_to c) = f c
    after f (stop_at g) = refl

pub once_one : (t : Triple) (b : Build) → once_all_in (t ∷ []) b ≡ once_in b t
unfolding once_all_in
once_one t b = same (once_in b t)
  where
    same : (s : StepSoFar) → elim s [ stop_at g ↦ stop_at g | on_to c ↦ on_to c ] ≡ s
    same (on_to c) = refl
    same (stop_at g) = refl

-- of the triples ts the first part xs was made, and ys is left
module _ (X : StepSoFar) (ts xs ys : List Triple) (g tr w g' tr' w' : List ℕ) (k : Work) (r : Result Work Full)
    (L : Pending X ts g tr w k) (R : ExpandedBy xs g tr w k g' tr' w' r) (e : ts ≡ xs ++ ys) where
  rest : and_then (progress_in g' tr' w' r) ys ≡ X
  rest =
      ap (λ (s : StepSoFar). and_then s ys) R.is ∙ sym (once_append xs ys (build_in g tr w k))
      ∙ ap (λ (l : List Triple). once_all_in l (build_in g tr w k)) (sym e) ∙ L.left

  pending_next : (m : Work) → r ≡ Ok m → Pending X ys g' tr' w' m
  pending_next m q =
      record { left = ap (λ (s : Result Work Full). and_then (progress_in g' tr' w' s) ys) (sym q) ∙ rest; holds = rw q at R.holds }

  pending_stop : (z : Full) → r ≡ Err z → Expanded X g' tr' w' (Err z)
  pending_stop z q =
      record { is = ap (λ (s : Result Work Full). and_then (progress_in g' tr' w' s) ys) (sym q) ∙ rest; holds = rw q at R.holds }

pending_end : (X : StepSoFar) (ts : List Triple) (g tr w : List ℕ) (k : Work) → Pending X ts g tr w k → ts ≡ [] → Expanded X g tr w (Ok k)
unfolding once_all_in
pending_end X ts g tr w k L e =
    record { is = ap (λ (l : List Triple). once_all_in l (build_in g tr w k)) (sym e) ∙ L.left; holds = L.holds }

-- ---- the triple of node n with a party r of the other side, none where it names neither

module _ (side : Side) (n : ConflictNode) (v : ℕ) (r : Option ConflictNode) (g tr w g' tr' w' : List ℕ) (k : Work) where
  pub pair_none : r ≡ None → Holds g tr w k → ExpandedBy (triples_of side n v (as_list r)) g tr w k g tr w (Ok k)
  unfolding once_all_in triples_of
  pair_none e H = record { is = rw e; holds = H }

  as_one : (m : ConflictNode) (t : Triple) → r ≡ Some m → triple_by side n v m ≡ t
      → once_all_in (triples_of side n v (as_list r)) (build_in g tr w k) ≡ once_in (build_in g tr w k) t
  unfolding triples_of
  as_one m t e q = rw (e, q) (once_one t (build_in g tr w k))

  pub pair_parent : (m : ConflictNode) (d : Result Work Full) → Expanded (once_in (build_in g tr w k) (triple n m v)) g' tr' w' d → r ≡ Some m
      → side ≡ Parent → ExpandedBy (triples_of side n v (as_list r)) g tr w k g' tr' w' d
  pair_parent m d R e q = rw (as_one m (triple n m v) e (ap (λ (s : Side). triple_by s n v m) q)) R

  pub pair_candidate : (m : ConflictNode) (d : Result Work Full) → Expanded (once_in (build_in g tr w k) (triple m n v)) g' tr' w' d → r ≡ Some m
      → side ≡ Candidate → ExpandedBy (triples_of side n v (as_list r)) g tr w k g' tr' w' d
  pair_candidate m d R e q = rw (as_one m (triple m n v) e (ap (λ (s : Side). triple_by s n v m) q)) R

pub ruleset pairs = (pair_none, pair_parent, pair_candidate)

-- ---- whether an auxiliary keeps some partner, from the stored value x on: v is the partner at hand, b whether it names a node, W the
-- answer

module _ (T : Tables) (x v : ℕ) (b : Bool) (W : Bool) (i : any_node T (aux_from T x) ≡ W) (h : 0 < x)
    (p : v ≡ aux_at T (x - 1)) (q : b ≡ is_node (party_of T v)) where
  pub aux_hit : b ≡ true → true ≡ W
  aux_hit e =
      sym (any_hit T (aux_from T x) (aux_from T (next_partner T (x - 1))) v (aux_step T x v (next_partner T (x - 1)) h p refl) b q e) ∙ i

  pub aux_miss : (y : ℕ) → b ≡ false → y ≡ next_partner T (x - 1) → any_node T (aux_from T y) ≡ W
  aux_miss y e z = sym (any_miss T (aux_from T x) (aux_from T y) v (aux_step T x v y h p z) b q e) ∙ i

pub aux_out : (T : Tables) (x : ℕ) (W : Bool) → any_node T (aux_from T x) ≡ W → x ≤ 0 → false ≡ W
aux_out T x W i h = any_none T (aux_from T x) (aux_end T x h) ∙ i

pub ruleset auxes_kept = (aux_hit, aux_miss, aux_out)

-- ---- the triples with an auxiliary's partners, one partner after another: c is the partner of clause i, r the party that it names

pub pair_told : (T : Tables) (side : Side) (n : ConflictNode) (v i c : ℕ) (r : Option ConflictNode) (g tr w g' tr' w' : List ℕ) (k : Work) (d : Result Work Full)
    → c ≡ aux_at T i → r ≡ party_of T c → ExpandedBy (triples_of side n v (as_list r)) g tr w k g' tr' w' d
    → ExpandedBy (triples_at T side n v i) g tr w k g' tr' w' d
unfolding triples_at
pair_told T side n v i c r g tr w g' tr' w' k d e p R = rw (sym (p ∙ ap (party_of T) e)) R

module _ (T : Tables) (side : Side) (n : ConflictNode) (v : ℕ) where
  pub pairs_step : (x y : ℕ) → 0 < x → y ≡ next_partner T (x - 1)
      → pairs_from T side n v x ≡ triples_at T side n v (x - 1) ++ pairs_from T side n v y
  unfolding pairs_from triples_of triples_at
  pairs_step x y h z =
      ap (λ (l : List ℕ). map (triple_by side n v) (concat_map (nodes_named T) l)) (aux_step T x (aux_at T (x - 1)) y h refl z)
      ∙ map-append (triple_by side n v) (nodes_named T (aux_at T (x - 1))) (concat_map (nodes_named T) (aux_from T y))

  -- d is what making the triple of the partner at x gave
  module _ (X : StepSoFar) (g tr w g' tr' w' : List ℕ) (k : Work) (x : ℕ) (d : Result Work Full) where
    -- there was room: what is left is the rest
    pub pairs_next : (y : ℕ) (m : Work) → Pending X (pairs_from T side n v x) g tr w k → 0 < x
        → ExpandedBy (triples_at T side n v (x - 1)) g tr w k g' tr' w' d → d ≡ Ok m → y ≡ next_partner T (x - 1)
        → Pending X (pairs_from T side n v y) g' tr' w' m
    pairs_next y m L h R o z =
        pending_next X (pairs_from T side n v x) (triples_at T side n v (x - 1)) (pairs_from T side n v y) g tr w g' tr' w' k d L R
        (pairs_step x y h z) m o

    -- there was none: that is the answer
    pub pairs_stop : (z : Full) → Pending X (pairs_from T side n v x) g tr w k → 0 < x
        → ExpandedBy (triples_at T side n v (x - 1)) g tr w k g' tr' w' d → d ≡ Err z → Expanded X g' tr' w' (Err z)
    pairs_stop z L h R o =
        pending_stop X (pairs_from T side n v x) (triples_at T side n v (x - 1)) (pairs_from T side n v (next_partner T (x - 1)))
        g tr w g' tr' w' k d L R (pairs_step x (next_partner T (x - 1)) h refl) z o

  -- no partner is left
  pub pairs_end : (X : StepSoFar) (g tr w : List ℕ) (k : Work) (x : ℕ) → Pending X (pairs_from T side n v x) g tr w k → x ≤ 0
      → Expanded X g tr w (Ok k)
  unfolding pairs_from triples_of
  pairs_end X g tr w k x L h =
      pending_end X (pairs_from T side n v x) g tr w k L
      (ap (λ (l : List ℕ). map (triple_by side n v) (concat_map (nodes_named T) l)) (aux_end T x h))

-- ---- the other side of an auxiliary, by the side on which the clause stands

pub first_parent_lem : (T : Tables) (side : Side) (v r : ℕ) → side ≡ Parent → r ≡ first_excluded T v → r ≡ first_other T side v
first_parent_lem T side v r e q = rw e q

pub first_candidate_lem : (T : Tables) (side : Side) (v r : ℕ) → side ≡ Candidate → r ≡ first_parent T v → r ≡ first_other T side v
first_candidate_lem T side v r e q = rw e q

pub reason_parent : (T : Tables) (side : Side) (v : ℕ) (r : Option ConflictNode) → side ≡ Parent → r ≡ excluded_reason T v → r ≡ other_reason T side v
reason_parent T side v r e q = rw e q

pub reason_candidate : (T : Tables) (side : Side) (v : ℕ) (r : Option ConflictNode) → side ≡ Candidate → r ≡ parent_reason T v → r ≡ other_reason T side v
reason_candidate T side v r e q = rw e q

-- no clause assigned it
pub other_unassigned : (T : Tables) (side : Side) (v i : ℕ) → i ≡ assigned_mark T v → i ≡ 0 → None ≡ other_reason T side v
other_unassigned T Parent v i q e = excluded_unassigned T v i q e
other_unassigned T Candidate v i q e = parent_unassigned T v i q e

pub ruleset sides = (first_parent_lem, first_candidate_lem, reason_parent, reason_candidate)

-- x is the first partner of the other side plus one, b whether some partner is kept
module _ (file ix : List ℕ) (L : Loaded file ix) (v x : ℕ) (b : Bool) (e : b ≡ any_node (tables_of file) (aux_from (tables_of file) x)) where
  abbrev T : Tables
  T = tables_of file

  -- the partners, and the recovered one, of the side
  abbrev partners : Side → List ℕ
  partners Parent = aux_partners T 24 v
  partners Candidate = aux_partners T 23 v

  others_are : (side : Side) → others T side v ≡ partners_or T (partners side) (other_reason T side v)
  unfolding others
  others_are Parent = refl
  others_are Candidate = refl

  all : (side : Side) → x ≡ first_other T side v → aux_from T x ≡ partners side
  all Parent f = excluded_start T v x (loaded_valid file ix L) f
  all Candidate f = parents_start T v x (loaded_valid file ix L) f

  asked : (side : Side) → x ≡ first_other T side v → any_node T (partners side) ≡ b
  asked side f = ap (any_node T) (sym (all side f)) ∙ sym e

  module _ (side : Side) (f : x ≡ first_other (tables_of file) side v) (n : ConflictNode) (s : ℕ)
      (g tr w g' tr' w' : List ℕ) (k : Work) (d : Result Work Full) where
    -- the partners' triples are all
    pub aux_some : b ≡ true → ExpandedBy (pairs_from (tables_of file) side n s x) g tr w k g' tr' w' d
        → ExpandedBy (triples_of side n s (others (tables_of file) side v)) g tr w k g' tr' w' d
    unfolding pairs_from
    aux_some t R =
        let z : others T side v ≡ concat_map (nodes_named T) (aux_from T x) =
        others_are side ∙ or_kept T (partners side) (other_reason T side v) (asked side f ∙ t)
        ∙ ap (concat_map (nodes_named T)) (sym (all side f)) in
        rw z R

    -- that of the recovered party r is
    pub aux_recovered : (r : Option ConflictNode) → b ≡ false → r ≡ other_reason (tables_of file) side v
        → ExpandedBy (triples_of side n s (as_list r)) g tr w k g' tr' w' d
        → ExpandedBy (triples_of side n s (others (tables_of file) side v)) g tr w k g' tr' w' d
    aux_recovered r t z R =
        let y : others T side v ≡ as_list (other_reason T side v) =
        others_are side ∙ or_none T (partners side) (other_reason T side v) (asked side f ∙ t) in
        rw y (rw z at R)

pub ruleset aux_ways = (aux_some, aux_recovered)

-- ---- the whole clause: r is the party that its first variable a names

module _ (T : Tables) (side : Side) (a b v : ℕ) (r : Option ConflictNode) (q : r ≡ party_of T a) (g tr w g' tr' w' : List ℕ) (k : Work) where
  pub clause_neither : r ≡ None → Holds g tr w k → Expanded (pair_in T side a b v (build_in g tr w k)) g tr w (Ok k)
  unfolding pair_in
  clause_neither e H = record { is = rw (← q, e); holds = H }

  pub clause_node : (n : ConflictNode) (d : Result Work Full) → r ≡ Some n → ExpandedBy (triples_of side n v (others T side b)) g tr w k g' tr' w' d
      → Expanded (pair_in T side a b v (build_in g tr w k)) g' tr' w' d
  unfolding pair_in
  clause_node n d e R = record { is = R.is ∙ rw (← q, e); holds = R.holds }

pub ruleset clauses = (clause_neither, clause_node)
