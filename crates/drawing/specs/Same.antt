-- Drawings with the same marks are the same: from the code's table of marks to what `drawn_of` says.
use Rattle.std.specs.Prelude.{◌≡◌, Bool, true, false, cond, ℕ, zero, suc, ◌+◌, ◌-◌, ◌<◌, ◌≤◌, length, replicate, ltb}
use Rattle.std.proofs.Math.Path.{refl, sym, ap}
use Rattle.std.proofs.Common.{◌∙◌, not-suc-le-zero}
use mathlib.Core.List.{List, [], ◌∷◌, map}
use native.Mathlib.Omega.{arith}
use Rattle.std.proofs.Math.ListN.{get_or, get_or-eq_default}
use Rattle.std.proofs.lemmas.List.{length-map, length-replicate, get_or-replicate}
use borrow.Author.Tests.{ltb-true, ltb-false}
use Rattle.basis.specs.Lists.{has, concat_map, upto}
use Rattle.basis.specs.Members.{split}
use Rattle.records.specs.Tables.{Tables}
use Rattle.records.specs.Views.{name_text, solvable_name}
use Rattle.store.specs.declared.ConflictNode.{ConflictNode}
use Rattle.store.specs.declared.ConflictNode.TheVariants as N
use Rattle.store.specs.declared.Edge.{Edge}
use Rattle.store.specs.declared.Size.{Size}
use Rattle.store.specs.Graph.{Graph, out, node_at}
use Rattle.store.specs.Table.{graph_in, nodes_count}
use Rattle.links.specs.Build.{Chains}
use Rattle.groups.specs.Groups.{title_of, lead_by, mates, lead_of}
use Rattle.groups.specs.Leads.{title_in, leads_to, leads_at, SameNames, leads_same}
use Rattle.texts.specs.Wrote.{over}
use Rattle.drawing.specs.declared.PenAnswer.{PenAnswer}
use Rattle.drawing.specs.Draw.{Sketch, merge_mark, drawn_of, drawn_at, edge_text, drawn_edges, is_drawn, edge_units, node_units, all_units, rest_units}
use Rattle.drawing.specs.Draw.{drawing_units}
use Rattle.drawing.specs.Graphviz.{draw_shown, answer_in}
use Rattle.drawing.specs.Stamps.{kept_single, kept_met, kept_new}
use Rattle.drawing.specs.Walk.{drawn_in, Ready}
use Rattle.drawing.specs.MergeMarks.{marks_to, Marked, marked_all, mark_most}

abbrev drawn_by : Tables → Graph → List ℕ → Sketch
drawn_by T G m = record { tables = T; graph = G; merged = m }

drawn_at_lem : (a b : List ℕ) (n : ℕ) → get_or a n 0 ≡ get_or b n 0 → (x : ConflictNode) → drawn_at a x n ≡ drawn_at b x n
unfolding drawn_at
drawn_at_lem a b n h N.Root = refl
drawn_at_lem a b n h (N.Solvable s) = rw h
drawn_at_lem a b n h N.UnresolvedDependency = refl
drawn_at_lem a b n h (N.Excluded r) = refl

map_same : {A B : Type 0} (f g : A → B) → ((x : A) → f x ≡ g x) → (l : List A) → map f l ≡ map g l
map_same f g h [] = refl
map_same f g h (x ∷ l) = rw (h x, map_same f g h l)

concat_same : {A B : Type 0} (f g : A → List B) → ((x : A) → f x ≡ g x) → (l : List A) → concat_map f l ≡ concat_map g l
concat_same f g h [] = refl
concat_same f g h (x ∷ l) = rw (h x, concat_same f g h l)

module _ (T : Tables) (G : Graph) (a b : List ℕ) (h : (j : ℕ) → get_or a j 0 ≡ get_or b j 0) where
  edge_same : (n : ℕ) (e : Edge) → edge_text (drawn_by T G a) n e ≡ edge_text (drawn_by T G b) n e
  unfolding edge_text
  edge_same n e = rw (h e.target)

  kept_same : (es : List Edge) (seen : List ℕ) → drawn_edges (drawn_by T G a) es seen ≡ drawn_edges (drawn_by T G b) es seen
  unfolding drawn_edges
  kept_same [] seen = refl
  kept_same (e ∷ es) seen =
      split (ltb 0 (get_or b e.target 0))
      (λ t. split (has (get_or b e.target 0 - 1) seen)
      (λ u. kept_met (drawn_by T G a) e es seen (rw (h e.target) t) (rw (h e.target) u) ∙ kept_same es seen ∙ sym (kept_met (drawn_by T G b) e es seen t u))
      (λ u. kept_new (drawn_by T G a) e es seen (rw (h e.target) t) (rw (h e.target) u)
      ∙ ap (λ (k : ℕ). e ∷ drawn_edges (drawn_by T G a) es ((k - 1) ∷ seen)) (h e.target)
      ∙ ap (λ (l : List Edge). e ∷ l) (kept_same es ((get_or b e.target 0 - 1) ∷ seen))
      ∙ sym (kept_new (drawn_by T G b) e es seen t u)))
      (λ t. kept_single (drawn_by T G a) e es seen (rw (h e.target) t) ∙ ap (λ (l : List Edge). e ∷ l) (kept_same es seen)
      ∙ sym (kept_single (drawn_by T G b) e es seen t))

  node_same : (n : ℕ) → node_units (drawn_by T G a) n ≡ node_units (drawn_by T G b) n
  unfolding node_units is_drawn edge_units
  node_same n =
      rw (
        drawn_at_lem a b n (h n) (node_at G n),
        kept_same (out G n) [],
        map_same (edge_text (drawn_by T G a) n) (edge_text (drawn_by T G b) n) (edge_same n) (drawn_edges (drawn_by T G b) (out G n) []),
      )

  shown_same : (k : ℕ) → draw_shown (drawn_by T G a) k ≡ draw_shown (drawn_by T G b) k
  unfolding draw_shown drawing_units rest_units all_units
  shown_same k = rw (concat_same (node_units (drawn_by T G a)) (node_units (drawn_by T G b)) node_same (upto (length G.nodes) 0))

-- ---- the marks of `drawn_of`

length_upto : (c a : ℕ) → length (upto c a) ≡ c
length_upto zero a = refl
length_upto (suc c) a = ap suc (length_upto c (suc a))

map_upto : (f : ℕ → ℕ) (c a i : ℕ) → i < c → get_or (map f (upto c a)) i 0 ≡ f (a + i)
map_upto f zero a i h = absurd (not-suc-le-zero h)
map_upto f (suc c) a zero h = let z : a + 0 ≡ a = omega arith in rw z
map_upto f (suc c) a (suc i) h = let z : a + suc i ≡ suc a + i = omega arith in rw z (map_upto f c (suc a) i (omega arith))

map_past : (f : ℕ → ℕ) (c i : ℕ) → c ≤ i → get_or (map f (upto c 0)) i 0 ≡ 0
map_past f c i h =
    let z : length (map f (upto c 0)) ≤ i = rw (length-map, length_upto) h in get_or-eq_default (map f (upto c 0)) 0 {n = i} z

fresh : (l : ℕ) → get_or (replicate {A = ℕ} 128 0) l 0 ≡ 0
fresh l =
    split (ltb l 128) (λ t. get_or-replicate {A = ℕ} 128 l 0 0 (ltb-true l 128 t))
    (λ t. let h : length (replicate {A = ℕ} 128 0) ≤ l = rw (length-replicate {A = ℕ} 128 0) (ltb-false l 128 t) in
    get_or-eq_default {A = ℕ} (replicate 128 0) 0 {n = l} h)

abbrev pub name_of : Tables → ℕ → List ℕ
name_of T s = name_text T (solvable_name T s)

-- the table of leads that `groups` fills
pub record Leading (T : Tables) (G : Graph) (leads : List ℕ) : Type 0 where
  pub lead : (j : ℕ) → j < length G.nodes → get_or leads j 0 ≡ lead_of (name_of T) G j

-- from what `groups::group` ensures; ids number the names by their texts
pub leading : (T : Tables) (G : Graph) (ids leads l : List ℕ) (k : ℕ) → leads ≡ leads_to (title_in ids) G k l → SameNames G (title_in ids) (title_of (name_of T) G)
    → k ≡ length G.nodes → k ≤ length l → Leading T G leads
unfolding lead_of
leading T G ids leads l k q S e h =
    record { lead = λ j i. rw (q, leads_same G (title_in ids) (title_of (name_of T) G) S k l) (leads_at (title_of (name_of T) G) G k l h j (rw e i)) }

-- needed where the text is simplified
unfoldable pub Given : Bool → Tables → Graph → List ℕ → Type 0
Given true T G leads = Leading T G leads
Given false T G leads = Unit {0}

pub given_leading : (t : Bool) (T : Tables) (G : Graph) (leads : List ℕ) → Given t T G leads → t ≡ true → Leading T G leads
unfolding Given
given_leading t T G leads x e = rw e at x

-- "option 1 simplifies"
abbrev pub option_of : Bool → ℕ
option_of t = cond t 1 0

-- ---- without groups

module _ (T : Tables) (g : List ℕ) (s : Size) (ls m : List ℕ) (z : m ≡ replicate {A = ℕ} 128 0) where
  plain : (k : ℕ) → draw_shown (drawn_in T g s m) k ≡ draw_shown (drawn_of 0 T (graph_in g s)) k
  unfolding drawn_of
  plain k = shown_same T (graph_in g s) m [] (λ j. rw z (fresh j)) k

  pub plain_answer : (k : ℕ) (t : Bool) (r : PenAnswer) → t ≡ false → r ≡ answer_in (draw_shown (drawn_in T g s m) k)
      → r ≡ answer_in (draw_shown (drawn_of (option_of t) T (graph_in g s)) k)
  plain_answer k t r e q = rw (e, ← plain k) q

  pub plain_room : (a b : List ℕ) (t : Bool) → t ≡ false → b ≡ over (draw_shown (drawn_in T g s m) (length a)).text a
      → b ≡ over (draw_shown (drawn_of (option_of t) T (graph_in g s)) (length a)).text a
  plain_room a b t e q = rw (e, ← plain (length a)) q

pub plain_ready : (g : List ℕ) (s : Size) (ls m : List ℕ) → m ≡ replicate {A = ℕ} 128 0 → Chains g s ls → Ready g s ls m
plain_ready g s ls m z C =
    record {
      chains = C;
      merging = record {
        long = rw z (length-replicate {A = ℕ} 128 0);
        few = C.stored.nodes_most;
        most = λ n. rw (z, fresh n) (omega arith);
      };
    }

-- ---- with groups; v: the marks that the pass left

module _ (T : Tables) (g : List ℕ) (s : Size) (ls leads m v : List ℕ) (L : Leading T (graph_in g s) leads) (C : Chains g s ls) (z : m
    ≡ replicate {A = ℕ} 128 0) (q : v ≡ marks_to leads s.nodes m) where
  count : length (graph_in g s).nodes ≡ s.nodes
  count = nodes_count g s C.stored

  marks : Marked (name_of T) (graph_in g s) v
  unfolding lead_of lead_by mates
  marks =
      let e : v ≡ marks_to leads (length (graph_in g s).nodes) m = q ∙ ap (λ (k : ℕ). marks_to leads k m) (sym count) in
      rw e (marked_all (name_of T) (graph_in g s) leads m z (omega (arith, count, C.stored.nodes_most)) L.lead)

  pub merged_ready : Ready g s ls v
  merged_ready = record { chains = C; merging = record { long = marks.long; few = C.stored.nodes_most; most = most } }
    where
      most : (n : ℕ) → get_or v n 0 ≤ s.nodes
      most n =
          split (ltb n (length (graph_in g s).nodes))
          (λ t. let e = marks.each n (ltb-true n (length (graph_in g s).nodes) t) in
          let b = mark_most (name_of T) (graph_in g s) n in
          omega (arith, count))
          (λ t. rw (marks.past n (ltb-false n (length (graph_in g s).nodes) t)) (omega arith))

  merged : (k : ℕ) → draw_shown (drawn_in T g s v) k ≡ draw_shown (drawn_of 1 T (graph_in g s)) k
  unfolding drawn_of
  merged k = shown_same T (graph_in g s) v (map (λ n. merge_mark (mates (name_of T) (graph_in g s) n)) (upto (length (graph_in g s).nodes) 0)) each k
    where
      each : (j : ℕ) → get_or v j 0 ≡ get_or (map (λ n. merge_mark (mates (name_of T) (graph_in g s) n)) (upto (length (graph_in g s).nodes) 0)) j 0
      each j =
          split (ltb j (length (graph_in g s).nodes))
          (λ t. let i = ltb-true j (length (graph_in g s).nodes) t in
          let y : 0 + j ≡ j = omega arith in
          marks.each j i ∙ sym (map_upto (λ n. merge_mark (mates (name_of T) (graph_in g s) n)) (length (graph_in g s).nodes) 0 j i
          ∙ ap (λ (n : ℕ). merge_mark (mates (name_of T) (graph_in g s) n)) y))
          (λ t. let i = ltb-false j (length (graph_in g s).nodes) t in
          marks.past j i ∙ sym (map_past (λ n. merge_mark (mates (name_of T) (graph_in g s) n)) (length (graph_in g s).nodes) j i))

  pub merged_answer : (k : ℕ) (r : PenAnswer) → r ≡ answer_in (draw_shown (drawn_in T g s v) k) → r ≡ answer_in (draw_shown (drawn_of 1 T (graph_in g s)) k)
  merged_answer k r e = rw (← merged k) e

  pub merged_room : (a b : List ℕ) → b ≡ over (draw_shown (drawn_in T g s v) (length a)).text a
      → b ≡ over (draw_shown (drawn_of 1 T (graph_in g s)) (length a)).text a
  merged_room a b e = rw (← merged (length a)) e

pub option_answer : (t : Bool) (T : Tables) (G : Graph) (k : ℕ) (r : PenAnswer) → r ≡ answer_in (draw_shown (drawn_of 1 T G) k) → t ≡ true
    → r ≡ answer_in (draw_shown (drawn_of (option_of t) T G) k)
option_answer t T G k r q e = rw e q

pub option_room : (t : Bool) (T : Tables) (G : Graph) (a b : List ℕ) → b ≡ over (draw_shown (drawn_of 1 T G) (length a)).text a → t ≡ true
    → b ≡ over (draw_shown (drawn_of (option_of t) T G) (length a)).text a
option_room t T G a b q e = rw e q

pub nodes_few : (g : List ℕ) (s : Size) (ls : List ℕ) → Chains g s ls → s.nodes ≤ 128
nodes_few g s ls C = C.stored.nodes_most
