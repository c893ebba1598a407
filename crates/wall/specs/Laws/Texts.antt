-- The labels of a drawn graph: "labels of 1 to 49 bytes from 32 to 126".
use Rattle.std.specs.Prelude.{◌≡◌, true, List, [], ◌∷◌, ◌++◌, map, ltb}
use Rattle.std.proofs.Math.Path.{refl, ap}
use Rattle.std.proofs.Common.{arith, ltb-true, ltb-false}
use Rattle.std.proofs.lemmas.Bool.{false≢true}
use Rattle.std.proofs.Math.Option.{some}
use Prim.Native.Nat.{ℕ, suc, ◌+◌, ◌≤◌, ◌<◌}
use Rattle.std.proofs.Math.ListN.{length, length-append, length-map, get_or-eq_default}
use Rattle.basis.specs.Lists.{all}
use Rattle.basis.specs.Members.{split, clash, All}
use Rattle.basis.specs.Quote.{utf8}
use Rattle.records.specs.declared.Table.{Table}
use Rattle.records.specs.declared.Table.TheVariants.{Names, Solvables, VersionSets, Requirements, Candidates, Reasons, Variables, Assigned, Clauses}
use Rattle.records.specs.declared.First.TheVariants as F
use Rattle.records.specs.declared.Shape.{Shape}
use Rattle.records.specs.Shapes.{shape_of}
use Rattle.records.specs.Tables.{Tables, table_of, at, no_rec}
use Rattle.records.specs.Read.{rec_text}
use Rattle.records.specs.Views.{name_text, solvable_name, version_text, set_text, requirement_text, reason_text}
use Rattle.index.specs.Steps.{each_kind}
use Rattle.index.specs.Promise.{Valid, Sound, RightFirst}
use Rattle.store.specs.declared.ConflictNode.{ConflictNode}
use Rattle.store.specs.declared.ConflictNode.TheVariants as N
use Rattle.store.specs.declared.ConflictCause.TheVariants as K
use Rattle.store.specs.declared.ConflictEdge.{ConflictEdge}
use Rattle.store.specs.declared.ConflictEdge.TheVariants as W
use Rattle.store.specs.declared.Edge as Stored
use Rattle.store.specs.Graph.{Graph}
use Rattle.shape.specs.Shaped.{Runs}
use Rattle.shape.specs.Graphed.{Graphed}
use Rattle.wall.specs.Captions.{solvable_caption, excluded_caption, node_caption, edge_caption}
use Rattle.tgf.specs.Lines.{in_label, LabelGood, EdgeGood, TextGood}
use Rattle.wall.specs.Export.{wall_edge, labels_of, edges_of}
use Rattle.wall.specs.Laws.Weights.{Said, Says}

-- ---- a record's text

-- the tables whose records have a text
record Texted (t : Table) : Type 0 where
  candidates : t ≡ Candidates → ⊥
  variables : t ≡ Variables → ⊥
  assigned : t ≡ Assigned → ⊥
  clauses : t ≡ Clauses → ⊥

first_length : (t : Table) → Texted t → (k : ℕ) (s : Shape) → shape_of k ≡ some s → s.table ≡ t → s.first ≡ F.Length
first_length t n =
    each_kind (λ o. (s : Shape) → o ≡ some s → s.table ≡ t → s.first ≡ F.Length) (
      λ s e h. cc,
      (
        λ s e h. cc,
        (
          λ s e h. cc,
          (
            λ s e h. cc,
            (
              λ s e h. absurd (n.candidates cc),
              (
                λ s e h. cc,
                (
                  λ s e h. absurd (n.variables cc),
                  (
                    λ s e h. absurd (n.assigned cc),
                    (
                      λ s e h. absurd (n.clauses cc),
                      (
                        λ s e h. absurd (n.clauses cc),
                        (
                          λ s e h. absurd (n.clauses cc),
                          (
                            λ s e h. absurd (n.clauses cc),
                            (
                              λ s e h. absurd (n.clauses cc),
                              (
                                λ s e h. absurd (n.clauses cc),
                                (λ s e h. absurd (n.clauses cc), (λ s e h. absurd (n.clauses cc), (λ s e h. absurd (n.clauses cc), (λ s e h. absurd (n.clauses cc), tt)))),
                              ),
                            ),
                          ),
                        ),
                      ),
                    ),
                  ),
                ),
              ),
            ),
          ),
        ),
      ),
    )
    (λ s e h. clash (cc))

names_texted : Texted Names
names_texted = record { candidates = λ e. clash (cc); variables = λ e. clash (cc); assigned = λ e. clash (cc); clauses = λ e. clash (cc) }

solvables_texted : Texted Solvables
solvables_texted = record { candidates = λ e. clash (cc); variables = λ e. clash (cc); assigned = λ e. clash (cc); clauses = λ e. clash (cc) }

sets_texted : Texted VersionSets
sets_texted = record { candidates = λ e. clash (cc); variables = λ e. clash (cc); assigned = λ e. clash (cc); clauses = λ e. clash (cc) }

requirements_texted : Texted Requirements
requirements_texted = record { candidates = λ e. clash (cc); variables = λ e. clash (cc); assigned = λ e. clash (cc); clauses = λ e. clash (cc) }

reasons_texted : Texted Reasons
reasons_texted = record { candidates = λ e. clash (cc); variables = λ e. clash (cc); assigned = λ e. clash (cc); clauses = λ e. clash (cc) }

-- a text of n bytes at least
record Text (n : ℕ) (x : List ℕ) : Type 0 where
  some_byte : n ≤ length x
  few_bytes : length x ≤ 24
  bytes : all in_label x ≡ true

module _ (T : Tables) (valid : Valid T) (t : Table) (n : Texted t) where
  text_in : (i : ℕ) → i < length (table_of t T) → Text 1 (rec_text (at (table_of t T) i))
  text_in i h =
      let s : Sound T t i (at (table_of t T) i) = valid.sound t i h in
      let r : RightFirst F.Length (at (table_of t T) i) = rw (first_length t n (at (table_of t T) i).kind s.shape s.known s.mine) at s.right_first in
      record { some_byte = r.0; few_bytes = r.1; bytes = r.2 }

  text_any : (i : ℕ) → Text 0 (rec_text (at (table_of t T) i))
  text_any i =
      split (ltb i (length (table_of t T)))
      (λ q. let x = text_in i (ltb-true i (length (table_of t T)) q) in record { some_byte = omega arith; few_bytes = x.few_bytes; bytes = x.bytes })
      (λ q. rw (get_or-eq_default (table_of t T) no_rec (ltb-false i (length (table_of t T)) q)) (record {
        some_byte = omega arith;
        few_bytes = omega arith;
        bytes = refl;
      }))

-- ---- labels

all_both : (xs ys : List ℕ) → all in_label xs ≡ true → all in_label ys ≡ true → all in_label (xs ++ ys) ≡ true
all_both [] ys p q = q
all_both (x ∷ xs) ys p q = split (in_label x) (λ t. rw (t, all) (all_both xs ys (rw (t, all) at p) q)) (λ t. absurd (false≢true (rw (t, all) at p)))

plain : (x : List ℕ) → Text 1 x → LabelGood x
plain x t = record { some_byte = t.some_byte; few_bytes = omega (arith, t.few_bytes); bytes = t.bytes }

module _ (T : Tables) (valid : Valid T) where
  solvable_good : (s : ℕ) → LabelGood (solvable_caption T s)
  unfolding solvable_caption
  solvable_good s =
      let a : Text 0 (name_text T (solvable_name T s)) = text_any T valid Names names_texted (solvable_name T s) in
      let b : Text 0 (version_text T s) = text_any T valid Solvables solvables_texted s in
      let l : length (name_text T (solvable_name T s) ++ utf8 " " ++ version_text T s) ≡ length (name_text T (solvable_name T s)) + 1 + length (version_text T s) =
      simp length-append in
      record {
        some_byte = omega (arith, l);
        few_bytes = omega (arith, l, a.few_bytes, b.few_bytes);
        bytes =
            all_both (name_text T (solvable_name T s) ++ utf8 " ") (version_text T s) (all_both (name_text T (solvable_name T s)) (utf8 " ") a.bytes refl)
            b.bytes;
      }

  excluded_good : (r : ℕ) → LabelGood (excluded_caption T r)
  unfolding excluded_caption
  excluded_good r =
      let a : Text 0 (reason_text T r) = text_any T valid Reasons reasons_texted r in
      let l : length (utf8 "reason: " ++ reason_text T r) ≡ 8 + length (reason_text T r) = simp length-append in
      record { some_byte = omega (arith, l); few_bytes = omega (arith, l, a.few_bytes); bytes = all_both (utf8 "reason: ") (reason_text T r) refl a.bytes }

  node_good : (x : ConflictNode) → LabelGood (node_caption T x)
  unfolding node_caption
  node_good N.Root = record { some_byte = omega arith; few_bytes = omega arith; bytes = refl }
  node_good (N.Solvable s) = solvable_good s
  node_good N.UnresolvedDependency = record { some_byte = omega arith; few_bytes = omega arith; bytes = refl }
  node_good (N.Excluded r) = excluded_good r

  edge_good : (w : ConflictEdge) → Said T w → LabelGood (edge_caption T w)
  unfolding edge_caption
  edge_good (W.Requires q) h = plain (requirement_text T q) (text_in T valid Requirements requirements_texted q h)
  edge_good (W.Conflict (K.Locked s)) h = record { some_byte = omega arith; few_bytes = omega arith; bytes = refl }
  edge_good (W.Conflict (K.Constrains v)) h = plain (set_text T v) (text_in T valid VersionSets sets_texted v h)
  edge_good (W.Conflict K.ForbidMultipleInstances) h = record { some_byte = omega arith; few_bytes = omega arith; bytes = refl }
  edge_good (W.Conflict K.Excluded) h = record { some_byte = omega arith; few_bytes = omega arith; bytes = refl }

  all_nodes : (xs : List ConflictNode) → All LabelGood (map (node_caption T) xs)
  all_nodes [] = tt
  all_nodes (x ∷ xs) = (node_good x, all_nodes xs)

  all_edges : (ns : List ConflictNode) (m : ℕ) → m ≡ length ns → (es : List Stored.Edge) → All (Runs ns) es → Says T es
      → All (EdgeGood m) (map (λ (e : Stored.Edge). wall_edge T e.source e.target e.weight) es)
  all_edges ns m q [] R S = tt
  all_edges ns m q (e ∷ es) R S =
      (record { source = rw q R.0.from; target = rw q R.0.to; label = edge_good e.weight S.0 }, all_edges ns m q es R.1 S.1)

  -- a graph's labels and edges are such that the line rules write them
  pub text_good_lem : (G : Graph) → Graphed T G → Says T G.edges → TextGood (labels_of T G) (edges_of T G)
  unfolding labels_of edges_of
  text_good_lem G R S =
      let n : length (map (node_caption T) G.nodes) ≡ length G.nodes = length-map G.nodes (node_caption T) in
      let k : length G.nodes ≡ suc (length R.tail) = ap length R.nodes_are in
      record {
        some_node = omega (arith, n, k);
        few_nodes = omega (arith, n, R.nodes_most);
        few_edges = omega (arith, length-map G.edges (λ (e : Stored.Edge). wall_edge T e.source e.target e.weight), R.edges_most);
        labels = all_nodes G.nodes;
        edges = all_edges G.nodes (length (map (node_caption T) G.nodes)) n G.edges R.edges S;
      }
