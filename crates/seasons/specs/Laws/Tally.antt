-- The counts of the tables are those of the graph.
use Rattle.std.specs.Prelude.{◌≡◌, refl, Bool, true, false, ◌&&◌, ℕ, ◌-◌, ◌<◌}
use Rattle.std.proofs.Math.Path.{sym, ap}
use Rattle.std.proofs.Common.{◌∙◌, arith}
use mathlib.Core.List.{List, [], ◌∷◌}
use Rattle.std.proofs.Math.ListN.{length, get_or}
use Rattle.std.proofs.lemmas.List.{length-map}
use Rattle.std.proofs.Math.Dec.{eqb, ltb}
use Rattle.basis.specs.Lists.{filter, upto}
use Rattle.records.specs.Tables.{Tables}
use Rattle.records.specs.Views.{name_text, solvable_name}
use Rattle.store.specs.declared.Size.{Size}
use Rattle.store.specs.Graph.{Graph}
use Rattle.store.specs.Table.{graph_in, Stored, nodes_count, edges_count}
use Rattle.labels.specs.Labels.{missing, installable}
use Rattle.labels.specs.Marks.{miss_at, label_bits, bits_of, marks_at_lem}
use Rattle.groups.specs.Groups as Groups
use Rattle.groups.specs.Groups.{groups, mates, merged, head_or}
use Rattle.plan.specs.Plan.{shown_of, merged_shown, lead_shown}
use Rattle.plan.specs.Planned.{Planned}
use Rattle.plan.specs.Mates.{group_at, filter_agree, upto_in}
use Rattle.seasons.specs.declared.tally.Counts.{Counts}
use Rattle.seasons.specs.Tally.{missing_nodes, counts_of, passing, leads_in, counts_in}

miss_bits : (a b : Bool) → ltb 1 (bits_of a b) ≡ b
miss_bits true true = refl
miss_bits true false = refl
miss_bits false true = refl
miss_bits false false = refl

head_of : (l : List ℕ) (n : ℕ) → get_or l 0 n ≡ head_or n l
head_of [] n = refl
head_of (x ∷ l) n = refl

all_of : (p q : ℕ → Bool) (n : ℕ) → ((x : ℕ) → x < n → p x ≡ q x) → passing p n 0 ≡ length (filter q (upto n 0))
unfolding passing
all_of p q n h =
    let z : n - 0 ≡ n = omega arith in
    rw z (ap length (filter_agree p q (upto n 0) (λ x i. h x (let b = upto_in n 0 x i in omega (arith, b.1)))))

module _ (T : Tables) (g : List ℕ) (s : Size) (st : Stored g s) where
  abbrev G : Graph
  G = graph_in g s

  abbrev name : ℕ → List ℕ
  name = λ k. name_text T (solvable_name T k)

  missing_are : (ms : List ℕ) → ms ≡ label_bits G → passing (miss_at ms) s.nodes 0 ≡ length (missing_nodes G)
  unfolding miss_at missing_nodes
  missing_are ms q =
      rw (nodes_count g s st)
      (all_of (miss_at ms) (missing G) s.nodes
      (λ x h. rw (q, marks_at_lem G x (omega (arith, st.nodes_most))) (miss_bits (installable G x) (missing G x))))

  merged_are : (n : ℕ) → n < length G.nodes → merged_shown (shown_of T G) n ≡ merged name G n
  unfolding merged Groups.merged_by Groups.mates
  merged_are n h = ap (λ (l : List ℕ). ltb 1 (length l)) (group_at T G n h)

  lead_are : (n : ℕ) → n < length G.nodes → lead_shown (shown_of T G) n ≡ Groups.lead_of name G n
  unfolding Groups.lead_of Groups.lead_by Groups.mates
  lead_are n h = ap (λ (l : List ℕ). get_or l 0 n) (group_at T G n h) ∙ head_of (mates name G n) n

  groups_are : (p k : List ℕ) → Planned (shown_of T G) p k → passing (leads_in p) s.nodes 0 ≡ length (groups name G)
  unfolding leads_in groups shown_of
  groups_are p k P =
      all_of (leads_in p) (λ n. merged name G n && eqb (Groups.lead_of name G n) n) s.nodes
      (λ x h. let i : x < length G.nodes = omega (arith, nodes_count g s st) in
      rw ((P.nodes x i).merged, merged_are x i, (P.nodes x i).lead, lead_are x i))
      ∙ ap (λ (n : ℕ). length (filter (λ n. merged name G n && eqb (Groups.lead_of name G n) n) (upto n 0))) (sym (nodes_count g s st))
      ∙ sym (length-map (filter (λ n. merged name G n && eqb (Groups.lead_of name G n) n) (upto (length G.nodes) 0)) (mates name G))

  pub counts_are : (p k ms : List ℕ) (r : Counts) → ms ≡ label_bits G → Planned (shown_of T G) p k → r ≡ counts_in p ms s → r ≡ counts_of T G
  unfolding counts_in counts_of
  counts_are p k ms r q P e = e ∙ rw (groups_are p k P, missing_are ms q, nodes_count g s st, edges_count g s st)
