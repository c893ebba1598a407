-- From the parts to the promise.
use Rattle.std.specs.Prelude.{◌≡◌, Bool, true, false, List, [], ◌∷◌, ℕ, suc, ◌+◌, ◌*◌, ◌%◌, ◌<◌, replicate, eqb, ltb}
use Rattle.std.proofs.Math.Path.{refl, ap}
use Rattle.std.proofs.Common.{◌∙◌, inl, arith, lt-ltb, ltb-true}
use Rattle.std.proofs.Math.ListN.{length, get_or}
use Rattle.std.proofs.lemmas.List.{length-replicate, get_or-replicate}
use Rattle.basis.specs.Lists.{upto}
use Rattle.basis.specs.Members.{In, split, in_filter}
use Rattle.basis.specs.Chains.{oldest}
use Rattle.records.specs.Tables.{Tables}
use Rattle.records.specs.Views.{name_text, solvable_name}
use Rattle.store.specs.declared.Size.{Size}
use Rattle.store.specs.Graph.{Graph}
use Rattle.store.specs.Table.{graph_in, node_in_lem, nodes_count}
use Rattle.links.specs.Build.{Chains}
use Rattle.labels.specs.Labels.{installable, missing}
use Rattle.labels.specs.Marks.{bits_of, label_bits}
use Rattle.groups.specs.Groups as Groups
use Rattle.groups.specs.Groups.{head_or, mates}
use Rattle.plan.specs.Plan.{Shown, shown_of, is_installable, lead_shown}
use Rattle.plan.specs.Display.{solvable_by, solvable_of, members_of, package_text}
use Rattle.plan.specs.Mates.{group_at, map_upto, upto_in, alikes, lead_first, members_alike}
use Rattle.plan.specs.Planned.{Planned}
use Rattle.plan.specs.Fields.{head_in, tail_in, run_in, solvable_in}
use Rattle.plan.specs.Laws.Texts.{package_agrees}
use Rattle.planning.specs.Kids.{marked_in, next_at}
use Rattle.planning.specs.Truth.{Given}
use Rattle.planning.specs.Grouping.{GroupsDone, LeadsOk}
use Rattle.planning.specs.Giving.{given, given_nexts}
use Rattle.planning.specs.Building.{FreshPlan, NodesDone}
use Rattle.planning.specs.Final.{built_members, planned}
use Rattle.display.specs.PackageLengths.{size_in}
use Rattle.planning.specs.Sizes.{Short, SizesDone}
use Rattle.planning.specs.Exact.{PlanMade}

-- ---- what the labels' and the groups' tables promise

pub record Labelled (T : Tables) (g : List ℕ) (s : Size) (ms ld : List ℕ) : Type 0 where
  pub marks : (n : ℕ) → n < s.nodes → marked_in ms n ≡ is_installable (shown_of T (graph_in g s)) n
  pub leads : (n : ℕ) → n < s.nodes → get_or ld n 0 ≡ lead_shown (shown_of T (graph_in g s)) n
  pub long : length ld ≡ 128

bit_is : (a b : Bool) → eqb (bits_of a b % 2) 1 ≡ a
bit_is true true = refl
bit_is true false = refl
bit_is false true = refl
bit_is false false = refl

-- the labels' own table
pub marks_are : (T : Tables) (g : List ℕ) (s : Size) (ms : List ℕ) → ms ≡ label_bits (graph_in g s) → (n : ℕ) → n < 128
    → marked_in ms n ≡ is_installable (shown_of T (graph_in g s)) n
unfolding marked_in label_bits shown_of
marks_are T g s ms q n h =
    let z : 0 + n ≡ n = omega arith in
    rw (q, map_upto (λ n. bits_of (installable (graph_in g s) n) (missing (graph_in g s) n)) 128 0 n 0 h, z)
    (bit_is (installable (graph_in g s) n) (missing (graph_in g s) n))

-- ---- a lead is a node

head_or_lem : (l : List ℕ) (d m : ℕ) → ((x : ℕ) → In x l → x < m) → d < m → get_or l 0 d < m
head_or_lem [] d m f h = h
head_or_lem (x ∷ l) d m f h = f x (inl refl)

module _ (T : Tables) (g : List ℕ) (s : Size) (ls ms ld : List ℕ) (c : Chains g s ls) (b : Labelled T g s ms ld) where
  abbrev S : Shown
  S = shown_of T (graph_in g s)

  inside : (n : ℕ) → n < s.nodes → n < length (graph_in g s).nodes
  inside n h = rw (nodes_count g s c.stored) h

  lead_node : (n : ℕ) → n < s.nodes → lead_shown S n < s.nodes
  lead_node n h =
      rw (← lead_first T (graph_in g s) n (inside n h))
      (head_or_lem (alikes T (graph_in g s) n) n s.nodes
      (λ x i. omega (
        arith,
        nodes_count g s c.stored,
        (upto_in (length (graph_in g s).nodes) 0 x
            (in_filter (λ m. eqb (lead_shown S m) (lead_shown S n)) x (upto (length (graph_in g s).nodes) 0) i).1).1,
      )) h)

  pub leads_ok : LeadsOk ld s.nodes
  leads_ok =
      record { each = λ i h. omega (arith, b.leads i h, lead_node i h, c.stored.nodes_most); few = c.stored.nodes_most; long = b.long }

  module _ (t gr p₀ k₀ p k : List ℕ) (z : GroupsDone ld t gr s.nodes) (d : NodesDone g ls ms gr s.nodes p₀ k₀ p k) where
    have : Given T g s ms gr
    have = given T g s ms ld gr c.stored b.marks b.leads z.done

    nexts : (i : ℕ) → i < s.nodes → next_at gr i ≡ oldest (lead_shown S) (suc i) s.nodes (lead_shown S i)
    nexts = given_nexts T g s ms ld gr c.stored b.marks b.leads z.done

    pub tails_short : Short p s.nodes
    unfolding tail_in
    tails_short =
        record {
          each = λ i h. rw (lt-ltb i 128 (omega (arith, c.stored.nodes_most))) at (d.built.nodes i h).short;
          few = c.stored.nodes_most;
          long = d.built.p_long;
        }

    -- ---- the lengths

    solvable_is : (n : ℕ) → n < s.nodes → solvable_in p n ≡ solvable_of S n
    unfolding shown_of
    solvable_is n h = (d.built.nodes n h).solvable ∙ ap solvable_by (node_in_lem g s c.stored n h)

    member_node : (n : ℕ) → n < s.nodes → (x : ℕ) → In x (members_of S n) → x < s.nodes
    member_node n h x i =
        omega (
          arith,
          nodes_count g s c.stored,
          (upto_in (length (graph_in g s).nodes) 0 x
              (in_filter (λ m. eqb (lead_shown S m) (lead_shown S n)) x (upto (length (graph_in g s).nodes) 0)
              (rw (members_alike T (graph_in g s) n (inside n h)) at i)).1).1,
        )

    size_is : (n : ℕ) → n < s.nodes → size_in T p n ≡ length (package_text S n)
    unfolding size_in shown_of
    size_is n h =
        ap length
        (package_agrees T S p n refl (built_members T g s ls ms gr p k p have d.built nexts (λ i. refl) n h) (solvable_is n h)
        (λ x i. solvable_is x (member_node n h x i)))

    pub assembled : (u : List ℕ) → SizesDone T p u s.nodes → Planned S u k
    unfolding head_in tail_in run_in
    assembled u y =
        planned T g s ls ms gr p k u c have d.built nexts
        (record {
          heads = λ n. split (ltb n 128) (λ t. rw t (y.heads n (ltb-true n 128 t))) (λ t. rw t);
          runs = λ r. rw (y.runs r);
          tails =
              λ n h. rw (lt-ltb n 128 (omega (arith, c.stored.nodes_most))) (y.tails n h
              ∙ ap (λ (v : ℕ). get_or p (128 + n) 0 + 274877906944 * v) (size_is n h));
          small = λ n h. rw (← size_is n h) (y.small n h);
        })

    pub made : (u : List ℕ) → SizesDone T p u s.nodes → PlanMade T g ls ms ld s.nodes t p₀ k₀ gr u k
    made u y = record { groups = z; before = p; nodes = d; sizes = y }

-- ---- for the caller

-- fresh arrays
pub fresh_plan : FreshPlan (replicate 1280 0) (replicate 1024 0)
fresh_plan =
    record {
      blank = λ r h. get_or-replicate {A = ℕ} 1280 (256 + r) 0 0 (omega arith);
      p_long = length-replicate {A = ℕ} 1280 0;
      k_long = length-replicate {A = ℕ} 1024 0;
    }

head_of : (l : List ℕ) (d : ℕ) → get_or l 0 d ≡ head_or d l
head_of [] d = refl
head_of (x ∷ l) d = refl

-- the lead as the crate of groups has it
pub lead_group : (T : Tables) (G : Graph) (n : ℕ) → n < length G.nodes → lead_shown (shown_of T G) n ≡ Groups.lead_of (λ s. name_text T (solvable_name T s)) G n
unfolding Groups.lead_of Groups.lead_by Groups.mates
lead_group T G n h = ap (λ (l : List ℕ). get_or l 0 n) (group_at T G n h) ∙ head_of (mates (λ s. name_text T (solvable_name T s)) G n) n
