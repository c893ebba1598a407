-- The counts of demand 3's bound are those of `simplify`: as many groups, and as many solvables in none.
use Rattle.std.specs.Prelude.{◌≡◌, refl, Bool, true, false, cond, ◌&&◌, ℕ, ◌<◌, eqb}
use Rattle.std.proofs.Math.Path.{sym, ap}
use Rattle.std.proofs.Common.{◌∙◌, inl, inr, arith}
use Rattle.std.proofs.lemmas.Bool.{false≢true}
use mathlib.Core.List.{List, [], ◌∷◌}
use Rattle.std.proofs.Math.ListN.{length}
use Rattle.std.proofs.lemmas.List.{length-map}
use Rattle.std.proofs.Math.Dec.{ltb}
use Rattle.basis.specs.Lists.{filter, upto}
use Rattle.basis.specs.Members.{In, split}
use Rattle.records.specs.Tables.{Tables}
use Rattle.store.specs.Graph.{Graph, node_at, is_solvable}
use Rattle.groups.specs.Groups.{title_of, mates_by, merged_by, mates, lead_of, merged, groups, singles}
use Rattle.groups.specs.Counts.{solvables, alike, in_mates}
use Rattle.groups.specs.Naming.{name_of}
use Rattle.labels.specs.Runs.{Run}
use Rattle.machine.specs.Machine.{Plan}
use Rattle.machine.specs.Bound.{most}
use Rattle.machine.specs.Count as Count
use Rattle.plan.specs.Plan.{shown_of, plan_of, merged_shown}
use Rattle.plan.specs.Plan as Plan
use Rattle.plan.specs.Mates.{upto_in, group_at}
use Rattle.planning.specs.Assembly.{lead_group}
use Rattle.machine.specs.Edition.{edited}
use Rattle.machine.proofs.Edition.{second_most}
use Rattle.plan.specs.Laws.Leads.{shown_alone, shown_grouped}
use Rattle.explanation.specs.Openings.{once_of}
use Rattle.explanation.specs.Contract.{Drawn}
use Rattle.explanation.specs.Laws.Second.{second_bound}
use Rattle.demands.specs.Rules.{groups_in, singles_in, bound_in, once_in}

-- one pass with both tests, or one behind the other
filter_both : (p q s : ℕ → Bool) (l : List ℕ) → ((x : ℕ) → In x l → s x ≡ q x && p x) → filter s l ≡ filter p (filter q l)
filter_both p q s [] h = refl
filter_both p q s (x ∷ l) h =
    let r = filter_both p q s l (λ y i. h y (inr i)) in
    let e : s x ≡ q x && p x = h x (inl refl) in
    split (q x)
    (λ a. split (p x)
    (λ b. let c : s x ≡ true = e ∙ rw (a, b) in rw (a, b, c, filter) (ap (λ (m : List ℕ). x ∷ m) r))
    (λ b. let c : s x ≡ false = e ∙ rw (a, b) in rw (a, b, c, filter) r))
    (λ a. let c : s x ≡ false = e ∙ rw a in rw (a, c, filter) r)

has_one : (l : List ℕ) → ltb 1 (length l) ≡ true → (x : ℕ) × In x l
has_one [] e = absurd (false≢true e)
has_one (x ∷ l) e = (x, inl refl)

module _ (T : Tables) (G : Graph) where
  abbrev P : Plan Run
  P = plan_of (shown_of T G)

  abbrev nodes : List ℕ
  nodes = upto (length G.nodes) 0

  node_of : (n : ℕ) → In n nodes → n < length G.nodes
  node_of n i = let r = upto_in (length G.nodes) 0 n i in omega (arith, r.1)

  merged_is : (n : ℕ) → n < length G.nodes → merged_shown (shown_of T G) n ≡ merged (name_of T) G n
  unfolding merged merged_by mates
  merged_is n h = ap (λ (l : List ℕ). ltb 1 (length l)) (group_at T G n h)

  -- a node with mates is a solvable
  merged_solvable : (n : ℕ) → merged (name_of T) G n ≡ true → is_solvable (node_at G n) ≡ true
  unfolding merged merged_by
  merged_solvable n e =
      let x = has_one (mates_by (title_of (name_of T) G) G n) e in
      (alike (title_of (name_of T) G) G x.0 n (in_mates (title_of (name_of T) G) G x.0 n x.1).0).right_is

  abbrev names_group : ℕ → Bool
  names_group n = merged (name_of T) G n && eqb (lead_of (name_of T) G n) n

  abbrev in_none : ℕ → Bool
  in_none n = is_solvable (node_at G n) && cond (merged (name_of T) G n) false true

  group_test : (n : ℕ) → n < length G.nodes → names_group n ≡ is_solvable (node_at G n) && Count.leading P n
  group_test n h =
      let m = merged_is n h in
      let l : Plan.lead_shown (shown_of T G) n ≡ lead_of (name_of T) G n = lead_group T G n h in
      split (merged (name_of T) G n)
      (λ t. rw (m, l, t, merged_solvable n t))
      (λ t. rw (m, t) (split (is_solvable (node_at G n)) (λ s. rw s) (λ s. rw s)))

  single_test : (n : ℕ) → n < length G.nodes → in_none n ≡ is_solvable (node_at G n) && Count.single P n
  single_test n h =
      let m = merged_is n h in
      split (merged (name_of T) G n) (λ t. rw (m, t)) (λ t. rw (m, t))

  -- "g": as many packages name a group as `simplify` has groups
  pub groups_count : length (Count.groups P (solvables G)) ≡ groups_in T G
  unfolding groups solvables
  groups_count =
      sym (length-map (filter names_group nodes) (mates (name_of T) G)
      ∙ ap length (filter_both (Count.leading P) (λ n. is_solvable (node_at G n)) names_group nodes (λ n i. group_test n (node_of n i))))

  -- "u"
  pub singles_count : length (Count.unmerged P (solvables G)) ≡ singles_in T G
  unfolding singles solvables
  singles_count =
      sym (ap length (filter_both (Count.single P) (λ n. is_solvable (node_at G n)) in_none nodes (λ n i. single_test n (node_of n i))))

  -- the bound of demand 3 is g + (g + 1) × u of `simplify`
  pub bound_is : most P (Count.groups P (solvables G)) (Count.unmerged P (solvables G)) ≡ bound_in T G
  bound_is = rw (groups_count, singles_count)

  -- that of edition 2 is g + u
  pub once_is : most (edited 2 P) (Count.groups (edited 2 P) (solvables G)) (Count.unmerged (edited 2 P) (solvables G)) ≡ once_in T G
  once_is = second_most P (solvables G) (shown_grouped T G) (shown_alone T G) ∙ rw (groups_count, singles_count)

-- "g + u" of a file, as order 11 counts it
pub once_file : (file : List ℕ) (opt : ℕ) (T : Tables) (G : Graph) → Drawn 2 file opt T G → once_of file ≡ once_in T G
once_file file opt T G d = sym (second_bound file opt T G d) ∙ once_is T G
