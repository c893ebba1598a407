-- What `lead` is in the plan of a graph: an unmerged package's is its own number, and two packages have the same exactly where they are of one group.
-- So edition 2 reports an unmerged package by itself, and no package is skipped for another that is not of its group.
use Rattle.std.specs.Prelude.{◌≡◌, refl, Bool, true, false, List, ℕ, ◌+◌, ◌<◌, ◌≤◌, length, get_or, eqb}
use Rattle.std.proofs.Common.{sym, ap, ◌∙◌, arith, eqb-true, eq-eqb}
use Rattle.basis.specs.Lists.{upto}
use Rattle.basis.specs.Members.{In, in_filter, filter_in}
use Rattle.records.specs.Tables.{Tables}
use Rattle.store.specs.Graph.{Graph, node_at, is_solvable}
use Rattle.labels.specs.Runs.{Run}
use Rattle.groups.specs.Counts.{solvables}
use Rattle.machine.specs.Machine.{Plan, start, tell}
use Rattle.machine.specs.Bound.{Counted, most}
use Rattle.machine.specs.Count.{Grouped, groups, unmerged}
use Rattle.machine.specs.Edition.{reading, edited, opened_in}
use Rattle.machine.specs.Laws.Edition.{Alone}
use Rattle.machine.proofs.Edition.{edited_counts, edited_most}
use Rattle.machine.proofs.Once.{told_few}
use Rattle.plan.specs.Plan.{shown_of, merged_shown, lead_shown, plan_of}
use Rattle.plan.specs.Display.{members_of}
use Rattle.plan.specs.Mates.{Node, in_upto, members_alike, merged_same, lead_first}
use Rattle.plan.specs.Counting.{grouped, in_solvable, solvable_in_lem, kid_solvable}

module _ (T : Tables) (G : Graph) where
  pub lead_alone : (n : ℕ) → Node T G n → merged_shown (shown_of T G) n ≡ false → lead_shown (shown_of T G) n ≡ n
  lead_alone n h m =
      let a : get_or (members_of (shown_of T G) n) 0 n ≡ n = rw m in
      sym (lead_first T G n h) ∙ ap (λ (l : List ℕ). get_or l 0 n) (sym (members_alike T G n h)) ∙ a

  -- an unmerged package shares its lead with no other
  pub lead_one : (m n : ℕ) → Node T G m → Node T G n → merged_shown (shown_of T G) n ≡ false → lead_shown (shown_of T G) m ≡ lead_shown (shown_of T G) n → m ≡ n
  lead_one m n g h u q = sym (lead_alone m g (merged_same T G n m h g q ∙ u)) ∙ q ∙ lead_alone n h u

  -- the same lead exactly where of one group: the packages that one line names
  pub lead_members : (m n : ℕ) → Node T G m → Node T G n → lead_shown (shown_of T G) m ≡ lead_shown (shown_of T G) n → In m (members_of (shown_of T G) n)
  lead_members m n g h q =
      let l : ℕ = lead_shown (shown_of T G) n in
      rw (members_alike T G n h)
      (filter_in (λ k. eqb (lead_shown (shown_of T G) k) l) m (upto (length G.nodes) 0) (eq-eqb (lead_shown (shown_of T G) m) l q)
      (in_upto (length G.nodes) 0 m (omega arith) (omega arith)))

  pub members_lead : (m n : ℕ) → Node T G n → In m (members_of (shown_of T G) n) → lead_shown (shown_of T G) m ≡ lead_shown (shown_of T G) n
  members_lead m n h i =
      let l : ℕ = lead_shown (shown_of T G) n in
      let f = in_filter (λ k. eqb (lead_shown (shown_of T G) k) l) m (upto (length G.nodes) 0) (rw (members_alike T G n h) at i) in
      eqb-true (lead_shown (shown_of T G) m) l f.0

  -- ---- of every plan whose groups are the graph's: `plan_of`, and `plan_in` of packed tables

  module _ {R : Type 0} (P : Plan R) (m : (n : ℕ) → n < length G.nodes → P.merged n ≡ merged_shown (shown_of T G) n)
      (l : (n : ℕ) → n < length G.nodes → P.lead n ≡ lead_shown (shown_of T G) n)
      (kids : (r : R) (n : ℕ) → In n (P.kids r) → (n < length G.nodes) × (is_solvable (node_at G n) ≡ true)) where
    pub alone : Alone P (solvables G)
    alone n i u = let h = (in_solvable T G n i).0 in l n h ∙ lead_alone n h (sym (m n h) ∙ u)

    kid_in : (r : R) (n : ℕ) → In n (P.kids r) → In n (solvables G)
    kid_in r n i = let k = kids r n i in solvable_in_lem T G n k.0 k.1

    -- demand 3's premise in every edition
    pub edition_counted : (every : Bool) (r : R) (n : ℕ) → In n (P.kids r)
        → Counted (reading every P) (groups (reading every P) (solvables G)) (unmerged (reading every P) (solvables G)) n
    edition_counted every r n i = edited_counts P (solvables G) (grouped T G P m l) alone every n (kid_in r n i)

    -- "all openings in the whole text together are at most g + u"
    pub edition_told : (k : ℕ) (rs : List R)
        → length (opened_in (edited 2 P) (tell (edited 2 P) k (start rs)).shown) ≤ length (groups P (solvables G)) + length (unmerged P (solvables G))
    edition_told k rs = told_few P (solvables G) (grouped T G P m l) alone kid_in k rs

  -- ---- the graph's own plan

  abbrev shown : Plan Run
  shown = plan_of (shown_of T G)

  shown_kids : (r : Run) (n : ℕ) → In n (shown.kids r) → (n < length G.nodes) × (is_solvable (node_at G n) ≡ true)
  unfolding shown_of
  shown_kids r n i = kid_solvable T G (shown_of T G) r n i

  pub shown_alone : Alone shown (solvables G)
  shown_alone = alone shown (λ n h. refl) (λ n h. refl) shown_kids

  pub shown_grouped : Grouped shown (solvables G)
  shown_grouped = grouped T G shown (λ n h. refl) (λ n h. refl)

  pub shown_counted : (every : Bool) (r : Run) (n : ℕ) → In n (shown.kids r)
      → Counted (reading every shown) (groups (reading every shown) (solvables G)) (unmerged (reading every shown) (solvables G)) n
  shown_counted every r n i = edition_counted shown (λ n h. refl) (λ n h. refl) shown_kids every r n i

  -- "With at most 126 solvable nodes the bound of demand 3 is at most 2,079", in every edition
  pub shown_most : (every : Bool) → length (solvables G) ≤ 126
      → most (reading every shown) (groups (reading every shown) (solvables G)) (unmerged (reading every shown) (solvables G)) ≤ 2079
  shown_most every h = edited_most shown (solvables G) shown_grouped shown_alone every h

  pub shown_told : (k : ℕ) (rs : List Run)
      → length (opened_in (edited 2 shown) (tell (edited 2 shown) k (start rs)).shown)
      ≤ length (groups shown (solvables G)) + length (unmerged shown (solvables G))
  shown_told k rs = edition_told shown (λ n h. refl) (λ n h. refl) shown_kids k rs
