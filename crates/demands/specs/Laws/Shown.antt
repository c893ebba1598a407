-- Demand 3 of what an edition shows of a graph (`Shows`): of one that a file draws, or of one that is asked for (document 02, order 10).
use Rattle.std.specs.Prelude.{◌≡◌, ◌⊎◌, drop, leb, eqb}
use Rattle.std.proofs.Math.Path.{sym, ap}
use Rattle.std.proofs.Common.{◌∙◌, inl, inr}
use mathlib.Core.List.{List}
use Prim.Native.Nat.{ℕ, ◌≤◌, ◌<◌}
use native.Mathlib.Omega.{arith}
use Rattle.std.proofs.Math.ListN.{length}
use borrow.Author.Tests.{leb-true, leb-false}
use Rattle.basis.specs.Members.{split, either}
use Rattle.records.specs.Tables.{Tables}
use Rattle.store.specs.Graph.{Graph}
use Rattle.groups.specs.Counts.{solvables}
use Rattle.labels.specs.Runs.{Run}
use Rattle.shape.specs.Graphed.{Graphed}
use Rattle.machine.specs.Machine.{Plan}
use Rattle.machine.specs.Bound.{most}
use Rattle.machine.specs.Count.{groups, unmerged}
use Rattle.machine.specs.Units.{Result, text_of, depth_of}
use Rattle.machine.specs.Laws.Explained as E
use Rattle.machine.specs.Explained.{Explained}
use Rattle.machine.specs.Demand as D
use Rattle.machine.specs.Demand.{Demand}
use Rattle.plan.specs.Plan.{Shown, shown_of, popped}
use Rattle.plan.specs.Display.{solvable_of}
use Rattle.plan.specs.Laws.Leads.{shown_counted, shown_most}
use Rattle.lines.specs.Lines.{lines_of}
use Rattle.texts.specs.Wrote.{over}
use Rattle.explanation.specs.Laws.Solvables.{solvables_most}
use Rattle.calls.specs.declared.Answer.{Answer}
use Rattle.calls.specs.Says.{Shows, result_by}
use Rattle.demands.specs.Rules.{plan_in, start_in, units_in, EndsIn, WholeUnits, NoRoom, Looping, OthersStay, bound_in, once_in}
use Rattle.demands.specs.Laws.Calls.{over_long, over_behind}
use Rattle.demands.specs.Laws.Counts.{bound_is, once_is}

module _ (e : ℕ) (T : Tables) (G : Graph) where
  abbrev S : Shown
  S = shown_of T G

  abbrev P : Plan Run
  P = plan_in e T G

  -- the bound of the edition, by the counts of its plan
  abbrev pub most_in : ℕ
  most_in = most P (groups P (solvables G)) (unmerged P (solvables G))

  -- "at most 2,079"
  pub most_low : Graphed T G → most_in ≤ 2079
  most_low g = shown_most T G (eqb e 2) (solvables_most T G g)

  module _ (opt : ℕ) where
    demand : Demand P (lines_of S opt) (solvable_of S) (popped S 0) most_in
    demand = D.demand P (lines_of S opt) (solvable_of S) (popped S 0) (groups P (solvables G)) (unmerged P (solvables G)) (shown_counted T G (eqb e 2))

    -- there is an answer for every room
    pub shown_some : (room : ℕ) → (r : Result) × Explained P (lines_of S opt) (solvable_of S) (start_in T G) room r
    shown_some room =
        E.answers P (lines_of S opt) (solvable_of S) (groups P (solvables G)) (unmerged P (solvables G)) (shown_counted T G (eqb e 2)) (popped S 0) room

    -- the bytes of the whole text, up to its end or to the package that would be opened below itself
    pub size_in : ℕ
    size_in = demand.size

    -- where the rules finish, those of their text
    pub size_text : (n : ℕ) → EndsIn e T G n → size_in ≡ length (text_of (units_in e T G opt n))
    unfolding size_in
    size_text n z =
        let m : ℕ = demand.size in
        let x = shown_some m in
        let h : m ≤ m = omega arith in
        let l = D.leaves P (lines_of S opt) (solvable_of S) (start_in T G) m x.0 x.1 in
        sym (demand.bytes m x.0 x.1 h) ∙ l.bytes ∙ ap length (sym l.text ∙ demand.text m x.0 x.1 h n z)

    module _ (out left : List ℕ) (r : Answer) (X : Shows e T G opt out left r) where
      abbrev x : Result
      x = result_by r X.text

      -- what is left, of any number: whole units
      pub shown_units : WholeUnits e T G opt out left r
      shown_units =
          let l = D.leaves P (lines_of S opt) (solvable_of S) (start_in T G) (length out) x X.is in
          record {
            turns = l.turns;
            first = l.first;
            begins = l.begins;
            room = X.room ∙ ap (λ (t : List ℕ). over t out) l.text;
            bytes = l.bytes;
            units = l.units;
            fits = l.within;
          }

      pub shown_depth : r.depth ≡ depth_of shown_units.first
      unfolding shown_units
      shown_depth = (D.leaves P (lines_of S opt) (solvable_of S) (start_in T G) (length out) x X.is).depth

      -- "Done or refused, lent bytes past those written stay"
      pub shown_others : OthersStay out left r
      shown_others =
          let w = shown_units in
          let t : List ℕ = text_of w.first in
          let h : length t ≤ length out = rw (← w.bytes) w.fits in
          record {
            as_long = ap length w.room ∙ over_long t out h;
            behind = ap (λ (n : ℕ). drop n left) w.bytes ∙ ap (λ (l : List ℕ). drop (length t) l) w.room ∙ over_behind t out
                ∙ ap (λ (n : ℕ). drop n out) (sym w.bytes);
          }

      pub shown_number : (r.number ≡ 0) ⊎ ((r.number ≡ 10) ⊎ (r.number ≡ 11))
      shown_number =
          let n : ℕ = demand.size in
          split (leb n (length out))
          (λ q. either (demand.whole (length out) x X.is (leb-true n (length out) q)) (λ w. inl w.0) (λ w. inr (inr w.0)))
          (λ q. inr (inl (demand.less (length out) x X.is (leb-false n (length out) q))))

      pub depth_low : r.depth ≤ most_in
      depth_low = demand.depth (length out) x X.is

      pub finishes_done : size_in ≤ length out → (n : ℕ) → EndsIn e T G n → (r.number ≡ 0) × (r.place ≡ 0) × (left ≡ over (text_of (units_in e T G opt n)) out)
      unfolding size_in
      finishes_done h n z =
          either (demand.whole (length out) x X.is h)
          (λ w. (w.0, w.1, X.room ∙ ap (λ (t : List ℕ). over t out) (demand.text (length out) x X.is h n z)))
          (λ w. absurd (w.1 (n, z)))

      pub never_eleven : size_in ≤ length out → ((n : ℕ) → EndsIn e T G n → ⊥) → r.number ≡ 11
      unfolding size_in
      never_eleven h f = either (demand.whole (length out) x X.is h) (λ w. absurd (f w.2.0 w.2.1)) (λ w. w.0)

      pub whole_bytes : size_in ≤ length out → r.bytes ≡ size_in
      unfolding size_in
      whole_bytes h = demand.bytes (length out) x X.is h

      pub less_ten : length out < size_in → r.number ≡ 10
      unfolding size_in
      less_ten h = demand.less (length out) x X.is h

      pub zero_finishes : r.number ≡ 0 → (n : ℕ) × EndsIn e T G n
      zero_finishes h = D.done_if P (lines_of S opt) (solvable_of S) (popped S 0) most_in demand (length out) x X.is h

      pub eleven_never : r.number ≡ 11 → (n : ℕ) → EndsIn e T G n → ⊥
      eleven_never h n z = D.never_if P (lines_of S opt) (solvable_of S) (popped S 0) most_in demand (length out) x X.is h (n, z)

      pub ten_less : r.number ≡ 10 → length out < size_in
      unfolding size_in
      ten_less q =
          let n : ℕ = demand.size in
          split (leb n (length out))
          (λ t. either (demand.whole (length out) x X.is (leb-true n (length out) t))
          (λ w. let a = w.0 in let z : ⊥ = omega arith in absurd z)
          (λ w. let a = w.0 in let z : ⊥ = omega arith in absurd z))
          (λ t. leb-false n (length out) t)

      -- 10 and 11 with their places
      pub ten_full : r.number ≡ 10 → NoRoom e T G opt out left r shown_units
      unfolding shown_units
      ten_full q =
          let f = D.full P (lines_of S opt) (solvable_of S) (start_in T G) (length out) x X.is q in
          record { place = f.place; unit = f.unit; rest = f.rest; next = f.next; over_full = f.over }

      pub eleven_loops : r.number ≡ 11 → Looping e T G r
      eleven_loops q =
          let l = D.loops_at P (lines_of S opt) (solvable_of S) (popped S 0) (length out) x X.is q in
          record { turns = l.2.0; node = l.0; meets = l.2.1; place = l.1 }

-- ---- the bounds, in the counts of `simplify`

pub first_bound : (T : Tables) (G : Graph) → most_in 1 T G ≡ bound_in T G
first_bound T G = bound_is T G

pub second_bound : (T : Tables) (G : Graph) → most_in 2 T G ≡ once_in T G
second_bound T G = once_is T G
