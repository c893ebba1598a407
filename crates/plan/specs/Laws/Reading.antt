-- A plan that is read by an edition's rules is the graph's plan in that edition.
use Rattle.std.specs.Prelude.{◌≡◌, refl, Bool, ◌||◌, List, ◌∷◌, ℕ, zero, suc, ◌+◌, ◌-◌, ◌<◌, ◌≤◌, length}
use Rattle.std.proofs.Math.Path.{ap}
use Rattle.std.proofs.Common.{◌∙◌, arith}
use Rattle.std.proofs.Math.Dec.{ltb}
use Rattle.machine.specs.Edition.{reading}
use Rattle.plan.specs.Plan.{Shown, plan_of}
use Rattle.plan.specs.Fields.{plan_in, runs_in, kids_in, opens_in, lead_in, mate_in, mates_by, mates_from, members_in, reason_in, sets_in, sets_first, sets_end}
use Rattle.plan.specs.Fields.{requirement_in, wording_in, kid_first, kid_end, text_length}
use Rattle.plan.specs.Planned.{Planned, RunIs}
use Rattle.plan.specs.Like.{PlansAlike}
use Rattle.plan.specs.Alike.{plans_alike}
use Rattle.plan.specs.Laws.Marking.{Reads}

module _ (every : Bool) (p q k : List ℕ) (m : Reads every p q) where
  -- ---- what is read from the plan stays

  opens_same : (n : ℕ) → opens_in q n ≡ opens_in p n
  unfolding opens_in
  opens_same n = ap (λ (t : ℕ). ltb 3 t) (m.tag n)

  pub rows_same : (n : ℕ) → runs_in q n ≡ runs_in p n
  unfolding runs_in
  rows_same n = rw (m.first n, m.end n)

  pub kids_same : (r : ℕ) → kids_in q k r ≡ kids_in p k r
  unfolding kids_in kid_first kid_end
  kids_same r = rw (m.runs r)

  pub sets_same : (n : ℕ) → sets_in q k n ≡ sets_in p k n
  unfolding sets_in sets_first sets_end
  sets_same n = rw (m.tails n)

  pub reason_same : (n : ℕ) → reason_in q n ≡ reason_in p n
  unfolding reason_in
  reason_same n = rw (m.tails n)

  pub size_same : (n : ℕ) → text_length q n ≡ text_length p n
  unfolding text_length
  size_same n = rw (m.tails n)

  pub requirement_same : (r : ℕ) → requirement_in q r ≡ requirement_in p r
  unfolding requirement_in
  requirement_same r = rw (m.runs r)

  pub wording_same : (r : ℕ) → wording_in q r ≡ wording_in p r
  unfolding wording_in
  wording_same r = rw (m.runs r)

  next_same : (n : ℕ) → mate_in q n ≡ mate_in p n
  unfolding mate_in
  next_same n = rw (m.mate n)

  mates_by_lem : (c x : ℕ) → mates_by q c x ≡ mates_by p c x
  mates_by_lem zero x = refl
  mates_by_lem (suc c) zero = refl
  mates_by_lem (suc c) (suc n) = ap (λ (l : List ℕ). n ∷ l) (ap (mates_by q c) (next_same n) ∙ mates_by_lem c (mate_in p n))

  pub members_same : (n : ℕ) → members_in q n ≡ members_in p n
  unfolding members_in mates_from
  members_same n = rw (m.lead n) (mates_by_lem (256 - (lead_in p n + 1)) (lead_in p n + 1))

  -- ---- the plan

  module _ (S : Shown) (z : Planned S p k) (few : length S.graph.nodes ≤ 128) where
    pub read_alike : PlansAlike (plan_in q k) (reading every (plan_of S)) (λ n. n < length S.graph.nodes) (RunIs S p k)
    unfolding plan_in
    read_alike =
        let a = plans_alike S p k z in
        record {
          opens = λ n h. opens_same n ∙ a.opens n h;
          merged = λ n h. m.merged n (omega arith) ∙ ap (λ (b : Bool). every || b) (a.merged n h);
          lead = λ n h. m.lead n ∙ a.lead n h;
          runs = λ n h. rw (rows_same n) (a.runs n h);
          kids = λ r s i. kids_same r ∙ a.kids r s i;
          known = λ r s i. a.known r s i;
        }
