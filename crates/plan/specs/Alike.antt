-- From the packed tables to the plan of S: they are alike but for how they name their runs.
use Rattle.std.specs.Prelude.{refl, List, [], ◌∷◌, ℕ, ◌<◌, length}
use Rattle.std.proofs.Common.{sym, ◌∙◌, inl, inr}
use Rattle.std.proofs.Math.Path.{ap}
use Rattle.basis.specs.Members.{In, All}
use Rattle.plan.specs.Plan.{Shown, is_requiring, plan_of}
use Rattle.plan.specs.Fields.{kids_in, plan_in, opens_kind}
use Rattle.plan.specs.Planned.{RunIs, Planned}
use Rattle.plan.specs.Like.{PlansAlike}

all_of : {A : Type 0} (N : A → Type 0) (xs : List A) → ((x : A) → In x xs → N x) → All N xs
all_of N [] f = tt
all_of N (x ∷ xs) f = (f x (inl refl), all_of N xs (λ y i. f y (inr i)))

module _ (S : Shown) (p k : List ℕ) (z : Planned S p k) where
  -- the packages that are met
  abbrev Node : ℕ → Type 0
  Node n = n < length S.graph.nodes

  pub plans_alike : PlansAlike (plan_in p k) (plan_of S) Node (RunIs S p k)
  unfolding plan_in
  plans_alike =
      record {
        opens = λ n h. opens_kind p k n ∙ ap is_requiring (z.nodes n h).kind;
        merged = λ n h. (z.nodes n h).merged;
        lead = λ n h. (z.nodes n h).lead;
        runs = λ n h. (z.nodes n h).runs;
        kids = λ r q i. i.kids;
        known = λ r q i. rw (sym i.kids) (all_of Node (kids_in p k r) (λ n j. (z.kids r n j).0));
      }
