-- What the packed tables promise: they are the plan of S.
use Rattle.std.specs.Prelude.{◌≡◌, true, cond, List, ℕ, ◌<◌, length}
use Rattle.basis.specs.Members.{In}
use Rattle.store.specs.Graph.{node_at, is_solvable}
use Rattle.labels.specs.Runs.{Run}
use Rattle.plan.specs.Plan.{Shown, popped, no_candidates, run_installable, kids_of, line_kind, merged_shown, lead_shown}
use Rattle.plan.specs.Display.{solvable_of, members_of, package_text}
use Rattle.plan.specs.Fields.{runs_in, kids_in, kind_in, merged_in, lead_in, members_in, solvable_in, text_length, requirement_in, wording_in}
use Rattle.plan.specs.Like.{Each}

-- 0 no candidates, 1 installable, 2 no viable options (lines 938 to 1020)
abbrev pub wording_of : Shown → Run → ℕ
wording_of S r = cond (no_candidates S r) 0 (cond (run_installable S r) 1 2)

-- run number r stands for q
pub record RunIs (S : Shown) (p k : List ℕ) (r : ℕ) (q : Run) : Type 0 where
  pub kids : kids_in p k r ≡ kids_of S q
  pub requirement : requirement_in p r ≡ q.req
  pub wording : wording_in p r ≡ wording_of S q

pub record NodeIs (S : Shown) (p k : List ℕ) (n : ℕ) : Type 0 where
  pub runs : Each (RunIs S p k) (runs_in p n) (popped S n)
  pub kind : kind_in p k n ≡ line_kind S n
  pub merged : merged_in p n ≡ merged_shown S n
  pub lead : lead_in p n ≡ lead_shown S n
  pub members : members_in p n ≡ members_of S n
  pub solvable : solvable_in p n ≡ solvable_of S n
  pub size : text_length p n ≡ length (package_text S n)

pub record Planned (S : Shown) (p k : List ℕ) : Type 0 where
  pub nodes : (n : ℕ) → n < length S.graph.nodes → NodeIs S p k n
  -- of any number, a run's or not
  pub kids : (r n : ℕ) → In n (kids_in p k r) → (n < length S.graph.nodes) × (is_solvable (node_at S.graph n) ≡ true)
