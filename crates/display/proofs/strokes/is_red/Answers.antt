use Rattle.std.specs.Prelude.{◌≡◌, refl, false}
use Rattle.store.specs.declared.ConflictNode.{ConflictNode}
use Rattle.store.specs.declared.ConflictNode.TheVariants as N
use Rattle.store.specs.Graph.{is_unresolved}
use Rattle.display.specs.Stroke.{is_red}
use Rattle.display.specs.StrokeSizes.{red_conflict, red_unresolved}
use Rattle.display.proofs.strokes.is_red.Goals as goal

other : (x : ConflictNode) → (x ≡ N.UnresolvedDependency → ⊥) → false ≡ is_unresolved x
other N.Root h = refl
other (N.Solvable s) h = refl
other N.UnresolvedDependency h = absurd (h refl)
other (N.Excluded r) h = refl

pub returns-in-Conflict : goal.returns-in-Conflict
returns-in-Conflict c = search red_conflict

pub returns-in-UnresolvedDependency : goal.returns-in-UnresolvedDependency
returns-in-UnresolvedDependency c = search red_unresolved

pub returns-in_default : goal.returns-in_default
unfolding is_red
returns-in_default c = rw c.in-Requires.is (other _ c.in_default.not-UnresolvedDependency)
