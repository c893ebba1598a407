use Rattle.planning.specs.EdgeMarks.{reason_none, reason_root, reason_solvable, reason_unresolved, reason_is}
use Rattle.planning.proofs.kinds.reason_at.Goals as goal

pub returns-in-Root : goal.returns-in-Root
returns-in-Root c = search reason_root

pub returns-in-Solvable : goal.returns-in-Solvable
returns-in-Solvable c = search reason_solvable

pub returns-in-UnresolvedDependency : goal.returns-in-UnresolvedDependency
returns-in-UnresolvedDependency c = search reason_unresolved

pub returns-in-Excluded : goal.returns-in-Excluded
returns-in-Excluded c = search reason_is

pub returns-then-not-excluded_at : goal.returns-then-not-excluded_at
returns-then-not-excluded_at c = reason_none _ _ _ c.excluded_at.ensures c.if-not-excluded_at.true
