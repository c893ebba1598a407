use Rattle.std.proofs.Common.{rules}
use Rattle.display.specs.StrokeSizes.{root_size, its_size, unresolved_size, reason_size}
use Rattle.display.proofs.stroke_sizes.node_size.Goals as goal

pub returns-in-Root : goal.returns-in-Root
returns-in-Root c = search (rules, root_size, its_size, unresolved_size, reason_size)

pub returns-in-Solvable : goal.returns-in-Solvable
returns-in-Solvable c = search (rules, root_size, its_size, unresolved_size, reason_size)

pub returns-in-UnresolvedDependency : goal.returns-in-UnresolvedDependency
returns-in-UnresolvedDependency c = search (rules, root_size, its_size, unresolved_size, reason_size)

pub returns-in-Excluded : goal.returns-in-Excluded
returns-in-Excluded c = search (rules, root_size, its_size, unresolved_size, reason_size)
