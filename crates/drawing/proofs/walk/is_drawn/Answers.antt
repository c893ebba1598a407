use Rattle.std.proofs.Common.{rules}
use Rattle.drawing.specs.Walk.{drawn_root, drawn_single, drawn_member, drawn_unresolved, drawn_reason}
use Rattle.drawing.proofs.walk.is_drawn.Goals as goal

pub returns-then-k-eq0 : goal.returns-then-k-eq0
returns-then-k-eq0 c = search (rules, drawn_root, drawn_single, drawn_member, drawn_unresolved, drawn_reason)

pub returns-in-Root : goal.returns-in-Root
returns-in-Root c = search (rules, drawn_root, drawn_single, drawn_member, drawn_unresolved, drawn_reason)

pub returns-else-k-eq0 : goal.returns-else-k-eq0
returns-else-k-eq0 c = search (rules, drawn_root, drawn_single, drawn_member, drawn_unresolved, drawn_reason)

pub returns-in-UnresolvedDependency : goal.returns-in-UnresolvedDependency
returns-in-UnresolvedDependency c = search (rules, drawn_root, drawn_single, drawn_member, drawn_unresolved, drawn_reason)

pub returns-in-Excluded : goal.returns-in-Excluded
returns-in-Excluded c = search (rules, drawn_root, drawn_single, drawn_member, drawn_unresolved, drawn_reason)
