use Rattle.std.proofs.Common.{rules}
use Rattle.wall.specs.Laws.CaptionSizes.{root_room, unresolved_room, its_room, reason_room, root_wrote, unresolved_wrote, its_wrote, reason_wrote}
use Rattle.wall.proofs.captions.put_node.Goals as goal

pub put-requires : goal.put-requires
put-requires c = search (rules, root_room, unresolved_room, its_room, reason_room, root_wrote, unresolved_wrote, its_wrote, reason_wrote)

pub put_solvable-requires-clause-s_in_bounds : goal.put_solvable-requires-clause-s_in_bounds
put_solvable-requires-clause-s_in_bounds c = search (rules, root_room, unresolved_room, its_room, reason_room, root_wrote, unresolved_wrote, its_wrote, reason_wrote)

pub put-requires-in-UnresolvedDependency : goal.put-requires-in-UnresolvedDependency
put-requires-in-UnresolvedDependency c = search (rules, root_room, unresolved_room, its_room, reason_room, root_wrote, unresolved_wrote, its_wrote, reason_wrote)

pub put_excluded-requires-clause-r_in_bounds : goal.put_excluded-requires-clause-r_in_bounds
put_excluded-requires-clause-r_in_bounds c = search (rules, root_room, unresolved_room, its_room, reason_room, root_wrote, unresolved_wrote, its_wrote, reason_wrote)

pub returns-in-Root : goal.returns-in-Root
returns-in-Root c = search (rules, root_room, unresolved_room, its_room, reason_room, root_wrote, unresolved_wrote, its_wrote, reason_wrote)

pub returns-in-Solvable : goal.returns-in-Solvable
returns-in-Solvable c = search (rules, root_room, unresolved_room, its_room, reason_room, root_wrote, unresolved_wrote, its_wrote, reason_wrote)

pub returns-in-UnresolvedDependency : goal.returns-in-UnresolvedDependency
returns-in-UnresolvedDependency c = search (rules, root_room, unresolved_room, its_room, reason_room, root_wrote, unresolved_wrote, its_wrote, reason_wrote)

pub returns-in-Excluded : goal.returns-in-Excluded
returns-in-Excluded c = search (rules, root_room, unresolved_room, its_room, reason_room, root_wrote, unresolved_wrote, its_wrote, reason_wrote)
