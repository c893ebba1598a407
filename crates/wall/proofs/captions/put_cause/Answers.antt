use Rattle.std.proofs.Common.{rules}
use Rattle.wall.specs.Laws.CaptionSizes.{locked_room, set_room, forbid_room, exclude_room, locked_wrote, set_wrote, forbid_wrote, exclude_wrote}
use Rattle.wall.proofs.captions.put_cause.Goals as goal

pub put-requires : goal.put-requires
put-requires c = search (rules, locked_room, set_room, forbid_room, exclude_room, locked_wrote, set_wrote, forbid_wrote, exclude_wrote)

pub put-requires-in-Constrains : goal.put-requires-in-Constrains
put-requires-in-Constrains c = search (rules, locked_room, set_room, forbid_room, exclude_room, locked_wrote, set_wrote, forbid_wrote, exclude_wrote)

pub put-requires-in-ForbidMultipleInstances : goal.put-requires-in-ForbidMultipleInstances
put-requires-in-ForbidMultipleInstances c = search (rules, locked_room, set_room, forbid_room, exclude_room, locked_wrote, set_wrote, forbid_wrote, exclude_wrote)

pub put-requires-in-Excluded : goal.put-requires-in-Excluded
put-requires-in-Excluded c = search (rules, locked_room, set_room, forbid_room, exclude_room, locked_wrote, set_wrote, forbid_wrote, exclude_wrote)

pub returns-in-Locked : goal.returns-in-Locked
returns-in-Locked c = search (rules, locked_room, set_room, forbid_room, exclude_room, locked_wrote, set_wrote, forbid_wrote, exclude_wrote)

pub returns-in-Constrains : goal.returns-in-Constrains
returns-in-Constrains c = search (rules, locked_room, set_room, forbid_room, exclude_room, locked_wrote, set_wrote, forbid_wrote, exclude_wrote)

pub returns-in-ForbidMultipleInstances : goal.returns-in-ForbidMultipleInstances
returns-in-ForbidMultipleInstances c = search (rules, locked_room, set_room, forbid_room, exclude_room, locked_wrote, set_wrote, forbid_wrote, exclude_wrote)

pub returns-in-Excluded : goal.returns-in-Excluded
returns-in-Excluded c = search (rules, locked_room, set_room, forbid_room, exclude_room, locked_wrote, set_wrote, forbid_wrote, exclude_wrote)
