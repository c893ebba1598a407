use Rattle.std.proofs.Common.{rules}
use Rattle.wall.specs.Laws.CaptionSizes.{need_room, cause_room, need_wrote, cause_wrote}
use Rattle.wall.proofs.captions.put_label.Goals as goal

pub put-requires : goal.put-requires
put-requires c = search (rules, need_room, cause_room, need_wrote, cause_wrote)

pub returns-in-Requires : goal.returns-in-Requires
returns-in-Requires c = search (rules, need_room, cause_room, need_wrote, cause_wrote)
