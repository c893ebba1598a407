use Rattle.std.proofs.Common.{rules}
use Rattle.wall.specs.Laws.CaptionShort.{requirement_short}
use Rattle.wall.specs.Laws.CaptionSizes.{need_size, cause_size}
use Rattle.wall.proofs.caption_sizes.label_size.Goals as goal

pub returns-in-Requires : goal.returns-in-Requires
returns-in-Requires c = (search (rules, need_size), search requirement_short)

pub returns-in-Conflict : goal.returns-in-Conflict
returns-in-Conflict c = (search cause_size, c.cause_size.ensures.1)
