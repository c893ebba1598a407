use Rattle.std.proofs.Common.{rules, arith}
use Rattle.wall.specs.Laws.CaptionShort.{set_short}
use Rattle.wall.specs.Laws.CaptionSizes.{locked_size, set_size, forbid_size, exclude_size}
use Rattle.wall.proofs.caption_sizes.cause_size.Goals as goal

pub returns-in-Locked : goal.returns-in-Locked
returns-in-Locked c = (search locked_size, omega arith)

pub returns-in-Constrains : goal.returns-in-Constrains
returns-in-Constrains c = (search (rules, set_size), search set_short)

pub returns-in-ForbidMultipleInstances : goal.returns-in-ForbidMultipleInstances
returns-in-ForbidMultipleInstances c = (search forbid_size, omega arith)

pub returns-in-Excluded : goal.returns-in-Excluded
returns-in-Excluded c = (search exclude_size, omega arith)
