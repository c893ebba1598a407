use Rattle.std.proofs.Common.{arith}
use Rattle.display.specs.StrokeShort.{set_short}
use Rattle.display.specs.StrokeSizes.{locked_size, set_size, forbid_size, exclude_size}
use Rattle.display.proofs.stroke_sizes.cause_size.Goals as goal

pub quoted_size-requires : goal.quoted_size-requires
quoted_size-requires c = search set_short

pub returns-in-Locked : goal.returns-in-Locked
returns-in-Locked c = (search locked_size, omega arith)

pub returns-in-Constrains : goal.returns-in-Constrains
returns-in-Constrains c = (search set_size, c.quoted_size.ensures.1)

pub returns-in-ForbidMultipleInstances : goal.returns-in-ForbidMultipleInstances
returns-in-ForbidMultipleInstances c = (search forbid_size, omega arith)

pub returns-in-Excluded : goal.returns-in-Excluded
returns-in-Excluded c = (search exclude_size, omega arith)
