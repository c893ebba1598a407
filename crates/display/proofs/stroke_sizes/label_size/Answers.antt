use Rattle.display.specs.StrokeShort.{requirement_short}
use Rattle.display.specs.StrokeSizes.{need_size}
use Rattle.display.proofs.stroke_sizes.label_size.Goals as goal

pub quoted_size-requires : goal.quoted_size-requires
quoted_size-requires c = search requirement_short

pub returns-in-Requires : goal.returns-in-Requires
returns-in-Requires c = (search need_size, c.quoted_size.ensures.1)
