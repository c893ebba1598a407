use Rattle.std.proofs.Common.{rules}
use Rattle.display.specs.StrokeShort.{reason_short}
use Rattle.display.specs.StrokeSizes.{excluded_sum}
use Rattle.display.proofs.stroke_sizes.excluded_size.Goals as goal

pub quoted_size-a-requires : goal.quoted_size-a-requires
quoted_size-a-requires c = search (rules, reason_short, excluded_sum)

pub returns : goal.returns
returns c = search (rules, reason_short, excluded_sum)
