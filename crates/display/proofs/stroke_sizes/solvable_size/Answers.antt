use Rattle.std.proofs.Common.{rules}
use Rattle.display.specs.StrokeShort.{name_short, version_short}
use Rattle.display.specs.StrokeSizes.{solvable_sum}
use Rattle.display.proofs.stroke_sizes.solvable_size.Goals as goal

pub quoted_size-a-requires : goal.quoted_size-a-requires
quoted_size-a-requires c = search (rules, name_short, version_short, solvable_sum)

pub quoted_size-b-requires : goal.quoted_size-b-requires
quoted_size-b-requires c = search (rules, name_short, version_short, solvable_sum)

pub returns : goal.returns
returns c = search (rules, name_short, version_short, solvable_sum)
