use Rattle.std.proofs.Common.{rules, arith}
use Rattle.wall.specs.Laws.CaptionShort.{name_short, version_short}
use Rattle.wall.specs.Laws.CaptionSizes.{solvable_sum}
use Rattle.wall.proofs.caption_sizes.solvable_size.Goals as goal

pub returns : goal.returns
returns c = (
  search (rules, solvable_sum),
  let h = name_short _ _ _ _ c.requires c.name_text-name.ensures in
      let k = version_short _ _ _ _ c.requires c.version_text-version.ensures in
      omega arith,
)
