use Rattle.std.specs.Prelude.{refl}
use Rattle.std.proofs.Common.{arith}
use Rattle.wall.specs.Laws.CaptionShort.{reason_short}
use Rattle.wall.specs.Laws.CaptionSizes.{excluded_sum}
use Rattle.wall.proofs.caption_sizes.excluded_size.Goals as goal

pub returns : goal.returns
returns c = (excluded_sum _ _ _ _ c.reason_text.ensures refl, let h = reason_short _ _ _ _ c.requires c.reason_text.ensures in omega arith)
