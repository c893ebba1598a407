use Rattle.std.proofs.Common.{refl}
use Rattle.tgf.specs.Laws.Filling.{put_two_via}
use Rattle.tgf.proofs.fill.put_two.Goals as goal

pub returns : goal.returns
returns c = put_two_via _ _ _ _ _ _ _ _ c.put.ensures c.put-2.ensures refl refl
