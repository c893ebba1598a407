use Rattle.display.specs.StrokeSizes.{red_room, black_room, red_wrote, black_wrote}
use Rattle.display.proofs.strokes.put_paint.Goals as goal

pub put-requires : goal.put-requires
put-requires c = red_room _ _ c.if-red.true c.requires

pub put-requires-else-red : goal.put-requires-else-red
put-requires-else-red c = black_room _ _ c.if-red.false c.requires

pub returns-then-red : goal.returns-then-red
returns-then-red c = red_wrote _ _ _ _ c.if-red.true c.put.ensures.wrote

pub returns-else-red : goal.returns-else-red
returns-else-red c = black_wrote _ _ _ _ c.if-red.false c.put-else-red.ensures.wrote
