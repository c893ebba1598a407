use Rattle.lists.specs.Ways.{listed_short}
use Rattle.lists.proofs.nodes.list_drawn.Goals as goal

pub returns-then-room-s : goal.returns-then-room-s
returns-then-room-s c = search listed_short
