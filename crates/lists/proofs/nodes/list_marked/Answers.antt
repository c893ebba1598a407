use Rattle.lists.specs.Ways.{listed_short, listed_whole}
use Rattle.lists.proofs.nodes.list_marked.Goals as goal

pub returns-then-room-n : goal.returns-then-room-n
returns-then-room-n c = search listed_short

pub returns : goal.returns
returns c = search listed_whole
