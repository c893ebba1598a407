use Rattle.drawing.specs.Walk.{node_adds, node_none}
use Rattle.drawing.proofs.walk.add_node.Goals as goal

pub returns-then-d-clause-adds : goal.returns-then-d-clause-adds
returns-then-d-clause-adds c = search node_adds

pub returns-clause-adds : goal.returns-clause-adds
returns-clause-adds c = search node_none
