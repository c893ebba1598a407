use Rattle.std.proofs.Common.{rules}
use Rattle.explanation.specs.Frames.{owner_some, owner_none}
use Rattle.explanation.proofs.frames.owner.Goals as goal

pub returns-then-d-gt0 : goal.returns-then-d-gt0
returns-then-d-gt0 c = search (rules, owner_some)

pub returns-else-d-gt0 : goal.returns-else-d-gt0
returns-else-d-gt0 c = search (rules, owner_none)
