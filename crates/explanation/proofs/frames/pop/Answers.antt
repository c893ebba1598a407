use Rattle.std.proofs.Common.{rules}
use Rattle.explanation.specs.Frames.{popped}
use Rattle.explanation.proofs.frames.pop.Goals as goal

pub returns : goal.returns
returns c = search (rules, popped)
