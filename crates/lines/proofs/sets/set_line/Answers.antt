use Rattle.std.proofs.Common.{rules}
use Rattle.lines.specs.SetLaws.{set_tried}
use Rattle.lines.proofs.sets.set_line.Goals as goal

pub returns : goal.returns
returns c = search (rules, set_tried)
