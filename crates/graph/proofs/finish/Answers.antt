-- The laws of a settled graph.
use Rattle.std.proofs.Common.{rules}
use Rattle.graph.specs.Drawing.{end_settled, end_swept}
use Rattle.graph.proofs.finish.Goals as goal

pub returns-then-swept : goal.returns-then-swept
returns-then-swept c = search (rules, end_settled, end_swept)
