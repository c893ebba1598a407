use Rattle.std.proofs.Common.{arith}
use Rattle.std.proofs.lemmas.Grind.{common_steps}
use Rattle.labels.specs.Scan.{step_of}
use Rattle.labels.proofs.passes.step.Goals as goal

pub returns-then-o-2 : goal.returns-then-o-2
unfolding step_of
returns-then-o-2 c = grind (arith, common_steps)

pub returns-else-o-2 : goal.returns-else-o-2
unfolding step_of
returns-else-o-2 c = grind (arith, common_steps)

pub returns-then-o-4 : goal.returns-then-o-4
unfolding step_of
returns-then-o-4 c = grind (arith, common_steps)

pub returns-else-o-4 : goal.returns-else-o-4
unfolding step_of
returns-else-o-4 c = grind (arith, common_steps)
