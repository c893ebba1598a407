use Rattle.std.proofs.Common.{rules}
use Rattle.remade.specs.Again.{edges_short, edges_long}
use Rattle.remade.proofs.early.edges_in.Goals as goal

pub returns-then-n-gt8192 : goal.returns-then-n-gt8192
returns-then-n-gt8192 c = search (rules, edges_long)

pub returns : goal.returns
returns c = search (rules, edges_short)
