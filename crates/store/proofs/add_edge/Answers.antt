-- The laws of each way out; `result_after` takes them from the attribute.
use Rattle.std.proofs.Common.{◌<◌, rules, arith}
use Rattle.store.specs.Adding.{adds_edge}
use Rattle.store.proofs.add_edge.Goals as goal

ruleset laws = (rules, adds_edge)

pub returns-clause-growing_2 : goal.returns-clause-growing_2
returns-clause-growing_2 c = let l : c.args.s.edges < 1024 = omega arith in search laws
