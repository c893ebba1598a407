-- The laws of each way out.
use Rattle.std.proofs.Common.{◌<◌, rules, arith}
use Rattle.store.specs.Adding.{adds_node}
use Rattle.store.proofs.put_node.Goals as goal

ruleset laws = (rules, adds_node)

pub returns-then-i-k-clause-result_after : goal.returns-then-i-k-clause-result_after
returns-then-i-k-clause-result_after c = search laws

pub returns-then-i-k-clause-growing : goal.returns-then-i-k-clause-growing
returns-then-i-k-clause-growing c = search laws

pub returns-clause-result_after : goal.returns-clause-result_after
returns-clause-result_after c = let e = rw c.from-c.ensures at c.enter.ensures in let l : c.args.s.nodes < 128 = omega arith in search (laws, e)

pub returns-clause-growing : goal.returns-clause-growing
returns-clause-growing c = let e = rw c.from-c.ensures at c.enter.ensures in let l : c.args.s.nodes < 128 = omega arith in search (laws, e)
