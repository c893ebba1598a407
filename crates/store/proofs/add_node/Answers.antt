-- The laws of each way out.
use Rattle.std.proofs.Common.{rules}
use Rattle.store.specs.Adding.{nodes, held_full, held_at, at_place}
use Rattle.store.proofs.add_node.Goals as goal

ruleset laws = (rules, nodes, held_full, held_at, at_place)

pub returns-then-i-ge128-clause-result_after : goal.returns-then-i-ge128-clause-result_after
returns-then-i-ge128-clause-result_after c = search laws

pub returns-then-i-ge128-clause-growing : goal.returns-then-i-ge128-clause-growing
returns-then-i-ge128-clause-growing c = search laws

pub returns-clause-result_after : goal.returns-clause-result_after
returns-clause-result_after c = search laws

pub returns-clause-growing : goal.returns-clause-growing
returns-clause-growing c = search laws
