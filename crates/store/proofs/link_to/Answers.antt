-- The laws of each way out.
use Rattle.std.proofs.Common.{rules}
use Rattle.store.specs.Adding.{target_full, target_edge, held_full, held_at, at_below}
use Rattle.store.proofs.link_to.Goals as goal

ruleset laws = (rules, target_full, target_edge, held_full, held_at, at_below)

pub returns-then-j-ge128-clause-result_after : goal.returns-then-j-ge128-clause-result_after
returns-then-j-ge128-clause-result_after c = search laws

pub returns-then-j-ge128-clause-growing_2 : goal.returns-then-j-ge128-clause-growing_2
returns-then-j-ge128-clause-growing_2 c = search laws

pub add_edge-requires-clause-growing : goal.add_edge-requires-clause-growing
add_edge-requires-clause-growing c = search laws

pub add_edge-requires-clause-source_bound : goal.add_edge-requires-clause-source_bound
add_edge-requires-clause-source_bound c = search laws

pub returns-clause-result_after : goal.returns-clause-result_after
returns-clause-result_after c = search laws
