-- The laws of each way out.
use Rattle.std.proofs.Common.{rules}
use Rattle.store.specs.Adding.{held_at, at_below}
use Rattle.store.specs.Laws.Fan.{added_least, few_stop, few_on, new_links, new_grows}
use Rattle.store.proofs.fan.link_new.Goals as goal

ruleset laws = (rules, held_at, at_below, added_least, few_stop, few_on, new_links, new_grows)

pub returns-then-j-ge128-clause-result_after : goal.returns-then-j-ge128-clause-result_after
returns-then-j-ge128-clause-result_after c = search laws

pub returns-then-j-ge128-clause-growing_2 : goal.returns-then-j-ge128-clause-growing_2
returns-then-j-ge128-clause-growing_2 c = search laws

pub put_edge-requires-clause-growing : goal.put_edge-requires-clause-growing
put_edge-requires-clause-growing c = search laws

pub put_edge-requires-clause-source_bound : goal.put_edge-requires-clause-source_bound
put_edge-requires-clause-source_bound c = search laws

pub returns-then-put_edge-clause-result_after : goal.returns-then-put_edge-clause-result_after
returns-then-put_edge-clause-result_after c = search laws

pub returns-then-put_edge-clause-growing_2 : goal.returns-then-put_edge-clause-growing_2
returns-then-put_edge-clause-growing_2 c = search laws

pub returns-clause-result_after : goal.returns-clause-result_after
returns-clause-result_after c = search laws

pub returns-clause-growing_2 : goal.returns-clause-growing_2
returns-clause-growing_2 c = search laws
