-- The laws of each way out.
use Rattle.std.proofs.Common.{rules}
use Rattle.store.specs.Laws.Fan.{known_target, known_small, known_links, known_grows}
use Rattle.store.proofs.fan.link_from.Goals as goal

ruleset laws = (rules, known_target, known_small, known_links, known_grows)

pub put_edge-requires-clause-source_bound : goal.put_edge-requires-clause-source_bound
put_edge-requires-clause-source_bound c = search laws

pub returns-then-put_edge-clause-result_after : goal.returns-then-put_edge-clause-result_after
returns-then-put_edge-clause-result_after c = search laws

pub returns-then-put_edge-clause-growing_2 : goal.returns-then-put_edge-clause-growing_2
returns-then-put_edge-clause-growing_2 c = search laws

pub returns-clause-result_after : goal.returns-clause-result_after
returns-clause-result_after c = search laws

pub returns-clause-growing_2 : goal.returns-clause-growing_2
returns-clause-growing_2 c = search laws
