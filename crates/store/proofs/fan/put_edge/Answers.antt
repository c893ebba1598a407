-- The laws of each way out.
use Rattle.std.proofs.Common.{rules}
use Rattle.store.specs.Laws.Fan.{edges_by}
use Rattle.store.proofs.fan.put_edge.Goals as goal

ruleset laws = (rules, edges_by)

pub returns-then-m-ge1024-clause-result_after : goal.returns-then-m-ge1024-clause-result_after
returns-then-m-ge1024-clause-result_after c = search laws

pub returns-then-m-ge1024-clause-growing_2 : goal.returns-then-m-ge1024-clause-growing_2
returns-then-m-ge1024-clause-growing_2 c = search laws

pub returns-clause-result_after : goal.returns-clause-result_after
returns-clause-result_after c = search laws

pub returns-clause-growing_2 : goal.returns-clause-growing_2
returns-clause-growing_2 c = search laws
