use Rattle.std.proofs.Common.{◌≡◌, ◌<◌, rules, arith}
use Rattle.whatif.specs.Laws.Exclusion.{taken_stored, taken_room, reason_small, edge_target, edge_few, edge_asked}
use Rattle.whatif.proofs.exclusion.exclude.Goals as goal

pub with_reason-t-requires-clause-stored : goal.with_reason-t-requires-clause-stored
with_reason-t-requires-clause-stored c = search (rules, taken_stored)

pub with_reason-t-requires-clause-reason_len_bound : goal.with_reason-t-requires-clause-reason_len_bound
with_reason-t-requires-clause-reason_len_bound c = search (rules, taken_room)

pub overflow_cast-e-2 : goal.overflow_cast-e-2
overflow_cast-e-2 c = let h : c.place_of-b.result < 128 = search (rules, reason_small) in omega arith

pub push_edge-requires-clause-edges_bound : goal.push_edge-requires-clause-edges_bound
push_edge-requires-clause-edges_bound c = search (rules, edge_few)

pub push_edge-requires-clause-source_bound : goal.push_edge-requires-clause-source_bound
push_edge-requires-clause-source_bound c = (search rules, search (rules, edge_target))

pub returns : goal.returns
returns c = (search (rules, edge_asked), search rules)
