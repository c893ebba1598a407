use Rattle.std.proofs.Common.{rules}
use Rattle.whatif.specs.Laws.Asks.{passing_below, passing_edges}
use Rattle.whatif.proofs.place.Goals as goal

pub exclude-t-requires-clause-a_lt_nodes : goal.exclude-t-requires-clause-a_lt_nodes
exclude-t-requires-clause-a_lt_nodes c = search (rules, passing_below)

pub exclude-t-requires-clause-edges_bound : goal.exclude-t-requires-clause-edges_bound
exclude-t-requires-clause-edges_bound c = search (rules, passing_edges)
