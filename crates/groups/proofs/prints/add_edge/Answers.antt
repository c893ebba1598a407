use Rattle.groups.specs.Laws.Prints.{source_fits, target_fits, edge_plus}
use Rattle.groups.proofs.prints.add_edge.Goals as goal

pub add-requires-clause-n_bound : goal.add-requires-clause-n_bound
add-requires-clause-n_bound c = search source_fits

pub add-requires-2-clause-n_bound : goal.add-requires-2-clause-n_bound
add-requires-2-clause-n_bound c = search target_fits

pub returns : goal.returns
returns c = search edge_plus
