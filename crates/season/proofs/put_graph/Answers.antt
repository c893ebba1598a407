use borrow.Author.Rules.{rules}
use Rattle.season.specs.Laws.Share.{graph_via}
use Rattle.season.proofs.put_graph.Goals as goal

pub returns : goal.returns
returns c = search (rules, graph_via)
