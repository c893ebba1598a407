use Rattle.std.proofs.Common.{◌≡◌}
use Rattle.store.specs.Table.{graph_in}
use Rattle.lists.specs.Listing.{entries_to}
use Rattle.lists.proofs.words.list.Given as goal

abbrev pub invariant-loop-n : goal.invariant-loop-n
invariant-loop-n l = l.words ≡ entries_to (graph_in l.g l.fn.s) l.marks l.leads l.n l.fn.words
