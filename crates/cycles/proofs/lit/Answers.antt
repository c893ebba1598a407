use Rattle.std.proofs.Common.{◌≡◌, rules}
use Rattle.store.specs.Table.{edge_in}
use Rattle.cycles.specs.Laws.Walks.{lit_in, lit_slot}
use Rattle.cycles.proofs.lit.Goals as goal

pub bounds-w-source_at : goal.bounds-w-source_at
bounds-w-source_at c = search (rules, lit_slot)

pub returns : goal.returns
unfolding lit_in
returns c = let q : c.source_at.result ≡ (edge_in c.args.g.now c.args.e).source = c.source_at.ensures.0 in rw q
