-- The laws of each way out.
use Rattle.std.proofs.Common.{rules}
use Rattle.store.specs.Laws.Behind.{place_is}
use Rattle.store.proofs.behind.place_of.Goals as goal

pub returns : goal.returns
returns c = search (rules, place_is)
