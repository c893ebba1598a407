use Rattle.std.proofs.Common.{rules}
use Rattle.expansion.specs.Hashed.{last_get}
use Rattle.expansion.proofs.triples.last_under.Goals as goal

pub returns : goal.returns
returns c = search (rules, last_get)
