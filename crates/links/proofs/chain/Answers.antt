-- The calls, one behind the other.
use Rattle.std.proofs.Common.{rules}
use Rattle.links.specs.Build.{chained, chained_all}
use Rattle.links.proofs.chain.Goals as goal

ruleset laws = (rules, chained, chained_all)

pub returns-clause-ls_after : goal.returns-clause-ls_after
returns-clause-ls_after c = search laws

pub returns-clause-chains : goal.returns-clause-chains
returns-clause-chains c = search laws
